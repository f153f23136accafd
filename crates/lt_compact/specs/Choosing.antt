-- Which of a job's newest items a node gets.
use Rattle.std.specs.Prelude.{◌==◌, ◌≤◌, Bool, List}
use Rattle.std.specs.List.{filter}
use Rattle.lt_terms.specs.Hashes.{key_digit}
use Rattle.lt_terms.specs.Items.{Item}
use Rattle.lt_tables.specs.Table.{is_put}
use Rattle.lt_compact.specs.declared.choosing.Choice.{Choice}
use Rattle.lt_compact.specs.declared.choosing.Choice.TheVariants.{Digit, Puts}

-- the item is among those that are chosen: those with this digit at this level, or the puts
abbrev pub is_chosen : Choice → Item → Bool
is_chosen (Digit level digit) v = key_digit v.key level == digit
is_chosen Puts v = is_put v

-- the chosen ones of the items, in their order
abbrev pub chosen : Choice → List Item → List Item
chosen choice items = filter (is_chosen choice) items

-- the level is one that keys have digits for
abbrev pub IsWithin : Choice → Type 0
IsWithin (Digit level digit) = level ≤ 3
IsWithin Puts = Unit {0}

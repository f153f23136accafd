-- Lists with room for the items that are dealt to them.
use Rattle.std.specs.Prelude.{◌≡◌, ℕ, ◌<◌, ◌≤◌, List, length, map, slice_index}
use Rattle.std.specs.List.{range_with_len}
use Rattle.lt_terms.specs.Items.{Item}
use Rattle.lt_tables.specs.Table.{with_digit}

-- of eight lists each holds the items of `done` with its digit, and its room is enough for those of `all`
pub record AreDealt (level : ℕ) (done all : List Item) (lists : List (List Item)) (rooms : List ℕ) : Type 0 where
  pub parts : lists ≡ map (λ d. with_digit level d done) (range_with_len 0 8)
  pub count : length rooms ≡ 8
  pub room : (d : ℕ) → d < 8 → length (with_digit level d all) ≤ slice_index rooms d

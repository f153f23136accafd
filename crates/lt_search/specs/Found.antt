-- What a search tells of an item, and what it leaves of the page for the value.
use Rattle.std.specs.Prelude.{◌≡◌, ℕ, List, length, drop, Option, Some, None, Result, Ok, Err, if◌then◌else◌}
use Rattle.lt_terms.specs.Bytes.{filled}
use Rattle.lt_terms.specs.Items.{Item}
use Rattle.lt_tables.specs.Table.{is_put}
use Rattle.lt_htable.specs.declared.faults.LookFault.{LookFault}
use Rattle.lt_htable.specs.declared.faults.LookFault.TheVariants.{Device, Damaged}
use Rattle.lt_search.specs.declared.version.Version.{Version}
use Rattle.lt_search.specs.declared.version.Version.TheVariants.{Value, Deleted}

-- the page with a value at its front
abbrev pub with_value : List ℕ → List ℕ → List ℕ
with_value page value = filled page 0 value

-- what is told of an item: the length of its value, or that it is a delete
abbrev pub version_of : Item → Version
version_of item = if is_put item then Value (length item.value) else Deleted

-- the page with an item's value at its front; of a delete the page as it is
abbrev pub page_with : Item → List ℕ → List ℕ
page_with item page = if is_put item then with_value page item.value else page

-- the length of the value that was found; none of a delete
abbrev pub value_len : Option Version → Option ℕ
value_len None = None
value_len (Some (Value n)) = Some n
value_len (Some Deleted) = None

-- this is told of an item that was found, with its value at the page's front, or of none
abbrev pub IsVersion : Option Item → Option Version → List ℕ → List ℕ → Type 0
IsVersion None None old new = new ≡ old
IsVersion (Some item) (Some version) old new = (version ≡ version_of item) × (new ≡ page_with item old)
IsVersion item version old new = ⊥

-- an answer that may be a fault tells this item, or none; no block is damaged then
abbrev pub IsAnswer : Option Item → Result (Option Version) LookFault → List ℕ → List ℕ → Type 0
IsAnswer item (Ok version) old new = IsVersion item version old new
IsAnswer item (Err Device) old new = Unit {0}
IsAnswer item (Err (Damaged block)) old new = ⊥

-- a page stays as it is, but for a value of this length at its front
abbrev pub KeepsRest : Option ℕ → List ℕ → List ℕ → Type 0
KeepsRest None old new = new ≡ old
KeepsRest (Some n) old new = drop n new ≡ drop n old

-- the page stays as it is, but for a value that was found
abbrev pub KeepsUnless : Result (Option Version) LookFault → List ℕ → List ℕ → Type 0
KeepsUnless (Ok version) old new = KeepsRest (value_len version) old new
KeepsUnless (Err fault) old new = new ≡ old

-- What the entries of a list make of the 64 columns.
use Rattle.std.specs.Prelude.{◌≡◌, ℕ, ◌<◌, ◌≤◌, List, length, slice_index, slice_index_or}
use Rattle.std.specs.List.{All}
use Rattle.lt_tables.specs.declared.Entry.{Entry}
use Rattle.lt_tables.specs.declared.Sending.{Sending}
use Rattle.lt_tables.specs.Bucket.{capacity}
use Rattle.lt_tables.specs.Placement.{column_load, column_mark, sent_cost, room}
use Rattle.lt_balance.specs.declared.columns.Column.{Column}

-- a column without entries
abbrev pub no_column : Column
no_column = record { load = 0; mark = 0; sent = 0 }

-- what the entries make of column c
abbrev pub column_of : List Entry → ℕ → Column
column_of es c = record { load = column_load es c; mark = column_mark es c; sent = sent_cost es c }

-- a list of columns is that of the 64 columns of the entries
pub record AreColumns (es : List Entry) (columns : List Column) : Type 0 where
  pub len : length columns ≡ 64
  pub each : (c : ℕ) → c < 64 → slice_index_or columns c no_column ≡ column_of es c

-- the entries of each column fit in a bucket
abbrev pub NoneSends : List Column → Type 0
NoneSends columns = All (λ (column : Column). column.load ≤ capacity) columns

-- no entry has a greater suffix
abbrev pub NoneAbove : List Entry → ℕ → Type 0
NoneAbove es suffix = All (λ (e : Entry). e.suffix ≤ suffix) es

-- a list of numbers is that of the rooms of the 64 columns after these sendings
pub record AreRooms (es : List Entry) (made : List Sending) (rooms : List ℕ) : Type 0 where
  pub len : length rooms ≡ 64
  pub each : (c : ℕ) → c < 64 → slice_index rooms c ≡ room es made c

-- The items of one table of a list that is cut.
use Rattle.std.specs.Prelude.{◌≡◌, List}
use Rattle.lt_terms.specs.Items.{Item}
use Rattle.lt_tables.specs.Cut.{IsTable}
use Rattle.lt_tables.specs.Table.{newest}

-- items of one table, in rank order, each key once
pub record IsPart (items : List Item) : Type 0 where
  pub table : IsTable items
  pub ranked : newest items ≡ items

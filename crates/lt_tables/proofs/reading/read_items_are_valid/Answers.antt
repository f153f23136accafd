use Rattle.std.specs.Prelude.{IsTrue}
use Rattle.std.proofs.lemmas.List.Elements.{All-from_recursion}
use Rattle.lt_terms.specs.Items.{Item, is_valid}
use Rattle.lt_tables.specs.Table.{table_items}
use Rattle.lt_tables.proofs.ValidLaws.{table_items-valid}
use Rattle.lt_tables.proofs.reading.read_items_are_valid.Goals as goal

pub returns : goal.returns
returns c = λ block. All-from_recursion (λ (item : Item). IsTrue (is_valid item)) (table_items block) (table_items-valid block)

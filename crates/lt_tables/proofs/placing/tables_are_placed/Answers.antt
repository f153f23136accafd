use Rattle.std.specs.Prelude.{IsTrue}
use Rattle.std.proofs.lemmas.List.Elements.{All-from_recursion, recursion_from_All}
use Rattle.lt_terms.specs.Items.{Item, is_valid}
use Rattle.lt_tables.specs.Cut.{cut, IsTable}
use Rattle.lt_tables.proofs.CutLaws.{cut-tables}
use Rattle.lt_tables.proofs.placing.tables_are_placed.Goals as goal

pub returns : goal.returns
returns c = λ items valid. All-from_recursion IsTable (cut items) (cut-tables items (recursion_from_All (λ (item : Item). IsTrue (is_valid item)) items valid))

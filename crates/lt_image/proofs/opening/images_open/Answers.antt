use Rattle.std.specs.Prelude.{IsTrue}
use Rattle.std.proofs.lemmas.List.Elements.{All-from_recursion}
use Rattle.lt_terms.specs.Items.{Item, is_valid}
use Rattle.lt_tables.specs.Table.{newest}
use Rattle.lt_tables.proofs.RankedLaws.{each_newest}
use Rattle.lt_image.specs.Versions.{log_items}
use Rattle.lt_image.proofs.OpenLaws.{is-opens, opens-is, opens-log, log_items-valid}
use Rattle.lt_image.proofs.opening.images_open.Goals as goal

pub returns-clause-opens : goal.returns-clause-opens
returns-clause-opens c = is-opens

pub returns-clause-named : goal.returns-clause-named
returns-clause-named c = λ image o h. (opens-is image o h).named

pub returns-clause-log : goal.returns-clause-log
returns-clause-log c = λ image o h. (opens-is image o h).log

pub returns-clause-valid : goal.returns-clause-valid
returns-clause-valid c = λ image o h. All-from_recursion (λ (item : Item). IsTrue (is_valid item)) (log_items o) (log_items-valid image o h)

pub returns-clause-newest : goal.returns-clause-newest
returns-clause-newest c = λ image o h. All-from_recursion (λ (item : Item). IsTrue (is_valid item)) (newest (log_items o)) (each_newest (λ (item : Item). IsTrue (is_valid item)) (log_items o) (log_items-valid image o h))

pub returns-clause-room : goal.returns-clause-room
returns-clause-room c = λ image o h. (opens-log image o h).cost

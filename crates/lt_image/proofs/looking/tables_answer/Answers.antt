use Rattle.std.proofs.lemmas.List.Elements.{All-from_recursion}
use Rattle.lt_image.proofs.PlacedLaws.{named-placed, named-skips}
use Rattle.lt_image.proofs.looking.tables_answer.Goals as goal

pub returns-clause-placed : goal.returns-clause-placed
returns-clause-placed c = λ image o id sound. All-from_recursion _ _ (named-placed image o id sound)

pub returns-clause-skipped : goal.returns-clause-skipped
returns-clause-skipped c = λ image o id key sound. All-from_recursion _ _ (named-skips image o id key sound)

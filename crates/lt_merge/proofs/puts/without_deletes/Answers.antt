use Rattle.std.proofs.Common.{rules}
use Rattle.std.proofs.lemmas.List.Elements.{filter_from_retain}
use Rattle.lt_tables.specs.Table.{is_put}
use Rattle.lt_merge.proofs.puts.without_deletes.Goals as goal

pub returns : goal.returns
returns c = filter_from_retain _ is_put (λ p x b q called. search rules) _ _ _ c.retain.ensures.filtered

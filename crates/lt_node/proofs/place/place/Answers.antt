use Rattle.std.proofs.Common.{rules}
use Rattle.std.proofs.lemmas.Fn.{always_returns_same}
use Rattle.lt_node.proofs.PlaceLaws.{searched, beside}
use Rattle.lt_node.proofs.place.place.Goals as goal

pub returns : goal.returns
returns c =
    let by_place = c.binary_search_by.ensures.position (beside c.args.node) (always_returns_same _ _ _ (λ a r f called. search rules)) in
    searched c.args.nodes.now c.args.node c.binary_search_by.result c.requires c.binary_search_by.ensures.bound by_place

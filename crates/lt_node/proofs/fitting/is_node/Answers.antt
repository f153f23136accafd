use Rattle.std.proofs.Common.{arith, ◌≤◌, ◌^◌}
use Rattle.lt_node.proofs.fitting.is_node.Goals as goal
use Rattle.lt_format.proofs.NodeReadLaws.{eight_small}

pub pow-requires : goal.pow-requires
pow-requires c = let small : 8 ^ c.args.node.level ≤ 4096 = eight_small c.args.node.level (omega arith) in omega arith

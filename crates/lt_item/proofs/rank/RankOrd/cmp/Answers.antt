use Rattle.lt_item.proofs.rank.RankOrd.cmp.Goals as goal

pub returns : goal.returns
returns c = let own = c.self.view_is in let others = c.other.view_is in let is = c.compare.ensures in cc

use Rattle.std.proofs.Common.{◌∙◌, arith}
use Rattle.lt_mem.proofs.IndexLaws.{index-empty, items-empty}
use Rattle.lt_mem.proofs.table.MemTable.clear.Goals as goal

pub invariant_of-self : goal.invariant_of-self
invariant_of-self c = record {
  index = index-empty _ _ _ _ c.clear.ensures.items c.clear-2.ensures.items (c.fill.ensures.items (λ y e. e)) (c.self.inside.heads.ok.0 ∙ c.self.invariant.index.buckets);
  room = let old = c.self.invariant.room in let same = c.clear.ensures.capacity in omega arith;
  room_for_places = let old = c.self.invariant.room_for_places in let same = c.clear-2.ensures.capacity in omega arith;
}

pub returns : goal.returns
returns c = items-empty _ _ c.clear.ensures.items c.clear-2.ensures.items

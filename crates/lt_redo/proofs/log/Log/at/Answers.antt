use Rattle.std.proofs.Common.{List, [], ap, false}
use Rattle.lt_terms.specs.Items.{Item}
use Rattle.lt_redo.proofs.GroupLaws.{IsGathered-none, IsGathered-read, items_on-gathered}
use Rattle.lt_redo.proofs.log.Log.at.Goals as goal

pub invariant_of-result : goal.invariant_of-result
invariant_of-result c = record {
  place = c.requires;
  group = IsGathered-read _ 0 0 [] (IsGathered-none _ c.clear.ensures.zeros);
  opens = c.write_gate.ensures;
  closes = c.write_gate-2.ensures;
}

pub returns : goal.returns
returns c =
    ap (λ (items : List Item). record { geometry = c.args.geometry.now; area = c.args.area; writes = c.args.writes; slots = c.args.slots; pending = items; cleared = false })
    (items_on-gathered _ 0 0 [] (IsGathered-none _ c.clear.ensures.zeros))

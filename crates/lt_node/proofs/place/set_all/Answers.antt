use Rattle.std.proofs.Common.{arith, ap, ◌≡◌, length, sym, ◌∙◌}
use Rattle.std.specs.List.{fold}
use Rattle.lt_format.specs.Trie.{Trie}
use Rattle.lt_node.specs.Changing.{with_entry}
use Rattle.lt_node.proofs.PlaceLaws.{sets_next, none_left}
use Rattle.lt_node.proofs.place.set_all.Goals as goal

pub loop-entry-init : goal.loop-entry-init
loop-entry-init c =
    let all = c.into_iter-entry-iterator.ensures.into_iter_gives.0 in
    record {
      leads = ap (fold with_entry c.args.nodes.now.items) all;
      sorted = c.requires.sorted;
      room = omega (arith, ap length all, c.args.entries.ok.0);
    }

pub set-requires-clause-sorted : goal.set-requires-clause-sorted
set-requires-clause-sorted c = c.loop-entry.invariant.sorted

pub set-requires-clause-room : goal.set-requires-clause-room
set-requires-clause-room c = let cut = c.in-Some.ensures.steps.0 in omega (arith, ap length cut, c.loop-entry.invariant.room)

pub loop-entry-preserved : goal.loop-entry-preserved
loop-entry-preserved c = sets_next _ c.loop-entry.nodes.items _ _ c.in-Some.entry _ _ _ _ _ c.loop-entry.invariant c.in-Some.ensures.steps.0 c.set.ensures.nodes c.set.ensures.len c.set.ensures.capacity

pub returns : goal.returns
returns c =
    let rest : Trie = c.loop-entry.entry-iterator.rest.items in
    let none : length rest ≡ 0 = sym c.loop-entry.entry-iterator.rest.ok.0 ∙ c.in-None.ensures.steps.0 in
    ap (fold with_entry c.loop-entry.nodes.items) (sym (none_left rest none)) ∙ c.loop-entry.invariant.leads

use Rattle.std.proofs.Common.{◌<◌, ◌∙◌, refl, sym, ap, length, map, get_or, arith}
use Rattle.std.proofs.lemmas.List.{length-map, length-set}
use Rattle.lt_device.proofs.Runs.{confined_begins}
use Rattle.lt_store.proofs.BuildLaws.{AreBuilt-none, AreBuilt-more, AreBuilt-writing, AreBuilt-all, map-at}
use Rattle.lt_store.proofs.building.build_tables.Goals as goal
use Rattle.lt_node.proofs.MarkLaws.{below_at}

pub loop-turn-init : goal.loop-turn-init
loop-turn-init g c = record {
  built = AreBuilt-none c.args.geometry.now c.args.filters.now (g.D.Device.state c.args.device.now) c.args.numbers.now (map (λ table. table.now) c.args.tables.now) (confined_begins _);
  room = refl;
  calls = record { size = refl; count = refl; later = omega arith; cause = λ none. absurd none };
}

pub loop-turn-preserved : goal.loop-turn-preserved
loop-turn-preserved g c =
    let before = c.loop-turn.invariant in
    let small : get_or c.args.numbers.now c.loop-turn.turn 0 < length c.loop-turn.filters = omega (arith, below_at (length c.args.filters.now) c.args.numbers.now c.loop-turn.turn c.requires.below c.loop-turn-test.true, c.loop-turn.invariant.room) in
    let there : c.loop-turn.turn < length c.args.tables.now = omega (arith, c.requires.same_count, c.loop-turn-test.true) in
    record {
      built = AreBuilt-more c.args.geometry.now c.args.filters.now c.loop-turn.filters _ (g.D.Device.state c.args.device.now) (g.D.Device.state c.loop-turn.device) (g.D.Device.state c.build.new.device) c.args.numbers.now _ c.loop-turn.turn _ c.extent.result c.index-tables-turn.result.now c.in_ok-built.built
          before.built c.loop-turn-test.true c.requires.distinct refl small c.extent.ensures
          (map-at (λ table. table.now) c.args.tables.now c.loop-turn.turn c.index-tables-turn.result _ there c.index-tables-turn.is)
          (record { confined = c.build.ensures.confined; shows = c.build.ensures.others })
          (record { placed = c.in_ok-built.ensures.placed; filters = c.in_ok-built.ensures.filters })
          c.keep.ensures;
      room = ap length c.keep.ensures ∙ length-set c.loop-turn.filters _ _ ∙ before.room;
      calls = record {
        size = c.build.ensures.size ∙ before.calls.size;
        count = c.build.ensures.count ∙ before.calls.count;
        later = omega (arith, before.calls.later, c.build.ensures.later);
        cause = λ none. absurd none;
      };
    }

pub returns-in_err-built-clause-confined : goal.returns-in_err-built-clause-confined
returns-in_err-built-clause-confined g c =
    (AreBuilt-writing c.extent.result c.loop-turn.invariant.built c.loop-turn-test.true c.extent.ensures (record { confined = c.build.ensures.confined; shows = c.build.ensures.others })).0

pub returns-in_err-built-clause-others : goal.returns-in_err-built-clause-others
returns-in_err-built-clause-others g c =
    (AreBuilt-writing c.extent.result c.loop-turn.invariant.built c.loop-turn-test.true c.extent.ensures (record { confined = c.build.ensures.confined; shows = c.build.ensures.others })).1

pub returns-clause-built : goal.returns-clause-built
returns-clause-built g c = λ before image was shown.
    AreBuilt-all c.loop-turn.invariant.built c.loop-turn-test.false (sym (length-map c.args.tables.now (λ table. table.now) ∙ c.requires.same_count)) before image was shown

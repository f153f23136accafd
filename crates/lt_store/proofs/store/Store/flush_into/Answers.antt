use Rattle.std.proofs.Common.{rules, refl, arith, ◌∙◌, ap, sym, subst, length, map}
use Rattle.std.proofs.lemmas.Grind.{common_steps}
use Rattle.std.proofs.lemmas.Result.{on_ok_weaker}
use Rattle.lt_store.specs.Open.{IsOpen, StoreView}
use Rattle.lt_store.specs.View.{view_of}
use Rattle.lt_store.proofs.FilledLaws.{IsFilled, cleared-stays, filled}
use Rattle.lt_store.proofs.FlushLaws.{with_kept}
use Rattle.lt_store.proofs.PrepareLaws.{free-below, stays-joins}
use Rattle.lt_store.proofs.store.Store.flush_into.Goals as goal

pub build_tables-requires-clause-below : goal.build_tables-requires-clause-below
build_tables-requires-clause-below g c =
    let v : StoreView = view_of c.args.self.now in
    free-below v.named v.work c.args.numbers.now (length c.args.self.now.filters) c.requires.reserved.free c.requires.reserved.kept.kept.filters_len

-- ---- the log area was not cleared

pub returns-in_err-clear_other-clause-stays : goal.returns-in_err-clear_other-clause-stays
returns-in_err-clear_other-clause-stays g c = λ d o. cleared-stays (view_of c.args.self.now) d _ _ c.requires.reserved.kept o c.clear_other.ensures.touches.confined

pub returns-in_err-clear_other-clause-installs : goal.returns-in_err-clear_other-clause-installs
returns-in_err-clear_other-clause-installs g c = record {
  committed = first_of (search rules, grind (arith, common_steps));
  stays_down = search rules;
  refused = first_of (search rules, grind (arith, common_steps));
  calls = first_of (search rules, grind (arith, common_steps));
}

-- ---- the tables were not built

pub returns-in_err-build_tables-clause-stays : goal.returns-in_err-build_tables-clause-stays
returns-in_err-build_tables-clause-stays g c = λ d o.
    let v : StoreView = view_of c.args.self.now in
    let s2 = g.D.Device.state c.build_tables.new.device in
    let f : IsFilled v d (g.D.Device.state c.args.device.now) (g.D.Device.state c.clear_other.new.device) s2 c.clear_other.new.self c.args.numbers.now c.geometry.result.now c.build_tables.new.filters =
    filled v d _ _ _ c.clear_other.new.self c.args.numbers.now c.geometry.result.now c.build_tables.new.filters c.requires.reserved.kept c.requires.reserved.free c.in_ok-clear_other.ensures.ok
    c.clear_other.ensures.touches.confined c.clear_other.ensures.touches.others c.in_ok-clear_other.ensures.sure c.geometry.ensures.geometry c.build_tables.ensures.confined c.build_tables.ensures.others c.build_tables.ensures.filters o in
    f.stays

pub returns-in_err-build_tables-clause-installs : goal.returns-in_err-build_tables-clause-installs
returns-in_err-build_tables-clause-installs g c = record {
  committed = first_of (search rules, grind (arith, common_steps));
  stays_down = record {
    down = c.requires.down;
    same_extents = refl;
    same_writes = refl;
    geometry = refl;
    room = c.build_tables.ensures.room;
    same_job = refl;
  };
  refused = first_of (search rules, grind (arith, common_steps));
  calls = first_of (search rules, grind (arith, common_steps));
}

pub returns-in_err-build_tables-clause-opened_again : goal.returns-in_err-build_tables-clause-opened_again
returns-in_err-build_tables-clause-opened_again g c = λ no_memory d o.
    let v : StoreView = view_of c.args.self.now in
    let s2 = g.D.Device.state c.build_tables.new.device in
    let f : IsFilled v d (g.D.Device.state c.args.device.now) (g.D.Device.state c.clear_other.new.device) s2 c.clear_other.new.self c.args.numbers.now c.geometry.result.now c.build_tables.new.filters =
    filled v d _ _ _ c.clear_other.new.self c.args.numbers.now c.geometry.result.now c.build_tables.new.filters c.requires.reserved.kept c.requires.reserved.free c.in_ok-clear_other.ensures.ok
    c.clear_other.ensures.touches.confined c.clear_other.ensures.touches.others c.in_ok-clear_other.ensures.sure c.geometry.ensures.geometry c.build_tables.ensures.confined c.build_tables.ensures.others c.build_tables.ensures.filters o in
    f.opened

-- ---- the manifest was committed, or not

pub returns-clause-stays : goal.returns-clause-stays
returns-clause-stays g c = λ d o.
    let v : StoreView = view_of c.args.self.now in
    let s2 = g.D.Device.state c.build_tables.new.device in
    let f : IsFilled v d (g.D.Device.state c.args.device.now) (g.D.Device.state c.clear_other.new.device) s2 c.clear_other.new.self c.args.numbers.now c.geometry.result.now c.build_tables.new.filters =
    filled v d _ _ _ c.clear_other.new.self c.args.numbers.now c.geometry.result.now c.build_tables.new.filters c.requires.reserved.kept c.requires.reserved.free c.in_ok-clear_other.ensures.ok
    c.clear_other.ensures.touches.confined c.clear_other.ensures.touches.others c.in_ok-clear_other.ensures.sure c.geometry.ensures.geometry c.build_tables.ensures.confined c.build_tables.ensures.others c.build_tables.ensures.filters o in
    let ready = f.ready (map (λ t. t.now) c.args.tables.now) c.in_ok-clear_other.ensures.empty c.in_ok-build_tables.ensures.built c.requires.tables in
    stays-joins d _ s2 (g.D.Device.state c.commit_flush.new.device) (c.commit_flush.ensures.stays d f.opened ready) f.stays

pub returns-clause-installs : goal.returns-clause-installs
returns-clause-installs g c = record {
  committed = first_of (search rules, grind (arith, common_steps));
  stays_down =
      let down = c.commit_flush.ensures.installs.stays_down in
      record {
        down = down.down;
        same_extents = down.same_extents;
        same_writes = down.same_writes;
        geometry = down.geometry;
        room = down.room ∙ c.build_tables.ensures.room;
        same_job = down.same_job;
      };
  refused = first_of (search rules, grind (arith, common_steps));
  calls = first_of (search rules, grind (arith, common_steps));
}

pub returns-clause-opened : goal.returns-clause-opened
returns-clause-opened g c = on_ok_weaker c.commit_flush.result (λ opens d o.
    let v : StoreView = view_of c.args.self.now in
    let s2 = g.D.Device.state c.build_tables.new.device in
    let f : IsFilled v d (g.D.Device.state c.args.device.now) (g.D.Device.state c.clear_other.new.device) s2 c.clear_other.new.self c.args.numbers.now c.geometry.result.now c.build_tables.new.filters =
    filled v d _ _ _ c.clear_other.new.self c.args.numbers.now c.geometry.result.now c.build_tables.new.filters c.requires.reserved.kept c.requires.reserved.free c.in_ok-clear_other.ensures.ok
    c.clear_other.ensures.touches.confined c.clear_other.ensures.touches.others c.in_ok-clear_other.ensures.sure c.geometry.ensures.geometry c.build_tables.ensures.confined c.build_tables.ensures.others c.build_tables.ensures.filters o in
    let ready = f.ready (map (λ t. t.now) c.args.tables.now) c.in_ok-clear_other.ensures.empty c.in_ok-build_tables.ensures.built c.requires.tables in
    opens d f.opened ready) c.commit_flush.ensures.opened

pub returns-clause-tables : goal.returns-clause-tables
returns-clause-tables g c = on_ok_weaker c.commit_flush.result (λ there d o.
    let v : StoreView = view_of c.args.self.now in
    let s2 = g.D.Device.state c.build_tables.new.device in
    let f : IsFilled v d (g.D.Device.state c.args.device.now) (g.D.Device.state c.clear_other.new.device) s2 c.clear_other.new.self c.args.numbers.now c.geometry.result.now c.build_tables.new.filters =
    filled v d _ _ _ c.clear_other.new.self c.args.numbers.now c.geometry.result.now c.build_tables.new.filters c.requires.reserved.kept c.requires.reserved.free c.in_ok-clear_other.ensures.ok
    c.clear_other.ensures.touches.confined c.clear_other.ensures.touches.others c.in_ok-clear_other.ensures.sure c.geometry.ensures.geometry c.build_tables.ensures.confined c.build_tables.ensures.others c.build_tables.ensures.filters o in
    let ready = f.ready (map (λ t. t.now) c.args.tables.now) c.in_ok-clear_other.ensures.empty c.in_ok-build_tables.ensures.built c.requires.tables in
    there d f.opened ready) c.commit_flush.ensures.tables

pub returns-clause-opened_again : goal.returns-clause-opened_again
returns-clause-opened_again g c = λ no_memory d o.
    let v : StoreView = view_of c.args.self.now in
    let s2 = g.D.Device.state c.build_tables.new.device in
    let f : IsFilled v d (g.D.Device.state c.args.device.now) (g.D.Device.state c.clear_other.new.device) s2 c.clear_other.new.self c.args.numbers.now c.geometry.result.now c.build_tables.new.filters =
    filled v d _ _ _ c.clear_other.new.self c.args.numbers.now c.geometry.result.now c.build_tables.new.filters c.requires.reserved.kept c.requires.reserved.free c.in_ok-clear_other.ensures.ok
    c.clear_other.ensures.touches.confined c.clear_other.ensures.touches.others c.in_ok-clear_other.ensures.sure c.geometry.ensures.geometry c.build_tables.ensures.confined c.build_tables.ensures.others c.build_tables.ensures.filters o in
    let unchanged = c.commit_flush.ensures.unchanged no_memory in
    subst (λ (w : StoreView). IsOpen w d (g.D.Device.state c.commit_flush.new.device)) (sym unchanged.0) (subst (λ s. IsOpen (with_kept (record v { log = c.clear_other.new.self }) c.build_tables.new.filters) d s) (sym (ap g.D.Device.state unchanged.1)) f.opened)

use Rattle.std.proofs.Common.{rules, ℕ, ◌+◌, ◌<◌, List, [], ap, sym, ◌∙◌, subst, arith}
use Rattle.std.proofs.lemmas.Result.{MatchResult-from_err}
use Rattle.lt_terms.specs.Items.{Item}
use Rattle.lt_redo.specs.LogState.{LogState, slots_with, AnyMoment, Committed, Spelled, HasSlot}
use Rattle.lt_redo.specs.Slots.{HasLog, HoldsPages}
use Rattle.lt_redo.specs.Group.{items_on}
use Rattle.lt_redo.proofs.GroupLaws.{IsGathered-none, IsGathered-read, items_on-gathered}
use Rattle.lt_redo.proofs.NextGroup.{some_items, next_group, slots_with-some, groups_with-some}
use Rattle.lt_redo.proofs.log.Log.commit.Goals as goal

pub returns-in_err-write_slot-clause-any_moment : goal.returns-in_err-write_slot-clause-any_moment
returns-in_err-write_slot-clause-any_moment g c =
    let i = c.self.inside in
    let kept = c.self.invariant in
    let some = some_items _ _ _ _ kept.group c.if-self-eq0.false in
    let has_slot = subst HasSlot (sym c.self.view_is) c.requires.room in
    subst (λ (s : LogState). AnyMoment s (g.D.Device.state c.args.device.now) (g.D.Device.state c.write_slot.new.device)) c.self.view_is
    (λ groups same fits rests. c.write_slot.ensures.any_moment i.writes groups (items_on i.content i.count i.used) same
    (next_group i.geometry i.writes _ _ _ _ groups _ kept.group c.if-self-eq0.false (c.finish.ensures.content _ kept.group) (let slot = has_slot some in omega (arith, slot, same)) fits) rests)

pub invariant_of-self-2 : goal.invariant_of-self-2
invariant_of-self-2 g c =
    let kept = c.self.invariant in
    let some = some_items _ _ _ _ kept.group c.if-self-eq0.false in
    let has_slot = subst HasSlot (sym c.self.view_is) c.requires.room in
    let slot : c.self.inside.slots < c.self.inside.geometry.slots = has_slot some in
    record {
      place = record { valid = kept.place.valid; area_is = kept.place.area_is; within = omega (arith, slot) };
      group = IsGathered-read _ 0 0 [] (IsGathered-none _ c.clear.ensures.zeros);
      opens = kept.opens;
      closes = kept.closes;
    }

pub returns-clause-any_moment : goal.returns-clause-any_moment
returns-clause-any_moment g c =
    let i = c.self.inside in
    let kept = c.self.invariant in
    let some = some_items _ _ _ _ kept.group c.if-self-eq0.false in
    let has_slot = subst HasSlot (sym c.self.view_is) c.requires.room in
    subst (λ (s : LogState). AnyMoment s (g.D.Device.state c.args.device.now) (g.D.Device.state c.write_slot.new.device)) c.self.view_is
    (λ groups same fits rests. c.write_slot.ensures.any_moment i.writes groups (items_on i.content i.count i.used) same
    (next_group i.geometry i.writes _ _ _ _ groups _ kept.group c.if-self-eq0.false (c.finish.ensures.content _ kept.group) (let slot = has_slot some in omega (arith, slot, same)) fits) rests)

pub returns-clause-committed : goal.returns-clause-committed
returns-clause-committed g c =
    let i = c.self.inside in
    let kept = c.self.invariant in
    let some = some_items _ _ _ _ kept.group c.if-self-eq0.false in
    let has_slot = subst HasSlot (sym c.self.view_is) c.requires.room in
    subst (λ (s : LogState). Committed s (g.D.Device.state c.args.device.now) (g.D.Device.state c.write_slot.new.device)) c.self.view_is
    (λ groups same fits rests left may. subst (λ gs. HasLog i.geometry i.area i.writes gs left) (sym (groups_with-some groups (items_on i.content i.count i.used) some))
    (c.in_ok-write_slot.ensures.written.committed i.writes groups (items_on i.content i.count i.used) same
    (next_group i.geometry i.writes _ _ _ _ groups _ kept.group c.if-self-eq0.false (c.finish.ensures.content _ kept.group) (let slot = has_slot some in omega (arith, slot, same)) fits) rests left may))

pub returns-clause-ok : goal.returns-clause-ok
returns-clause-ok g c =
    let i = c.self.inside in
    let kept = c.self.invariant in
    let some = some_items _ _ _ _ kept.group c.if-self-eq0.false in
    ap (λ (items : List Item). record { geometry = i.geometry; area = i.area; writes = i.writes; slots = i.slots + 1; pending = items; cleared = i.cleared }) (items_on-gathered _ 0 0 [] (IsGathered-none _ c.clear.ensures.zeros))
    ∙ ap (λ (n : ℕ). record { geometry = i.geometry; area = i.area; writes = i.writes; slots = n; pending = []; cleared = i.cleared }) (sym (slots_with-some i.slots _ some))
    ∙ ap (λ (s : LogState). record s { slots = slots_with s.slots s.pending; pending = [] }) c.self.view_is

pub returns-clause-spelled : goal.returns-clause-spelled
returns-clause-spelled g c =
    let i = c.self.inside in
    subst (λ (s : LogState). Spelled s (g.D.Device.state c.write_slot.new.device)) c.self.view_is
    (λ some left may. subst (λ (page : List ℕ). HoldsPages i.geometry i.area i.slots page left) (c.finish.ensures.content _ c.self.invariant.group) (c.in_ok-write_slot.ensures.written.pages left may))

pub returns-in_err-write_slot-clause-err : goal.returns-in_err-write_slot-clause-err
returns-in_err-write_slot-clause-err g c =
    let i = c.self.inside in
    let same = ap (λ (items : List Item). record { geometry = i.geometry; area = i.area; writes = i.writes; slots = i.slots; pending = items; cleared = i.cleared }) (items_on-gathered _ _ _ _ (c.finish.ensures.gathered _ c.self.invariant.group)) ∙ c.self.view_is in
    MatchResult-from_err c.from_residual.result _ _ (search rules) (λ _. same)

use Rattle.std.proofs.Common.{◌≡◌, ℕ, ◌+◌, ◌*◌, sym, ap, subst, ◌∙◌, Err, Some, None, arith}
use Rattle.std.proofs.lemmas.Result.{err_from_is_err_and}
use Rattle.lt_terms.specs.Bytes.{block_at}
use Rattle.lt_device.specs.State.{State}
use Rattle.lt_device.proofs.CallLaws.{reads_more}
use Rattle.lt_format.specs.Layout.{log_content}
use Rattle.lt_format.specs.Log.{group_on}
use Rattle.lt_redo.specs.Opening.{items_with}
use Rattle.lt_redo.proofs.OpeningLaws.{handed_on, replayed-more, replayed-damaged, replayed-ended, replayed-open_behind, replayed-all}
use Rattle.lt_redo.proofs.opening.replay.Goals as goal

pub returns-in_err-check_closed-clause-damaged : goal.returns-in_err-check_closed-clause-damaged
returns-in_err-check_closed-clause-damaged g c = λ b is image told.
    let so_far = c.loop-slot.invariant in
    let here = ap (λ (s : State). s.shown) so_far.calls.state ∙ told in
    let closed = c.in_ok-read_gate.ensures.opened image here ∙ c.if-not-branch.true in
    let fault = err_from_is_err_and c.from_residual-in_err-check_closed.result c.from_residual-in_err-check_closed.ensures.1 in
    replayed-open_behind c.args.geometry.now c.args.area c.args.writes image c.loop-slot.slot b c.loop-slot.read.items.items c.loop-slot-test.true (so_far.replayed image told) closed
    (c.check_closed.ensures.damaged b (handed_on _ _ _ _ _ c.in_err-check_closed.was fault.1 fault.2 is) image (ap (λ (s : State). s.shown) c.read_gate.ensures.calls.state ∙ here))

pub returns-then-not-branch-clause-read : goal.returns-then-not-branch-clause-read
returns-then-not-branch-clause-read g c =
    let so_far = c.loop-slot.invariant in
    record {
      read = λ image told.
          let here = ap (λ (s : State). s.shown) so_far.calls.state ∙ told in
          let closed = c.in_ok-read_gate.ensures.opened image here ∙ c.if-not-branch.true in
          replayed-ended c.args.geometry.now c.args.area c.args.writes image c.loop-slot.slot c.loop-slot.read.items.items c.loop-slot-test.true (so_far.replayed image told) closed
          (c.in_ok-check_closed.ensures.closed image (ap (λ (s : State). s.shown) c.read_gate.ensures.calls.state ∙ here));
      enough = so_far.enough;
      within = omega (arith, c.loop-slot-test.true);
    }

pub returns-in_err-read-clause-damaged : goal.returns-in_err-read-clause-damaged
returns-in_err-read-clause-damaged g c = λ b is image told.
    let so_far = c.loop-slot.invariant in
    let here = ap (λ (s : State). s.shown) so_far.calls.state ∙ told in
    let opened = c.in_ok-read_gate.ensures.opened image here ∙ c.if-not-branch.false in
    let fault = err_from_is_err_and c.from_residual-in_err-read.result c.from_residual-in_err-read.ensures.1 in
    let damaged = handed_on _ _ _ _ _ c.in_err-read.was fault.1 fault.2 is in
    let content = c.read_content.ensures.damaged b damaged image (ap (λ (s : State). s.shown) c.read_gate.ensures.calls.state ∙ here) in
    replayed-damaged c.args.geometry.now c.args.area c.args.writes image c.loop-slot.slot c.loop-slot.read.items.items c.loop-slot-test.true (so_far.replayed image told) opened
    (subst (λ (w : ℕ). items_with w c.loop-slot.read.items.items (group_on (block_at image (log_content c.args.geometry.now c.args.area c.loop-slot.slot))) ≡ None) so_far.writes content)
    ∙ ap Err (sym (c.read_content.ensures.damaged_block b damaged))

pub loop-slot-preserved : goal.loop-slot-preserved
loop-slot-preserved g c =
    let so_far = c.loop-slot.invariant in
    let gate = c.read_gate.ensures in
    record {
      writes = c.in_ok-read.ensures.goes_on.writes ∙ so_far.writes;
      enough = omega (arith, so_far.enough, c.in_ok-read.ensures.goes_on.more);
      replayed = λ image told.
          let here = ap (λ (s : State). s.shown) so_far.calls.state ∙ told in
          let opened = c.in_ok-read_gate.ensures.opened image here ∙ c.if-not-branch.false in
          let content = c.in_ok-read.ensures.items image (ap (λ (s : State). s.shown) gate.calls.state ∙ here) in
          replayed-more c.args.geometry.now c.args.area c.args.writes image c.loop-slot.slot c.loop-slot.read.items.items c.in_ok-read.read.items.items c.loop-slot-test.true (so_far.replayed image told) opened
          (subst (λ (w : ℕ). items_with w c.loop-slot.read.items.items (group_on (block_at image (log_content c.args.geometry.now c.args.area c.loop-slot.slot))) ≡ Some c.in_ok-read.read.items.items) so_far.writes content);
      calls = reads_more {m = 2 * c.loop-slot.slot + 1} (omega arith) (reads_more {k = 2 * c.loop-slot.slot + 1} (omega arith) so_far.calls gate.calls) c.read_content.ensures.calls;
    }

pub returns-clause-read : goal.returns-clause-read
returns-clause-read g c = record {
  read = λ image told.
      replayed-all c.args.geometry.now c.args.area c.args.writes image c.loop-slot.slot c.loop-slot.read.items.items (omega (arith, c.loop-slot-test.false, c.loop-slot.auto.slot-end)) (c.loop-slot.invariant.replayed image told);
  enough = omega (arith, c.loop-slot.invariant.enough, c.loop-slot-test.false, c.loop-slot.auto.slot-end);
  within = omega arith;
}

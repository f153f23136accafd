use Rattle.std.proofs.Common.{◌≡◌, List, ℕ, ◌||◌, sym, ap, subst, ◌∙◌, refl, IfErr}
use Rattle.std.proofs.lemmas.Result.{err_from_is_err_and}
use Rattle.lt_language.specs.Commands.{Command, command_of}
use Rattle.lt_language.specs.Machine.{State}
use Rattle.lt_language.specs.Valid.{IsWithinLimits}
use Rattle.lt_language.proofs.CommandLaws.{command_of-IsWithinLimits}
use Rattle.lt_line.specs.Held.{kept_of}
use Rattle.lt_line.specs.View.{view_of as command_in}
use Rattle.lt_line.proofs.HeldLaws.{command_of-kept}
use Rattle.lt_store.specs.Open.{IsOpen}
use Rattle.lt_store.specs.View.{view_of}
use Rattle.lt_serve.specs.declared.faults.RoundFault.{RoundFault}
use Rattle.lt_serve.specs.Acting.{CommandAnswered, CommandFailed, settled_unless}
use Rattle.lt_serve.specs.Faults.{round_fault_of}
use Rattle.lt_serve.specs.Promise.{moment_of}
use Rattle.lt_serve.specs.View.{store_in}
use Rattle.lt_serve.proofs.CallLaws.{was-damaged, acts-as, acts-ok, of-device, of-damaged}
use Rattle.lt_serve.proofs.RoundLaws.{answered-line}
use Rattle.lt_serve.proofs.session.Session.answer.Goals as goal
use Rattle.lt_serve.specs.Seeing.{StopsAt, Tells}

pub act_command-requires-clause-limits : goal.act_command-requires-clause-limits
act_command-requires-clause-limits g c = subst IsWithinLimits (sym c.command-command.ensures) (command_of-IsWithinLimits c.args.self.now.lines.kept)

pub returns-in_err-taken-clause-err : goal.returns-in_err-taken-clause-err
returns-in_err-taken-clause-err g c =
    let device = g.D.Device.state c.args.device.now in
    let old = moment_of g.D.Device c.args.device.now in
    let after = moment_of g.D.Device c.act_command.new.device in
    let fault = err_from_is_err_and c.from_residual.result c.from_residual.ensures.1 in
    subst (λ r. IfErr r (λ f. (durable : State) → IsOpen (store_in c.args.self.now) durable device → CommandFailed (store_in c.args.self.now) durable f old after)) (sym fault.1)
    (λ durable opened. subst (λ (f : RoundFault). CommandFailed (store_in c.args.self.now) durable f old after) (sym fault.2) (c.in_err-taken.ensures.err durable opened))

-- the command that was read is the line's
of_line : (command : Command) (kept line : List ℕ) → command ≡ command_of kept → kept ≡ kept_of line → command ≡ command_of line
of_line command kept line is held = is ∙ ap command_of held ∙ command_of-kept line

pub returns-then-not-self-clause-ok : goal.returns-then-not-self-clause-ok
returns-then-not-self-clause-ok g c = λ line durable held opened.
    let command = of_line (command_in c.command-command.result) c.args.self.now.lines.kept line c.command-command.ensures held in
    let wrote = c.args.self.now.wrote || c.in_ok-taken.taken in
    let device = moment_of g.D.Device c.args.device.now in
    let after = moment_of g.D.Device c.act_command.new.device in
    answered-line (store_in c.args.self.now) (view_of c.act_command.new.store) durable (command_of line) c.args.self.now.wrote wrote c.in_ok-taken.taken c.args.out.now c.act_command.new.out c.settle.new.self device after
    (subst (λ (x : Command). CommandAnswered (store_in c.args.self.now) durable x c.in_ok-taken.taken c.args.out.now c.act_command.new.out (view_of c.act_command.new.store) device after) command (c.in_ok-taken.ensures.ok durable opened)) refl
    (c.settle.ensures ∙ ap (λ b. settled_unless b c.act_command.new.out) (sym c.if-not-self.true))

pub returns-else-not-self-clause-ok : goal.returns-else-not-self-clause-ok
returns-else-not-self-clause-ok g c = λ line durable held opened.
    let command = of_line (command_in c.command-command.result) c.args.self.now.lines.kept line c.command-command.ensures held in
    let wrote = c.args.self.now.wrote || c.in_ok-taken.taken in
    let device = moment_of g.D.Device c.args.device.now in
    let after = moment_of g.D.Device c.act_command.new.device in
    answered-line (store_in c.args.self.now) (view_of c.act_command.new.store) durable (command_of line) c.args.self.now.wrote wrote c.in_ok-taken.taken c.args.out.now c.act_command.new.out c.act_command.new.out device after
    (subst (λ (x : Command). CommandAnswered (store_in c.args.self.now) durable x c.in_ok-taken.taken c.args.out.now c.act_command.new.out (view_of c.act_command.new.store) device after) command (c.in_ok-taken.ensures.ok durable opened)) refl
    (ap (λ b. settled_unless b c.act_command.new.out) (sym c.if-not-self.false))

pub returns-in_err-taken-clause-device : goal.returns-in_err-taken-clause-device
returns-in_err-taken-clause-device g c =
    acts-as _ _ c.act_command.result c.from_residual.result c.in_err-taken.field-0.0 _ _ _ _ round_fault_of _ _ of-device of-damaged c.in_err-taken.was c.from_residual.ensures.1 c.act_command.ensures.device

pub returns-then-not-self-clause-device : goal.returns-then-not-self-clause-device
returns-then-not-self-clause-device g c =
    let a = c.in_ok-taken.ensures.device in
    acts-ok _ _ _ _ _ _ _ a.sizes a.size a.later

pub returns-else-not-self-clause-device : goal.returns-else-not-self-clause-device
returns-else-not-self-clause-device g c =
    let a = c.in_ok-taken.ensures.device in
    acts-ok _ _ _ _ _ _ _ a.sizes a.size a.later

pub returns-then-not-self-clause-tells : goal.returns-then-not-self-clause-tells
returns-then-not-self-clause-tells g c = λ line held.
    let command = of_line (command_in c.command-command.result) c.args.self.now.lines.kept line c.command-command.ensures held in
    let device = g.D.Device.state c.args.device.now in
    let after = g.D.Device.state c.act_command.new.device in
    record {
      taken = c.in_ok-taken.taken;
      unsettled = c.act_command.new.out;
      tells = subst (λ (x : Command). Tells (store_in c.args.self.now) x c.in_ok-taken.taken c.args.out.now c.act_command.new.out (view_of c.act_command.new.store) device after) command c.in_ok-taken.ensures.tells;
      wrote_is = refl;
      settled = c.settle.ensures ∙ ap (λ b. settled_unless b c.act_command.new.out) (sym c.if-not-self.true);
    }

pub returns-else-not-self-clause-tells : goal.returns-else-not-self-clause-tells
returns-else-not-self-clause-tells g c = λ line held.
    let command = of_line (command_in c.command-command.result) c.args.self.now.lines.kept line c.command-command.ensures held in
    let device = g.D.Device.state c.args.device.now in
    let after = g.D.Device.state c.act_command.new.device in
    record {
      taken = c.in_ok-taken.taken;
      unsettled = c.act_command.new.out;
      tells = subst (λ (x : Command). Tells (store_in c.args.self.now) x c.in_ok-taken.taken c.args.out.now c.act_command.new.out (view_of c.act_command.new.store) device after) command c.in_ok-taken.ensures.tells;
      wrote_is = refl;
      settled = ap (λ b. settled_unless b c.act_command.new.out) (sym c.if-not-self.false);
    }

pub returns-in_err-taken-clause-stops : goal.returns-in_err-taken-clause-stops
returns-in_err-taken-clause-stops g c = λ b is line held.
    let command = of_line (command_in c.command-command.result) c.args.self.now.lines.kept line c.command-command.ensures held in
    let was = was-damaged c.act_command.result c.from_residual.result c.in_err-taken.field-0.0 b c.in_err-taken.was c.from_residual.ensures.1 is in
    subst (λ (x : Command). StopsAt (store_in c.args.self.now) x (g.D.Device.state c.args.device.now) b) command (c.act_command.ensures.stops b was)

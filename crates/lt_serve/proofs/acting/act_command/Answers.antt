use Rattle.std.proofs.Common.{◌≡◌, rules, ◌∙◌, refl, sym, ap, subst, true, false, Ok, IfErr, arith}
use Rattle.std.proofs.lemmas.Option.{IfSome_then}
use Rattle.std.proofs.lemmas.Result.{err_from_is_err_and}
use Rattle.lt_language.specs.Commands.{Command}
use Rattle.lt_language.specs.Machine.{State}
use Rattle.lt_line.specs.View.{view_of as command_in}
use Rattle.lt_store.specs.Acting.{write_of}
use Rattle.lt_store.specs.Open.{IsOpen}
use Rattle.lt_store.specs.View.{view_of}
use Rattle.lt_serve.specs.Acting.{CommandAnswered, CommandFailed}
use Rattle.lt_serve.specs.Faults.{round_fault_of}
use Rattle.lt_store.specs.declared.counts.Stat.{Stat}
use Rattle.lt_serve.specs.Promise.{moment_of}
use Rattle.lt_serve.proofs.ActLaws.{answers-bad, answers-event, lost-event, reads-event, same-text}
use Rattle.lt_serve.proofs.CountLaws.{past-stays}
use Rattle.lt_serve.proofs.CallLaws.{acts-ok, acts-store, same-fault}
use Rattle.lt_serve.proofs.SizeLaws.{sizes-regions, sizes-same}
use Rattle.lt_serve.proofs.acting.act_command.Goals as goal
use Rattle.lt_store.specs.declared.faults.WriteFault.TheVariants as writes
use Rattle.lt_store.specs.Acting.{TellsSeen}
use Rattle.lt_store.specs.Getting.{seen_of}
use Rattle.lt_serve.specs.Outcomes.{outcome_text}
use Rattle.lt_serve.specs.Seeing.{Tells}
use Rattle.lt_serve.proofs.TellsLaws.{stops-get, tells-bad, tells-event}

pub act-requires-clause-valid : goal.act-requires-clause-valid
act-requires-clause-valid g c = c.in-Ok.ensures.1 c.requires.limits

pub returns-in_err-outcome-in-Ok-clause-err : goal.returns-in_err-outcome-in-Ok-clause-err
returns-in_err-outcome-in-Ok-clause-err g c =
    let device = g.D.Device.state c.args.device.now in
    let old = moment_of g.D.Device c.args.device.now in
    let after = moment_of g.D.Device c.act.new.device in
    let fault = err_from_is_err_and c.from_residual.result c.from_residual.ensures.1 in
    subst (λ r. IfErr r (λ f. (durable : State) → IsOpen (view_of c.args.store.now) durable device → CommandFailed (view_of c.args.store.now) durable (round_fault_of f) old after)) (sym fault.1)
    (λ durable opened. subst (λ f. CommandFailed (view_of c.args.store.now) durable (round_fault_of f) old after) (sym fault.2)
    (lost-event (view_of c.args.store.now) (view_of c.act.new.self) durable c.in_err-outcome-in-Ok.field-0.0 c.act.new.self.is_up old after opened (reads-event (write_of c.in-Ok.event) _ _ _ c.act.ensures.count c.act.ensures.in_place.count)
    (c.in_err-outcome-in-Ok.ensures.broken durable opened) (λ up. c.in_err-outcome-in-Ok.ensures.goes_on up durable opened)
    (λ down. search rules) (λ b is. c.act.ensures.sound b durable opened (search rules))))

pub returns-in_err-outcome-in-Ok-clause-device : goal.returns-in_err-outcome-in-Ok-clause-device
returns-in_err-outcome-in-Ok-clause-device g c =
    acts-store _ _ c.act.result c.from_residual.result c.in_err-outcome-in-Ok.field-0.0 _ _ c.in_err-outcome-in-Ok.was c.from_residual.ensures.1 c.act.ensures.size c.act.ensures.later c.act.ensures.cause
    (λ b is. let bad = c.act.ensures.damaged b is in record { key = bad.key; named = (view_of c.args.store.now).named; geometry_is = refl; extents_are = refl; stops = bad.stops })

pub found-requires : goal.found-requires
found-requires g c = λ n is. c.in_ok-outcome-in-Ok.ensures.value n (ap Ok is)

pub returns-in_ok-outcome-in-Ok-clause-ok : goal.returns-in_ok-outcome-in-Ok-clause-ok
returns-in_ok-outcome-in-Ok-clause-ok g c = λ durable opened.
    let out = c.in_ok-outcome-in-Ok in
    let old = moment_of g.D.Device c.args.device.now in
    let new = moment_of g.D.Device c.act.new.device in
    subst (λ taken. CommandAnswered (view_of c.args.store.now) durable (command_in c.args.command.now) taken c.args.out.now c.add_outcome.new.out (view_of c.act.new.self) old new) (sym c.is_taken.ensures)
    (answers-event (view_of c.args.store.now) (view_of c.act.new.self) durable c.in-Ok.event (command_in c.args.command.now) out.outcome c.act.new.out c.found.result.now c.args.out.now c.add_outcome.new.out old new c.in-Ok.ensures.0
    (out.ensures.step durable opened (λ needed free is. c.requires.still)) (out.ensures.goes durable opened) (λ asks. (c.act.ensures.asked asks).1) (λ n f same idle. ap g.D.Device.state (c.act.ensures.in_place.full_quiet n f (c.in_ok-outcome-in-Ok.was ∙ ap Ok same) idle)) (IfSome_then (write_of c.in-Ok.event) c.act.ensures.writes (λ item w. λ same. ap g.D.Device.state (w.unchanged (c.in_ok-outcome-in-Ok.was ∙ ap Ok same)).1))
    (reads-event (write_of c.in-Ok.event) _ _ _ c.act.ensures.count c.act.ensures.in_place.count) (past-stays _ _ opened.rest.image opened.rest.tells (out.ensures.goes durable opened).survives)
    (λ x same. let told = c.act.ensures.stat x (out.was ∙ ap Ok same) in record { reads = ap (λ (y : Stat). y.reads) told.is; few = told.few; images = told.images durable opened }) c.found.ensures.front c.found.ensures.value c.add_outcome.ensures.short c.requires.room c.add_outcome.ensures.text)

pub returns-in_ok-outcome-in-Ok-clause-device : goal.returns-in_ok-outcome-in-Ok-clause-device
returns-in_ok-outcome-in-Ok-clause-device g c =
    let up : c.act.new.self.is_up ≡ true = search rules in
    acts-ok _ _ _ _ _ _ _ (sizes-regions _ _ (c.act.ensures.regions up)) c.act.ensures.size c.act.ensures.later

pub returns-in-Err-clause-ok : goal.returns-in-Err-clause-ok
returns-in-Err-clause-ok g c = λ durable opened.
    let device = moment_of g.D.Device c.args.device.now in
    subst (λ (command : Command). CommandAnswered (view_of c.args.store.now) durable command false c.args.out.now c.add_bad.new.out (view_of c.args.store.now) device device) (sym c.in-Err.ensures)
    (answers-bad (view_of c.args.store.now) durable c.in-Err.kind c.args.out.now c.add_bad.new.out device opened c.add_bad.ensures.short c.requires.room c.add_bad.ensures.text)

pub returns-in-Err-clause-device : goal.returns-in-Err-clause-device
returns-in-Err-clause-device g c = acts-ok _ _ _ _ _ _ _ (sizes-same _) refl (omega arith)

pub returns-in_ok-outcome-in-Ok-clause-tells : goal.returns-in_ok-outcome-in-Ok-clause-tells
returns-in_ok-outcome-in-Ok-clause-tells g c =
    let out = c.in_ok-outcome-in-Ok in
    let state = g.D.Device.state in
    subst (λ taken. Tells (view_of c.args.store.now) (command_in c.args.command.now) taken c.args.out.now c.add_outcome.new.out (view_of c.act.new.self) (state c.args.device.now) (state c.act.new.device)) (sym c.is_taken.ensures)
    (tells-event (view_of c.args.store.now) (view_of c.act.new.self) c.in-Ok.event (command_in c.args.command.now) out.outcome c.act.new.out (outcome_text out.outcome c.found.result.now) c.args.out.now c.add_outcome.new.out _ _ c.in-Ok.ensures.0 out.ensures.kind
    (λ key image asks shown. out.ensures.seen key image asks shown) c.act.ensures.asked (λ n f same idle. ap state (c.act.ensures.in_place.full_quiet n f (out.was ∙ ap Ok same) idle))
    (IfSome_then (write_of c.in-Ok.event) c.act.ensures.in_place.full_same (λ item full. λ n f same. full n f (out.was ∙ ap Ok same)))
    (IfSome_then (write_of c.in-Ok.event) c.act.ensures.writes (λ item w. λ same. let u = w.unchanged (out.was ∙ ap Ok same) in (u.0, ap state u.1)))
    (same-text out.outcome c.act.new.out c.found.result.now c.found.ensures.front c.found.ensures.value) c.add_outcome.ensures.text)

pub returns-in_err-outcome-in-Ok-clause-stops : goal.returns-in_err-outcome-in-Ok-clause-stops
returns-in_err-outcome-in-Ok-clause-stops g c = λ b is image shown.
    let was = same-fault c.act.result c.from_residual.result c.in_err-outcome-in-Ok.field-0.0 (writes.Damaged b) c.in_err-outcome-in-Ok.was c.from_residual.ensures.1 is in
    let bad = c.act.ensures.damaged b was in
    stops-get (view_of c.args.store.now) image c.in-Ok.event (command_in c.args.command.now) bad.key b c.in-Ok.ensures.0 bad.get
    (subst (λ r. TellsSeen (seen_of (view_of c.args.store.now) image bad.key) c.act.new.out r) was (c.act.ensures.seen bad.key image bad.get shown))

pub returns-in-Err-clause-tells : goal.returns-in-Err-clause-tells
returns-in-Err-clause-tells g c =
    let device = g.D.Device.state c.args.device.now in
    subst (λ (command : Command). Tells (view_of c.args.store.now) command false c.args.out.now c.add_bad.new.out (view_of c.args.store.now) device device) (sym c.in-Err.ensures)
    (tells-bad (view_of c.args.store.now) c.in-Err.kind c.args.out.now c.add_bad.new.out device c.add_bad.ensures.text)

use Rattle.std.proofs.Common.{ap, inl, inr, ⊎_elim, refl}
use Rattle.lt_serve.specs.declared.served.Served.TheVariants as served
use Rattle.lt_cli.proofs.DamageLaws.{damage-seen, found-damage, run-seen, tells-damage}
use Rattle.lt_cli.proofs.running.run.Goals as goal

pub returns-in-Damaged-clause-over : goal.returns-in-Damaged-clause-over
returns-in-Damaged-clause-over g c = λ before r. absurd (c.in-Damaged.ensures.over before r).0

pub returns-in-Damaged-clause-damaged : goal.returns-in-Damaged-clause-damaged
returns-in-Damaged-clause-damaged g c = λ _.
    found-damage _ _ _ _ _ _ _ _ _ _ c.in-Damaged.block c.tell_damage.result c.in-Damaged.ensures.causes.sink.gains c.in-Damaged.ensures.causes.sink.later c.tell_damage.ensures.all c.tell_damage.ensures.front c.tell_damage.ensures.cause
    (⊎_elim (λ opening. inl (opening.0, opening.1, ap (g.S.Source.left) opening.2, ap (g.K.Sink.stands) opening.3)) (λ get. inr get) (c.in-Damaged.ensures.damaged c.in-Damaged.block refl))

pub returns-in-Damaged-clause-unopened : goal.returns-in-Damaged-clause-unopened
returns-in-Damaged-clause-unopened g c = λ b fails.
    let none = c.in-Damaged.ensures.unopened b fails in (
      record {
        is = tt;
        told = λ _. tells-damage _ _ _ _ _ _ c.in-Damaged.block b c.tell_damage.result none.0 (ap (g.K.Sink.stands) none.3) c.in-Damaged.ensures.causes.sink.later c.tell_damage.ensures.all c.tell_damage.ensures.front c.tell_damage.ensures.cause;
      },
      none.1,
      none.2,
      λ other. absurd (other refl),
    )

pub returns-in-Done-clause-unopened : goal.returns-in-Done-clause-unopened
returns-in-Done-clause-unopened g c = λ b fails. absurd (c.in-Done.ensures.unopened b fails).0

pub returns-in-Source-clause-unopened : goal.returns-in-Source-clause-unopened
returns-in-Source-clause-unopened g c = λ b fails. absurd (c.in-Source.ensures.unopened b fails).0

pub returns-in-Sink-clause-unopened : goal.returns-in-Sink-clause-unopened
returns-in-Sink-clause-unopened g c = λ b fails. absurd (c.in-Sink.ensures.unopened b fails).0

pub returns-in-Turns-clause-unopened : goal.returns-in-Turns-clause-unopened
returns-in-Turns-clause-unopened g c = λ b fails. absurd (c.in-Turns.ensures.unopened b fails).0

pub returns-in-Device-clause-unopened : goal.returns-in-Device-clause-unopened
returns-in-Device-clause-unopened g c = λ b fails.
    let none = c.in-Device.ensures.unopened b fails in
    (record { is = tt; told = λ damaged. absurd (cc (damaged)) }, none.1, none.2, λ _. none.3)

pub returns-in-NoMemory-clause-unopened : goal.returns-in-NoMemory-clause-unopened
returns-in-NoMemory-clause-unopened g c = λ b fails.
    let none = c.in-NoMemory.ensures.unopened b fails in
    (record { is = tt; told = λ damaged. absurd (cc (damaged)) }, none.1, none.2, λ _. none.3)

pub returns-in-Done-clause-seen : goal.returns-in-Done-clause-seen
returns-in-Done-clause-seen g c = λ image opened shown opens. run-seen _ served.Done _ _ _ _ (c.in-Done.ensures.seen image opened shown opens) (λ b is. absurd (cc (is)))

pub returns-in-Source-clause-seen : goal.returns-in-Source-clause-seen
returns-in-Source-clause-seen g c = λ image opened shown opens. run-seen _ served.Source _ _ _ _ (c.in-Source.ensures.seen image opened shown opens) (λ b is. absurd (cc (is)))

pub returns-in-Sink-clause-seen : goal.returns-in-Sink-clause-seen
returns-in-Sink-clause-seen g c = λ image opened shown opens. run-seen _ served.Sink _ _ _ _ (c.in-Sink.ensures.seen image opened shown opens) (λ b is. absurd (cc (is)))

pub returns-in-Device-clause-seen : goal.returns-in-Device-clause-seen
returns-in-Device-clause-seen g c = λ image opened shown opens. run-seen _ served.Device _ _ _ _ (c.in-Device.ensures.seen image opened shown opens) (λ b is. absurd (cc (is)))

pub returns-in-NoMemory-clause-seen : goal.returns-in-NoMemory-clause-seen
returns-in-NoMemory-clause-seen g c = λ image opened shown opens. run-seen _ served.NoMemory _ _ _ _ (c.in-NoMemory.ensures.seen image opened shown opens) (λ b is. absurd (cc (is)))

pub returns-in-Turns-clause-seen : goal.returns-in-Turns-clause-seen
returns-in-Turns-clause-seen g c = λ image opened shown opens. run-seen _ served.Turns _ _ _ _ (c.in-Turns.ensures.seen image opened shown opens) (λ b is. absurd (cc (is)))

pub returns-in-Damaged-clause-seen : goal.returns-in-Damaged-clause-seen
returns-in-Damaged-clause-seen g c = λ image opened shown opens.
    damage-seen _ c.in-Damaged.block _ _ _ _ _ _ _ c.tell_damage.result (c.in-Damaged.ensures.seen image opened shown opens) c.in-Damaged.ensures.causes.sink.later c.tell_damage.ensures.all c.tell_damage.ensures.front

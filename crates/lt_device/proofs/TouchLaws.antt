-- Calls that touch some blocks alone, one after another.
use Rattle.std.proofs.Common.{◌≡◌, ℕ, sym, ap, subst, ◌∙◌, Option, Result}
use Rattle.lt_terms.specs.Bytes.{Image}
use Rattle.lt_terms.specs.Causes.{HasCause}
use Rattle.lt_device.specs.Calls.{FillsOnly, TouchesOnly}
use Rattle.lt_device.specs.declared.device.Device.{Ghosts}
use Rattle.lt_device.specs.Moments.{ShowsSameOutside}
use Rattle.lt_device.specs.State.{State, Wrote, EndedSync}
use Rattle.lt_device.proofs.CallLaws.{writes_block}
use Rattle.lt_device.proofs.Runs.{confined_begins, confined_widens, confined_within, confined_writes, syncs}
use Rattle.lt_device.proofs.Shows.{shows-joins, shows-none, shows-widens, shows-writes}
use Rattle.lt_device.proofs.Steps.{ended_shown}

module _ {D : Type 0} {g : Ghosts D} where
  pub touches-none : {inside : ℕ → Type 0} (old : D) → TouchesOnly g inside old old
  touches-none old = record { confined = confined_begins (g.state old); others = shows-none _ _ }

  pub touches-joins : {inside part other : ℕ → Type 0} {old mid new : D} → TouchesOnly g part old mid → TouchesOnly g other mid new
      → ((k : ℕ) → part k → inside k) → ((k : ℕ) → other k → inside k) → TouchesOnly g inside old new
  touches-joins {inside} {part} {other} first second first_in second_in = record {
    confined = confined_within second.confined (confined_widens first.confined first_in) second_in;
    others = shows-joins inside part other _ _ _ first.others second.others first_in second_in;
  }

  pub touches-widens : {part inside : ℕ → Type 0} {old new : D} → TouchesOnly g part old new → ((k : ℕ) → part k → inside k) → TouchesOnly g inside old new
  touches-widens {part} {inside} touches wider = record {
    confined = confined_widens touches.confined wider;
    others = shows-widens part inside _ _ wider touches.others;
  }

  -- one block written more
  pub touches-writes : {inside : ℕ → Type 0} {n b : ℕ} {old mid new : D} → TouchesOnly g inside old mid → Wrote n b (g.state mid) (g.state new) → inside b → TouchesOnly g inside old new
  touches-writes {inside} {n} {b} touches wrote in_it = record {
    confined = confined_writes wrote touches.confined in_it;
    others = shows-writes inside n b _ _ _ wrote in_it touches.others;
  }

  -- a sync more
  pub touches-syncs : {inside : ℕ → Type 0} {n : ℕ} {old mid new : D} → TouchesOnly g inside old mid → EndedSync n (g.state mid) (g.state new) → TouchesOnly g inside old new
  touches-syncs {inside} {n} {old} {mid} {new} touches ended = record {
    confined = syncs ended touches.confined;
    others = subst (λ (o : Option Image). ShowsSameOutside inside (g.state old).shown o) (sym (ended_shown _ _ _ ended)) touches.others;
  }

  -- one block written more, and no sync
  pub fills-writes : {T E A : Type 0} {inside : ℕ → Type 0} {n b : ℕ} {old mid new : D} {result : Result T E} → FillsOnly g inside A old mid → Wrote n b (g.state mid) (g.state new) → inside b
      → g.blocks new ≡ g.blocks mid → g.reads new ≡ g.reads mid → HasCause (g.faults mid) (g.faults new) result → FillsOnly g inside ⊥ old new
  fills-writes fills wrote in_it size count cause = record {
    touches = touches-writes fills.touches wrote in_it;
    no_sync = ap (λ (s : State). s.past) wrote.is ∙ fills.no_sync;
    calls = writes_block fills.calls size count cause;
  }

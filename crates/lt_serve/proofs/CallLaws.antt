-- Calls that act lines, behind others and within others, and their faults.
use Rattle.std.proofs.Common.{◌≡◌, ℕ, ◌≤◌, refl, sym, ap, subst, ◌∙◌, Result, Ok, Err, IfErr, arith}
use Rattle.std.specs.Result.{IsErrAnd}
use Rattle.lt_terms.specs.Causes.{Rose}
use Rattle.lt_device.specs.declared.device.Device.{Ghosts}
use Rattle.lt_io.specs.declared.sink.Sink.{Ghosts as Sinks}
use Rattle.lt_io.specs.declared.source.Source.{Ghosts as Sources}
use Rattle.lt_layout.specs.declared.fault.OpenFault.{OpenFault}
use Rattle.lt_layout.specs.declared.fault.OpenFault.TheVariants as opens
use Rattle.lt_store.specs.declared.faults.WriteFault.{WriteFault}
use Rattle.lt_store.specs.declared.faults.WriteFault.TheVariants as writes
use Rattle.lt_store.specs.Open.{StoreView}
use Rattle.lt_serve.specs.declared.faults.RoundFault.{RoundFault}
use Rattle.lt_serve.specs.declared.faults.RoundFault.TheVariants as faults
use Rattle.lt_serve.specs.declared.served.Served.{Served}
use Rattle.lt_serve.specs.declared.served.Served.TheVariants as served
use Rattle.lt_serve.specs.Calls.{ActsOn, StopsGetOf}
use Rattle.lt_serve.specs.Faults.{IsStepEnd, round_fault_of, served_of, unopened_of}
use Rattle.lt_serve.specs.Promise.{FailsOn, GainsSome, GivesTo, TakesFrom}
use Rattle.lt_serve.specs.Sizes.{SameSizes}
use Rattle.lt_serve.proofs.SendLaws.{gains_some-none, gains_some-more}
use Rattle.lt_serve.proofs.SizeLaws.{stops-same}

-- the fault of a call that is passed on by `?`
pub same-fault : {T U E : Type 0} (call : Result T E) (whole : Result U E) (fault f : E) → call ≡ Err fault → IsErrAnd whole (λ o. o ≡ fault) → whole ≡ Err f → call ≡ Err f
same-fault call (Ok x) fault f was same is = absurd same
same-fault call (Err o) fault f was same is = let one : o ≡ f = cc (is) in was ∙ ap Err (sym same ∙ one)

-- calls that did not fail
pub acts-ok : {D U E : Type 0} {d : Ghosts D} (v w : StoreView) (value : U) (failed : E) (damaged_at : ℕ → E) (old new : D) → SameSizes v w → d.blocks new ≡ d.blocks old → d.faults old ≤ d.faults new → ActsOn d v w (Ok value) failed damaged_at old new
acts-ok v w value failed damaged_at old new sizes size later = record {
  sizes = sizes;
  size = size;
  later = later;
  cause = λ is. absurd (cc (is));
  damaged = λ b is. absurd (cc (is));
}

-- a call that failed behind others that did not, and whose fault is passed on
pub acts-fail : {D T U E : Type 0} {d : Ghosts D} (v w x : StoreView) (call : Result T E) (whole : Result U E) (fault failed : E) (damaged_at : ℕ → E) (old mid new : D) → call ≡ Err fault → IsErrAnd whole (λ o. o ≡ fault)
    → SameSizes v w → d.blocks mid ≡ d.blocks old → d.faults old ≤ d.faults mid → ActsOn d w x call failed damaged_at mid new → ActsOn d v x whole failed damaged_at old new
acts-fail v w x call (Ok y) fault failed damaged_at old mid new was same sizes size later a = absurd same
acts-fail {d = d} v w x call (Err o) fault failed damaged_at old mid new was same sizes size later a = record {
  sizes = tt;
  size = a.size ∙ size;
  later = omega (arith, later, a.later);
  cause = λ is. let rose : Rose (d.faults mid) (d.faults new) = a.cause (same-fault call (Err o) fault failed was same is) in omega (arith, rose, later);
  damaged = λ b is. stops-same v w b (d.state new) sizes (a.damaged b (same-fault call (Err o) fault (damaged_at b) was same is));
}

-- a call of the store that failed, and whose fault is passed on
pub acts-store : {D T U : Type 0} {d : Ghosts D} (v w : StoreView) (call : Result T WriteFault) (whole : Result U WriteFault) (fault : WriteFault) (old new : D) → call ≡ Err fault → IsErrAnd whole (λ o. o ≡ fault)
    → d.blocks new ≡ d.blocks old → d.faults old ≤ d.faults new → (call ≡ Err writes.Device → Rose (d.faults old) (d.faults new)) → ((b : ℕ) → call ≡ Err (writes.Damaged b) → StopsGetOf v b (d.state new)) → ActsOn d v w whole writes.Device writes.Damaged old new
acts-store v w call (Ok y) fault old new was same size later cause damaged = absurd same
acts-store v w call (Err o) fault old new was same size later cause damaged = record {
  sizes = tt;
  size = size;
  later = later;
  cause = λ is. cause (same-fault call (Err o) fault writes.Device was same is);
  damaged = λ b is. damaged b (same-fault call (Err o) fault (writes.Damaged b) was same is);
}

-- the fault of a call as one of the layer above
pub acts-as : {D T U E F : Type 0} {d : Ghosts D} (v w : StoreView) (call : Result T E) (whole : Result U F) (fault failed : E) (damaged_at : ℕ → E) (failed' : F) (damaged_at' : ℕ → F) (lift : E → F) (old new : D)
    → ((f : E) → lift f ≡ failed' → f ≡ failed) → ((f : E) (b : ℕ) → lift f ≡ damaged_at' b → f ≡ damaged_at b) → call ≡ Err fault → IsErrAnd whole (λ o. o ≡ lift fault)
    → ActsOn d v w call failed damaged_at old new → ActsOn d v w whole failed' damaged_at' old new
acts-as v w call (Ok y) fault failed damaged_at failed' damaged_at' lift old new device damage was same a = absurd same
acts-as v w call (Err o) fault failed damaged_at failed' damaged_at' lift old new device damage was same a = record {
  sizes = tt;
  size = a.size;
  later = a.later;
  cause = λ is. let one : o ≡ failed' = cc (is) in a.cause (was ∙ ap Err (device fault (sym same ∙ one)));
  damaged = λ b is. let one : o ≡ damaged_at' b = cc (is) in a.damaged b (was ∙ ap Err (damage fault b (sym same ∙ one)));
}

-- the device failed behind calls that did not fail
pub acts-device : {D T U E : Type 0} {d : Ghosts D} (v w x : StoreView) (value : U) (failed : E) (damaged_at : ℕ → E) (old mid new : D) → ((b : ℕ) → failed ≡ damaged_at b → ⊥) → ActsOn d v w (Ok value) failed damaged_at old mid
    → d.blocks new ≡ d.blocks mid → d.faults mid ≤ d.faults new → Rose (d.faults mid) (d.faults new) → ActsOn {T = T} d v x (Err failed) failed damaged_at old new
acts-device {d = d} v w x value failed damaged_at old mid new other a size later rose = record {
  sizes = tt;
  size = size ∙ a.size;
  later = omega (arith, later, a.later);
  cause = λ is. omega (arith, rose, a.later);
  damaged = λ b is. let one : failed ≡ damaged_at b = cc (is) in absurd (other b one);
}

-- ---- faults of the layers

pub of-device : (f : WriteFault) → round_fault_of f ≡ faults.Device → f ≡ writes.Device
of-device writes.Device is = refl
of-device (writes.Damaged block) is = absurd (cc (is))
of-device writes.NoMemory is = absurd (cc (is))

pub of-damaged : (f : WriteFault) (b : ℕ) → round_fault_of f ≡ faults.Damaged b → f ≡ writes.Damaged b
of-damaged writes.Device b is = absurd (cc (is))
of-damaged (writes.Damaged block) b is = let one : block ≡ b = cc (is) in ap writes.Damaged one
of-damaged writes.NoMemory b is = absurd (cc (is))

pub by-device : (f : RoundFault) → served_of f ≡ served.Device → f ≡ faults.Device
by-device faults.Device is = refl
by-device (faults.Damaged block) is = absurd (cc (is))
by-device faults.NoMemory is = absurd (cc (is))

pub by-damaged : (f : RoundFault) (b : ℕ) → served_of f ≡ served.Damaged b → f ≡ faults.Damaged b
by-damaged faults.Device b is = absurd (cc (is))
by-damaged (faults.Damaged block) b is = let one : block ≡ b = cc (is) in ap faults.Damaged one
by-damaged faults.NoMemory b is = absurd (cc (is))

-- ---- the sink

-- nothing was given
pub gives-none : {K A : Type 0} {k : Sinks K} (sink : K) → (A → ⊥) → GivesTo k A sink sink
gives-none {k = k} sink never = record {
  gains = gains_some-none (k.stands sink);
  later = omega arith;
  cause = λ failed. absurd (never failed);
}

-- a call behind others that gave some bytes
pub gives-behind : {K A B : Type 0} {k : Sinks K} (old mid new : K) → GainsSome (k.stands old) (k.stands mid) → k.faults old ≤ k.faults mid → (B → A) → GivesTo k A mid new → GivesTo k B old new
gives-behind {k = k} old mid new gains later lift g = record {
  gains = gains_some-more (k.stands old) (k.stands mid) (k.stands new) gains g.gains;
  later = omega (arith, later, g.later);
  cause = λ failed. let rose : Rose (k.faults mid) (k.faults new) = g.cause (lift failed) in omega (arith, rose, later);
}

-- the answer tells less
pub gives-as : {K A B : Type 0} {k : Sinks K} (old new : K) → (B → A) → GivesTo k A old new → GivesTo k B old new
gives-as old new lift g = record { gains = g.gains; later = g.later; cause = λ failed. g.cause (lift failed) }

-- calls that did not fail by the sink
pub gives-still : {K A : Type 0} {k : Sinks K} (old new : K) → GainsSome (k.stands old) (k.stands new) → k.faults old ≤ k.faults new → (A → ⊥) → GivesTo k A old new
gives-still old new gains later never = record { gains = gains; later = later; cause = λ failed. absurd (never failed) }

-- ---- the source and the device

pub takes-still : {S A : Type 0} {u : Sources S} (old new : S) → u.faults old ≤ u.faults new → (A → ⊥) → TakesFrom u A old new
takes-still old new later never = record { later = later; cause = λ failed. absurd (never failed) }

pub takes-behind : {S A B : Type 0} {u : Sources S} (old mid new : S) → u.faults old ≤ u.faults mid → (B → A) → TakesFrom u A mid new → TakesFrom u B old new
takes-behind {u = u} old mid new later lift t = record {
  later = omega (arith, later, t.later);
  cause = λ failed. let rose : Rose (u.faults mid) (u.faults new) = t.cause (lift failed) in omega (arith, rose, later);
}

pub fails-still : {D A : Type 0} {d : Ghosts D} (old new : D) → d.faults old ≤ d.faults new → (A → ⊥) → FailsOn d A old new
fails-still old new later never = record { later = later; cause = λ failed. absurd (never failed) }

pub fails-behind : {D B : Type 0} {d : Ghosts D} (old mid new : D) → d.faults old ≤ d.faults mid → d.faults mid ≤ d.faults new → (B → Rose (d.faults mid) (d.faults new)) → FailsOn d B old new
fails-behind {d = d} old mid new later then cause = record {
  later = omega (arith, later, then);
  cause = λ failed. let rose : Rose (d.faults mid) (d.faults new) = cause failed in omega (arith, rose, later);
}

-- an answer that is no fault of the device, where no call was made of it
pub acts-none : {D T E : Type 0} {d : Ghosts D} (v w : StoreView) (status failed : E) (damaged_at : ℕ → E) (device : D) → (status ≡ failed → ⊥) → ((b : ℕ) → status ≡ damaged_at b → ⊥) → ActsOn {T = T} d v w (Err status) failed damaged_at device device
acts-none v w status failed damaged_at device other sound = record {
  sizes = tt;
  size = refl;
  later = omega arith;
  cause = λ is. let one : status ≡ failed = cc (is) in absurd (other one);
  damaged = λ b is. let one : status ≡ damaged_at b = cc (is) in absurd (sound b one);
}

-- an answer that is no fault of the device, behind calls that did not fail
pub acts-other : {D T U E F : Type 0} {d : Ghosts D} (v w : StoreView) (value : U) (failed : E) (damaged_at : ℕ → E) (status failed' : F) (damaged_at' : ℕ → F) (old new : D) → (status ≡ failed' → ⊥) → ((b : ℕ) → status ≡ damaged_at' b → ⊥)
    → ActsOn d v w (Ok value) failed damaged_at old new → ActsOn {T = T} d v w (Err status) failed' damaged_at' old new
acts-other v w value failed damaged_at status failed' damaged_at' old new other sound a = record {
  sizes = tt;
  size = a.size;
  later = a.later;
  cause = λ is. let one : status ≡ failed' = cc (is) in absurd (other one);
  damaged = λ b is. let one : status ≡ damaged_at' b = cc (is) in absurd (sound b one);
}

-- a piece does not end by the source
pub not-source : {T : Type 0} (result : Result T Served) → IfErr result IsStepEnd → result ≡ Err served.Source → ⊥
not-source (Ok x) halt is = absurd (cc (is))
not-source (Err status) halt is = let one : status ≡ served.Source = cc (is) in subst IsStepEnd one halt

pub unopened-device : (f : OpenFault) → unopened_of f ≡ served.Device → f ≡ opens.Device
unopened-device opens.Device is = refl
unopened-device (opens.Damaged block) is = absurd (cc (is))
unopened-device opens.NoMemory is = absurd (cc (is))

pub not-unopened : (f : OpenFault) (status : Served) → status ≡ unopened_of f → (status ≡ served.Source → ⊥) × (status ≡ served.Sink → ⊥) × (status ≡ served.Turns → ⊥)
not-unopened opens.Device status is = (λ e. absurd (cc (is, e)), λ e. absurd (cc (is, e)), λ e. absurd (cc (is, e)))
not-unopened (opens.Damaged block) status is = (λ e. absurd (cc (is, e)), λ e. absurd (cc (is, e)), λ e. absurd (cc (is, e)))
not-unopened opens.NoMemory status is = (λ e. absurd (cc (is, e)), λ e. absurd (cc (is, e)), λ e. absurd (cc (is, e)))

-- the damaged block of a call is that of the store's call
pub was-damaged : {T U : Type 0} (call : Result T WriteFault) (whole : Result U RoundFault) (fault : WriteFault) (b : ℕ) → call ≡ Err fault → IsErrAnd whole (λ o. o ≡ round_fault_of fault) → whole ≡ Err (faults.Damaged b) → call ≡ Err (writes.Damaged b)
was-damaged call (Ok x) fault b was same is = absurd same
was-damaged call (Err o) fault b was same is = let one : o ≡ faults.Damaged b = cc (is) in was ∙ ap Err (of-damaged fault b (sym same ∙ one))

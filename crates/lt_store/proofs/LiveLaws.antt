-- A call that flushed nothing.
use Rattle.std.proofs.Common.{◌≡◌, refl, sym, ap, subst, ◌∙◌, true, Result, arith, true≢false}
use Rattle.std.specs.Prelude.{IsErrOf}
use Rattle.lt_device.proofs.Runs.{begins}
use Rattle.lt_device.specs.declared.device.Device.{Ghosts}
use Rattle.lt_store.specs.declared.faults.FlushFault.{FlushFault}
use Rattle.lt_store.specs.declared.faults.FlushFault.TheVariants.{Device}
use Rattle.lt_store.specs.declared.store.Store.{Store}
use Rattle.lt_store.specs.Calls.{LivesOn}
use Rattle.lt_store.specs.Open.{IsOpen, StoreView, extents_of}
use Rattle.lt_store.specs.View.{view_of}

-- no call of the device was made, and the store is as it was
pub unflushed : {T A : Type 0} (D : Ghosts T) (s t : Store) (result : Result A FlushFault) (device : T) → view_of t ≡ view_of s → s.is_up ≡ true → (IsErrOf result Device → ⊥) → LivesOn D s t result device device
unflushed D s t result device same up fine = record {
  stays = λ d o. begins (D.state device) o.rest.each;
  opened = λ on d o. subst (λ (v : StoreView). IsOpen v d (D.state device)) (sym same) o;
  up = ((λ down. absurd (true≢false (sym still ∙ down))), (λ failed. absurd (fine failed)));
  writes = ap (λ (v : StoreView). v.writes) same;
  regions = λ on. record { geometry = ap (λ (v : StoreView). v.named.geometry) same; extents = ap extents_of same };
  job = λ on. ap (λ (v : StoreView). v.work.job) same;
  calls = record { size = refl; count = refl; later = omega arith; cause = λ failed. absurd (fine failed) };
}
  where
    still : t.is_up ≡ true
    still = ap (λ (v : StoreView). v.is_up) same ∙ up

-- What a call that acts lines leaves of any device, and of the store that it acts them on.
use Rattle.std.specs.Prelude.{◌≡◌, ℕ, ◌≤◌, Result, OnOk, IsErrOf}
use Rattle.lt_terms.specs.Causes.{Rose}
use Rattle.lt_device.specs.declared.device.Device.{Ghosts}
use Rattle.lt_device.specs.State as told
use Rattle.lt_store.specs.Open.{StoreView, extents_of}
use Rattle.lt_serve.specs.declared.faults.RoundFault.{RoundFault}
use Rattle.lt_serve.specs.declared.faults.RoundFault.TheVariants as rounds
use Rattle.lt_serve.specs.declared.served.Served.{Served}
use Rattle.lt_serve.specs.declared.served.Served.TheVariants as served
use Rattle.lt_serve.specs.declared.session.Session.{Session}
use Rattle.lt_serve.specs.Promise.{StopsSomeGet}
use Rattle.lt_serve.specs.Sizes.{SameSizes}
use Rattle.lt_serve.specs.View.{store_in}

-- in a store as large as this one a get of some key stops at this block
abbrev pub StopsGetOf : StoreView → ℕ → told.State → Type 0
StopsGetOf v b now = StopsSomeGet v.named.geometry (extents_of v) b now

-- The store is as large as before where the call did not fail, and the device has as many blocks. The count of the
-- device's faults never falls, and it rose where the call failed by the device; a block that it names as damaged is
-- one at which a get stops.
pub record ActsOn {D T E : Type 0} (d : Ghosts D) (v w : StoreView) (result : Result T E) (failed : E)
    (damaged_at : ℕ → E) (old new : D) : Type 0 where
  pub sizes : OnOk result (SameSizes v w)
  pub size : d.blocks new ≡ d.blocks old
  pub later : d.faults old ≤ d.faults new
  pub cause : IsErrOf result failed → Rose (d.faults old) (d.faults new)
  pub damaged : (b : ℕ) → IsErrOf result (damaged_at b) → StopsGetOf v b (d.state new)

-- what the calls of a round leave of the store and the device, and what its faults name
abbrev pub RoundActs : {D T : Type 0} → Ghosts D → Session → Session → Result T RoundFault → D → D → Type 0
RoundActs d s t result old new = ActsOn d (store_in s) (store_in t) result rounds.Device rounds.Damaged old new

-- what the calls of a turn leave of the store and the device, and what the answer that ends it names
abbrev pub TurnActs : {D T : Type 0} → Ghosts D → Session → Session → Result T Served → D → D → Type 0
TurnActs d s t result old new = ActsOn d (store_in s) (store_in t) result served.Device served.Damaged old new

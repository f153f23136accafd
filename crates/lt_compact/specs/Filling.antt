-- Where an extent stands among those that shares take, and what filling it leaves alone.
use Rattle.std.specs.Prelude.{◌≡◌, ℕ, ◌+◌, ◌<◌, ◌≤◌, List, length, take, slice_get, Some, IsTrue}
use Rattle.lt_terms.specs.Bytes.{is_in}
use Rattle.lt_device.specs.Moments.{ConfinedTo, ShowsSameOutside}
use Rattle.lt_device.specs.State.{State}
use Rattle.lt_format.specs.declared.geometry.Geometry.{Geometry}
use Rattle.lt_format.specs.Layout.{extent_block}
use Rattle.lt_image.specs.Shares.{Share, share_extents}
use Rattle.lt_compact.specs.Jobs.{Stage, filling}
use Rattle.lt_compact.specs.Plans.{MayFill, extents_for}

-- these extents lie on a device with so many blocks
pub record AreWithin (g : Geometry) (blocks : ℕ) (numbers : List ℕ) : Type 0 where
  pub each : (x : ℕ) → IsTrue (is_in x numbers) → extent_block g x + 65 ≤ blocks

-- extent number `filled` is one of share number `share`: the shares before it take `first` extents, and `place` of its
-- own stand before it
pub record IsSpot (levels : ℕ) (shares : List Share) (filled share first place : ℕ) : Type 0 where
  pub here : Share
  pub there : slice_get shares share ≡ Some here
  pub before : first ≡ extents_for levels (take share shares)
  pub is : filled ≡ first + place
  pub below : place < share_extents levels here

-- between these moments no other blocks were written, and nothing was synced
pub record FillsWithin (inside : ℕ → Type 0) (old new : State) : Type 0 where
  pub confined : ConfinedTo inside old new
  pub others : ShowsSameOutside inside old.shown new.shown
  pub no_sync : new.past ≡ old.past

-- the next extent of a stage that fills extents is one of them, and they may be filled
pub record MayFillNext (g : Geometry) (blocks : ℕ) (stage : Stage) : Type 0 where
  pub left : (shares : List Share) (numbers : List ℕ) (filled : ℕ) → stage ≡ filling shares numbers filled
      → filled < length numbers
  pub may : (shares : List Share) (numbers : List ℕ) (filled : ℕ) → stage ≡ filling shares numbers filled
      → MayFill g blocks shares numbers

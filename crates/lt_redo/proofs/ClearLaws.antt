-- Gates that are closed one after another.
use Rattle.std.proofs.Common.{◌≡◌, ◌≢◌, ⊎_elim, ℕ, zero, suc, ◌+◌, ◌<◌, ◌≤◌, refl, ap, subst, ◌∙◌, [], false, Some, None, arith}
use Rattle.std.proofs.lemmas.Bool.{cases_lt}
use Rattle.lt_terms.specs.Bytes.{Image, block_at}
use Rattle.lt_device.specs.State.{State, IsFit, Wrote, written, synced}
use Rattle.lt_device.specs.Moments.{MayLeave}
use Rattle.lt_device.proofs.Images.{block_at-set_other}
use Rattle.lt_device.proofs.Steps.{written_is, written_shown, sync_only}
use Rattle.lt_format.specs.declared.geometry.Geometry.{Geometry}
use Rattle.lt_format.specs.Layout.{is_open, log_gate, gate_page, first_open}
use Rattle.lt_redo.specs.Slots.{HasLog, HasZeroGates, IsCleared}
use Rattle.lt_redo.proofs.LogLaws.{log_from-closed}

-- the first gates of the log area are closed, as the device reads
pub record ClosedSoFar (g : Geometry) (b count : ℕ) (s : State) : Type 0 where
  pub gates : (image : Image) → s.shown ≡ Some image → (k : ℕ) → k < count → block_at image (log_gate g b k) ≡ gate_page false

-- one gate more
pub ClosedSoFar-more : (g : Geometry) (b count n : ℕ) (s t : State) → ClosedSoFar g b count s → Wrote n (log_gate g b count) s t → log_gate g b count < n → t ≡ written s (log_gate g b count) (gate_page false) → ClosedSoFar g b (count + 1) t
ClosedSoFar-more g b count n s t so_far wrote in_range is = record {
  gates = λ image shown k below.
      ⊎_elim
      (λ (earlier : k < count).
      let before = written_is (log_gate g b count) s t (gate_page false) is image shown in
      let other : log_gate g b k ≢ log_gate g b count = λ e. omega arith in
      ap (λ (i : Image). block_at i (log_gate g b k)) before.2 ∙ block_at-set_other before.0 (log_gate g b count) (log_gate g b k) (gate_page false) other ∙ so_far.gates before.0 before.1 k earlier)
      (λ (last : count ≤ k).
      let at : k ≡ count = omega arith in
      ap (λ j. block_at image (log_gate g b j)) at ∙ written_shown n (log_gate g b count) s t (gate_page false) wrote.fit in_range is image shown)
      (cases_lt k count);
}

-- gates of zeros are closed
pub zeros_cleared : (g : Geometry) (b : ℕ) (image : Image) → HasZeroGates g b image → IsCleared g b image
zeros_cleared g b image zeros = record { gates = λ k below. ap is_open (zeros.gates k below) }

-- closed gates are no log
none_open : (g : Geometry) (b : ℕ) (image : Image) → IsCleared g b image → (i n : ℕ) → i + n ≤ g.slots → first_open image (log_gate g b) i n ≡ None
unfolding first_open
none_open g b image closed i zero fits = refl
none_open g b image closed i (suc n) fits = rw (closed.gates i (omega arith)) (none_open g b image closed (i + 1) n (omega arith))

pub has_log-cleared : (g : Geometry) (b from : ℕ) (image : Image) → IsCleared g b image → HasLog g b from [] image
has_log-cleared g b from image closed = record { read = log_from-closed g image b from 0 g.slots [] (none_open g b image closed 0 g.slots (omega arith)) }

-- after a sync that answered Ok each image is what is shown
pub zeros_sure : (g : Geometry) (b n : ℕ) (s t : State) → IsFit n s → t ≡ synced s → ((image : Image) → s.shown ≡ Some image → HasZeroGates g b image) → (left : Image) → MayLeave t left → HasZeroGates g b left
zeros_sure g b n s t fit made zeros left may = zeros left (sync_only n s fit left (subst (λ (x : State). MayLeave x left) made may))

-- What an area holds once its blocks are written.
use Rattle.std.proofs.Common.{◌≡◌, ℕ, ◌+◌, ◌≤◌, subst, ◌∙◌, List, length, false, Option, Some, arith}
use Rattle.lt_terms.specs.Bytes.{Image}
use Rattle.lt_device.specs.State.{SameOutside, State, IsFit, synced}
use Rattle.lt_device.specs.Moments.{MayLeave, ShowsSameOutside}
use Rattle.lt_device.proofs.Steps.{sync_only, same_some}
use Rattle.lt_format.specs.Layout.{area_block, edit_gate, edit_slots, gate_page}
use Rattle.lt_manifest.specs.Written.{AreWritten, ComesFrom, HasArea, InEdits, page_of, page_count}

-- the snapshot's blocks stay while the edit gates are closed
pub area-whole : (area : ℕ) (bytes : List ℕ) (mid new : Option Image) → length bytes ≤ 1249280 → AreWritten (λ k. area_block area + k) (page_of bytes) (page_count bytes) mid → ComesFrom (InEdits area) mid new
    → AreWritten (edit_gate area) (λ k. gate_page false) edit_slots new → (image : Image) → new ≡ Some image → HasArea area bytes image
area-whole area bytes mid new few pages others gates image told =
    let was = others.each image told in
    record {
      pages = λ k within. was.2.others (area_block area + k) (λ inside. absurd (omega (arith, inside.0))) ∙ pages.each was.0 was.1 k within;
      gates = λ i small. gates.each image told i small;
    }

-- after a sync that answered Ok each image is what was shown
pub sure-shown : (n : ℕ) (s t : State) (left : Image) → IsFit n s → t ≡ synced s → MayLeave t left → s.shown ≡ Some left
sure-shown n s t left fit made may = sync_only n s fit left (subst (λ (x : State). MayLeave x left) made may)

-- an image after such a sync, beside what was shown before
pub sure-others : (n : ℕ) (inside : ℕ → Type 0) (old s t : State) (shown left : Image) → IsFit n s → t ≡ synced s → ShowsSameOutside inside old.shown s.shown → old.shown ≡ Some shown → MayLeave t left → SameOutside inside shown left
sure-others n inside old s t shown left fit made others told may =
    let now = others.each shown told in
    let same : now.0 ≡ left = same_some s.shown now.0 left now.1 (sure-shown n s t left fit made may) in
    subst (SameOutside inside shown) same now.2

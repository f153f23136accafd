-- Blocks that are written one after another.
use Rattle.std.proofs.Common.{◌≡◌, ◌≢◌, ◌⊎◌, ⊎_elim, ℕ, ◌+◌, ◌<◌, ◌≤◌, sym, ap, subst, ◌∙◌, List, Option, arith}
use Rattle.std.proofs.lemmas.Bool.{cases_lt}
use Rattle.lt_terms.specs.Bytes.{Image, block_at}
use Rattle.lt_device.specs.State.{SameOutside, State, IsFit, Wrote, written}
use Rattle.lt_device.proofs.Images.{block_at-set_other, same_outside_joins, same_outside_widens}
use Rattle.lt_device.proofs.Steps.{written_is, written_shown, wrote_others, same_some}
use Rattle.lt_format.specs.Snapshot.{InManifest}
use Rattle.lt_manifest.specs.Written.{AreWritten, ComesFrom, InArea, InSelected}

-- one block more
pub written-more : (place : ℕ → ℕ) (page : ℕ → List ℕ) (count n b : ℕ) (old new : State) (bytes : List ℕ) → b ≡ place count → ((k : ℕ) → k < count → place k ≢ place count) → b < n → IsFit n old → new ≡ written old b bytes → bytes ≡ page count
    → AreWritten place page count old.shown → AreWritten place page (count + 1) new.shown
written-more place page count n b old new bytes at apart below fit is bytes_are so_far = record {
  each = λ image shown k within.
      ⊎_elim
      (λ (earlier : k < count).
      let before = written_is b old new bytes is image shown in
      let other : place k ≢ b = λ e. apart k earlier (e ∙ at) in
      ap (λ (i : Image). block_at i (place k)) before.2 ∙ block_at-set_other before.0 b (place k) bytes other ∙ so_far.each before.0 before.1 k earlier)
      (λ (last : count ≤ k).
      let same : k ≡ count = omega arith in
      ap (λ j. block_at image (place j)) same ∙ ap (block_at image) (sym at) ∙ written_shown n b old new bytes fit below is image shown ∙ bytes_are ∙ ap page (sym same))
      (cases_lt k count);
}

-- the selector and the areas are blocks of the manifest
pub selected-manifest : (area : ℕ) → area < 2 → (k : ℕ) → InSelected area k → InManifest k
selected-manifest area small k either = ⊎_elim (λ (at : k ≡ 1). (omega arith, omega arith)) (λ (inside : InArea area k). (omega (arith, inside.0), omega (arith, inside.1, small))) either

pub comes-writes : (inside : ℕ → Type 0) (n b : ℕ) (old : Option Image) (mid new : State) → Wrote n b mid new → inside b → ComesFrom inside old mid.shown → ComesFrom inside old new.shown
comes-writes inside n b old mid new wrote in_it so_far = record {
  each = λ image told.
      let was = written_is b mid new wrote.page wrote.is image told in
      let now = wrote_others n b mid new was.0 wrote was.1 in
      let same : now.0 ≡ image = same_some new.shown now.0 image now.1 told in
      let first = so_far.each was.0 was.1 in
      let step : SameOutside inside was.0 image = subst (SameOutside inside was.0) same (same_outside_widens (λ k. k ≡ b) inside was.0 now.0 (λ k at. subst inside (sym at) in_it) now.2) in
      (first.0, first.1, same_outside_widens (λ k. inside k ⊎ inside k) inside first.0 image (λ k either. ⊎_elim (λ i. i) (λ i. i) either) (same_outside_joins inside inside first.0 was.0 image first.2 step));
}

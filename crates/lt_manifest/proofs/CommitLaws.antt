-- The images of a commit: the other area, sync, the selector, sync.
use Rattle.std.proofs.Common.{◌≡◌, ◌⊎◌, inl, inr, ⊎_elim, ℕ, zero, suc, ◌+◌, ◌-◌, ◌<◌, refl, sym, ap, subst, ◌∙◌, List, [], ◌∷◌, length, true, arith}
use Rattle.lt_terms.specs.Bytes.{Image, block_at, block_of}
use Rattle.lt_device.specs.State.{SameOutside, State, IsFit, written, synced}
use Rattle.lt_device.specs.Moments.{MayLeave, Leaves, ConfinedTo}
use Rattle.lt_device.proofs.Images.{same_outside_joins, same_outside_widens}
use Rattle.lt_device.proofs.Runs.{begins, joins, weakens, confined_keeps}
use Rattle.lt_device.proofs.Steps.{written_shown, sync_only}
use Rattle.lt_format.specs.declared.geometry.Geometry.{Geometry}
use Rattle.lt_format.specs.Layout.{is_geometry, selected, area_block, edit_gate}
use Rattle.lt_format.specs.Snapshot.{Manifest, IsManifest, Named, InManifest, snapshot_bytes}
use Rattle.lt_manifest.specs.Promise.{HasNew, HasOldOrNew}
use Rattle.lt_format.specs.Snapshot.{Names}
use Rattle.lt_manifest.specs.Written.{HasArea, HasSelected, InArea, page_of, page_count}
use Rattle.lt_manifest.proofs.NameLaws.{names-other, names-selector, names-new}

-- the selector's page is sure
pub selector-sure : (area n : ℕ) (s t u : State) (page : List ℕ) (left : Image) → 1 < n → IsFit n s → t ≡ written s 1 page → page ≡ block_of (area ∷ []) → IsFit n t → u ≡ synced t → MayLeave u left → block_at left 1 ≡ block_of (area ∷ [])
selector-sure area n s t u page left below fit is page_is fit_t made may =
    written_shown n 1 s t page fit below is left (sync_only n t fit_t left (subst (λ (x : State). MayLeave x left) made may)) ∙ page_is

-- it selects its area
pub selects : (area : ℕ) (page : List ℕ) → area < 2 → page ≡ block_of (area ∷ []) → selected page ≡ area
selects area page small is = ap selected is ∙ omega arith

-- the old manifest is that of this area, and these bytes spell the new one, which stands on a device of so many blocks
pub record IsNext (g : Geometry) (area blocks : ℕ) (bytes : List ℕ) (old : Named) (new : Manifest) : Type 0 where
  pub geometry : old.geometry ≡ g
  pub area_is : old.area ≡ area
  pub spelled : bytes ≡ snapshot_bytes new
  pub stands : IsManifest g blocks new

module _ (g : Geometry) (area blocks : ℕ) (bytes : List ℕ) (old : Named) (new : Manifest) (shown : Image) (next : IsNext g area blocks bytes old new) (valid : is_geometry g ≡ true) (small : area < 2) where
  -- the area that is not current
  turned : old.area + (1 - area) ≡ 1
  turned = omega (arith, next.area_is)

  old_small : old.area < 2
  old_small = omega (arith, next.area_is)

  -- while the other area is written
  pub other_written : {s t : State} → ConfinedTo (InArea (1 - area)) s t → ((left : Image) → MayLeave s left → Names old left) → Leaves (Names old) s t
  other_written {s} {t} confined rests = confined_keeps confined (begins s rests) (λ image left same names. names-other old (1 - area) image left old_small turned same names)

  pub still_old : {s t : State} → Leaves (Names old) s t → Leaves (HasOldOrNew old new shown) s t
  still_old run = weakens run (λ left names. record { either = inl names })

  -- the image once the other area is selected
  pub is_new : (image left : Image) → length left ≡ blocks → Names old image → HasArea (1 - area) bytes image → SameOutside (InArea (1 - area)) shown image → SameOutside (λ k. k ≡ 1) image left → selected (block_at left 1) ≡ 1 - area → HasNew (record { geometry = old.geometry; area = 1 - area; manifest = new }) shown left
  is_new image left size names has beside same at =
      let first : block_at left 0 ≡ block_at image 0 = same.others 0 (λ e. absurd (omega arith)) in
      let stands : IsManifest old.geometry (length left) new = subst (λ k. IsManifest old.geometry k new) (sym size) (subst (λ (h : Geometry). IsManifest h blocks new) (sym next.geometry) next.stands) in
      let valid_old : is_geometry old.geometry ≡ true = ap is_geometry next.geometry ∙ valid in
      record {
        names = names-new old image left (1 - area) new names same.size first valid_old stands at
            (λ k within. same.others (area_block (1 - area) + k) (λ e. absurd (omega arith)) ∙ has.pages k (subst (λ (b : List ℕ). k < page_count b) (sym next.spelled) within) ∙ ap (λ (b : List ℕ). page_of b k) next.spelled);
        same = same_outside_widens (λ k. InArea (1 - area) k ⊎ (k ≡ 1)) InManifest shown left
            (λ k either. ⊎_elim (λ (inside : InArea (1 - area) k). (omega (arith, inside.0), omega (arith, inside.1))) (λ (e : k ≡ 1). (omega arith, omega arith)) either)
            (same_outside_joins (InArea (1 - area)) (λ k. k ≡ 1) shown image left beside same);
      }

  two_ways : (bit : ℕ) → bit < 2 → (bit ≡ area) ⊎ (bit ≡ 1 - area)
  two_ways zero below = by_area area small
    where
      by_area : (a : ℕ) → a < 2 → (0 ≡ a) ⊎ (0 ≡ 1 - a)
      by_area zero s = inl refl
      by_area (suc zero) s = inr refl
      by_area (suc (suc a)) s = absurd (omega arith)
  two_ways (suc zero) below = by_area area small
    where
      by_area : (a : ℕ) → a < 2 → (1 ≡ a) ⊎ (1 ≡ 1 - a)
      by_area zero s = inr refl
      by_area (suc zero) s = inl refl
      by_area (suc (suc a)) s = absurd (omega arith)
  two_ways (suc (suc bit)) below = absurd (omega arith)

  -- while the selector is written
  pub selector_written : {s t u : State} → Leaves (Names old) s t → ((left : Image) → MayLeave t left → length left ≡ blocks) → ((left : Image) → MayLeave t left → HasArea (1 - area) bytes left) → ((left : Image) → MayLeave t left → SameOutside (InArea (1 - area)) shown left)
      → ConfinedTo (λ k. k ≡ 1) t u → Leaves (HasOldOrNew old new shown) s u
  selector_written {s} {t} {u} run sizes has beside confined = joins confined (still_old run) (λ left near.
      let image : Image = near.image in
      let names : Names old image = run.now image near.was in
      let size : length left ≡ blocks = near.same.size ∙ sizes image near.was in
      ⊎_elim
      (λ (stay : selected (block_at left 1) ≡ area). record { either = inl (names-selector old image left near.same (stay ∙ sym next.area_is) names) })
      (λ (turn : selected (block_at left 1) ≡ 1 - area). record { either = inr (1 - area, is_new image left size names (has image near.was) (beside image near.was) near.same turn) })
      (two_ways (selected (block_at left 1)) (omega arith)))

  -- once it is sure
  pub committed : {s t u : State} → Leaves (Names old) s t → ((left : Image) → MayLeave t left → length left ≡ blocks) → ((left : Image) → MayLeave t left → HasArea (1 - area) bytes left) → ((left : Image) → MayLeave t left → SameOutside (InArea (1 - area)) shown left)
      → ConfinedTo (λ k. k ≡ 1) t u → ((left : Image) → MayLeave u left → selected (block_at left 1) ≡ 1 - area) → (left : Image) → MayLeave u left → HasNew (record { geometry = g; area = 1 - area; manifest = new }) shown left
  committed {s} {t} {u} run sizes has beside confined at left may =
      let near = confined.now left may in
      let is = is_new near.image left (near.same.size ∙ sizes near.image near.was) (run.now near.image near.was) (has near.image near.was) (beside near.image near.was) near.same (at left may) in
      subst (λ (h : Geometry). HasNew (record { geometry = h; area = 1 - area; manifest = new }) shown left) next.geometry is

-- an area stays while only the selector is written
pub area-stays : (area : ℕ) (bytes : List ℕ) (image left : Image) → ((k : ℕ) → (k ≡ 1 → ⊥) → block_at left k ≡ block_at image k) → HasArea area bytes image → HasArea area bytes left
area-stays area bytes image left same has = record {
  pages = λ k within. same (area_block area + k) (λ e. absurd (omega arith)) ∙ has.pages k within;
  gates = λ i within. same (edit_gate area i) (λ e. absurd (omega arith)) ∙ has.gates i within;
}

pub area-selected : (area : ℕ) (bytes : List ℕ) {t u : State} → ((left : Image) → MayLeave t left → HasArea area bytes left) → ConfinedTo (λ k. k ≡ 1) t u → ((left : Image) → MayLeave u left → block_at left 1 ≡ block_of (area ∷ [])) → (left : Image) → MayLeave u left → HasSelected area bytes left
area-selected area bytes has confined at left may =
    let near = confined.now left may in
    record {
      written = area-stays area bytes near.image left near.same.others (has near.image near.was);
      selector = at left may;
    }

-- The commit of the open group.
use Rattle.std.proofs.Common.{◌≡◌, ⊎_elim, inl, inr, ℕ, zero, suc, ◌+◌, ◌<◌, refl, sym, ap, subst, ◌∙◌, List, [], ◌∷◌, ◌++◌, length, take, Some, None, Ok, arith, append-nil, length-append}
use Rattle.std.specs.Prelude.{IsTrue, slice_index_or}
use Rattle.std.specs.List.{AllByRecursion}
use Rattle.lt_terms.specs.Bytes.{Image, block_at}
use Rattle.lt_terms.specs.Items.{Item}
use Rattle.lt_device.specs.State.{SameOutside}
use Rattle.lt_device.specs.State as told
use Rattle.lt_device.specs.Moments.{MayLeave, Leaves, ShownNow, ShowsSameOutside, IsNear, ConfinedTo, UnsyncedIn}
use Rattle.lt_device.proofs.Runs.{weakens, both}
use Rattle.lt_language.specs.Machine.{State}
use Rattle.lt_format.specs.declared.geometry.Geometry.{Geometry}
use Rattle.lt_format.specs.Layout.{extent_block, log_gate}
use Rattle.lt_format.specs.Log.{items_in}
use Rattle.lt_format.specs.Snapshot.{manifest_of}
use Rattle.lt_format.specs.Trie.{named}
use Rattle.lt_format.proofs.LocalLaws.{manifest-local}
use Rattle.lt_format.specs.Snapshot.{Names}
use Rattle.lt_redo.specs.LogState.{LogState, slots_with, groups_with}
use Rattle.lt_redo.specs.Slots.{HasLog, HasLogOrLonger, InSlot}
use Rattle.lt_image.specs.After.{Keeps, SameExtent}
use Rattle.lt_image.specs.Versions.{Opened, open_image, extent_in}
use Rattle.lt_image.specs.Standing.{Stands, is_free_block, after_writes, IsPrefix}
use Rattle.lt_image.proofs.KeptLaws.{log-grows, no_writes}
use Rattle.lt_image.proofs.OpenLaws.{is-opens}
use Rattle.lt_search.specs.Kept.{KeepsFilter}
use Rattle.lt_store.specs.Committing.{StandsForEither, committed, committed_log}
use Rattle.lt_store.specs.Open.{IsOpen, StoreView, inner_of}
use Rattle.lt_store.proofs.SameLaws.{same-names, same-log, same-filters}
use Rattle.lt_work.specs.Work.{reserved_by}
use Rattle.lt_work.proofs.OutlastLaws.{same-true}
use Rattle.lt_store.proofs.MomentLaws.{open-names, open-same, open-from, shown-same, sure-agrees}
use Rattle.lt_store.proofs.FlushLaws.{Fits, each_all}
use Rattle.lt_image.proofs.PrefixLaws.{prefix-none}
use Rattle.lt_redo.proofs.OpeningLaws.{items_in-push}

groups_with-items : (groups : List (List Item)) (pending : List Item) → items_in (groups_with groups pending) ≡ items_in groups ++ pending
groups_with-items groups [] = sym (append-nil (items_in groups))
groups_with-items groups (item ∷ items) = items_in-push groups (item ∷ items)

groups_with-length : (groups : List (List Item)) (slots : ℕ) (pending : List Item) → slots ≡ length groups → slots_with slots pending ≡ length (groups_with groups pending)
groups_with-length groups slots [] same = same
groups_with-length groups slots (item ∷ items) same = simp length-append (omega arith)

-- the slot lies behind the manifest and below the extents
behind-slot : (g : Geometry) (area slot : ℕ) (image left : Image) → area < 2 → slot < g.slots → SameOutside (InSlot g area slot) image left → (x c : ℕ) → block_at left (extent_block g x + c) ≡ block_at image (extent_block g x + c)
behind-slot g area slot image left small within same x c = same.others (extent_block g x + c) (λ inside. ⊎_elim (λ gate. below area small gate) (λ content. next area small content) inside)
  where
    below : (area : ℕ) → area < 2 → extent_block g x + c ≡ log_gate g area slot → ⊥
    below zero small at = absurd (omega arith)
    below (suc zero) small at = absurd (omega arith)
    below (suc (suc a)) small at = absurd (omega arith)

    next : (area : ℕ) → area < 2 → extent_block g x + c ≡ log_gate g area slot + 1 → ⊥
    next zero small at = absurd (omega arith)
    next (suc zero) small at = absurd (omega arith)
    next (suc (suc a)) small at = absurd (omega arith)

pub low-slot : (g : Geometry) (area slot : ℕ) (image left : Image) → SameOutside (InSlot g area slot) image left → (n : ℕ) → n < 868 → block_at left n ≡ block_at image n
low-slot g area slot image left same n small = same.others n (λ inside. ⊎_elim (λ gate. absurd (omega arith)) (λ content. absurd (omega arith)) inside)

module _ (v : StoreView) (d : State) (old : told.State) (o : IsOpen v d old) (fits : Fits v) (within : v.log.slots < v.named.geometry.slots) where
  -- an image that differs in the next slot alone, and has the same log or one with more items, has those items more
  pub grown : (image left : Image) (groups : List (List Item)) (more : List Item) → MayLeave old image → SameOutside (InSlot v.named.geometry v.named.manifest.header.log_area v.log.slots) image left
      → HasLog v.named.geometry v.named.manifest.header.log_area v.log.writes groups left → items_in groups ≡ items_in o.groups ++ more → Stands left (after_writes d more)
  grown image left groups more may same has items =
      let g : Geometry = v.named.geometry in
      let area : ℕ = v.named.manifest.header.log_area in
      let base_same = open-same v d old o image may in
      let names : Names v.named image = same-names v.named o.rest.image image base_same (open-names v d old o) in
      let names_left : manifest_of left ≡ Ok v.named = manifest-local image left same.size (low-slot g area v.log.slots image left same) ∙ names.read in
      let log = subst (λ k. HasLog g k v.log.writes o.groups o.rest.image) fits.area o.log in
      let log_image : HasLog g area v.log.writes o.groups image = same-log v.named o.rest.image image v.log.writes o.groups base_same log in
      let b : Opened = record { named = v.named; groups = o.groups } in
      let p : Opened = record { named = v.named; groups = groups } in
      let log_b : HasLog g area v.named.manifest.header.writes o.groups image = subst (λ w. HasLog g area w o.groups image) fits.start log_image in
      let log_p : HasLog g area v.named.manifest.header.writes groups left = subst (λ w. HasLog g area w groups left) fits.start has in
      let opens_b : open_image image ≡ Ok b = is-opens image b names.read log_b.read in
      let opens_p : open_image left ≡ Ok p = is-opens left p names_left log_p.read in
      let keeps : Keeps b p image left = record { geometry = refl; manifest = refl; kept = each_all (SameExtent g image left) (named v.named.manifest.trie) (λ x c small. behind-slot g area v.log.slots image left fits.area_small within same x c) } in
      log-grows image left b p more d opens_b opens_p keeps items (o.rest.each image may)

pub take-whole : (xs : List Item) → take (length xs) (xs ++ []) ≡ xs
take-whole [] = refl
take-whole (x ∷ xs) = ap (λ ys. x ∷ ys) (take-whole xs)

pub prefix-all : (image : Image) (d : State) (writes : List Item) → Stands image (after_writes d writes) → IsPrefix image d (writes ++ []) 0
prefix-all image d writes stands = record {
  count = length writes;
  at_least = omega arith;
  at_most = let n : length (writes ++ []) ≡ length writes = ap length (append-nil writes) in omega arith;
  stands = subst (λ xs. Stands image (after_writes d xs)) (sym (take-whole writes)) stands;
}

module _ (v : StoreView) (d : State) (old new : told.State) (o : IsOpen v d old) (fits : Fits v) (within : v.log.slots < v.named.geometry.slots)
    (run : Leaves (HasLogOrLonger v.log.geometry v.log.area v.log.writes o.groups v.log.pending) old new) (inside : ConfinedTo (InSlot v.log.geometry v.log.area v.log.slots) old new) where
  log_at : (left : Image) (groups : List (List Item)) → HasLog v.log.geometry v.log.area v.log.writes groups left → HasLog v.named.geometry v.named.manifest.header.log_area v.log.writes groups left
  log_at left groups has = subst (λ k. HasLog v.named.geometry k v.log.writes groups left) fits.area (subst (λ g. HasLog g v.log.area v.log.writes groups left) fits.geometry has)

  inside_at : ConfinedTo (InSlot v.named.geometry v.named.manifest.header.log_area v.log.slots) old new
  inside_at = subst (λ k. ConfinedTo (InSlot v.named.geometry k v.log.slots) old new) fits.area (subst (λ g. ConfinedTo (InSlot g v.log.area v.log.slots) old new) fits.geometry inside)

  -- at each moment the pending writes are there or not
  pub group-whole : Leaves (StandsForEither d (after_writes d v.log.pending)) old new
  group-whole = weakens (both run inside_at) (λ left has. ⊎_elim
      (λ as_before. inl (subst (Stands left) (no_writes d)
      (grown v d old o fits within has.1.image left o.groups [] has.1.was has.1.same (log_at left o.groups as_before) (sym (append-nil (items_in o.groups))))))
      (λ longer. inr
      (grown v d old o fits within has.1.image left (o.groups ++ v.log.pending ∷ []) v.log.pending has.1.was has.1.same (log_at left (o.groups ++ v.log.pending ∷ []) longer) (items_in-push o.groups v.log.pending)))
      has.0.either)

  pub group-survives : Leaves (λ left. IsPrefix left d (v.log.pending ++ []) 0) old new
  group-survives = weakens group-whole (λ left either. ⊎_elim (prefix-none left d (v.log.pending ++ [])) (prefix-all left d v.log.pending) either)

  -- and once the commit answered Ok they are
  pub group-open : ShowsSameOutside (InSlot v.log.geometry v.log.area v.log.slots) old.shown new.shown → ((left : Image) → MayLeave new left → HasLog v.log.geometry v.log.area v.log.writes (groups_with o.groups v.log.pending) left) → UnsyncedIn (λ _. ⊥) new → IsOpen (committed v) (after_writes d v.log.pending) new
  group-open shows each sure =
      let g : Geometry = v.named.geometry in
      let area : ℕ = v.named.manifest.header.log_area in
      let now : ShownNow new = run.shows o.rest.image o.rest.shown o.rest.tells in
      let near : IsNear (InSlot g area v.log.slots) old now.image = inside_at.now now.image now.tells in
      let base_same = open-same v d old o near.image near.was in
      let names : Names v.named near.image = same-names v.named o.rest.image near.image base_same (open-names v d old o) in
      let groups : List (List Item) = groups_with o.groups v.log.pending in
      let log : HasLog v.log.geometry v.log.area v.log.writes groups now.image = each now.image now.tells in
      let extents : ◌≡◌ {A = ℕ → ℕ → List ℕ} (extent_in g near.image) (extent_in g now.image) = λ i x c. sym (behind-slot g area v.log.slots near.image now.image fits.area_small within near.same x c) i in
      let filters_near : AllByRecursion (KeepsFilter g v.kept near.image) (inner_of v.named) = same-filters v.named v.kept o.rest.image near.image base_same o.filters in
      let filters : AllByRecursion (KeepsFilter g v.kept now.image) (inner_of v.named) = subst (λ (f : ℕ → ℕ → List ℕ). AllByRecursion (λ x. slice_index_or v.kept x None ≡ Some (f x 64)) (inner_of v.named)) extents filters_near in
      let base : Image = o.rest.image in
      let outside : SameOutside (InSlot g area v.log.slots) base now.image =
      subst (λ k. SameOutside (InSlot g k v.log.slots) base now.image) fits.area (subst (λ h. SameOutside (InSlot h v.log.area v.log.slots) base now.image) fits.geometry (shown-same (InSlot v.log.geometry v.log.area v.log.slots) old new base shows o.rest.shown now)) in
      open-from (committed v) (after_writes d v.log.pending) new groups now
      (record { slots = groups_with-length o.groups v.log.slots v.log.pending o.slots; memory = o.memory ∙ sym (groups_with-items o.groups v.log.pending) ∙ sym (append-nil (items_in groups)) })
      (record {
        names = record { read = manifest-local near.image now.image near.same.size (low-slot g area v.log.slots near.image now.image near.same) ∙ names.read };
        stands = grown v d old o fits within near.image now.image groups v.log.pending near.was near.same (log_at now.image groups log) (groups_with-items o.groups v.log.pending);
        log = subst (λ h. HasLog h v.log.area v.log.writes groups now.image) fits.geometry log;
        filters = filters;
        work = same-true v.named base now.image fits.flags v.work fits.suits
            (each_all (SameExtent g base now.image) (named v.named.manifest.trie) (λ x c small. behind-slot g area v.log.slots base now.image fits.area_small within outside x c))
            (each_all (SameExtent g base now.image) (reserved_by v.work) (λ x c small. behind-slot g area v.log.slots base now.image fits.area_small within outside x c)) o.work;
      })
      (sure-agrees (λ n. IsTrue (is_free_block v.named n)) new now sure)

-- with nothing pending nothing changes
idle-log : (log : LogState) → log.pending ≡ [] → log ≡ committed_log log
idle-log log idle =
    let slots : log.slots ≡ slots_with log.slots log.pending = ap (slots_with log.slots) (sym idle) in
    λ i. record { geometry = log.geometry; area = log.area; writes = log.writes; slots = slots i; pending = idle i; cleared = log.cleared }

pub idle-open : (v : StoreView) (d : State) (s : told.State) → v.log.pending ≡ [] → IsOpen v d s → IsOpen (committed v) (after_writes d v.log.pending) s
idle-open v d s idle o =
    let there : IsOpen (committed v) d s = subst (λ (log : LogState). IsOpen (record v { log = log }) d s) (idle-log v.log idle) o in
    subst (λ (e : State). IsOpen (committed v) e s) (sym (no_writes d) ∙ ap (after_writes d) (sym idle)) there

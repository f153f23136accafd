-- The steps of a flush: the other log area is cleared, tables are built, and the manifest is committed.
use Rattle.std.proofs.Common.{◌≡◌, ⊎_elim, ℕ, ◌+◌, ◌-◌, ◌/◌, ◌<◌, ◌≤◌, refl, sym, ap, subst, ◌∙◌, Bool, true, false, List, [], ◌∷◌, ◌++◌, length, Option, Some, None, Result, Ok, arith, append-nil, true≢false}
use Rattle.std.specs.Prelude.{IsTrue, slice_index_or}
use Rattle.std.specs.List.{AllByRecursion, AllZip}
use Rattle.lt_terms.specs.Bytes.{Image, block_at}
use Rattle.lt_terms.specs.Items.{Item}
use Rattle.lt_device.specs.State.{SameOutside}
use Rattle.lt_device.specs.State as told
use Rattle.lt_device.specs.Moments.{MayLeave, Leaves, ShownNow, ShowsSameOutside, ConfinedTo, UnsyncedIn}
use Rattle.lt_device.proofs.Images.{same_outside_joins, same_outside_widens}
use Rattle.lt_device.proofs.Runs.{weakens, both}
use Rattle.lt_language.specs.Machine.{State}
use Rattle.lt_tables.specs.Cut.{cut}
use Rattle.lt_terms.specs.Bytes.{is_in}
use Rattle.lt_tables.specs.Table.{newest, IsPlaced}
use Rattle.lt_format.specs.declared.geometry.Geometry.{Geometry}
use Rattle.lt_format.specs.declared.header.Header.{Header}
use Rattle.lt_format.specs.Layout.{extent_block}
use Rattle.lt_format.specs.Log.{items_in}
use Rattle.lt_format.specs.Snapshot.{Named, InManifest, manifest_of, after_commit, Manifest}
use Rattle.lt_format.specs.Trie.{named}
use Rattle.lt_format.specs.Changes.{flush}
use Rattle.lt_manifest.specs.Promise.{HasNew, HasOldOrNew}
use Rattle.lt_format.specs.Snapshot.{Names}
use Rattle.lt_redo.specs.LogState.{LogState, other_area}
use Rattle.lt_redo.specs.Slots.{HasLog, InLogArea}
use Rattle.lt_redo.proofs.AreaLaws.{has_log-local}
use Rattle.lt_image.specs.After.{SameExtent, SameNamed, Follows, PlacedIn}
use Rattle.lt_image.specs.Versions.{Opened, open_image, number_of, log_items, extent_in as extent_at}
use Rattle.lt_image.specs.Standing.{bad_blocks, Stands, is_free_block}
use Rattle.lt_image.proofs.CountLaws.{flushes}
use Rattle.lt_image.proofs.LocalLaws.{local-stands}
use Rattle.lt_image.proofs.OpenLaws.{is-opens}
use Rattle.lt_image.proofs.StandLaws.{flush-stands}
use Rattle.lt_search.specs.Kept.{KeepsFilter}
use Rattle.lt_search.proofs.KeepLaws.{inner-flush, inner-named}
use Rattle.lt_work.specs.Work.{IsTrueOn, SuitsTrie, WorkView, flushed_work, reserved_by}
use Rattle.lt_work.proofs.OutlastLaws.{flushed-true}
use Rattle.lt_store.specs.Building.{InExtents}
use Rattle.lt_store.specs.Flushing.{Stays, AreFree, flushed_log, flushed}
use Rattle.lt_store.specs.Open.{IsOpen, StoreView, inner_of}
use Rattle.lt_store.proofs.SameLaws.{Same, log-extents, other-extents, same-other, same-unnamed, same-names, within_all}
use Rattle.lt_store.proofs.MomentLaws.{IsReady, open-steady, open-names, open-ready, open-agrees, open-same, open-from, keeps-same, same-ready, shown-same, sure-agrees, open-image}

-- what a store in memory says of its view, whatever the device holds
pub record Fits (v : StoreView) : Type 0 where
  pub geometry : v.log.geometry ≡ v.named.geometry
  pub area : v.log.area ≡ v.named.manifest.header.log_area
  pub start : v.log.writes ≡ v.named.manifest.header.writes
  pub area_small : v.named.manifest.header.log_area < 2
  pub deep : 2 ≤ v.named.geometry.levels
  pub flags : List Bool
  pub suits : SuitsTrie v.named.geometry.levels v.named.manifest.trie flags v.work

same_outside_apart : (inside : ℕ → Type 0) (a b c : Image) → SameOutside inside a b → SameOutside inside a c → SameOutside inside b c
same_outside_apart inside a b c one two = record { size = two.size ∙ sym one.size; others = λ k out. two.others k out ∙ sym (one.others k out) }

-- ---- the other log area

abbrev pub cleared : StoreView → StoreView
cleared v = record v { log = record v.log { cleared = true } }

-- clearing the other log area keeps what the images stand for
pub clearing-stays : (v : StoreView) (d : State) (old new : told.State) (o : IsOpen v d old) → Fits v → ConfinedTo (InLogArea v.log.geometry (other_area v.log.area)) old new → Leaves (λ left. Same v.named o.rest.image left) old new
clearing-stays v d old new o fits run =
    let run' = subst (λ g. ConfinedTo (InLogArea g (other_area v.log.area)) old new) fits.geometry run in
    let run'' = subst (λ k. ConfinedTo (InLogArea v.named.geometry (other_area k)) old new) fits.area run' in
    keeps-same v d (InLogArea v.named.geometry (other_area v.named.manifest.header.log_area)) old new o run'' (λ a b names same. same-other v.named a b fits.area_small same)

-- the log with the other area cleared fits as before
pub cleared-fits : (v : StoreView) → Fits v → Fits (cleared v)
cleared-fits v fits = record {
  geometry = fits.geometry;
  area = fits.area;
  start = fits.start;
  area_small = fits.area_small;
  deep = fits.deep;
  flags = fits.flags;
  suits = fits.suits;
}

-- and once it is sure the store is open as before
pub cleared-open : (v : StoreView) (d : State) (old new : told.State) (o : IsOpen v d old) → Fits v → ConfinedTo (InLogArea v.log.geometry (other_area v.log.area)) old new
    → ShowsSameOutside (InLogArea v.log.geometry (other_area v.log.area)) old.shown new.shown → UnsyncedIn (λ _. ⊥) new → IsOpen (cleared v) d new
cleared-open v d old new o fits run shows sure =
    let same = clearing-stays v d old new o fits run in
    let now : ShownNow new = same.shows o.rest.image o.rest.shown o.rest.tells in
    let outside = shown-same (InLogArea v.log.geometry (other_area v.log.area)) old new o.rest.image shows o.rest.shown now in
    let outside' = subst (λ k. SameOutside (InLogArea v.named.geometry (other_area k)) o.rest.image now.image) fits.area (subst (λ g. SameOutside (InLogArea g (other_area v.log.area)) o.rest.image now.image) fits.geometry outside) in
    let fresh = log-extents v.named.geometry v.named.manifest.header.log_area o.rest.image now.image (reserved_by v.work) fits.area_small outside' in
    let ready : IsReady v d o.groups now.image = same-ready v d o.groups fits.flags o.rest.image now.image fits.area fits.suits (same.now now.image now.tells) fresh (open-ready v d old o) in
    let steady = open-steady v d old o in
    open-from (cleared v) d new o.groups now (record { slots = steady.slots; memory = steady.memory }) (record { names = ready.names; stands = ready.stands; log = ready.log; filters = ready.filters; work = ready.work })
    (sure-agrees (λ n. IsTrue (is_free_block v.named n)) new now sure)

-- ---- tables in free extents

free-block : (m : Named) (work : WorkView) (numbers : List ℕ) → AreFree m work numbers → (n : ℕ) → InExtents m.geometry numbers n → IsTrue (is_free_block m n)
free-block m work numbers free n inside =
    let below : inside.number < m.manifest.header.extents = free.below inside.number inside.among in
    let from = inside.from in
    let to = inside.to in
    let at : (n - extent_block m.geometry 0) / 65 ≡ inside.number = omega arith in
    let low : extent_block m.geometry 0 ≤ n = omega arith in
    let unnamed : is_in ((n - extent_block m.geometry 0) / 65) (named m.manifest.trie) ≡ false = ap (λ x. is_in x (named m.manifest.trie)) at ∙ free.unnamed inside.number inside.among in
    let small : (n - extent_block m.geometry 0) / 65 < m.manifest.header.extents = omega arith in
    rw unnamed (grind arith)

-- the filters of other extents are kept
abbrev pub KeepsOthers : List ℕ → List (Option (List ℕ)) → List (Option (List ℕ)) → Type 0
KeepsOthers numbers old new = (x : ℕ) → is_in x numbers ≡ false → slice_index_or new x None ≡ slice_index_or old x None

kept-filters : (g : Geometry) (numbers : List ℕ) (old new : List (Option (List ℕ))) (image : Image) (xs : List ℕ) → KeepsOthers numbers old new → AllByRecursion (λ x. is_in x numbers ≡ false) xs
    → AllByRecursion (KeepsFilter g old image) xs → AllByRecursion (KeepsFilter g new image) xs
kept-filters g numbers old new image [] others apart kept = tt
kept-filters g numbers old new image (x ∷ xs) others apart kept = (others x apart.0 ∙ kept.0, kept-filters g numbers old new image xs others apart.1 kept.1)

-- free extents are not those of the inner tables
inner-apart : (m : Named) (work : WorkView) (numbers : List ℕ) → AreFree m work numbers → AllByRecursion (λ x. is_in x numbers ≡ false) (inner_of m)
inner-apart m work numbers free =
    inner-named (λ x. is_in x numbers ≡ false) m.geometry.levels m.manifest.trie
    (within_all (λ x. is_in x numbers ≡ false) (named m.manifest.trie) (named m.manifest.trie) (λ x there. by_number x there (is_in x numbers) refl) (λ x there. there))
  where
    by_number : (x : ℕ) → is_in x (named m.manifest.trie) ≡ true → (b : Bool) → is_in x numbers ≡ b → is_in x numbers ≡ false
    by_number x there true is = absurd (true≢false (sym there ∙ free.unnamed x is))
    by_number x there false is = is

abbrev pub with_kept : StoreView → List (Option (List ℕ)) → StoreView
with_kept v kept = record v { kept = kept }

pub building-stays : (v : StoreView) (d : State) (numbers : List ℕ) (old new : told.State) (o : IsOpen v d old) → Fits v → AreFree v.named v.work numbers → ConfinedTo (InExtents v.named.geometry numbers) old new → Leaves (λ left. Same v.named o.rest.image left) old new
building-stays v d numbers old new o fits free run = keeps-same v d (InExtents v.named.geometry numbers) old new o run (λ a b names same. same-unnamed v.named numbers a b fits.area_small free.unnamed same)

-- whatever was written there, the store is open as before
pub built-open : (v : StoreView) (d : State) (numbers : List ℕ) (kept : List (Option (List ℕ))) (old new : told.State) (o : IsOpen v d old) → Fits v → AreFree v.named v.work numbers → KeepsOthers numbers v.kept kept → ConfinedTo (InExtents v.named.geometry numbers) old new
    → ShowsSameOutside (InExtents v.named.geometry numbers) old.shown new.shown → IsOpen (with_kept v kept) d new
built-open v d numbers kept old new o fits free others run shows =
    let free_blocks : ℕ → Type 0 = λ n. IsTrue (is_free_block v.named n) in
    let base : Image = o.rest.image in
    let same = building-stays v d numbers old new o fits free run in
    let now : ShownNow new = same.shows base o.rest.shown o.rest.tells in
    let fresh = other-extents v.named.geometry numbers (reserved_by v.work) base now.image free.unreserved (shown-same (InExtents v.named.geometry numbers) old new base shows o.rest.shown now) in
    let ready : IsReady v d o.groups now.image = same-ready v d o.groups fits.flags base now.image fits.area fits.suits (same.now now.image now.tells) fresh (open-ready v d old o) in
    let near = λ (left : Image) (may : MayLeave new left).
    let n = run.now left may in
    same_outside_widens _ free_blocks base left (λ k either. ⊎_elim (λ f. f) (free-block v.named v.work numbers free k) either) (same_outside_joins free_blocks (InExtents v.named.geometry numbers) base n.image left (open-agrees v d old o n.image n.was) n.same) in
    let steady = open-steady v d old o in
    open-from (with_kept v kept) d new o.groups now (record { slots = steady.slots; memory = steady.memory })
    (record {
      names = ready.names;
      stands = ready.stands;
      log = ready.log;
      filters = kept-filters v.named.geometry numbers v.kept kept now.image (inner_of v.named) others (inner-apart v.named v.work numbers free) ready.filters;
      work = ready.work;
    })
    (λ left may. same_outside_apart free_blocks base now.image left (near now.image now.tells) (near left may))

-- ---- the manifest

pub stands-sound : (image : Image) (d : State) (o : Opened) → open_image image ≡ Ok o → Stands image d → bad_blocks o image ≡ []
stands-sound image d o opens stands =
    let both_open : ◌≡◌ {A = Result Opened ℕ} (Ok stands.opened) (Ok o) = sym stands.opens ∙ opens in
    let is : stands.opened ≡ o = cc in
    subst (λ (o : Opened). bad_blocks o image ≡ []) is stands.sound

pub each_all : (P : ℕ → Type 0) (xs : List ℕ) → ((x : ℕ) → P x) → AllByRecursion P xs
each_all P [] each = tt
each_all P (x ∷ xs) each = (each x, each_all P xs each)

-- all behind the manifest's blocks is the same
behind-manifest : (a b : Image) → SameOutside InManifest a b → (n : ℕ) → 868 ≤ n → block_at b n ≡ block_at a n
behind-manifest a b same n high = same.others n (λ inside. absurd (let to = inside.1 in omega arith))

behind-extents : (g : Geometry) (a b : Image) → SameOutside InManifest a b → (x c : ℕ) → block_at b (extent_block g x + c) ≡ block_at a (extent_block g x + c)
behind-extents g a b same x c = behind-manifest a b same (extent_block g x + c) (omega arith)

-- tables stand as they were
pub placed-behind : (g : Geometry) (a b : Image) (numbers : List ℕ) (parts : List (List Item)) → SameOutside InManifest a b → PlacedIn g a numbers parts → PlacedIn g b numbers parts
placed-behind g a b numbers parts same placed =
    let extents : ◌≡◌ {A = ℕ → ℕ → List ℕ} (extent_at g a) (extent_at g b) = λ i x c. sym (behind-extents g a b same x c) i in
    subst (λ (f : ℕ → ℕ → List ℕ). AllZip (λ x items. IsPlaced items (f x)) numbers parts) extents placed

same_named : (m : Named) (a b : Image) → SameOutside InManifest a b → SameNamed m a b
same_named m a b same = record {
  log = λ n low high. behind-manifest a b same n (omega arith);
  kept = each_all (SameExtent m.geometry a b) (named m.manifest.trie) (λ x c small. behind-extents m.geometry a b same x c);
}

module _ (v : StoreView) (d : State) (old new : told.State) (o : IsOpen v d old) (fits : Fits v) (numbers : List ℕ) (header : Header)
    (idle : v.log.pending ≡ []) (other : header.log_area ≡ other_area v.named.manifest.header.log_area) (writes : header.writes ≡ v.named.manifest.header.writes + length v.memory)
    (clear : HasLog v.named.geometry (other_area v.named.manifest.header.log_area) header.writes [] o.rest.image)
    (placed : PlacedIn v.named.geometry o.rest.image numbers (cut (newest v.memory))) where
  after : Manifest
  after = after_commit v.named.manifest (flush numbers) header

  memory_is : v.memory ≡ items_in o.groups
  memory_is = o.memory ∙ ap (λ xs. items_in o.groups ++ xs) idle ∙ append-nil (items_in o.groups)

  before : Opened
  before = record { named = v.named; groups = o.groups }

  -- an image with the new manifest, behind which all is as it was shown
  pub new-stands : (area : ℕ) (left : Image) → HasNew (record { geometry = v.named.geometry; area = area; manifest = after_commit v.named.manifest (flush numbers) header }) o.rest.image left → Stands left d
  new-stands area left has =
      let shown : Image = o.rest.image in
      let g : Geometry = v.named.geometry in
      let n : Named = record { geometry = g; area = area; manifest = after_commit v.named.manifest (flush numbers) header } in
      let p : Opened = record { named = n; groups = [] } in
      let b : Opened = record { named = v.named; groups = o.groups } in
      let log : HasLog g (other_area v.named.manifest.header.log_area) header.writes [] left = has_log-local g (other_area v.named.manifest.header.log_area) header.writes [] shown left (λ k inside. behind-manifest shown left has.same k (let from = inside.0 in omega arith)) clear in
      let log' : HasLog g header.log_area header.writes [] left = subst (λ k. HasLog g k header.writes [] left) (sym other) log in
      let opens : open_image left ≡ Ok p = is-opens left p has.names.read log'.read in
      let placed_there : PlacedIn g left numbers (cut (newest v.memory)) = placed-behind g shown left numbers (cut (newest v.memory)) has.same placed in
      let placed_log : PlacedIn g left numbers (cut (newest (log_items b))) = subst (λ xs. PlacedIn g left numbers (cut (newest xs))) memory_is placed_there in
      let follows : Follows b p shown left (flush numbers) = record { geometry = refl; trie = refl; kept = (same_named v.named shown left has.same).kept } in
      let count : header.writes ≡ v.named.manifest.header.writes + length (items_in o.groups) = writes ∙ ap (λ xs. v.named.manifest.header.writes + length xs) memory_is in
      let number : number_of p ≡ number_of b = omega (arith, count) in
      let stands = o.rest.each shown o.rest.tells in
      flush-stands shown left b p numbers d (open-image v d old o fits.area fits.start) opens stands
      (flushes shown left b p numbers (open-image v d old o fits.area fits.start) (stands-sound shown d b (open-image v d old o fits.area fits.start) stands) follows placed_log refl number) number

  -- an image with the manifest as it was
  pub old-stands : (image left : Image) → MayLeave old image → SameOutside InManifest image left → Names v.named left → Stands left d
  old-stands image left may same names =
      local-stands image left v.named d (same-names-at image may) names.read (same_named v.named image left same) (o.rest.each image may)
    where
      same-names-at : (image : Image) → MayLeave old image → manifest_of image ≡ Ok v.named
      same-names-at image may = (same-names v.named o.rest.image image (open-same v d old o image may) (open-names v d old o)).read

  pub commit-stays : Leaves (HasOldOrNew v.named (after_commit v.named.manifest (flush numbers) header) o.rest.image) old new → ConfinedTo InManifest old new → Stays d old new
  commit-stays run inside = weakens (both run inside) (λ left has. ⊎_elim
      (λ names. old-stands has.1.image left has.1.was has.1.same names)
      (λ there. new-stands there.0 left there.1)
      has.0.either)

  commit_open : (area : ℕ) → Leaves (HasOldOrNew v.named (after_commit v.named.manifest (flush numbers) header) o.rest.image) old new
      → ((left : Image) → MayLeave new left → HasNew (record { geometry = v.named.geometry; area = area; manifest = after_commit v.named.manifest (flush numbers) header }) o.rest.image left)
      → UnsyncedIn (λ _. ⊥) new → AllByRecursion (KeepsFilter v.named.geometry v.kept o.rest.image) numbers
      → IsOpen (flushed v (record { geometry = v.named.geometry; area = area; manifest = after_commit v.named.manifest (flush numbers) header }) header) d new
  commit_open area run each sure kept =
      let shown : Image = o.rest.image in
      let g : Geometry = v.named.geometry in
      let n : Named = record { geometry = g; area = area; manifest = after_commit v.named.manifest (flush numbers) header } in
      let now : ShownNow new = run.shows shown o.rest.shown o.rest.tells in
      let has : HasNew n shown now.image = each now.image now.tells in
      let log : HasLog g (other_area v.named.manifest.header.log_area) header.writes [] now.image = has_log-local g (other_area v.named.manifest.header.log_area) header.writes [] shown now.image (λ k inside. behind-manifest shown now.image has.same k (let from = inside.0 in omega arith)) clear in
      let log' : HasLog g (other_area v.log.area) header.writes [] now.image = subst (λ k. HasLog g (other_area k) header.writes [] now.image) (sym fits.area) log in
      let extents : ◌≡◌ {A = ℕ → ℕ → List ℕ} (extent_at g shown) (extent_at g now.image) = λ i x c. sym (behind-extents g shown now.image has.same x c) i in
      let all : AllByRecursion (KeepsFilter g v.kept shown) (inner_of n) = inner-flush (KeepsFilter g v.kept shown) g.levels v.named.manifest.trie numbers o.filters kept in
      let filters : AllByRecursion (KeepsFilter g v.kept now.image) (inner_of n) = subst (λ (f : ℕ → ℕ → List ℕ). AllByRecursion (λ x. slice_index_or v.kept x None ≡ Some (f x 64)) (inner_of n)) extents all in
      let work : IsTrueOn n now.image (flushed_work v.work) =
      flushed-true v.named n shown now.image fits.flags numbers v.work fits.deep refl refl fits.suits (same_named v.named shown now.image has.same).kept (each_all (SameExtent g shown now.image) (reserved_by v.work) (λ x c small. behind-extents g shown now.image has.same x c)) o.work in
      open-from (flushed v n header) d new [] now
      (record { slots = refl; memory = refl })
      (record { names = has.names; stands = new-stands area now.image has; log = log'; filters = filters; work = work })
      (sure-agrees (λ k. IsTrue (is_free_block n k)) new now sure)

  -- after the commit the store is open on the new manifest
  pub flushed-open : (n : Named) → n.geometry ≡ v.named.geometry → n.manifest ≡ after_commit v.named.manifest (flush numbers) header
      → Leaves (HasOldOrNew v.named (after_commit v.named.manifest (flush numbers) header) o.rest.image) old new
      → ((left : Image) → MayLeave new left → HasNew n o.rest.image left) → UnsyncedIn (λ _. ⊥) new → AllByRecursion (KeepsFilter v.named.geometry v.kept o.rest.image) numbers → IsOpen (flushed v n header) d new
  flushed-open n geometry manifest run each sure kept =
      let is : ◌≡◌ {A = Named} n (record { geometry = v.named.geometry; area = n.area; manifest = after_commit v.named.manifest (flush numbers) header }) = λ i. record { geometry = geometry i; area = n.area; manifest = manifest i } in
      subst (λ (n : Named). IsOpen (flushed v n header) d new) (sym is)
      (commit_open n.area run (λ left may. subst (λ (n : Named). HasNew n o.rest.image left) is (each left may)) sure kept)

-- the store in memory after a flush
pub flushed-view : (v : StoreView) (n : Named) (header : Header) (log : LogState) (memory : List Item) (work : WorkView) → v.log.pending ≡ [] → log ≡ record v.log { area = other_area v.log.area; writes = header.writes; slots = 0; cleared = false } → memory ≡ [] → work ≡ flushed_work v.work
    → record v { named = n; log = log; memory = memory; work = work } ≡ flushed v n header
flushed-view v n header log memory work idle is none same =
    let log_is : log ≡ flushed_log v.log header = is ∙ (λ i. record v.log { area = other_area v.log.area; writes = header.writes; slots = 0; pending = idle i; cleared = false }) in
    λ i. record v { named = n; log = log_is i; memory = none i; work = same i }

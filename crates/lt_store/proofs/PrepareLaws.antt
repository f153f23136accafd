-- What a flush has before its manifest is committed.
use Rattle.std.proofs.Common.{◌≡◌, ℕ, zero, suc, ◌+◌, ◌<◌, ◌≤◌, refl, subst, Bool, true, not, ◌&&◌, List, [], ◌∷◌, length, Some, arith}
use Rattle.std.specs.Prelude.{nat_le, nat_lt, ◌==◌}
use Rattle.std.specs.List.{AllByRecursion, AllZip, list_all}
use Rattle.std.proofs.lemmas.Bool.{and_from, le-leb, lt-ltb, eq-eqb, not_from_false}
use Rattle.lt_terms.specs.Bytes.{Image}
use Rattle.lt_terms.specs.Items.{Item}
use Rattle.lt_device.specs.State as told
use Rattle.lt_device.specs.Moments.{MayLeave, IsNear, ConfinedTo}
use Rattle.lt_device.proofs.Runs.{joins}
use Rattle.lt_language.specs.Machine.{State}
use Rattle.lt_tables.specs.Cut.{cut}
use Rattle.lt_terms.specs.Bytes.{is_in}
use Rattle.lt_terms.proofs.AmongLaws.{in_first, in_right}
use Rattle.lt_tables.specs.Table.{newest}
use Rattle.lt_format.specs.declared.geometry.Geometry.{Geometry}
use Rattle.lt_format.specs.declared.header.Header.{Header}
use Rattle.lt_format.specs.Changes.{flush, fits, are_new}
use Rattle.lt_format.specs.Snapshot.{Named, may_commit, log_moves}
use Rattle.lt_format.specs.Trie.{Trie, named, all_distinct, all_below}
use Rattle.lt_redo.specs.LogState.{other_area}
use Rattle.lt_redo.specs.Slots.{HasLog, InLogArea}
use Rattle.lt_redo.proofs.AreaLaws.{has_log-local}
use Rattle.lt_image.specs.After.{PlacedIn}
use Rattle.lt_search.specs.Kept.{KeepsFilter}
use Rattle.lt_work.specs.Work.{WorkView}
use Rattle.lt_store.specs.Building.{InExtents, HasTable}
use Rattle.lt_store.specs.Flushing.{Stays, AreFree, IsPrepared}
use Rattle.lt_store.specs.Open.{IsOpen, StoreView}
use Rattle.lt_store.proofs.FlushLaws.{Fits, with_kept}

-- ---- the change fits

each-in : (test : ℕ → Bool) (xs : List ℕ) → ((x : ℕ) → is_in x xs ≡ true → test x ≡ true) → list_all test xs ≡ true
each-in test [] each = refl
each-in test (x ∷ xs) each = and_from (test x) (list_all test xs) (each x (in_first x xs)) (each-in test xs (λ y there. each y (in_right y (x ∷ []) xs there)))

pub free-below : (n : Named) (work : WorkView) (numbers : List ℕ) (limit : ℕ) → AreFree n work numbers → limit ≡ n.manifest.header.extents → all_below limit numbers ≡ true
free-below n work numbers limit free is = each-in (λ x. nat_lt x limit) numbers (λ x there. lt-ltb x limit (let below = free.below x there in omega arith))

pub may-flush : (n : Named) (work : WorkView) (numbers : List ℕ) (header : Header) → AreFree n work numbers → all_distinct numbers ≡ true → 1 ≤ length numbers → n.manifest.header.extents ≤ 65536 → header.extents ≡ n.manifest.header.extents
    → header.log_area + n.manifest.header.log_area ≡ 1 → n.manifest.header.writes ≤ header.writes → may_commit n.geometry.levels n.manifest (flush numbers) header ≡ true
unfolding fits
may-flush n work numbers header free distinct some few extents areas writes =
    let trie : Trie = n.manifest.trie in
    let new : are_new 65536 trie numbers ≡ true = and_from (all_distinct numbers && all_below 65536 numbers) (list_all (λ x. not (is_in x (named trie))) numbers)
    (and_from (all_distinct numbers) (all_below 65536 numbers) distinct (each-in (λ x. nat_lt x 65536) numbers (λ x there. lt-ltb x 65536 (let below = free.below x there in omega arith))))
    (each-in (λ x. not (is_in x (named trie))) numbers (λ x there. not_from_false _ (free.unnamed x there))) in
    let fit : fits n.geometry.levels trie (flush numbers) ≡ true = and_from (are_new 65536 trie numbers) (nat_le 1 (length numbers)) new (le-leb 1 (length numbers) some) in
    let below : all_below n.manifest.header.extents numbers ≡ true = free-below n work numbers n.manifest.header.extents free refl in
    let moves : log_moves (flush numbers) n.manifest.header header ≡ true = and_from (header.log_area + n.manifest.header.log_area == 1) (nat_le n.manifest.header.writes header.writes) (eq-eqb _ 1 areas) (le-leb _ _ writes) in
    and_from (fits n.geometry.levels trie (flush numbers) && all_below n.manifest.header.extents numbers && header.extents == n.manifest.header.extents) (log_moves (flush numbers) n.manifest.header header)
    (and_from (fits n.geometry.levels trie (flush numbers) && all_below n.manifest.header.extents numbers) (header.extents == n.manifest.header.extents)
    (and_from (fits n.geometry.levels trie (flush numbers)) (all_below n.manifest.header.extents numbers) fit below) (eq-eqb _ _ extents)) moves

-- ---- the image that the commit begins with

placed-all : (g : Geometry) (kept : _) (image : Image) (numbers : List ℕ) (parts : List (List Item)) → AllZip (HasTable g kept image) numbers parts → PlacedIn g image numbers parts
placed-all g kept image [] [] all = tt
placed-all g kept image [] (p ∷ ps) all = all
placed-all g kept image (x ∷ xs) [] all = all
placed-all g kept image (x ∷ xs) (p ∷ ps) all = (all.0.placed, placed-all g kept image xs ps all.1)

filters-all : (g : Geometry) (kept : _) (image : Image) (numbers : List ℕ) (parts : List (List Item)) → AllZip (HasTable g kept image) numbers parts → AllByRecursion (KeepsFilter g kept image) numbers
filters-all g kept image [] parts all = tt
filters-all g kept image (x ∷ xs) [] all = absurd all
filters-all g kept image (x ∷ xs) (p ∷ ps) all = (all.0.filter, filters-all g kept image xs ps all.1)

-- the log areas lie before the extents
before-extents : (g : Geometry) (area : ℕ) (numbers : List ℕ) (n : ℕ) → area < 2 → InLogArea g area n → InExtents g numbers n → ⊥
before-extents g zero numbers n small inside there = let from = there.from in let to = inside.1 in omega arith
before-extents g (suc zero) numbers n small inside there = let from = there.from in let to = inside.1 in omega arith
before-extents g (suc (suc a)) numbers n small inside there = absurd (omega arith)

other-small : (area : ℕ) → area < 2 → other_area area < 2
other-small area small = omega arith

-- the other log area is empty in each image, by the names that the manifest gives
pub empty-there : (v : StoreView) (s : told.State) → Fits v → ((writes : ℕ) (left : Image) → MayLeave s left → HasLog v.log.geometry (other_area v.log.area) writes [] left)
    → (writes : ℕ) (left : Image) → MayLeave s left → HasLog v.named.geometry (other_area v.named.manifest.header.log_area) writes [] left
empty-there v s fits empty writes left may =
    subst (λ k. HasLog v.named.geometry (other_area k) writes [] left) fits.area (subst (λ h. HasLog h (other_area v.log.area) writes [] left) fits.geometry (empty writes left may))

pub prepared : (v : StoreView) (d : State) (numbers : List ℕ) (parts : List (List Item)) (kept : _) (old new : told.State) (o : IsOpen v d old) (p : IsOpen (with_kept v kept) d new) → v.named.manifest.header.log_area < 2 → ConfinedTo (InExtents v.named.geometry numbers) old new
    → ((writes : ℕ) (left : Image) → MayLeave old left → HasLog v.named.geometry (other_area v.named.manifest.header.log_area) writes [] left)
    → ((before image : Image) → old.shown ≡ Some before → new.shown ≡ Some image → AllZip (HasTable v.named.geometry kept image) numbers parts) → parts ≡ cut (newest v.memory) → IsPrepared (with_kept v kept) numbers p.rest.image
prepared v d numbers parts kept old new o p small run empty built are =
    let g : Geometry = v.named.geometry in
    let area : ℕ = v.named.manifest.header.log_area in
    let image : Image = p.rest.image in
    let near : IsNear (InExtents g numbers) old image = run.now image p.rest.tells in
    let tables = built o.rest.image image o.rest.shown p.rest.shown in
    record {
      clear = has_log-local g (other_area area) v.writes [] near.image image (λ n inside. near.same.others n (λ extent. before-extents g (other_area area) numbers n (other-small area small) inside extent)) (empty v.writes near.image near.was);
      placed = subst (λ ps. PlacedIn g image numbers ps) are (placed-all g kept image numbers parts tables);
      filters = filters-all g kept image numbers parts tables;
    }

-- one call that keeps what the images stand for behind another
pub stays-joins : (d : State) (old mid new : told.State) → Stays d mid new → Stays d old mid → Stays d old new
stays-joins d old mid new then first = joins then first (λ left stands. stands)

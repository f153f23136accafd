-- What opening reads of an image, part by part.
use Rattle.std.proofs.Common.{◌≡◌, ℕ, zero, suc, ◌+◌, ◌*◌, ◌<◌, ◌≤◌, refl, sym, ap, subst, ◌∙◌, List, ◌++◌, length, true, Option, Ok, Err, Result, arith, append-nil}
use Rattle.std.specs.List.{AllByRecursion}
use Rattle.std.specs.Option.{ForSome}
use Rattle.std.specs.Prelude.{nat_le, ◌&&◌}
use Rattle.std.proofs.lemmas.Bool.{and_parts, leb-true}
use Rattle.lt_terms.specs.Bytes.{Image}
use Rattle.lt_terms.specs.Items.{Item}
use Rattle.lt_device.specs.State as told
use Rattle.lt_device.specs.Reads.{CountsAtMost}
use Rattle.lt_language.specs.Machine.{State}
use Rattle.lt_format.specs.declared.geometry.Geometry.{Geometry}
use Rattle.lt_format.specs.Layout.{is_geometry, log_gate, extent_block, blocks_needed}
use Rattle.lt_format.specs.Log.{log_groups, items_in}
use Rattle.lt_format.specs.Snapshot.{Named, geometry_in, manifest_in, manifest_of, Manifest, IsManifest, extents_stand, ◌>>=◌}
use Rattle.lt_format.specs.Trie.{named}
use Rattle.lt_format.proofs.Numbers.{length-distinct}
use Rattle.lt_format.proofs.ReadLaws.{ok_same}
use Rattle.lt_manifest.specs.Promise.{InSnapshot}
use Rattle.lt_redo.specs.LogState.{LogState}
use Rattle.lt_redo.specs.Opening.{HasItems}
use Rattle.lt_redo.specs.Slots.{InLogArea}
use Rattle.lt_image.specs.Versions.{open_image}
use Rattle.lt_image.proofs.OpenLaws.{opens-is}
use Rattle.lt_search.specs.Kept.{KeepsFilter}
use Rattle.lt_search.specs.Kept.{KeepsExactly, inner_tables}
use Rattle.lt_search.proofs.KeepLaws.{inner-few}
use Rattle.lt_work.specs.Work.{IsTrueOn}
use Rattle.lt_work.proofs.OutlastLaws.{rest-true}
use Rattle.lt_store.specs.Open.{StoreView, IsOpen, blocks_of, inner_of}
use Rattle.lt_store.specs.Promise.{AtRest}
use Rattle.lt_store.specs.Reading.{Reads, IsBelowExtents, Assembles, log_at}

-- ---- the manifest

pub no_geometry : (image : Image) (b : ℕ) → geometry_in image ≡ Err b → manifest_of image ≡ Err b
unfolding manifest_of
no_geometry image b is = ap (λ (r : Result Geometry ℕ). r >>= (λ g. manifest_in g image)) is

pub geometry-manifest : (image : Image) (g : Geometry) (r : Result Named ℕ) → geometry_in image ≡ Ok g → manifest_in g image ≡ r → manifest_of image ≡ r
unfolding manifest_of
geometry-manifest image g r is then = ap (λ (r : Result Geometry ℕ). r >>= (λ g. manifest_in g image)) is ∙ then

-- ---- the log

abbrev log_of : Image → Named → Result (List (List Item)) ℕ
log_of image n = log_groups n.geometry image n.manifest.header.log_area n.manifest.header.writes

pub no_manifest : (image : Image) (b : ℕ) → manifest_of image ≡ Err b → open_image image ≡ Err b
unfolding open_image
no_manifest image b is = ap (λ (r : Result Named ℕ). r >>= (λ n. log_of image n >>= (λ groups. Ok (record { named = n; groups = groups })))) is

pub no_log : (image : Image) (n : Named) (b : ℕ) → manifest_of image ≡ Ok n → log_groups n.geometry image n.manifest.header.log_area n.manifest.header.writes ≡ Err b → open_image image ≡ Err b
unfolding open_image
no_log image n b is damaged =
    ap (λ (r : Result Named ℕ). r >>= (λ n. log_of image n >>= (λ groups. Ok (record { named = n; groups = groups })))) is
    ∙ ap (λ (r : Result (List (List Item)) ℕ). r >>= (λ groups. Ok (record { named = n; groups = groups }))) damaged

pub opens : (image : Image) (n : Named) (groups : List (List Item)) → manifest_of image ≡ Ok n → log_groups n.geometry image n.manifest.header.log_area n.manifest.header.writes ≡ Ok groups → open_image image ≡ Ok (record { named = n; groups = groups })
unfolding open_image
opens image n groups is read =
    ap (λ (r : Result Named ℕ). r >>= (λ n. log_of image n >>= (λ groups. Ok (record { named = n; groups = groups })))) is
    ∙ ap (λ (r : Result (List (List Item)) ℕ). r >>= (λ groups. Ok (record { named = n; groups = groups }))) read

-- ---- at rest

pub not_both : {A : Type 0} (r : Result A ℕ) (a : A) (b : ℕ) → r ≡ Ok a → r ≡ Err b → ⊥
not_both r a b ok err = cc

-- on a device at rest nothing is damaged
pub rest-whole : (s : State) (d : told.State) (b : ℕ) → AtRest s d → ForSome d.shown (λ image. open_image image ≡ Err b) → ⊥
rest-whole s d b r damaged =
    let stands = r.each r.image r.tells in
    not_both (open_image r.image) stands.opened b stands.opens (damaged r.image r.shown)

same_log : (g h : Geometry) (image : Image) (a b w x : ℕ) → g ≡ h → a ≡ b → w ≡ x → log_groups g image a w ≡ log_groups h image b x
same_log g h image a b w x e f k = ap (λ z. log_groups z image a w) e ∙ ap (λ z. log_groups h image z w) f ∙ ap (λ z. log_groups h image b z) k

-- a store that is what its device's blocks open as has the manifest at rest
pub rest-named : (v : StoreView) (s : State) (d : told.State) (r : AtRest s d) → ForSome d.shown (Reads v) → r.named ≡ v.named
rest-named v s d r reads =
    let q : Reads v r.image = reads r.image r.shown in
    let parts = opens-is r.image q.opened q.opens in
    ok_same r.named q.opened.named (sym r.names.read ∙ parts.named) ∙ sym q.named_is

-- and is open on a device at rest
pub rest-open : (v : StoreView) (s : State) (d : told.State) (r : AtRest s d) → ForSome d.shown (Reads v) → IsOpen v s d
rest-open v s d r reads =
    let q : Reads v r.image = reads r.image r.shown in
    let parts = opens-is r.image q.opened q.opens in
    let here : r.named ≡ v.named = rest-named v s d r reads in
    record {
      rest = r;
      named = here;
      groups = q.opened.groups;
      log = record {
        read = same_log v.named.geometry q.opened.named.geometry r.image v.log.area q.opened.named.manifest.header.log_area v.log.writes q.opened.named.manifest.header.writes
            (ap (λ n. n.geometry) q.named_is) (ap (λ l. l.area) q.log) (ap (λ l. l.writes) q.log) ∙ parts.log;
      };
      slots = ap (λ l. l.slots) q.log;
      memory = q.memory ∙ sym (append-nil (items_in q.opened.groups)) ∙ ap (λ xs. items_in q.opened.groups ++ xs) (sym (ap (λ l. l.pending) q.log));
      filters = subst (λ n. AllByRecursion (KeepsFilter n.geometry v.kept r.image) (inner_of n)) (sym q.named_is) q.filters.each;
      work = subst (IsTrueOn v.named r.image) (sym q.work) (rest-true v.named r.image);
    }

-- ---- where damage lies

pub snapshot-below : (b : ℕ) → InSnapshot b → b < 868
snapshot-below b inside = let a = inside.area_is in omega (arith, inside.last)

-- the blocks of a log area lie below the extents
pub log-below : (g : Geometry) (area b : ℕ) → area < 2 → InLogArea g area b → b < extent_block g 0
log-below g area b low inside = log_end g area b low inside.1
  where
    log_end : (g : Geometry) (area b : ℕ) → area < 2 → b < log_gate g area g.slots → b < extent_block g 0
    log_end g zero b low below = omega (arith, below)
    log_end g (suc zero) b low below = omega (arith, below)
    log_end g (suc (suc n)) b low below = absurd (omega arith)

pub low-below : (b : ℕ) → b < 868 → IsBelowExtents b
low-below b low = record { geometry = record { levels = 2; slots = 1 }; valid = refl; below = omega arith }

-- ---- the store that was read

-- the log is damaged
pub log-damaged : (image : Image) (g : Geometry) (n : Named) (b : ℕ) → n.geometry ≡ g → manifest_of image ≡ Ok n → log_groups g image n.manifest.header.log_area n.manifest.header.writes ≡ Err b → open_image image ≡ Err b
log-damaged image g n b same is damaged = no_log image n b is (subst (λ q. log_groups q image n.manifest.header.log_area n.manifest.header.writes ≡ Err b) (sym same) damaged)

pub assembled-reads : (image : Image) (g : Geometry) (n : Named) (log : LogState) (items all : List Item) (kept : List (Option (List ℕ))) (v : StoreView) → n.geometry ≡ g → manifest_of image ≡ Ok n → log ≡ log_at n log.slots → HasItems g n.manifest.header.log_area n.manifest.header.writes log.slots items image → all ≡ items → KeepsExactly g kept (inner_of n) image
    → Assembles n log all kept v → Reads v image
assembled-reads image g n log items all kept v same is log_is has items_is filters a =
    let read : log_groups n.geometry image n.manifest.header.log_area n.manifest.header.writes ≡ Ok has.groups = subst (λ q. log_groups q image n.manifest.header.log_area n.manifest.header.writes ≡ Ok has.groups) (sym same) has.log.read in
    let whole : all ≡ items_in has.groups = items_is ∙ has.items_is in
    record {
      opened = record { named = n; groups = has.groups };
      opens = opens image n has.groups is read;
      named_is = a.named_is;
      log = a.log_is ∙ log_is ∙ ap (log_at n) has.slots_is;
      memory = a.memory ∙ whole;
      writes = a.writes ∙ ap (λ (xs : List Item). n.manifest.header.writes + length xs) whole;
      taken_named = a.taken_named;
      filters = subst (λ q. KeepsExactly q v.kept (inner_of n) image) (sym same) (subst (λ f. KeepsExactly g f (inner_of n) image) (sym a.kept_is) filters);
      work = a.work_is;
    }

-- ---- how many blocks are read

pub counts-more : {a b r s t : ℕ} (n : ℕ) → CountsAtMost a r s → CountsAtMost b s t → a + b ≤ n → CountsAtMost n r t
counts-more n first next few = record {
  later = omega (arith, first.later, next.later);
  at_most = omega (arith, first.later, first.at_most, next.later, next.at_most);
}

pub few-slots : (g : Geometry) → is_geometry g ≡ true → g.slots ≤ 512
few-slots g valid =
    let parts = and_parts (nat_le 2 g.levels && nat_le g.levels 5 && nat_le 1 g.slots) (nat_le g.slots 512) valid in
    leb-true g.slots 512 parts.1

-- a number of extents that stands is small, and the device has room for them
pub stands-few : (g : Geometry) (blocks e : ℕ) → extents_stand g blocks e ≡ true → e ≤ 65536
stands-few g blocks e stands =
    let parts = and_parts (nat_le 1 e && nat_le e 65536) (nat_le (blocks_needed g e) blocks) stands in
    leb-true e 65536 (and_parts (nat_le 1 e) (nat_le e 65536) parts.0).1

pub stands-room : (g : Geometry) (blocks e : ℕ) → extents_stand g blocks e ≡ true → blocks_needed g e ≤ blocks
stands-room g blocks e stands = leb-true _ _ (and_parts (nat_le 1 e && nat_le e 65536) (nat_le (blocks_needed g e) blocks) stands).1

-- no store has more slots and more inner tables than these
pub few-reads : (g : Geometry) (blocks : ℕ) (m : Manifest) → is_geometry g ≡ true → IsManifest g blocks m → 307 + 2 * g.slots + length (inner_tables g.levels m.trie) ≤ 307 + 2 * 512 + 65536
few-reads g blocks m valid is =
    omega (arith, few-slots g valid, inner-few g.levels m.trie, length-distinct m.header.extents (named m.trie) is.trie.distinct is.trie.below, stands-few g blocks m.header.extents is.extents)

pub assembled-room : (g : Geometry) (blocks : ℕ) (n : Named) (log : LogState) (items : List Item) (kept : List (Option (List ℕ))) (v : StoreView) → n.geometry ≡ g → IsManifest g blocks n.manifest → Assembles n log items kept v → blocks_of v ≤ blocks
assembled-room g blocks n log items kept v same is a =
    subst (λ m. blocks_needed m.geometry m.manifest.header.extents ≤ blocks) (sym a.named_is)
    (subst (λ q. blocks_needed q n.manifest.header.extents ≤ blocks) (sym same) (stands-room g blocks n.manifest.header.extents is.extents))

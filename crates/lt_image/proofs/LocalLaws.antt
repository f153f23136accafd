-- What an image stands for rests on the blocks that its manifest names.
use Rattle.std.proofs.Common.{◌≡◌, length, ℕ, zero, suc, ◌+◌, ◌*◌, ◌/◌, ◌-◌, ◌<◌, ◌≤◌, refl, sym, ap, subst, ◌∙◌, [], true, false, not, ◌&&◌, Result, Ok, arith}
use Rattle.std.specs.Prelude.{IsFalse, nat_le, nat_lt}
use Rattle.lt_terms.specs.Bytes.{Image, block_at, is_in}
use Rattle.lt_language.specs.Machine.{State}
use Rattle.std.proofs.lemmas.Bool.{lt-leb, le-leb, lt-ltb, leb-true, ltb-true, and_parts, and_from, not-true, not_from_false}
use Rattle.std.proofs.Math.Bool.{and-false}
use Rattle.lt_tables.proofs.CoverLaws.{within_itself}
use Rattle.lt_tables.proofs.ListLaws.{all_weaker}
use Rattle.lt_format.specs.Layout.{log_gate, log_content, extent_block, extent_blocks}
use Rattle.lt_format.specs.Log.{log_groups}
use Rattle.lt_format.specs.Snapshot.{◌>>=◌, Named, manifest_of}
use Rattle.lt_format.specs.Trie.{named}
use Rattle.lt_format.proofs.LocalLaws.{manifest-local, SameBlock, log_from-same}
use Rattle.lt_format.proofs.ReadLaws.{ok_same, manifest_of-named}
use Rattle.lt_image.specs.Versions.{Opened, open_image}
use Rattle.lt_image.specs.Standing.{Stands, is_free_block}
use Rattle.lt_image.specs.After.{SameExtent, SameExtents, SameNamed}
use Rattle.lt_image.proofs.OpenLaws.{opens-is}
use Rattle.lt_image.proofs.KeptLaws.{log-same}

-- ---- the log

log-slots : (m : Named) (old new : Image) → SameNamed m old new → (k : ℕ) → k < 0 + m.geometry.slots → SameBlock old new (log_gate m.geometry m.manifest.header.log_area k) × SameBlock old new (log_content m.geometry m.manifest.header.log_area k)
log-slots m old new s k small = (s.log (log_gate m.geometry m.manifest.header.log_area k) (omega arith) (omega arith), s.log (log_content m.geometry m.manifest.header.log_area k) (omega arith) (omega arith))

pub open-same : (old new : Image) (m : Named) → manifest_of old ≡ Ok m → manifest_of new ≡ Ok m → SameNamed m old new → open_image new ≡ open_image old
unfolding open_image
open-same old new m named_old named_new s =
    let read : Image → Named → Result Opened ℕ = λ image n. (log_groups n.geometry image n.manifest.header.log_area n.manifest.header.writes) >>= (λ groups. Ok (record { named = n; groups = groups })) in
    ap (λ r. r >>= read new) named_new
    ∙ ap (λ r. r >>= (λ groups. Ok (record { named = m; groups = groups }))) (log_from-same m.geometry old new m.manifest.header.log_area m.manifest.header.writes 0 m.geometry.slots [] (λ k low high. log-slots m old new s k high))
    ∙ sym (ap (λ r. r >>= read old) named_old)

pub local-stands : (old new : Image) (m : Named) (s : State) → manifest_of old ≡ Ok m → manifest_of new ≡ Ok m → SameNamed m old new → Stands old s → Stands new s
local-stands old new m s named_old named_new same st =
    let is : st.opened.named ≡ m = ok_same st.opened.named m (sym (opens-is old st.opened st.opens).named ∙ named_old) in
    log-same old new st.opened st.opened s st.opens (open-same old new m named_old named_new same ∙ st.opens)
    (record { geometry = refl; manifest = refl; kept = subst (λ n. SameExtents n.geometry old new (named n.manifest.trie)) (sym is) same.kept }) refl st

-- ---- blocks that are not free

log_end : (slots b n : ℕ) → b < 2 → n < 868 + 2 * slots * b + 2 * slots → n < 868 + 4 * slots + 65 * 0
log_end slots zero n area low = omega arith
log_end slots (suc zero) n area low = omega arith
log_end slots (suc (suc b)) n area low = absurd (omega arith)

log_not_free : (m : Named) (n : ℕ) → m.manifest.header.log_area < 2 → n < log_gate m.geometry m.manifest.header.log_area m.geometry.slots → is_free_block m n ≡ false
log_not_free m n area low =
    ap (λ t. t && nat_lt ((n - extent_block m.geometry 0) / extent_blocks) m.manifest.header.extents && not (is_in ((n - extent_block m.geometry 0) / extent_blocks) (named m.manifest.trie)))
    (lt-leb (extent_block m.geometry 0) n (log_end m.geometry.slots m.manifest.header.log_area n area low))

extent_not_free : (m : Named) (x c : ℕ) → is_in x (named m.manifest.trie) ≡ true → c < extent_blocks → is_free_block m (extent_block m.geometry x + c) ≡ false
extent_not_free m x c there small =
    let n : ℕ = extent_block m.geometry x + c in
    let number : (n - extent_block m.geometry 0) / extent_blocks ≡ x = omega arith in
    ap (λ y. nat_le (extent_block m.geometry 0) n && nat_lt y m.manifest.header.extents && not (is_in y (named m.manifest.trie))) number
    ∙ ap (λ t. nat_le (extent_block m.geometry 0) n && nat_lt x m.manifest.header.extents && not t) there
    ∙ and-false (nat_le (extent_block m.geometry 0) n && nat_lt x m.manifest.header.extents)

pub fixed_not_free : (m : Named) (n : ℕ) → n < 868 → is_free_block m n ≡ false
fixed_not_free m n low =
    ap (λ t. t && nat_lt ((n - extent_block m.geometry 0) / extent_blocks) m.manifest.header.extents && not (is_in ((n - extent_block m.geometry 0) / extent_blocks) (named m.manifest.trie)))
    (lt-leb (extent_block m.geometry 0) n (omega arith))

pub not_free-named : (old new : Image) (m : Named) → manifest_of old ≡ Ok m → ((n : ℕ) → IsFalse (is_free_block m n) → block_at old n ≡ block_at new n) → SameNamed m old new
not_free-named old new m names same = record {
  log = λ n low high. sym (same n (log_not_free m n (manifest_of-named old m names).read.area high));
  kept = all_weaker (λ x. is_in x (named m.manifest.trie) ≡ true) (SameExtent m.geometry old new)
      (λ x there c small. sym (same (extent_block m.geometry x + c) (extent_not_free m x c there small))) (named m.manifest.trie) (within_itself (named m.manifest.trie));
}

-- so an image that differs from another only in free blocks names the same
pub not_free-manifest : (old new : Image) (m : Named) → length new ≡ length old → manifest_of old ≡ Ok m → ((n : ℕ) → IsFalse (is_free_block m n) → block_at old n ≡ block_at new n) → manifest_of new ≡ Ok m
not_free-manifest old new m long names same =
    let low : (n : ℕ) → n < 868 → block_at new n ≡ block_at old n = λ n small. sym (same n (fixed_not_free m n small)) in
    manifest-local old new long low ∙ names

-- ---- free blocks

pub unnamed-free : (m : Named) (x n : ℕ) → x < m.manifest.header.extents → is_in x (named m.manifest.trie) ≡ false → extent_block m.geometry x ≤ n → n < extent_block m.geometry x + extent_blocks → is_free_block m n ≡ true
unnamed-free m x n small none low high =
    let number : (n - extent_block m.geometry 0) / extent_blocks ≡ x = omega arith in
    ap (λ y. nat_le (extent_block m.geometry 0) n && nat_lt y m.manifest.header.extents && not (is_in y (named m.manifest.trie))) number
    ∙ and_from (nat_le (extent_block m.geometry 0) n && nat_lt x m.manifest.header.extents) (not (is_in x (named m.manifest.trie)))
    (and_from (nat_le (extent_block m.geometry 0) n) (nat_lt x m.manifest.header.extents) (le-leb (extent_block m.geometry 0) n (omega arith)) (lt-ltb x m.manifest.header.extents small))
    (not_from_false (is_in x (named m.manifest.trie)) none)

pub free-unnamed : (m : Named) (n : ℕ) → is_free_block m n ≡ true → (x : ℕ) × (x < m.manifest.header.extents) × (is_in x (named m.manifest.trie) ≡ false) × (extent_block m.geometry x ≤ n) × (n < extent_block m.geometry x + extent_blocks)
free-unnamed m n h =
    let x : ℕ = (n - extent_block m.geometry 0) / extent_blocks in
    let b = and_parts (nat_le (extent_block m.geometry 0) n && nat_lt x m.manifest.header.extents) (not (is_in x (named m.manifest.trie))) h in
    let a = and_parts (nat_le (extent_block m.geometry 0) n) (nat_lt x m.manifest.header.extents) b.0 in
    let low : extent_block m.geometry 0 ≤ n = leb-true (extent_block m.geometry 0) n a.0 in
    (x, ltb-true x m.manifest.header.extents a.1, not-true (is_in x (named m.manifest.trie)) b.1, omega arith, omega arith)

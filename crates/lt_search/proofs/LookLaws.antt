-- What a look-up of a table answers: it is what is seen there, its items are valid, and a block that it calls damaged spells no bucket.
use Rattle.std.proofs.Common.{◌≡◌, ℕ, ◌+◌, ◌<◌, refl, sym, ap, subst, ◌∙◌, List, [], ◌∷◌, Bool, true, false, cond, Option, Some, None, Ok, Err, Result, true≢false}
use Rattle.std.specs.List.{find}
use Rattle.std.specs.Option.{option_and_then, option_map, option_map_or, unwrap_or}
use Rattle.std.specs.Prelude.{IsTrue, nat_le}
use Rattle.lt_terms.specs.Bytes.{Image, block_at, same_bytes}
use Rattle.lt_terms.specs.Items.{Item, is_valid}
use Rattle.lt_terms.specs.Hashes.{home_column, key_suffix}
use Rattle.lt_tables.specs.declared.Sends.{Sends}
use Rattle.lt_tables.specs.Bucket.{Bucket, Look, here, moved, absent, look_in_1, look_of, look_on, bucket_of, sent_to}
use Rattle.lt_tables.proofs.HashLaws.{home_column-small}
use Rattle.lt_tables.proofs.ValidLaws.{AllValid, items_on-valid}
use Rattle.lt_htable.specs.declared.faults.LookFault.{LookFault}
use Rattle.lt_htable.specs.declared.faults.LookFault.TheVariants.{Damaged}
use Rattle.lt_htable.specs.Reading.{IsRead, IsNoBucket, IsLookedUp, at_last, at_home, target_of}
use Rattle.lt_htable.proofs.SoughtLaws.{target-small}
use Rattle.lt_device.specs.Reads.{CountsAtMost}
use Rattle.lt_image.proofs.GroupAnswerLaws.{moved-sent}
use Rattle.lt_search.specs.declared.version.Version.{Version}
use Rattle.lt_search.specs.Found.{IsVersion}
use Rattle.lt_search.specs.Reads.{look_reads, sends_key}
use Rattle.lt_search.specs.Seen.{IsSeen, seen_in}

pub record IsDamaged (shown : Option Image) (first block : ℕ) : Type 0 where
  pub column : ℕ
  pub within : column < 64
  pub is : block ≡ first + column
  pub none : IsNoBucket shown block

no_bucket : (key : List ℕ) (o : Option Bucket) → option_map (look_in_1 key) o ≡ None → o ≡ None
no_bucket key None h = refl
no_bucket key (Some b) h = cc

damaged_at : (shown : Option Image) (first block column : ℕ) (key page : List ℕ) → column < 64 → block ≡ first + column → IsRead shown (first + column) page → look_on page key ≡ None → IsDamaged shown first block
damaged_at shown first block column key page within is read none = record {
  column = column;
  within = within;
  is = is;
  none = record { page = page; read = subst (λ n. IsRead shown n page) (sym is) read; spells_none = no_bucket key (bucket_of page) none };
}

pub looked_up-damaged : (shown : Option Image) (first : ℕ) (key : List ℕ) (block : ℕ) → IsLookedUp shown first key (Err (Damaged block)) → IsDamaged shown first block
looked_up-damaged shown first key block l = by_home (look_on l.home key) refl l.is
  where
    same : (a b : ℕ) → ◌≡◌ {A = Result (Option Item) LookFault} (Err (Damaged a)) (Err (Damaged b)) → a ≡ b
    same a b h = cc

    by_last : (c : ℕ) (o : Option Look) → look_on l.home key ≡ Some (moved c) → look_on l.target key ≡ o → Err (Damaged block) ≡ at_last (first + c) o → IsDamaged shown first block
    by_last c None sent e h = damaged_at shown first block c key l.target (target-small l.home key c sent) (same block (first + c) h) (l.target_read c sent) e
    by_last c (Some (here v)) sent e h = cc
    by_last c (Some (moved d)) sent e h = cc
    by_last c (Some absent) sent e h = cc

    by_home : (o : Option Look) → look_on l.home key ≡ o → Err (Damaged block) ≡ at_home first (home_column key) o (look_on l.target key) → IsDamaged shown first block
    by_home None e h = damaged_at shown first block (home_column key) key l.home (home_column-small key) (same block (first + home_column key) h) l.home_read e
    by_home (Some (here v)) e h = cc
    by_home (Some (moved c)) e h = by_last c (look_on l.target key) e refl h
    by_home (Some absent) e h = cc

-- ---- a look-up that answers an item read it

found_valid : (test : Item → Bool) (items : List Item) (v : Item) → AllValid items → find test items ≡ Some v → IsTrue (is_valid v)
found_valid test [] v all h = cc
found_valid test (x ∷ xs) v all h = by_test (test x) (found_valid test xs v all.1) h
  where
    one : ◌≡◌ {A = Option Item} (Some x) (Some v) → x ≡ v
    one e = cc

    by_test : (b : Bool) → (find test xs ≡ Some v → IsTrue (is_valid v)) → cond b (Some x) (find test xs) ≡ Some v → IsTrue (is_valid v)
    by_test true later e = subst (λ w. IsTrue (is_valid w)) (one e) all.0
    by_test false later e = later e

-- what a page answers is valid, whatever it holds
here_valid : (page key : List ℕ) (v : Item) → look_on page key ≡ Some (here v) → IsTrue (is_valid v)
here_valid page key v h = by_bucket (bucket_of page) (items_on-valid page) h
  where
    one : (w : Item) → ◌≡◌ {A = Option Look} (Some (here w)) (Some (here v)) → w ≡ v
    one w e = cc

    not_sent : (sends : Option Sends) (suffix : ℕ) → Some (sent_to sends suffix) ≡ Some (here v) → ⊥
    not_sent None suffix e = cc
    not_sent (Some s) suffix e = by_mark (nat_le s.mark suffix) e
      where
        by_mark : (b : Bool) → Some (cond b (moved s.target) absent) ≡ Some (here v) → ⊥
        by_mark true e = cc
        by_mark false e = cc

    by_found : (b : Bucket) (o : Option Item) → find (λ (item : Item). same_bytes item.key key) b.items ≡ o → AllValid b.items → Some (look_of o (sent_to b.sends (key_suffix key))) ≡ Some (here v) → IsTrue (is_valid v)
    by_found b None is all e = absurd (not_sent b.sends (key_suffix key) e)
    by_found b (Some w) is all e = subst (λ x. IsTrue (is_valid x)) (one w e) (found_valid (λ (item : Item). same_bytes item.key key) b.items w all is)

    by_bucket : (o : Option Bucket) → AllValid (option_map_or (λ (b : Bucket). b.items) o []) → option_map (look_in_1 key) o ≡ Some (here v) → IsTrue (is_valid v)
    by_bucket None all e = cc
    by_bucket (Some b) all e = by_found b (find (λ (item : Item). same_bytes item.key key) b.items) refl all e

pub looked_up-valid : (shown : Option Image) (first : ℕ) (key : List ℕ) (v : Item) → IsLookedUp shown first key (Ok (Some v)) → IsTrue (is_valid v)
looked_up-valid shown first key v l = by_home (look_on l.home key) refl l.is
  where
    same : (w : Item) → ◌≡◌ {A = Result (Option Item) LookFault} (Ok (Some v)) (Ok (Some w)) → w ≡ v
    same w h = cc

    by_last : (block : ℕ) (o : Option Look) → look_on l.target key ≡ o → Ok (Some v) ≡ at_last block o → IsTrue (is_valid v)
    by_last block None e h = cc
    by_last block (Some (here w)) e h = subst (λ x. IsTrue (is_valid x)) (same w h) (here_valid l.target key w e)
    by_last block (Some (moved d)) e h = cc
    by_last block (Some absent) e h = cc

    by_home : (o : Option Look) → look_on l.home key ≡ o → Ok (Some v) ≡ at_home first (home_column key) o (look_on l.target key) → IsTrue (is_valid v)
    by_home None e h = cc
    by_home (Some (here w)) e h = subst (λ x. IsTrue (is_valid x)) (same w h) (here_valid l.home key w e)
    by_home (Some (moved c)) e h = by_last (first + c) (look_on l.target key) refl h
    by_home (Some absent) e h = cc

-- ---- a look-up on a device that tells its blocks

-- it is what is seen there
pub looked-seen : (shown : Option Image) (image : Image) (first : ℕ) (key : List ℕ) (answer : Result (Option Item) LookFault) → shown ≡ Some image → IsLookedUp shown first key answer → answer ≡ seen_in image first key
looked-seen shown image first key answer told l =
    l.is ∙ by_home (look_on l.home key) refl
    ∙ ap (λ (o : Option Look). at_home first (home_column key) o (option_and_then (λ column. look_on (block_at image (first + column)) key) (target_of o))) (ap (λ page. look_on page key) (l.home_read image told))
  where
    by_home : (o : Option Look) → look_on l.home key ≡ o → at_home first (home_column key) o (look_on l.target key) ≡ at_home first (home_column key) o (option_and_then (λ column. look_on (block_at image (first + column)) key) (target_of o))
    by_home None is = refl
    by_home (Some (here item)) is = refl
    by_home (Some (moved column)) is = ap (λ page. at_last (first + column) (look_on page key)) (l.target_read column is image told)
    by_home (Some absent) is = refl

pub found-seen : (shown : Option Image) (image : Image) (first : ℕ) (key : List ℕ) (item : Option Item) (version : Option Version) (old new : List ℕ) → shown ≡ Some image → IsLookedUp shown first key (Ok item) → IsVersion item version old new → IsSeen (seen_in image first key) (Ok version) old new
found-seen shown image first key item version old new told looked is =
    subst (λ (answer : Result (Option Item) LookFault). IsSeen answer (Ok version) old new) (looked-seen shown image first key (Ok item) told looked) is

pub damaged-seen : (shown : Option Image) (image : Image) (first : ℕ) (key : List ℕ) (block : ℕ) (old new : List ℕ) → shown ≡ Some image → IsLookedUp shown first key (Err (Damaged block)) → IsSeen (seen_in image first key) (Err (Damaged block)) old new
damaged-seen shown image first key block old new told looked =
    subst (λ (answer : Result (Option Item) LookFault). IsSeen answer (Err (Damaged block)) old new) (looked-seen shown image first key (Err (Damaged block)) told looked) refl

-- what is seen there is what a look-up answers
pub seen-looked : (image : Image) (first : ℕ) (key : List ℕ) → IsLookedUp (Some image) first key (seen_in image first key)
seen-looked image first key = record {
  home = home;
  target = target;
  home_read = λ shown told. ap (λ i. block_at i (first + home_column key)) (one image shown told);
  target_read = λ column sent shown told. ap (λ n. block_at image (first + n)) (ap (λ (o : Option Look). unwrap_or (target_of o) 0) sent) ∙ ap (λ i. block_at i (first + column)) (one image shown told);
  is = by_home (look_on home key) refl;
}
  where
    home : List ℕ
    home = block_at image (first + home_column key)

    target : List ℕ
    target = block_at image (first + unwrap_or (target_of (look_on home key)) 0)

    one : (a b : Image) → Some a ≡ Some b → a ≡ b
    one a b h = cc

    by_home : (o : Option Look) → look_on home key ≡ o → at_home first (home_column key) o (option_and_then (λ column. look_on (block_at image (first + column)) key) (target_of o)) ≡ at_home first (home_column key) o (look_on target key)
    by_home None is = refl
    by_home (Some (here item)) is = refl
    by_home (Some (moved column)) is = ap (λ (p : Option Look). at_last (first + column) (look_on (block_at image (first + unwrap_or (target_of p) 0)) key)) (sym is)
    by_home (Some absent) is = refl

-- ---- how many blocks it reads

unsent : (page key : List ℕ) → sends_key page key ≡ false → target_of (look_on page key) ≡ None
unsent page key off = by_look (look_on page key) refl
  where
    by_look : (o : Option Look) → look_on page key ≡ o → target_of o ≡ None
    by_look None is = refl
    by_look (Some (here item)) is = refl
    by_look (Some (moved column)) is = let sent : sends_key page key ≡ true = moved-sent page key column is in absurd (true≢false (sym sent ∙ off))
    by_look (Some absent) is = refl

pub counts-look : (image : Image) (first : ℕ) (key : List ℕ) (before now : ℕ) → CountsAtMost 2 before now → (target_of (look_on (block_at image (first + home_column key)) key) ≡ None → CountsAtMost 1 before now) → CountsAtMost (look_reads image first key) before now
counts-look image first key before now twice once = by_sent (sends_key (block_at image (first + home_column key)) key) refl
  where
    by_sent : (b : Bool) → sends_key (block_at image (first + home_column key)) key ≡ b → CountsAtMost (cond b 2 1) before now
    by_sent true is = twice
    by_sent false is = once (unsent (block_at image (first + home_column key)) key is)

-- What the bucket that was sought answers on a key.
use Rattle.std.proofs.Common.{◌≡◌, ℕ, ◌<◌, refl, sym, ap, subst, ◌∙◌, Bool, true, false, ◌&&◌, cond, List, Option, Some, None, Err, ltb-true, true≢false}
use Rattle.std.specs.Prelude.{is_some, nat_lt, nat_le, ◌==◌, slice_index}
use Rattle.std.specs.Option.{option_and_then, option_map}
use Rattle.std.specs.List.{find}
use Rattle.std.proofs.lemmas.Bool.{and_parts}
use Rattle.std.proofs.lemmas.Option.{none-some}
use Rattle.lt_terms.specs.Bytes.{Image, same_bytes, u32_at}
use Rattle.lt_terms.specs.Hashes.{home_column, key_suffix}
use Rattle.lt_terms.specs.Items.{Item}
use Rattle.lt_item.specs.declared.hash.Parts.{Parts}
use Rattle.lt_item.specs.Parts.{parts_of}
use Rattle.lt_tables.specs.declared.Sends.{Sends}
use Rattle.lt_tables.specs.Bucket.{Bucket, Look, here, moved, absent, look_of, look_in_1, look_on, sent_to, sends_on, sends_of, bucket_of_page_1}
use Rattle.lt_tables.proofs.HashLaws.{home_column-small}
use Rattle.lt_htable.specs.declared.faults.LookFault.TheVariants.{Damaged}
use Rattle.lt_htable.specs.Reading.{IsBlockOf, IsSought, IsLookedUp, at_last, at_home, target_of}

-- the column among the parts of a key
pub column-is : (parts : Parts) (key : List ℕ) → parts ≡ parts_of key → parts.column ≡ home_column key
unfolding parts_of
column-is parts key is = ap (λ (p : Parts). p.column) is

pub column-small : (parts : Parts) (key : List ℕ) → parts ≡ parts_of key → parts.column < 64
column-small parts key is = subst (λ n. n < 64) (sym (column-is parts key is)) (home_column-small key)

sends_small : (flag target mark : ℕ) (s : Sends) → sends_of flag target mark ≡ Some (Some s) → s.target < 64
sends_small flag target mark s h = step (flag == 0 && target == 0 && mark == 0) (flag == 1 && nat_lt target 64) (λ on. ltb-true _ _ (and_parts (flag == 1) (nat_lt target 64) on).1) h
  where
    step : (a b : Bool) → (b ≡ true → target < 64) → cond a (Some None) (cond b (Some (Some (record { target = target; mark = mark }))) None) ≡ Some (Some s) → s.target < 64
    step true b p h = cc
    step false true p h = let same : record { target = target; mark = mark } ≡ s = cc in subst (λ (s : Sends). s.target < 64) same (p refl)
    step false false p h = absurd (none-some (Some s) h)

parts_small : (test : Bool) (o : Option (Option Sends)) (is : Option (List Item)) (b : Bucket) → ((s : Sends) → o ≡ Some (Some s) → s.target < 64)
    → cond test (option_and_then (λ sends. option_map (λ items. record { sends = sends; items = items }) is) o) None ≡ Some b → (s : Sends) → b.sends ≡ Some s → s.target < 64
parts_small false o is b p h s e = absurd (none-some b h)
parts_small true None is b p h s e = absurd (none-some b h)
parts_small true (Some x) None b p h s e = absurd (none-some b h)
parts_small true (Some x) (Some items) b p h s e =
    let same : record { sends = x; items = items } ≡ b = cc in
    p s (ap Some (ap (λ (b : Bucket). b.sends) same ∙ e))

bucket_small : (page : List ℕ) (b : Bucket) → bucket_of_page_1 page ≡ Some b → (s : Sends) → b.sends ≡ Some s → s.target < 64
unfolding bucket_of_page_1
bucket_small page b h s e = parts_small _ (sends_of (slice_index page 4) (slice_index page 5) (u32_at page 6)) _ b (sends_small (slice_index page 4) (slice_index page 5) (u32_at page 6)) h s e

look_moved : (o : Option Item) (l : Look) (c : ℕ) → look_of o l ≡ moved c → l ≡ moved c
look_moved None l c h = h
look_moved (Some v) l c h = cc

sent_moved : (o : Option Sends) (suffix c : ℕ) → sent_to o suffix ≡ moved c → (s : Sends) × (o ≡ Some s) × (s.target ≡ c)
sent_moved None suffix c h = cc
sent_moved (Some s) suffix c h = step (nat_le s.mark suffix) h
  where
    step : (b : Bool) → cond b (moved s.target) absent ≡ moved c → (t : Sends) × (Some s ≡ Some t) × (t.target ≡ c)
    step true h = (s, refl, cc)
    step false h = cc

-- a key is sent to one of the 64 columns
pub target-small : (page key : List ℕ) (c : ℕ) → look_on page key ≡ Some (moved c) → c < 64
target-small page key c h = by_bucket (bucket_of_page_1 page) refl h
  where
    by_bucket : (o : Option Bucket) → bucket_of_page_1 page ≡ o → option_map (look_in_1 key) o ≡ Some (moved c) → c < 64
    by_bucket None is h = absurd (none-some (moved c) h)
    by_bucket (Some b) is h =
        let here_is : look_in_1 key b ≡ moved c = cc in
        let sent = sent_moved b.sends (key_suffix key) c (look_moved _ (sent_to b.sends (key_suffix key)) c here_is) in
        subst (λ n. n < 64) sent.2 (bucket_small page b is sent.0 sent.1)

-- the last bucket's answer is that of both
pub sought-answers : (shown : Option Image) (first : ℕ) (key : List ℕ) (block : ℕ) (page : List ℕ) → IsSought shown first key block page → IsLookedUp shown first key (at_last block (look_on page key))
sought-answers shown first key block page sought = record {
  home = sought.home;
  target = page;
  home_read = sought.home_read;
  target_read = λ column sent. (subst (λ o. IsBlockOf shown first (home_column key) sought.home (target_of o) block page) sent sought.is).1;
  is = by_home (look_on sought.home key) refl sought.is;
}
  where
    by_home : (o : Option Look) → look_on sought.home key ≡ o → IsBlockOf shown first (home_column key) sought.home (target_of o) block page → at_last block (look_on page key) ≡ at_home first (home_column key) o (look_on page key)
    by_home None e is = ap (λ (p : List ℕ). at_last block (look_on p key)) is.1 ∙ ap (at_last block) e ∙ ap (λ b. Err (Damaged b)) is.0
    by_home (Some (here v)) e is = ap (λ (p : List ℕ). at_last block (look_on p key)) is.1 ∙ ap (at_last block) e
    by_home (Some (moved c)) e is = ap (λ b. at_last b (look_on page key)) is.0
    by_home (Some absent) e is = ap (λ (p : List ℕ). at_last block (look_on p key)) is.1 ∙ ap (at_last block) e

-- a page that spells no bucket answers nothing
pub look_on-none : (page key : List ℕ) → is_some (bucket_of_page_1 page) ≡ false → look_on page key ≡ None
look_on-none page key h = by_bucket (bucket_of_page_1 page) h
  where
    by_bucket : (o : Option Bucket) → is_some o ≡ false → option_map (look_in_1 key) o ≡ None
    by_bucket None h = refl
    by_bucket (Some b) h = absurd (true≢false h)

-- the suffix among the parts of a key
pub suffix-is : (parts : Parts) (key : List ℕ) → parts ≡ parts_of key → parts.suffix ≡ key_suffix key
unfolding parts_of
suffix-is parts key is = ap (λ (p : Parts). p.suffix) is

-- a test of the mark tells whether there is a target
pub sent_test : (test : Bool) (target : ℕ) → test ≡ is_some (target_of (Some (cond test (moved target) absent)))
sent_test true target = refl
sent_test false target = refl

at_unsent : (o : Option Item) (l : Look) → is_some (target_of (Some l)) ≡ false → None ≡ target_of (Some (look_of o l))
at_unsent (Some v) l h = refl
at_unsent None (here v) h = refl
at_unsent None (moved c) h = absurd (true≢false h)
at_unsent None absent h = refl

-- below the mark no key is sent
pub unsent : (page key : List ℕ) (sends : Option Sends) (suffix : ℕ) → sends ≡ sends_on page → suffix ≡ key_suffix key → is_some (target_of (Some (sent_to sends suffix))) ≡ false → None ≡ target_of (look_on page key)
unsent page key sends suffix sends_is suffix_is h =
    by_bucket (bucket_of_page_1 page)
    (ap (λ (s : Option Sends). is_some (target_of (Some (sent_to s (key_suffix key))))) (sym sends_is)
    ∙ ap (λ n. is_some (target_of (Some (sent_to sends n)))) (sym suffix_is)
    ∙ h)
  where
    by_bucket : (o : Option Bucket) → is_some (target_of (Some (sent_to (option_and_then (λ (b : Bucket). b.sends) o) (key_suffix key)))) ≡ false → None ≡ target_of (option_map (look_in_1 key) o)
    by_bucket None h = refl
    by_bucket (Some b) h = at_unsent (find (λ (item : Item). same_bytes item.key key) b.items) (sent_to b.sends (key_suffix key)) h

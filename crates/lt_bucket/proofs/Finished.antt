-- The page of a bucket that is finished.
use Rattle.std.proofs.Common.{◌≡◌, ℕ, ◌+◌, ◌-◌, ◌<◌, ◌≤◌, ◌^◌, refl, sym, ap, subst, ◌∙◌, List, [], ◌++◌, length, take, drop, true, Option, Some, None, is_some, zero-add, arith, append_assoc}
use Rattle.std.specs.Option.{ForSome}
use Rattle.std.proofs.lemmas.List.{length-append, take_at, drop_at, drop_all, append-nil}
use Rattle.std.proofs.Math.Seq.{take-append-add}
use Rattle.lt_terms.specs.Bytes.{zeros, block_of, filled}
use Rattle.lt_terms.specs.Items.{Item, total_cost, spellings, items_of}
use Rattle.lt_tables.specs.declared.Sends.{Sends}
use Rattle.lt_tables.specs.Bucket.{bucket_of, bucket_page_1}
use Rattle.lt_bucket.specs.Reading.{items_in}
use Rattle.lt_bucket.specs.Building.{header_of, used_bytes, items_used, IsSpelled}
use Rattle.lt_bucket.proofs.ItemsOf.{items_in-reads}
use Rattle.lt_bucket.proofs.BucketPages.{bucket_of-page}
use Rattle.lt_terms.proofs.SpellingLaws.{length-spellings, length-zeros}

-- nothing is spelled in no bytes
pub none_spelled : (page : List ℕ) → IsSpelled page 0 0
unfolding items_of
none_spelled page = record { items = refl; whole = refl; used_is = refl; fits = omega arith }

pub none_used : (page : List ℕ) → items_used page 0 0 ≡ []
unfolding items_of
none_used page = refl

length-header : (count used : ℕ) (sends : Option Sends) → length (header_of count used sends) ≡ 16
unfolding zeros
length-header count used None = refl
length-header count used (Some s) = refl

-- what a page spells depends on the bytes in use alone
pub spelled_alike : (old new : List ℕ) (count used : ℕ) → used_bytes old used ≡ used_bytes new used → IsSpelled old count used → IsSpelled new count used
spelled_alike old new count used same spelled = record {
  items = subst (λ (bytes : List ℕ). is_some (items_of count bytes) ≡ true) same spelled.items;
  whole = subst (λ (bytes : List ℕ). bytes ≡ spellings (items_in count bytes)) same spelled.whole;
  used_is = subst (λ (bytes : List ℕ). total_cost (items_in count bytes) ≡ used) same spelled.used_is;
  fits = spelled.fits;
}

-- the page after the header and the zeros were put
finished-whole : (old begun new header rest : List ℕ) (used : ℕ) → length header ≡ 16 → used ≤ 4080 → length begun ≡ 4096 → begun ≡ filled old 0 header → rest ≡ zeros (4096 - (16 + used)) → new ≡ filled begun (16 + used) rest
    → new ≡ header ++ used_bytes old used ++ zeros (4096 - (16 + used))
finished-whole old begun new header rest used header_len fits begun_len begun_is rest_is new_is =
    let parts : begun ≡ header ++ drop 16 old = begun_is ∙ ap (λ n. header ++ drop n old) (zero-add (length header) ∙ header_len) in
    let front : take (16 + used) begun ≡ header ++ used_bytes old used =
    ap (take (16 + used)) parts
    ∙ ap (λ n. take (n + used) (header ++ drop 16 old)) (sym header_len)
    ∙ take-append-add header (drop 16 old) used in
    let rest_len : length rest ≡ 4096 - (16 + used) = ap length rest_is ∙ length-zeros (4096 - (16 + used)) in
    let none : drop (16 + used + length rest) begun ≡ [] = drop_all (16 + used + length rest) begun (omega arith) in
    new_is
    ∙ ap (λ front. front ++ rest ++ drop (16 + used + length rest) begun) front
    ∙ ap (λ behind. header ++ used_bytes old used ++ rest ++ behind) none
    ∙ append-nil (header ++ used_bytes old used ++ rest)
    ∙ ap (λ rest. header ++ used_bytes old used ++ rest) rest_is

-- the finished page
pub record IsFinished (old new : List ℕ) (count used : ℕ) (sends : Option Sends) : Type 0 where
  pub same : used_bytes old used ≡ used_bytes new used
  pub page : new ≡ bucket_page_1 (record { sends = sends; items = items_used old count used })
  pub bucket : bucket_of new ≡ Some (record { sends = sends; items = items_used old count used })

pub finished : (old begun new header rest : List ℕ) (count used : ℕ) (sends : Option Sends) → IsSpelled old count used → header ≡ header_of count used sends → length begun ≡ 4096
    → begun ≡ filled old 0 header → rest ≡ zeros (4096 - (16 + used)) → new ≡ filled begun (16 + used) rest
    → ForSome sends (λ (s : Sends). s.target < 64) → ForSome sends (λ (s : Sends). s.mark < 2 ^ 32) → IsFinished old new count used sends
finished old begun new header rest count used sends spelled header_is begun_len begun_is rest_is new_is target mark =
    let items : List Item = items_used old count used in
    let read = items_in-reads count (used_bytes old used) spelled.items in
    let header_len : length header ≡ 16 = ap length header_is ∙ length-header count used sends in
    let whole : new ≡ header ++ used_bytes old used ++ zeros (4096 - (16 + used)) =
    finished-whole old begun new header rest used header_len spelled.fits begun_len begun_is rest_is new_is in
    let used_len : length (used_bytes old used) ≡ used = ap length spelled.whole ∙ length-spellings items ∙ spelled.used_is in
    let spelled_len : length (header_of count used sends ++ spellings items) ≡ 16 + used =
    length-append (header_of count used sends) (spellings items) ∙ ap (λ n. n + length (spellings items)) (length-header count used sends) ∙ ap (λ n. 16 + n) (length-spellings items ∙ spelled.used_is) in
    let page : new ≡ bucket_page_1 (record { sends = sends; items = items }) =
    whole
    ∙ ap (λ (header : List ℕ). header ++ used_bytes old used ++ zeros (4096 - (16 + used))) header_is
    ∙ ap (λ bytes. header_of count used sends ++ bytes ++ zeros (4096 - (16 + used))) spelled.whole
    ∙ ap (λ n. header_of count used sends ++ spellings items ++ zeros (4096 - n)) (sym spelled_len)
    ∙ ap (λ n. block_of (header_of n used sends ++ spellings items)) (sym read.count_is)
    ∙ ap (λ n. block_of (header_of (length items) n sends ++ spellings items)) (sym spelled.used_is) in
    record {
      same = sym (ap (λ new. take used (drop 16 new)) (whole ∙ append_assoc header (used_bytes old used) (zeros (4096 - (16 + used))))
          ∙ ap (take used) (drop_at header (used_bytes old used ++ zeros (4096 - (16 + used))) 16 header_len)
          ∙ take_at (used_bytes old used) (zeros (4096 - (16 + used))) used used_len);
      page = page;
      bucket = ap bucket_of page ∙ bucket_of-page sends items read.valid (omega (arith, spelled.used_is, spelled.fits)) target mark;
    }

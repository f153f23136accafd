-- A table, scanned column after column.
use Rattle.std.proofs.Common.{◌≡◌, ℕ, zero, suc, ◌+◌, ◌<◌, refl, sym, ap, subst, ◌∙◌, cond, List, [], ◌++◌, Option, arith, append_assoc, append-nil, ⊎_elim, eq-eqb, ne_eqb}
use Rattle.std.specs.Prelude.{IsTrue, is_some, ◌==◌}
use Rattle.std.specs.List.{flat_map, range_with_len}
use Rattle.std.proofs.lemmas.Bool.{cases_eq}
use Rattle.lt_terms.specs.Bytes.{Image}
use Rattle.lt_terms.specs.Items.{Item}
use Rattle.lt_tables.specs.Bucket.{bucket_of, items_on}
use Rattle.lt_tables.specs.Placement.{columns}
use Rattle.lt_tables.proofs.TableLaws.{flat_map-range}
use Rattle.lt_htable.specs.Reading.{IsRead, IsScanned}

-- the items of the first n columns
pub record IsScannedTo (n : ℕ) (shown : Option Image) (first : ℕ) (items : List Item) : Type 0 where
  pub block : ℕ → List ℕ
  pub read : (c : ℕ) → c < n → IsRead shown (first + c) (block c)
  pub spelled : (c : ℕ) → c < n → IsTrue (is_some (bucket_of (block c)))
  pub is : items ≡ flat_map (λ c. items_on (block c)) (range_with_len 0 n)

pub scanned-none : (shown : Option Image) (first : ℕ) → IsScannedTo 0 shown first []
scanned-none shown first = record {
  block = λ c. [];
  read = λ c small. absurd (omega arith);
  spelled = λ c small. absurd (omega arith);
  is = refl;
}

range-last : {A : Type 0} (f : ℕ → List A) (a n : ℕ) → flat_map f (range_with_len a (suc n)) ≡ flat_map f (range_with_len a n) ++ f (a + n)
range-last f a zero = let z : a ≡ a + 0 = omega arith in append-nil (f a) ∙ ap f z
range-last f a (suc n) =
    let next : a + 1 + n ≡ a + suc n = omega arith in
    ap (λ xs. f a ++ xs) (range-last f (a + 1) n ∙ ap (λ k. flat_map f (range_with_len (a + 1) n) ++ f k) next)
    ∙ sym (append_assoc (f a) (flat_map f (range_with_len (a + 1) n)) (f (a + suc n)))

flat_map-last : {A : Type 0} (f : ℕ → List A) (a n : ℕ) → flat_map f (range_with_len a (n + 1)) ≡ flat_map f (range_with_len a n) ++ f (a + n)
flat_map-last f a n = let one : n + 1 ≡ suc n = omega arith in ap (λ k. flat_map f (range_with_len a k)) one ∙ range-last f a n

-- a function with one value changed
abbrev pub with_page : (ℕ → List ℕ) → ℕ → List ℕ → ℕ → List ℕ
with_page block n page c = cond (c == n) page (block c)

at_same : (block : ℕ → List ℕ) (n : ℕ) (page : List ℕ) → with_page block n page n ≡ page
at_same block n page = ap (λ b. cond b page (block n)) (eq-eqb n n refl)

at_other : (block : ℕ → List ℕ) (n : ℕ) (page : List ℕ) (c : ℕ) → c < n → with_page block n page c ≡ block c
at_other block n page c small = ap (λ b. cond b page (block c)) (ne_eqb c n (λ e. absurd (omega arith)))

-- one column more
pub scanned-more : (n : ℕ) (shown : Option Image) (first : ℕ) (items : List Item) (page : List ℕ) → IsScannedTo n shown first items → IsRead shown (first + n) page → IsTrue (is_some (bucket_of page)) → IsScannedTo (n + 1) shown first (items ++ items_on page)
scanned-more n shown first items page before read spelled =
    let block = with_page before.block n page in
    record {
      block = block;
      read = λ c small. each (λ c (p : List ℕ). IsRead shown (first + c) p) before.read read c small;
      spelled = λ c small. each (λ c (p : List ℕ). IsTrue (is_some (bucket_of p))) before.spelled spelled c small;
      is = ap (λ xs. xs ++ items_on page) (before.is ∙ flat_map-range (λ c. items_on (before.block c)) (λ c. items_on (block c)) 0 n (λ c small. ap items_on (sym (at_other before.block n page c (omega arith)))))
          ∙ ap (λ p. flat_map (λ c. items_on (block c)) (range_with_len 0 n) ++ items_on p) (sym (at_same before.block n page))
          ∙ (let z : n ≡ 0 + n = omega arith in ap (λ k. flat_map (λ c. items_on (block c)) (range_with_len 0 n) ++ items_on (block k)) z)
          ∙ sym (flat_map-last (λ c. items_on (block c)) 0 n);
    }
  where
    each : (P : ℕ → List ℕ → Type 0) → ((c : ℕ) → c < n → P c (before.block c)) → P n page → (c : ℕ) → c < n + 1 → P c (with_page before.block n page c)
    each P old new c small = ⊎_elim
        (λ (same : c ≡ n). subst (λ k. P k (with_page before.block n page k)) (sym same) (subst (P n) (sym (at_same before.block n page)) new))
        (λ (other : c ≡ n → ⊥). let below : c < n = omega arith in subst (P c) (sym (at_other before.block n page c below)) (old c below))
        (cases_eq c n)

pub scanned-all : (shown : Option Image) (first : ℕ) (items : List Item) → IsScannedTo 64 shown first items → IsScanned shown first items
unfolding columns
scanned-all shown first items all = record { block = all.block; read = all.read; spelled = all.spelled; is = all.is }

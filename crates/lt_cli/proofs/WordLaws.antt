-- Numbers as words.
use Rattle.std.proofs.Common.{rules, ◌≡◌, ◌↔◌, ℕ, ◌<◌, ◌≤◌, ◌^◌, refl, sym, ap, subst, ◌∙◌, List, [], ◌∷◌, length, map, slice_index_or, Bool, true, false, Option, Some, None, Result, Ok, String, IsTrue, codes, string_bytes, arith}
use Rattle.std.specs.Fmt.{decimal}
use Rattle.std.specs.Str.Parse.{ParsesUnsigned}
use Rattle.std.proofs.lemmas.Fmt.{parse-decimal, decimal_injective}
use Rattle.std.proofs.lemmas.Slice.Eq.{bytes_eq-Decides}
use Rattle.std.specs.Prelude.{nat_eq}
use Rattle.std.specs.Result.{result_ok}
use Rattle.std.specs.declared.alloc.Global.{Global}
use Rattle.lt_format.specs.Layout.{is_geometry}
use Rattle.lt_cli.specs.declared.words.Task.{Task}
use Rattle.lt_cli.specs.declared.words.Task.TheVariants.{Run, Init}
use Rattle.lt_cli.specs.Promise.{AreSizes, IsInit, Means, MeansSome}
use lib.Pointwise.{pointwise}

-- a word that spells a number is read as that number
pub reads-decimal : {E : Type 0} (n : ℕ) (word : List ℕ) (r : Result ℕ E) → n < 2 ^ 32 → word ≡ decimal n → ParsesUnsigned 32 10 word r → r ≡ Ok n
reads-decimal n word r small is parses = parse-decimal 32 n word r small (omega arith) is parses

pub none-some : (n : ℕ) → ◌≡◌ {A = Option ℕ} None (Some n) → ⊥
none-some n e = cc (e)

pub some-same : (m n : ℕ) → ◌≡◌ {A = Option ℕ} (Some m) (Some n) → m ≡ n
some-same m n e = cc (e)

-- what was read is kept
pub read-some : {E : Type 0} (n : ℕ) (r : Result ℕ E) (o : Option ℕ) → o ≡ result_ok r → r ≡ Ok n → o ≡ Some n
read-some n r o is read = is ∙ ap result_ok read

-- a comparison of bytes decides whether they are the same
pub decides : (xs ys : List ℕ) (same : Bool) → same ≡ pointwise nat_eq xs ys → same ≡ true → xs ≡ ys
decides xs ys same is holds = (bytes_eq-Decides xs ys).0 (sym is ∙ holds)

pub differs : (xs ys : List ℕ) (same : Bool) → same ≡ pointwise nat_eq xs ys → same ≡ false → xs ≡ ys → ⊥
differs xs ys same is fails equal = let holds = is ∙ (bytes_eq-Decides xs ys).1 equal in cc (holds, fails)

-- ---- the words

-- a list of one word, and one of four
pub one-word : (words : List (String Global)) (w : String Global) → 1 ≤ length words → length words < 2 → w ≡ slice_index_or words 0 w → map string_bytes words ≡ string_bytes w ∷ []
one-word [] w some few is = absurd (omega arith)
one-word (x ∷ []) w some few is = ap (λ (y : String Global). string_bytes y ∷ []) (sym is)
one-word (x ∷ y ∷ words) w some few is = absurd (omega arith)

pub four-words : (words : List (String Global)) (a b c d : String Global) → 4 ≤ length words → length words < 5 → a ≡ slice_index_or words 0 a → b ≡ slice_index_or words 1 b → c ≡ slice_index_or words 2 c → d ≡ slice_index_or words 3 d
    → map string_bytes words ≡ string_bytes a ∷ string_bytes b ∷ string_bytes c ∷ string_bytes d ∷ []
four-words [] a b c d some few ia ib ic id = absurd (omega arith)
four-words (x ∷ []) a b c d some few ia ib ic id = absurd (omega arith)
four-words (x ∷ y ∷ []) a b c d some few ia ib ic id = absurd (omega arith)
four-words (x ∷ y ∷ z ∷ []) a b c d some few ia ib ic id = absurd (omega arith)
four-words (x ∷ y ∷ z ∷ u ∷ []) a b c d some few ia ib ic id =
    ap (λ (t : String Global). string_bytes t ∷ string_bytes y ∷ string_bytes z ∷ string_bytes u ∷ []) (sym ia) ∙ ap (λ (t : String Global). string_bytes a ∷ string_bytes t ∷ string_bytes z ∷ string_bytes u ∷ []) (sym ib)
    ∙ ap (λ (t : String Global). string_bytes a ∷ string_bytes b ∷ string_bytes t ∷ string_bytes u ∷ []) (sym ic) ∙ ap (λ (t : String Global). string_bytes a ∷ string_bytes b ∷ string_bytes c ∷ string_bytes t ∷ []) (sym id)
four-words (x ∷ y ∷ z ∷ u ∷ v ∷ words) a b c d some few ia ib ic id = absurd (omega arith)

-- the word is read as this number, and spells no other
pub record Reads (word : List ℕ) (m : ℕ) : Type 0 where
  pub spells : word ≡ decimal m
  pub alone : (n : ℕ) → n < 2 ^ 32 → word ≡ decimal n → n ≡ m

pub reads : (word : List ℕ) (m : ℕ) (o : Option ℕ) → o ≡ Some m → m < 2 ^ 32 → ((n : ℕ) → n < 2 ^ 32 → (o ≡ Some n) ↔ (word ≡ decimal n)) → Reads word m
reads word m o is small iff = record { spells = (iff m small).0 is; alone = λ n below spells. sym (some-same m n (sym is ∙ (iff n below).1 spells)) }

-- sizes are small numbers
small-levels : (levels slots : ℕ) → IsTrue (is_geometry (record { levels = levels; slots = slots })) → levels < 2 ^ 32
small-levels levels slots h = search (rules, h)

small-slots : (levels slots : ℕ) → IsTrue (is_geometry (record { levels = levels; slots = slots })) → slots < 2 ^ 32
small-slots levels slots h = search (rules, h)

-- what is made of four words
pub means-init : (words : List (String Global)) (a b c d : List ℕ) (m1 m2 m3 : ℕ) (r : Option Task) → map string_bytes words ≡ a ∷ b ∷ c ∷ d ∷ [] → a ≡ codes "init" → Reads b m1 → Reads c m2 → Reads d m3
    → ((task : Task) → r ≡ Some task → AreSizes m1 m2 m3 × (task ≡ Init m1 m2 m3)) → (AreSizes m1 m2 m3 → r ≡ Some (Init m1 m2 m3)) → MeansSome words r
means-init words a b c d m1 m2 m3 (Some task) are first rb rc rd some none =
    let this = some task refl in
    subst (Means words) (sym this.1) (record {
      are = are ∙ ap (λ (w : List ℕ). w ∷ b ∷ c ∷ d ∷ []) first ∙ ap (λ (w : List ℕ). codes "init" ∷ w ∷ c ∷ d ∷ []) rb.spells ∙ ap (λ (w : List ℕ). codes "init" ∷ decimal m1 ∷ w ∷ d ∷ []) rc.spells ∙ ap (λ (w : List ℕ). codes "init" ∷ decimal m1 ∷ decimal m2 ∷ w ∷ []) rd.spells;
      sizes = this.0;
    })
means-init words a b c d m1 m2 m3 None are first rb rc rd some none = λ task means. by_task task means
  where
    none-task : ◌≡◌ {A = Option Task} None (Some (Init m1 m2 m3)) → ⊥
    none-task h = cc (h)

    by_task : (task : Task) → Means words task → ⊥
    by_task Run means = cc (means, are)
    by_task (Init e l s) means =
        let same : a ∷ b ∷ c ∷ d ∷ [] ≡ codes "init" ∷ decimal e ∷ decimal l ∷ decimal s ∷ [] = sym are ∙ means.are in
        let e_is : e ≡ m1 = rb.alone e (omega (arith, means.sizes.most)) (cc (same)) in
        let l_is : l ≡ m2 = rc.alone l (small-levels l s means.sizes.geometry) (cc (same)) in
        let s_is : s ≡ m3 = rd.alone s (small-slots l s means.sizes.geometry) (cc (same)) in
        none-task (none (subst (λ k. AreSizes k m2 m3) e_is (subst (λ k. AreSizes e k m3) l_is (subst (λ k. AreSizes e l k) s_is means.sizes))))

-- ---- one reading of the words

-- words that ask for a store ask for one of these sizes alone
pub same-sizes : (P : ℕ → ℕ → ℕ → Type 0) (words : List (String Global)) (e l s e' l' s' : ℕ) → IsInit words e l s → IsInit words e' l' s' → P e' l' s' → P e l s
same-sizes P words e l s e' l' s' one other p =
    let lists : codes "init" ∷ decimal e' ∷ decimal l' ∷ decimal s' ∷ [] ≡ codes "init" ∷ decimal e ∷ decimal l ∷ decimal s ∷ [] = sym other.are ∙ one.are in
    let e_is : e' ≡ e = decimal_injective e' e (omega (arith, other.sizes.most)) (omega (arith, one.sizes.most)) (cc (lists)) in
    let l_is : l' ≡ l = decimal_injective l' l (let small = small-levels l' s' other.sizes.geometry in omega arith) (let small = small-levels l s one.sizes.geometry in omega arith) (cc (lists)) in
    let s_is : s' ≡ s = decimal_injective s' s (let small = small-slots l' s' other.sizes.geometry in omega arith) (let small = small-slots l s one.sizes.geometry in omega arith) (cc (lists)) in
    subst (λ k. P e l k) s_is (subst (λ k. P e k s') l_is (subst (λ k. P k l' s') e_is p))

-- Items sifted by a digit of their keys or by kind: their newest versions, and their order.
use Rattle.std.proofs.Common.{◌≡◌, ℕ, refl, sym, ap, ◌∙◌, List, [], ◌∷◌, map, Bool, true, false, cond, ◌&&◌, Option, Some, None, T}
use Rattle.std.specs.Prelude.{◌==◌}
use Rattle.std.specs.FinMap.Entries.{below_all}
use Rattle.std.specs.Cmp.Lexicographic.{bytes_decides}
use Rattle.std.specs.Ordering.{is_lt}
use Rattle.std.specs.List.{last_or, filter}
use Rattle.std.specs.Option.{option_to_list}
use Rattle.lt_terms.specs.Bytes.{same_bytes}
use Rattle.lt_terms.specs.Hashes.{key_digit, rank_cmp}
use Rattle.lt_terms.specs.Items.{Item}
use Rattle.lt_tables.specs.Table.{versions_of, newest_of, newest, with_digit, without_deletes, is_put, value_of}
use Rattle.lt_tables.specs.Alike.{HasOnce}
use Rattle.lt_tables.proofs.NewestLaws.{first, second, filters_swap, versions_of-newest, newest_of-newest}
use Rattle.lt_tables.proofs.RankedLaws.{is_ranked}

-- the newest items have each key once
pub HasOnce-newest : (vs : List Item) → HasOnce (newest vs)
HasOnce-newest vs = record { each = λ key. versions_of-newest key vs ∙ ap option_to_list (sym (newest_of-newest key vs)) }

-- the versions of a key pass a test of their keys together
by_key_both : (b : Bool) (x : Item) (ys : List Item) → cond b (x ∷ cond b ys []) (cond b ys []) ≡ cond b (x ∷ ys) []
by_key_both true x ys = refl
by_key_both false x ys = refl

by_key_none : (b : Bool) → ◌≡◌ {A = List Item} [] (cond b [] [])
by_key_none true = refl
by_key_none false = refl

by_key_step : (test : List ℕ → Bool) (key : List ℕ) (x : Item) (ys : List Item) (a b : Bool) → filter (λ (v : Item). test v.key) ys ≡ cond (test key) ys [] → same_bytes x.key key ≡ a → test key ≡ b → filter (λ (v : Item). test v.key) (cond a (x ∷ ys) ys) ≡ cond b (cond a (x ∷ ys) ys) []
by_key_step test key x ys false b ih a t = ih ∙ ap (λ c. cond c ys []) t
by_key_step test key x ys true b ih a t =
    let key_is : test x.key ≡ b = ap test ((bytes_decides x.key key).0 a) ∙ t in
    ap (λ c. cond c (x ∷ filter (λ (v : Item). test v.key) ys) (filter (λ (v : Item). test v.key) ys)) key_is
    ∙ ap (λ zs. cond b (x ∷ zs) zs) (ih ∙ ap (λ c. cond c ys []) t)
    ∙ by_key_both b x ys

versions_by_key : (test : List ℕ → Bool) (key : List ℕ) (xs : List Item) → filter (λ (v : Item). test v.key) (versions_of key xs) ≡ cond (test key) (versions_of key xs) []
versions_by_key test key [] = by_key_none (test key)
versions_by_key test key (x ∷ xs) = by_key_step test key x (versions_of key xs) (same_bytes x.key key) (test key) (versions_by_key test key xs) refl refl

pub versions_of-by_key : (test : List ℕ → Bool) (key : List ℕ) (xs : List Item) → versions_of key (filter (λ (v : Item). test v.key) xs) ≡ cond (test key) (versions_of key xs) []
versions_of-by_key test key xs = filters_swap (λ v. same_bytes v.key key) (λ v. test v.key) xs ∙ versions_by_key test key xs

last_cond : (b : Bool) (xs : List Item) → last_or None (cond b xs []) ≡ cond b (last_or None xs) None
last_cond true xs = refl
last_cond false xs = refl

-- a test of keys keeps all versions of a key or none
pub newest_of-by_key : (test : List ℕ → Bool) (key : List ℕ) (xs : List Item) → newest_of key (filter (λ (v : Item). test v.key) xs) ≡ cond (test key) (newest_of key xs) None
newest_of-by_key test key xs = ap (last_or None) (versions_of-by_key test key xs) ∙ last_cond (test key) (versions_of key xs)

-- dealing by digit splits the keys
pub newest_of-with_digit : (key : List ℕ) (level d : ℕ) (items : List Item) → newest_of key (with_digit level d items) ≡ cond (key_digit key level == d) (newest_of key items) None
newest_of-with_digit key level d items = newest_of-by_key (λ k. key_digit k level == d) key items

-- ---- without deletes

-- the version, where it is a put
abbrev pub put_only : Option Item → Option Item
put_only None = None
put_only (Some v) = cond (is_put v) (Some v) None

put_of_option : (o : Option Item) → last_or None (filter is_put (option_to_list o)) ≡ put_only o
put_of_option None = refl
put_of_option (Some v) = elim (is_put v) as (λ b. last_or None (cond b (v ∷ []) []) ≡ cond b (Some v) None) [ true ↦ refl | false ↦ refl ]

pub newest_of-without_deletes : (key : List ℕ) (items : List Item) → HasOnce items → newest_of key (without_deletes items) ≡ put_only (newest_of key items)
newest_of-without_deletes key items once =
    ap (last_or None) (filters_swap (λ v. same_bytes v.key key) is_put items ∙ ap (filter is_put) (once.each key))
    ∙ put_of_option (newest_of key items)

pub value_of-put_only : (o : Option Item) → value_of (put_only o) ≡ value_of o
value_of-put_only None = refl
value_of-put_only (Some v) = step (is_put v) refl
  where
    step : (b : Bool) → is_put v ≡ b → value_of (cond b (Some v) None) ≡ cond b (Some v.value) None
    step true e = ap (λ b. cond b (Some v.value) None) e
    step false e = refl

-- ---- order

both : (a b : Bool) → T a → T b → T (a && b)
both true b p q = q
both false b p q = p

below_filter : (test : Item → Bool) (k : List ℕ) (xs : List Item) → T (below_all rank_cmp k (map (λ (v : Item). (v.key, v)) xs)) → T (below_all rank_cmp k (map (λ (v : Item). (v.key, v)) (filter test xs)))
below_filter test k [] h = tt
below_filter test k (v ∷ xs) h =
    let rest = below_filter test k xs (second (is_lt (rank_cmp k v.key)) (below_all rank_cmp k (map (λ (v : Item). (v.key, v)) xs)) h) in
    elim (test v) as (λ b. T (below_all rank_cmp k (map (λ (v : Item). (v.key, v)) (cond b (v ∷ filter test xs) (filter test xs))))) [
      | true ↦ both (is_lt (rank_cmp k v.key)) (below_all rank_cmp k (map (λ (v : Item). (v.key, v)) (filter test xs))) (first (is_lt (rank_cmp k v.key)) (below_all rank_cmp k (map (λ (v : Item). (v.key, v)) xs)) h) rest
      | false ↦ rest
    ]

-- what a test keeps is in rank order
pub ranked-filter : (test : Item → Bool) (xs : List Item) → T (is_ranked xs) → T (is_ranked (filter test xs))
ranked-filter test [] s = tt
ranked-filter test (v ∷ xs) s =
    let below : T (below_all rank_cmp v.key (map (λ (v : Item). (v.key, v)) xs)) = first (below_all rank_cmp v.key (map (λ (v : Item). (v.key, v)) xs)) (is_ranked xs) s in
    let rest = ranked-filter test xs (second (below_all rank_cmp v.key (map (λ (v : Item). (v.key, v)) xs)) (is_ranked xs) s) in
    elim (test v) as (λ b. T (is_ranked (cond b (v ∷ filter test xs) (filter test xs)))) [
      | true ↦ both (below_all rank_cmp v.key (map (λ (v : Item). (v.key, v)) (filter test xs))) (is_ranked (filter test xs)) (below_filter test v.key xs below) rest
      | false ↦ rest
    ]

-- a test keeps what it kept
pub filter_again : (test : Item → Bool) (xs : List Item) → filter test (filter test xs) ≡ filter test xs
filter_again test [] = refl
filter_again test (x ∷ xs) = step (test x) refl (filter_again test xs)
  where
    step : (b : Bool) → test x ≡ b → filter test (filter test xs) ≡ filter test xs → filter test (cond b (x ∷ filter test xs) (filter test xs)) ≡ cond b (x ∷ filter test xs) (filter test xs)
    step true e ih = ap (λ c. cond c (x ∷ filter test (filter test xs)) (filter test (filter test xs))) e ∙ ap (λ ys. x ∷ ys) ih
    step false e ih = ih

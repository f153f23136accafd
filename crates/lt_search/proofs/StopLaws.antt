-- The tables of a pile as stops, and what holds of each.
use Rattle.std.proofs.Common.{◌≡◌, ℕ, zero, suc, ◌+◌, ◌<◌, refl, sym, ap, subst, ◌∙◌, List, [], ◌∷◌, ◌++◌, length, get_or, take, drop, map, Bool, true, false, cond, append_assoc, append-nil, length-append, arith}
use Rattle.std.specs.List.{AllByRecursion, enumerate_from, flat_map, range_with_len}
use mathlib.Core.List.{reverse-cons}
use Rattle.std.proofs.lemmas.List.{drop_more}
use Rattle.std.proofs.lemmas.List.Concat.{flat_map-append}
use Rattle.lt_tables.proofs.ListLaws.{all_join}
use Rattle.lt_format.specs.declared.node_id.NodeId.{NodeId}
use Rattle.lt_format.specs.Trie.{Trie, path, node_at}
use Rattle.lt_image.specs.Bound.{up_to_first}
use Rattle.lt_image.specs.Versions.{Stop, stops, stops_of}
use Rattle.lt_image.proofs.PathLaws.{range_more}
use Rattle.lt_search.specs.Seen.{pile_stops}

-- ---- a pile

-- the oldest of the tables comes last
pub stops-cons : (id : NodeId) (k x : ℕ) (xs : List ℕ) → pile_stops id k (x ∷ xs) ≡ pile_stops id (k + 1) xs ++ record { node = id; index = k; extent = x } ∷ []
stops-cons id k x xs = reverse-cons (record { node = id; index = k; extent = x }) (map (λ (p : ℕ × ℕ). record { node = id; index = p.0; extent = p.1 }) (enumerate_from (k + 1) xs))

-- the newer ones come before the first n
pub stops-split : (id : NodeId) (k n : ℕ) (xs : List ℕ) → pile_stops id k xs ≡ pile_stops id (k + n) (drop n xs) ++ pile_stops id k (take n xs)
stops-split id k zero xs = let same : k ≡ k + 0 = omega arith in ap (λ m. pile_stops id m xs) same ∙ sym (append-nil (pile_stops id (k + 0) xs))
stops-split id k (suc n) [] = refl
stops-split id k (suc n) (x ∷ xs) =
    let last : List Stop = record { node = id; index = k; extent = x } ∷ [] in
    let there : k + 1 + n ≡ k + suc n = omega arith in
    stops-cons id k x xs
    ∙ ap (λ ss. ss ++ last) (stops-split id (k + 1) n xs)
    ∙ append_assoc (pile_stops id (k + 1 + n) (drop n xs)) (pile_stops id (k + 1) (take n xs)) last
    ∙ ap (λ ss. pile_stops id (k + 1 + n) (drop n xs) ++ ss) (sym (stops-cons id k x (take n xs)))
    ∙ ap (λ m. pile_stops id m (drop n xs) ++ pile_stops id k (x ∷ take n xs)) there

-- one table more
pub stops-more : (id : NodeId) (k j : ℕ) (xs : List ℕ) → j < length xs → pile_stops id (k + j) (drop j xs) ≡ pile_stops id (k + (j + 1)) (drop (j + 1) xs) ++ record { node = id; index = k + j; extent = get_or xs j 0 } ∷ []
stops-more id k j xs below =
    let there : k + j + 1 ≡ k + (j + 1) = omega arith in
    ap (pile_stops id (k + j)) (drop_more xs j 0 below)
    ∙ stops-cons id (k + j) (get_or xs j 0) (drop (j + 1) xs)
    ∙ ap (λ m. pile_stops id m (drop (j + 1) xs) ++ record { node = id; index = k + j; extent = get_or xs j 0 } ∷ []) there

pub stops-some : (id : NodeId) (k : ℕ) (xs : List ℕ) → 0 < length xs → 0 < length (pile_stops id k xs)
stops-some id k [] some = absurd (omega arith)
stops-some id k (x ∷ xs) some =
    let last : List Stop = record { node = id; index = k; extent = x } ∷ [] in
    omega (arith, ap length (stops-cons id k x xs), length-append (pile_stops id (k + 1) xs) last)

-- what holds of each table at its place holds of the stops
pub stops-all : (P : Stop → Type 0) (id : NodeId) (k : ℕ) (xs : List ℕ) → ((j : ℕ) → j < length xs → P (record { node = id; index = k + j; extent = get_or xs j 0 })) → AllByRecursion P (pile_stops id k xs)
stops-all P id k [] each = tt
stops-all P id k (x ∷ xs) each =
    let last : List Stop = record { node = id; index = k; extent = x } ∷ [] in
    let first : k + 0 ≡ k = omega arith in
    let newer = stops-all P id (k + 1) xs (λ j below.
    let there : k + suc j ≡ k + 1 + j = omega arith in
    subst (λ m. P (record { node = id; index = m; extent = get_or xs j 0 })) there (each (suc j) (omega arith))) in
    subst (AllByRecursion P) (sym (stops-cons id k x xs))
    (all_join P (pile_stops id (k + 1) xs) last newer (subst (λ m. P (record { node = id; index = m; extent = x })) first (each 0 (omega arith)), tt))

-- ---- the levels

pub levels-more : (n : ℕ) → range_with_len 0 (suc n) ≡ range_with_len 0 n ++ n ∷ []
levels-more n = let e : 0 + n ≡ n = omega arith in range_more 0 n ∙ ap (λ x. range_with_len 0 n ++ x ∷ []) e

-- the path over one level more
pub path-more : (n : ℕ) (trie : Trie) (key : List ℕ) → stops (suc n) trie key ≡ stops n trie key ++ stops_of (path key n) (node_at trie (path key n))
path-more n trie key =
    let at = λ (level : ℕ). stops_of (path key level) (node_at trie (path key level)) in
    ap (flat_map at) (levels-more n)
    ∙ flat_map-append at (range_with_len 0 n) (n ∷ [])
    ∙ ap (λ ss. stops n trie key ++ ss) (append-nil (at n))

-- ---- the first tables up to one

pub all_up_to : {A : Type 0} (P : A → Type 0) (test : A → Bool) (xs : List A) → AllByRecursion P xs → AllByRecursion P (up_to_first test xs)
all_up_to P test [] all = tt
all_up_to P test (x ∷ xs) all = (all.0, by_test (test x) (all_up_to P test xs all.1))
  where
    by_test : (b : Bool) → AllByRecursion P (up_to_first test xs) → AllByRecursion P (cond b [] (up_to_first test xs))
    by_test true rest = tt
    by_test false rest = rest

pub up_to-some : {A : Type 0} (test : A → Bool) (xs : List A) → 0 < length xs → 0 < length (up_to_first test xs)
up_to-some test [] some = absurd (omega arith)
up_to-some test (x ∷ xs) some = omega arith

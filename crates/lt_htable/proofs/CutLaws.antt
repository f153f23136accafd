-- A list that is cut into tables piece by piece.
use Rattle.std.proofs.Common.{◌≡◌, ℕ, ◌+◌, ◌<◌, ◌≤◌, refl, sym, ap, subst, ◌∙◌, List, [], ◌∷◌, ◌++◌, map, length, take, drop, get_or, arith, drop-cons, add-one}
use Rattle.std.proofs.lemmas.List.{append-nil, append_assoc, drop-map, length-map, map-append, drop_all}
use Rattle.lt_terms.specs.Items.{Item}
use Rattle.lt_tables.specs.Placement.{entry_of}
use Rattle.lt_tables.specs.Cut.{table_count, cut_counts, pieces, cut}
use Rattle.lt_tables.proofs.CutLaws.{table_count-within, cut_counts-nil, cut_counts-some}

-- the tables so far; the counts that are left are those of the rest
pub record IsCutting (items : List Item) (tables : List (List Item)) (counts : List ℕ) (rest : List Item) : Type 0 where
  pub counts_are : counts ≡ cut_counts (map entry_of rest)
  pub whole : tables ++ cut rest ≡ cut items

pub IsCutting-start : {A : Type 0} (f : A → List Item) (items rest : List Item) (tables : List A) (counts entries : List ℕ) → tables ≡ [] → rest ≡ items → counts ≡ entries → entries ≡ cut_counts (map entry_of items) → IsCutting items (map f tables) counts rest
IsCutting-start f items rest tables counts entries none same listed are =
    subst (λ ts. IsCutting items (map f ts) counts rest) (sym none) (subst (λ xs. IsCutting items [] counts xs) (sym same) (record { counts_are = listed ∙ are; whole = refl }))

-- the next count is that of the rest's first table
pub record IsNext (count : ℕ) (counts : List ℕ) (rest : List Item) : Type 0 where
  pub within : count ≤ length rest
  pub others : counts ≡ cut_counts (map entry_of (drop count rest))
  pub first : cut rest ≡ take count rest ∷ cut (drop count rest)

some_rest : (count : ℕ) (counts : List ℕ) (rest : List Item) → count ∷ counts ≡ cut_counts (map entry_of rest) → 0 < length rest
some_rest count counts [] is = let e : count ∷ counts ≡ [] = is ∙ cut_counts-nil in cc
some_rest count counts (item ∷ rest) is = omega arith

pub IsNext-of : (count : ℕ) (counts : List ℕ) (rest : List Item) → count ∷ counts ≡ cut_counts (map entry_of rest) → IsNext count counts rest
IsNext-of count counts rest is =
    let some : 0 < length (map entry_of rest) = omega (arith, length-map rest entry_of, some_rest count counts rest is) in
    let split : count ∷ counts ≡ table_count (map entry_of rest) ∷ cut_counts (drop (table_count (map entry_of rest)) (map entry_of rest)) = is ∙ cut_counts-some (map entry_of rest) some in
    let same : count ≡ table_count (map entry_of rest) = cc in
    let w = table_count-within (map entry_of rest) some in
    let tail : counts ≡ cut_counts (drop (table_count (map entry_of rest)) (map entry_of rest)) = cc in
    let others : counts ≡ cut_counts (map entry_of (drop count rest)) = tail ∙ ap (λ n. cut_counts (drop n (map entry_of rest))) (sym same) ∙ ap cut_counts (drop-map entry_of count rest) in
    record {
      within = omega (arith, length-map rest entry_of);
      others = others;
      first = ap (λ ns. pieces ns rest) (sym is) ∙ ap (λ ns. take count rest ∷ pieces ns (drop count rest)) others;
    }

next_count : (counts : List ℕ) (i count : ℕ) → i < length counts → count ≡ get_or counts i 0 → drop i counts ≡ count ∷ drop (i + 1) counts
next_count counts i count below is = rw (add-one, is, drop-cons counts i 0)

pub next : (items : List Item) (tables : List (List Item)) (counts : List ℕ) (i count : ℕ) (rest : List Item) → IsCutting items tables (drop i counts) rest → i < length counts → count ≡ get_or counts i 0 → IsNext count (drop (i + 1) counts) rest
next items tables counts i count rest cutting below is = IsNext-of count (drop (i + 1) counts) rest (sym (next_count counts i count below is) ∙ cutting.counts_are)

pub IsCutting-more : {A : Type 0} (f : A → List Item) (items : List Item) (tables new : List A) (table : A) (counts : List ℕ) (i count : ℕ) (rest left : List Item) → IsCutting items (map f tables) (drop i counts) rest → i < length counts → count ≡ get_or counts i 0 → new ≡ tables ++ table ∷ [] → f table ≡ take count rest → left ≡ drop count rest → IsCutting items (map f new) (drop (i + 1) counts) left
IsCutting-more f items tables new table counts i count rest left cutting below is new_is table_is left_is =
    let step = next items (map f tables) counts i count rest cutting below is in
    let made : map f new ≡ map f tables ++ take count rest ∷ [] = ap (map f) new_is ∙ map-append f tables (table ∷ []) ∙ ap (λ t. map f tables ++ t ∷ []) table_is in
    subst (λ xs. IsCutting items (map f new) (drop (i + 1) counts) xs) (sym left_is) (record {
      counts_are = step.others;
      whole = ap (λ ts. ts ++ cut (drop count rest)) made ∙ append_assoc (map f tables) (take count rest ∷ []) (cut (drop count rest)) ∙ ap (λ ts. map f tables ++ ts) (sym step.first) ∙ cutting.whole;
    })

pub IsCutting-whole : (items : List Item) (tables : List (List Item)) (counts : List ℕ) (i : ℕ) (rest : List Item) → IsCutting items tables (drop i counts) rest → length counts ≤ i → tables ≡ cut items
IsCutting-whole items tables counts i rest cutting all = sym (append-nil tables) ∙ ap (λ ns. tables ++ pieces ns rest) (sym (drop_all i counts all) ∙ cutting.counts_are) ∙ cutting.whole

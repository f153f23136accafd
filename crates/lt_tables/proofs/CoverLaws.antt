-- The home filter of a placed table covers each key that the table holds.
use Rattle.std.proofs.Common.{◌≡◌, ℕ, ◌<◌, refl, sym, ap, subst, ◌∙◌, List, [], ◌∷◌, Bool, true, false, cond, ◌||◌, ◌&&◌, eq-eqb}
use Rattle.std.specs.Prelude.{◌==◌}
use Rattle.std.specs.List.{list_any, list_all, filter, flat_map, AllByRecursion}
use Rattle.std.specs.Cmp.Lexicographic.{bytes_decides}
use Rattle.std.proofs.lemmas.Bool.{or_left, or_right}
use Rattle.lt_terms.specs.Bytes.{same_bytes, is_in}
use Rattle.lt_terms.specs.Items.{Item}
use Rattle.lt_terms.specs.Hashes.{home_column, key_positions}
use Rattle.lt_terms.proofs.AmongLaws.{in_left, in_right}
use Rattle.lt_tables.specs.Filter.{is_set_in, home_positions, filter_block, covers}
use Rattle.lt_tables.proofs.FilterLaws.{is_set_in-filter_block}
use Rattle.lt_tables.proofs.HashLaws.{home_column-small, positions-small}

in_home : (key : List ℕ) (p : ℕ) (items : List Item) → list_any (λ (v : Item). same_bytes v.key key) items ≡ true → is_in p (key_positions key) ≡ true → is_in p (home_positions items (home_column key)) ≡ true
in_home key p [] h q = cc
in_home key p (v ∷ items) h q = step (same_bytes v.key key) refl h (λ rest. in_home key p items rest q)
  where
    later : (b : Bool) → is_in p (home_positions items (home_column key)) ≡ true → is_in p (flat_map (λ (w : Item). key_positions w.key) (cond b (v ∷ filter (λ (w : Item). home_column w.key == home_column key) items) (filter (λ (w : Item). home_column w.key == home_column key) items))) ≡ true
    later true h = in_right p (key_positions v.key) (home_positions items (home_column key)) h
    later false h = h

    step : (b : Bool) → same_bytes v.key key ≡ b → (b || list_any (λ (v : Item). same_bytes v.key key) items) ≡ true → (list_any (λ (v : Item). same_bytes v.key key) items ≡ true → is_in p (home_positions items (home_column key)) ≡ true)
        → is_in p (home_positions (v ∷ items) (home_column key)) ≡ true
    step true e h ih =
        let is : v.key ≡ key = (bytes_decides v.key key).0 e in
        subst (λ (b : Bool). is_in p (flat_map (λ (w : Item). key_positions w.key) (cond b (v ∷ filter (λ (w : Item). home_column w.key == home_column key) items) (filter (λ (w : Item). home_column w.key == home_column key) items))) ≡ true)
        (sym (eq-eqb (home_column v.key) (home_column key) (ap (λ (k : List ℕ). home_column k) is)))
        (in_left p (key_positions v.key) (home_positions items (home_column key)) (subst (λ (k : List ℕ). is_in p (key_positions k) ≡ true) (sym is) q))
    step false e h ih = later (home_column v.key == home_column key) (ih h)

within_more : (x : ℕ) (ps qs : List ℕ) → AllByRecursion (λ p. is_in p ps ≡ true) qs → AllByRecursion (λ p. is_in p (x ∷ ps) ≡ true) qs
within_more x ps [] all = tt
within_more x ps (q ∷ qs) all = (or_right (x == q) (is_in q ps) all.0, within_more x ps qs all.1)

pub within_itself : (ps : List ℕ) → AllByRecursion (λ p. is_in p ps ≡ true) ps
within_itself [] = tt
within_itself (x ∷ ps) = (or_left (x == x) (is_in x ps) (eq-eqb x x refl), within_more x ps ps (within_itself ps))

all_test : (test : ℕ → Bool) (good : ℕ → Bool) (ps : List ℕ) → ((p : ℕ) → p < 512 → good p ≡ true → test p ≡ true) → AllByRecursion (λ p. p < 512) ps → AllByRecursion (λ p. good p ≡ true) ps → list_all test ps ≡ true
all_test test good [] h small all = refl
all_test test good (p ∷ ps) h small all = ap (λ b. b && list_all test ps) (h p small.0 all.0) ∙ all_test test good ps h small.1 all.1

-- THE FILTER of a table's items covers each of their keys
pub covers-filter_block : (items : List Item) (key : List ℕ) → list_any (λ (v : Item). same_bytes v.key key) items ≡ true → covers (filter_block items) (home_column key) key ≡ true
covers-filter_block items key held =
    all_test (λ p. is_set_in (filter_block items) (home_column key) p) (λ p. is_in p (key_positions key)) (key_positions key)
    (λ p small there. is_set_in-filter_block items (home_column key) p (home_column-small key) small ∙ in_home key p items held there)
    (positions-small key) (within_itself (key_positions key))

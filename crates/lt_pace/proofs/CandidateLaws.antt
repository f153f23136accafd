-- Walks over the nodes find the candidates; with none left the image is settled, or exhausted.
use Rattle.std.proofs.Common.{◌≡◌, ◌∙◌, ℕ, zero, suc, ◌+◌, ◌-◌, ◌*◌, ◌<◌, refl, sym, ap, subst, List, [], ◌∷◌, Bool, true, false, not, cond}
use Rattle.std.proofs.Common.{◌&&◌, ◌||◌, Option, Some, None, arith, true≢false}
use Rattle.std.specs.Prelude.{◌==◌, is_some, IsTrue, IsFalse, length, nat_le, nat_lt}
use Rattle.std.specs.List.{AllByRecursion, filter, find, list_all, list_any}
use Rattle.std.specs.Option.{option_or}
use Rattle.std.proofs.lemmas.Bool.{and_from, and_parts, eq-eqb, eqb-true, le-leb, leb-true, ltb-true}
use Rattle.std.proofs.lemmas.List.Folds.{find-append}
use Rattle.lt_format.specs.declared.node_id.NodeId.{NodeId}
use Rattle.lt_terms.specs.Bytes.{Image}
use Rattle.lt_format.specs.Snapshot.{Named}
use Rattle.lt_format.specs.Trie.{IsTrie, Node, Trie, is_last_level, is_node, is_shaped}
use Rattle.lt_image.specs.Needs.{full_at, is_exhausted, is_full, is_paced, is_settled, is_slack, is_twice_full, waits}
use Rattle.lt_image.specs.Versions.{level_nodes}
use Rattle.lt_pace.specs.Candidates.{AreSlackless, PassedOverWait, full_nodes, name_of, next_full, next_slack}
use Rattle.lt_pace.specs.Marks.{is_marked}

-- the first among those that pass one test that passes another is the first that passes both
pub find-sifted : {A : Type 0} (p q : A → Bool) (xs : List A) → find p (filter q xs) ≡ find (λ x. q x && p x) xs
find-sifted p q [] = refl
find-sifted p q (x ∷ xs) = by_test (q x) (find-sifted p q xs)
  where
    by_test : (b : Bool) → find p (filter q xs) ≡ find (λ y. q y && p y) xs
        → find p (cond b (x ∷ filter q xs) (filter q xs)) ≡ cond (b && p x) (Some x) (find (λ y. q y && p y) xs)
    by_test true ih = ap (cond (p x) (Some x)) ih
    by_test false ih = ih

-- the first of one level more
pub full-level : (p : NodeId × Node → Bool) (levels : ℕ) (trie : Trie) (n : ℕ)
    → find p (full_nodes levels trie (suc n)) ≡ option_or (find (λ e. (e.0.level == n) && (is_full levels e && p e)) trie) (find p (full_nodes levels trie n))
unfolding full_nodes
full-level p levels trie n =
    find-append p (filter (is_full levels) (level_nodes trie n)) (full_nodes levels trie n)
    ∙ ap (λ e. option_or e (find p (full_nodes levels trie n)))
    (find-sifted p (is_full levels) (level_nodes trie n) ∙ find-sifted (λ e. is_full levels e && p e) (λ e. e.0.level == n) trie)

-- the first of the full piles of so many levels that is not passed over
abbrev pub first_of : ℕ → Trie → List Bool → ℕ → Option (NodeId × Node)
first_of levels trie passed_over n = find (λ e. not (is_marked passed_over e.0)) (full_nodes levels trie n)

pub no-levels : (levels : ℕ) (trie : Trie) (passed_over : List Bool) → first_of levels trie passed_over 0 ≡ None
unfolding full_nodes
no-levels levels trie passed_over = refl

-- a candidate of a level, as a test
abbrev pub is_candidate : ℕ → List Bool → ℕ → NodeId × Node → Bool
is_candidate levels passed_over n e = (e.0.level == n) && (is_full levels e && not (is_marked passed_over e.0))

some_first : (x y : Option (NodeId × Node)) → is_some (name_of x) ≡ true → name_of x ≡ name_of (option_or x y)
some_first (Some e) y h = refl
some_first None y h = absurd (true≢false (sym h))

none_first : (x y : Option (NodeId × Node)) → is_some (name_of x) ≡ false → option_or x y ≡ y
none_first (Some e) y h = absurd (true≢false h)
none_first None y h = refl

-- WHERE A LEVEL HAS A CANDIDATE it is the first of that level and all above it
pub level-found : (levels : ℕ) (trie : Trie) (passed_over : List Bool) (n : ℕ) (here : Option NodeId) → here ≡ name_of (find (is_candidate levels passed_over n) trie)
    → is_some here ≡ true → here ≡ name_of (first_of levels trie passed_over (suc n))
level-found levels trie passed_over n here is some =
    let p = λ (e : NodeId × Node). not (is_marked passed_over e.0) in
    is ∙ some_first (find (is_candidate levels passed_over n) trie) (find p (full_nodes levels trie n)) (sym (ap is_some is) ∙ some)
    ∙ ap name_of (sym (full-level p levels trie n))

-- where it has none the first is that of the levels above it
pub level-passed : (levels : ℕ) (trie : Trie) (passed_over : List Bool) (n : ℕ) (here : Option NodeId) → here ≡ name_of (find (is_candidate levels passed_over n) trie)
    → is_some here ≡ false
    → first_of levels trie passed_over (suc n) ≡ first_of levels trie passed_over n
level-passed levels trie passed_over n here is none =
    let p = λ (e : NodeId × Node). not (is_marked passed_over e.0) in
    full-level p levels trie n ∙ none_first (find (is_candidate levels passed_over n) trie) (find p (full_nodes levels trie n)) (sym (ap is_some is) ∙ none)

-- ---- with none left

none_found : {A : Type 0} (p : A → Bool) (xs : List A) → find p xs ≡ None → AllByRecursion (λ x. p x ≡ false) xs
none_found p [] h = tt
none_found p (x ∷ xs) h = by_test (p x) refl h (none_found p xs)
  where
    by_test : (b : Bool) → p x ≡ b → cond b (Some x) (find p xs) ≡ None → (find p xs ≡ None → AllByRecursion (λ y. p y ≡ false) xs) → AllByRecursion (λ y. p y ≡ false) (x ∷ xs)
    by_test true e h ih = cc
    by_test false e h ih = (e, ih h)

-- where neither has one
pub none_either : (a b : Option (NodeId × Node)) → option_or a b ≡ None → (a ≡ None) × (b ≡ None)
none_either None b h = (refl, h)
none_either (Some x) b h = cc

-- with no candidate at so many levels each full pile there is passed over
full_marked : (levels : ℕ) (trie : Trie) (passed_over : List Bool) (n : ℕ) → first_of levels trie passed_over n ≡ None
    → (level : ℕ) → level < n → AllByRecursion (λ e. is_candidate levels passed_over level e ≡ false) trie
full_marked levels trie passed_over zero h level less = absurd (omega (arith, less))
full_marked levels trie passed_over (suc n) h level less =
    let p = λ (e : NodeId × Node). not (is_marked passed_over e.0) in
    let both = none_either (find (is_candidate levels passed_over n) trie) (first_of levels trie passed_over n) (sym (full-level p levels trie n) ∙ h) in
    by_last (level == n) refl both.0 (λ before. full_marked levels trie passed_over n both.1 level before)
  where
    by_last : (b : Bool) → (level == n) ≡ b → find (is_candidate levels passed_over n) trie ≡ None
        → (level < n → AllByRecursion (λ e. is_candidate levels passed_over level e ≡ false) trie)
        → AllByRecursion (λ e. is_candidate levels passed_over level e ≡ false) trie
    by_last true e here ih = subst (λ k. AllByRecursion (λ x. is_candidate levels passed_over k x ≡ false) trie) (sym (eqb-true level n e)) (none_found (is_candidate levels passed_over n) trie here)
    by_last false e here ih = ih (before (λ same. true≢false (sym (eq-eqb level n same) ∙ e)))
      where
        before : (level ≡ n → ⊥) → level < n
        before apart = omega (arith, less)

-- what holds at each of so many levels of all nodes holds of each node at each of them
swapped : (P : ℕ → NodeId × Node → Type 0) (n : ℕ) (es : Trie) → ((k : ℕ) → k < n → AllByRecursion (P k) es) → AllByRecursion (λ e. (k : ℕ) → k < n → P k e) es
swapped P n [] h = tt
swapped P n (e ∷ es) h = ((λ k less. (h k less).0), swapped P n es (λ k less. (h k less).1))

nodes_within : (levels extents : ℕ) (es : Trie) → list_all (λ (e : NodeId × Node). is_node levels e.0 && nat_le 1 (length e.1.tables) && is_shaped levels extents e.0 e.1) es ≡ true
    → AllByRecursion (λ (e : NodeId × Node). e.0.level < levels) es
nodes_within levels extents [] h = tt
nodes_within levels extents (e ∷ es) h =
    let p = and_parts (is_node levels e.0 && nat_le 1 (length e.1.tables) && is_shaped levels extents e.0 e.1) _ h in
    let a = and_parts (is_node levels e.0 && nat_le 1 (length e.1.tables)) _ p.0 in
    let b = and_parts (is_node levels e.0) _ a.0 in
    (ltb-true e.0.level levels (and_parts (nat_lt e.0.level levels) _ b.0).0, nodes_within levels extents es p.1)

-- a full pile that is no candidate is passed over, and so waits
full_waits : (levels : ℕ) (passed_over : List Bool) (e : NodeId × Node) (w : Bool) → is_candidate levels passed_over e.0.level e ≡ false
    → (is_marked passed_over e.0 ≡ true → w ≡ true) → (not (is_full levels e) || w) ≡ true
full_waits levels passed_over e w none wait = by_tests (is_full levels e) (is_marked passed_over e.0) (subst (λ b. (b && (is_full levels e && not (is_marked passed_over e.0))) ≡ false) (eq-eqb e.0.level e.0.level refl) none) wait
  where
    by_tests : (full marked : Bool) → (full && not marked) ≡ false → (marked ≡ true → w ≡ true) → (not full || w) ≡ true
    by_tests false marked h g = refl
    by_tests true true h g = g refl
    by_tests true false h g = absurd (true≢false h)

all_full_wait : (levels : ℕ) (passed_over : List Bool) (m : Named) (image : Image) (es : Trie)
    → AllByRecursion (λ (e : NodeId × Node). e.0.level < levels) es → AllByRecursion (λ e. (k : ℕ) → k < levels → is_candidate levels passed_over k e ≡ false) es
    → AllByRecursion (λ e. IsTrue (is_marked passed_over e.0) → IsTrue (waits m image e)) es → list_all (λ e. not (is_full levels e) || waits m image e) es ≡ true
all_full_wait levels passed_over m image [] within none wait = refl
all_full_wait levels passed_over m image (e ∷ es) within none wait = and_from _ _ (full_waits levels passed_over e (waits m image e) (none.0 e.0.level within.0) wait.0) (all_full_wait levels passed_over m image es within.1 none.1 wait.1)

-- WITH NO FULL PILE LEFT the image is settled
pub none-settled : (m : Named) (image : Image) (extents : ℕ) (passed_over : List Bool) → IsTrie m.geometry.levels extents m.manifest.trie → PassedOverWait m image passed_over
    → next_full m.geometry.levels m.manifest.trie passed_over ≡ None → is_settled m image ≡ true
unfolding is_settled
none-settled m image extents passed_over t wait none =
    let levels : ℕ = m.geometry.levels in
    let trie : Trie = m.manifest.trie in
    all_full_wait levels passed_over m image trie (nodes_within levels extents trie t.nodes)
    (swapped (λ k e. is_candidate levels passed_over k e ≡ false) levels trie (full_marked levels trie passed_over levels none)) wait

-- a pile with slack that is passed over or has no slack waits
slack_waits : (levels : ℕ) (passed_over without_slack : List Bool) (m : Named) (image : Image) (e : NodeId × Node) → levels ≡ m.geometry.levels
    → ((e.0.level == levels - 1) && not (is_marked passed_over e.0 || is_marked without_slack e.0)) ≡ false
    → (is_marked passed_over e.0 ≡ true → waits m image e ≡ true) → (is_marked without_slack e.0 ≡ true → is_slack m image e ≡ false) → (not (is_slack m image e) || waits m image e) ≡ true
slack_waits levels passed_over without_slack m image e is none wait less = by_slack (is_slack m image e) refl
  where
    by_tests : (over without : Bool) → not (over || without) ≡ false → (over ≡ true → waits m image e ≡ true) → (without ≡ true → ⊥) → waits m image e ≡ true
    by_tests true without h g k = g refl
    by_tests false true h g k = absurd (k refl)
    by_tests false false h g k = absurd (true≢false h)

    by_slack : (b : Bool) → is_slack m image e ≡ b → (not b || waits m image e) ≡ true
    by_slack false h = refl
    by_slack true h =
        let last : e.0.level + 1 ≡ m.geometry.levels = eqb-true (e.0.level + 1) m.geometry.levels (and_parts (is_last_level m.geometry.levels e.0) _ h).0 in
        let at : (e.0.level == levels - 1) ≡ true = eq-eqb e.0.level (levels - 1) (omega (arith, last, is)) in
        by_tests (is_marked passed_over e.0) (is_marked without_slack e.0) (subst (λ b. (b && not (is_marked passed_over e.0 || is_marked without_slack e.0)) ≡ false) at none) wait
        (λ marked. true≢false (sym h ∙ less marked))

all_slack_wait : (levels : ℕ) (passed_over without_slack : List Bool) (m : Named) (image : Image) (es : Trie) → levels ≡ m.geometry.levels
    → AllByRecursion (λ e. ((e.0.level == levels - 1) && not (is_marked passed_over e.0 || is_marked without_slack e.0)) ≡ false) es
    → AllByRecursion (λ e. IsTrue (is_marked passed_over e.0) → IsTrue (waits m image e)) es → AllByRecursion (λ e. IsTrue (is_marked without_slack e.0) → IsFalse (is_slack m image e)) es
    → list_all (λ e. not (is_slack m image e) || waits m image e) es ≡ true
all_slack_wait levels passed_over without_slack m image [] is none wait less = refl
all_slack_wait levels passed_over without_slack m image (e ∷ es) is none wait less = and_from _ _ (slack_waits levels passed_over without_slack m image e is none.0 wait.0 less.0) (all_slack_wait levels passed_over without_slack m image es is none.1 wait.1 less.1)

-- WITH NO PILE WITH SLACK LEFT either it is exhausted
pub none-exhausted : (m : Named) (image : Image) (extents : ℕ) (passed_over without_slack : List Bool) → IsTrie m.geometry.levels extents m.manifest.trie → PassedOverWait m image passed_over → AreSlackless m image without_slack
    → next_full m.geometry.levels m.manifest.trie passed_over ≡ None → next_slack m.geometry.levels m.manifest.trie passed_over without_slack ≡ None → is_exhausted m image ≡ true
unfolding is_exhausted
none-exhausted m image extents passed_over without_slack t wait less full slack =
    let levels : ℕ = m.geometry.levels in
    let trie : Trie = m.manifest.trie in
    let p = λ (e : NodeId × Node). not (is_marked passed_over e.0 || is_marked without_slack e.0) in
    let none = none_found (λ e. (e.0.level == levels - 1) && p e) trie (sym (find-sifted p (λ e. e.0.level == levels - 1) trie) ∙ slack) in
    and_from _ _ (none-settled m image extents passed_over t wait full) (all_slack_wait levels passed_over without_slack m image trie refl none wait less)

-- ---- paced

-- a pile with twice as many tables as make it full is full
twice_full : (levels : ℕ) (e : NodeId × Node) → is_twice_full levels e ≡ true → is_full levels e ≡ true
twice_full levels e twice = le-leb (full_at levels e.0 e.1) (length e.1.tables) (let many = leb-true (2 * full_at levels e.0 e.1) (length e.1.tables) twice in omega (arith, many))

-- WHERE EACH FULL PILE WAITS each of twice that size does
pub settled-paced : (m : Named) (image : Image) → is_settled m image ≡ true → is_paced m image ≡ true
unfolding is_settled is_paced
settled-paced m image = all m.manifest.trie
  where
    one : (full twice wait : Bool) → (twice ≡ true → full ≡ true) → (not full || wait) ≡ true → (not twice || wait) ≡ true
    one full false wait more h = refl
    one true true wait more h = h
    one false true wait more h = absurd (true≢false (sym (more refl)))

    all : (es : Trie) → list_all (λ e. not (is_full m.geometry.levels e) || waits m image e) es ≡ true → list_all (λ e. not (is_twice_full m.geometry.levels e) || waits m image e) es ≡ true
    all [] h = refl
    all (e ∷ es) h =
        let parts = and_parts (not (is_full m.geometry.levels e) || waits m image e) _ h in
        and_from _ _ (one (is_full m.geometry.levels e) (is_twice_full m.geometry.levels e) (waits m image e) (twice_full m.geometry.levels e) parts.0) (all es parts.1)

-- WHERE NO PILE is of twice that size there is none that is to wait
pub small-paced : (m : Named) (image : Image) → list_any (is_twice_full m.geometry.levels) m.manifest.trie ≡ false → is_paced m image ≡ true
unfolding is_paced
small-paced m image = all m.manifest.trie
  where
    one : (a b : Bool) → (a || b) ≡ false → (a ≡ false) × (b ≡ false)
    one true b h = absurd (true≢false h)
    one false b h = (refl, h)

    all : (es : Trie) → list_any (is_twice_full m.geometry.levels) es ≡ false → list_all (λ e. not (is_twice_full m.geometry.levels e) || waits m image e) es ≡ true
    all [] h = refl
    all (e ∷ es) h =
        let parts = one (is_twice_full m.geometry.levels e) (list_any (is_twice_full m.geometry.levels) es) h in
        and_from _ _ (ap (λ b. not b || waits m image e) parts.0) (all es parts.1)

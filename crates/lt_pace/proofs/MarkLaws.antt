-- Each node of a trie has a flag of its own.
use Rattle.std.proofs.Common.{◌≡◌, ◌∙◌, ℕ, zero, suc, ◌+◌, ◌-◌, ◌*◌, ◌^◌, ◌<◌, ◌≤◌, min, cond, refl, sym, ap, subst, true, false, Bool}
use Rattle.std.proofs.Common.{arith, pow-suc, ⊎_elim, List, length, ◌||◌, ◌&&◌, not, true≢false}
use Rattle.std.specs.Prelude.{nat_lt, slice_index_or, slice_set}
use Rattle.std.proofs.lemmas.Bool.{and_parts, ltb-true, cases_eq, cases_lt}
use Rattle.std.proofs.lemmas.List.{get_or-set_other, get_or-set_same}
use Rattle.lt_format.specs.declared.node_id.NodeId.{NodeId}
use Rattle.lt_format.specs.Trie.{is_node, same_node}
use Rattle.lt_format.proofs.TrieLaws.{same_node-itself, same_node-same}
use Rattle.lt_pace.specs.Marks.{first_place, is_marked, marked, most_nodes, place_of, unmarked}

powers : (level : ℕ) → 8 ^ level ≡ 7 * first_place level + 1
powers zero = refl
powers (suc level) = let ih = powers level in let e : 8 ^ suc level ≡ 8 ^ level * 8 = pow-suc 8 level in omega (arith, ih, e)

rises : (a n : ℕ) → first_place a ≤ first_place (n + a)
rises a zero = let e : zero + a ≡ a = omega arith in subst (λ k. first_place a ≤ first_place k) (sym e) (omega arith)
rises a (suc n) =
    let ih = rises a n in
    let e : suc n + a ≡ suc (n + a) = omega arith in
    subst (λ k. first_place a ≤ first_place k) (sym e) (omega arith)

-- the flags of a level lie behind those of the levels above it
levels-rise : (a b : ℕ) → a ≤ b → first_place a ≤ first_place b
levels-rise a b le =
    let e : (b - a) + a ≡ b = omega arith in
    subst (λ k. first_place a ≤ first_place k) e (rises a (b - a))

within : (levels : ℕ) (id : NodeId) → is_node levels id ≡ true → (id.level < levels) × (id.number < 8 ^ id.level)
within levels id h =
    let both = and_parts (nat_lt id.level levels) (nat_lt id.number (8 ^ id.level)) h in
    (ltb-true _ _ both.0, ltb-true _ _ both.1)

-- the flag of a node lies before those of the next level
before : (levels : ℕ) (id : NodeId) → is_node levels id ≡ true → place_of id < first_place (suc id.level)
before levels id h = let p = powers id.level in let small = (within levels id h).1 in omega (arith, p, small)

-- a node of five levels has a flag
pub place-small : (id : NodeId) → is_node 5 id ≡ true → place_of id < most_nodes
place-small id h =
    let near = before 5 id h in
    let low : id.level < 5 = (within 5 id h).0 in
    let up : first_place (suc id.level) ≤ first_place 5 = levels-rise (suc id.level) 5 (omega arith) in
    omega (arith, near, up)

-- the flags of the first five levels begin before the end
pub starts-within : (level : ℕ) → level ≤ 5 → first_place level ≤ most_nodes
starts-within level le = let up : first_place level ≤ first_place 5 = levels-rise level 5 le in omega (arith, up)

-- counting levels up to five only gives each place that lies before the end, and no other
pub place-near : (id : NodeId) → first_place (min id.level 5) + id.number < most_nodes → first_place (min id.level 5) + id.number ≡ place_of id
place-near id h = ⊎_elim
    (λ (low : id.level < 5). ap (λ level. first_place level + id.number) (lower low))
    (λ (deep : 5 ≤ id.level). absurd (let e : first_place (min id.level 5) ≡ first_place 5 = ap first_place (upper deep) in omega (arith, e, h)))
    (cases_lt id.level 5)
  where
    lower : id.level < 5 → min id.level 5 ≡ id.level
    lower low = omega (arith, low)

    upper : 5 ≤ id.level → min id.level 5 ≡ 5
    upper deep = omega (arith, deep)

pub place-far : (id : NodeId) → most_nodes ≤ first_place (min id.level 5) + id.number → most_nodes ≤ place_of id
place-far id h =
    let up : first_place (min id.level 5) ≤ first_place id.level = levels-rise (min id.level 5) id.level (omega arith) in
    omega (arith, up, h)

-- EACH NODE has a flag of its own
places-apart : (a b : NodeId) → is_node 5 a ≡ true → is_node 5 b ≡ true → place_of a ≡ place_of b → a ≡ b
places-apart a b na nb same = ⊎_elim
    (λ (level : a.level ≡ b.level).
    let start : first_place a.level ≡ first_place b.level = ap first_place level in
    let number : a.number ≡ b.number = omega (arith, same, start) in
    λ i. record { level = level i; number = number i })
    (λ (apart : a.level ≡ b.level → ⊥). absurd (strict apart))
    (cases_eq a.level b.level)
  where
    low : (x y : NodeId) → is_node 5 x ≡ true → place_of x ≡ place_of y → x.level < y.level → ⊥
    low x y nx e above =
        let near = before 5 x nx in
        let up : first_place (suc x.level) ≤ first_place y.level = levels-rise (suc x.level) y.level (omega arith) in
        omega (arith, near, up, e)

    strict : (a.level ≡ b.level → ⊥) → ⊥
    strict apart = ⊎_elim (λ (l : a.level < b.level). low a b na same l) (λ (g : b.level ≤ a.level). low b a nb (sym same) (more g)) (cases_lt a.level b.level)
      where
        more : b.level ≤ a.level → b.level < a.level
        more g = omega arith

-- a flag that is set is read at its node, and all others as before
set-one : (marks : List Bool) (a b : NodeId) (value : Bool) → length marks ≡ most_nodes → is_node 5 a ≡ true → is_node 5 b ≡ true
    → slice_index_or (slice_set marks (place_of a) value) (place_of b) false ≡ cond (same_node a b) value (is_marked marks b)
set-one marks a b value len na nb = by_test (same_node a b) refl
  where
    by_test : (s : Bool) → same_node a b ≡ s → slice_index_or (slice_set marks (place_of a) value) (place_of b) false ≡ cond s value (is_marked marks b)
    by_test true same =
        let within : place_of a < length marks = subst (λ n. place_of a < n) (sym len) (place-small a na) in
        subst (λ id. slice_index_or (slice_set marks (place_of a) value) (place_of id) false ≡ value) (same_node-same a b same) (get_or-set_same marks (place_of a) value false within)
    by_test false apart =
        get_or-set_other marks (place_of a) (place_of b) value false
        (λ same. true≢false (sym (subst (λ id. same_node a id ≡ true) (places-apart a b na nb (sym same)) (same_node-itself a)) ∙ apart))

cond-or : (s x : Bool) → cond s true x ≡ (s || x)
cond-or true x = refl
cond-or false x = refl

cond-and : (s x : Bool) → cond s false x ≡ (not s && x)
cond-and true x = refl
cond-and false x = refl

pub mark-one : (marks : List Bool) (a b : NodeId) → length marks ≡ most_nodes → is_node 5 a ≡ true → is_node 5 b ≡ true → is_marked (marked marks a) b ≡ (same_node a b || is_marked marks b)
mark-one marks a b len na nb = set-one marks a b true len na nb ∙ cond-or (same_node a b) (is_marked marks b)

pub clear-one : (marks : List Bool) (a b : NodeId) → length marks ≡ most_nodes → is_node 5 a ≡ true → is_node 5 b ≡ true → is_marked (unmarked marks a) b ≡ (not (same_node a b) && is_marked marks b)
clear-one marks a b len na nb = set-one marks a b false len na nb ∙ cond-and (same_node a b) (is_marked marks b)

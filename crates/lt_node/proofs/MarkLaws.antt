-- Marks of numbers, and numbers that are new beside marked ones.
use Rattle.std.proofs.Common.{◌≡◌, ◌≢◌, ℕ, zero, suc, ◌+◌, ◌<◌, refl, sym, ap, subst, ◌∙◌, Bool, true, false, not, ◌&&◌, ◌||◌, List, [], ◌∷◌, ◌++◌, length, get_or, set, take, drop, replicate, map, append_assoc, append-nil, IsTrue, arith, ⊎_elim}
use Rattle.std.specs.Prelude.{◌==◌, nat_lt}
use Rattle.std.specs.List.{flat_map, list_all}
use Rattle.std.proofs.lemmas.Bool.{and_parts, and_from, true≢false, cases_eq, ne_eqb, ltb-true, lt-ltb}
use Rattle.std.proofs.lemmas.List.{get_or-set_same, get_or-set_other, get_or-replicate, take_more, take-append-drop, length-set, length-replicate, map-append}
use Rattle.std.proofs.lemmas.List.Folds.{list_all-append}
use Rattle.std.proofs.lemmas.Grind.{flat_map-append}
use Rattle.std.proofs.Math.Bool.{and_assoc, and-true}
use Rattle.lt_terms.specs.Bytes.{is_in}
use Rattle.lt_terms.proofs.AmongLaws.{in_append, in_last}
use Rattle.lt_format.specs.declared.node_id.NodeId.{NodeId}
use Rattle.lt_format.specs.Trie.{Node, Trie, node_extents, named, all_distinct, all_below}
use Rattle.lt_format.specs.Changes.{ChildChange, are_new, given_extents}
use Rattle.lt_node.specs.declared.change.ChildChange.{ChildChange as Child}
use Rattle.lt_node.specs.Changing.{child_of, freed_groups}
use Rattle.lt_node.specs.Marks.{AreMarks, are_fresh, TellsNew}
use Rattle.lt_tables.proofs.FilterLaws.{eqb_sym}

or_none : (a b : Bool) → b ≡ false → (a || b) ≡ a
or_none true b h = refl
or_none false b h = h

-- ---- one number is marked

seen_else : (x y : ℕ) (seen : List ℕ) → x ≢ y → is_in x (seen ++ y ∷ []) ≡ is_in x seen
seen_else x y seen apart = in_append x seen (y ∷ []) ∙ or_none (is_in x seen) (is_in x (y ∷ [])) (ap (λ b. b || false) (ne_eqb y x (λ e. apart (sym e))))

pub marks_one : (flags : List Bool) (seen : List ℕ) (number : ℕ) → AreMarks flags seen → number < length flags → AreMarks (set flags number true) (seen ++ number ∷ [])
marks_one flags seen number are within x below = ⊎_elim
    (λ (same : x ≡ number). subst (λ y. get_or (set flags number true) y false ≡ is_in y (seen ++ number ∷ [])) (sym same) (get_or-set_same flags number true false within ∙ sym (in_last number seen)))
    (λ (other : x ≢ number). get_or-set_other flags number x true false other ∙ are x (omega (arith, length-set flags number true)) ∙ sym (seen_else x number seen other))
    (cases_eq x number)

pub no_marks : (limit : ℕ) → AreMarks (replicate limit false) []
no_marks limit x below = get_or-replicate limit x false false (omega (arith, length-replicate limit false))

-- ---- numbers that are new

fresh-append : (limit : ℕ) (seen xs ys : List ℕ) → are_fresh limit seen (xs ++ ys) ≡ (are_fresh limit seen xs && are_fresh limit (seen ++ xs) ys)
fresh-append limit seen [] ys = ap (λ s. are_fresh limit s ys) (sym (append-nil seen))
fresh-append limit seen (x ∷ xs) ys =
    let rest = fresh-append limit (seen ++ x ∷ []) xs ys in
    let step : are_fresh limit ((seen ++ x ∷ []) ++ xs) ys ≡ are_fresh limit (seen ++ x ∷ xs) ys = ap (λ s. are_fresh limit s ys) (append_assoc seen (x ∷ []) xs) in
    ap (λ b. (nat_lt x limit && not (is_in x seen)) && b) (rest ∙ ap (λ b. are_fresh limit (seen ++ x ∷ []) xs && b) step)
    ∙ sym (and_assoc (nat_lt x limit && not (is_in x seen)) (are_fresh limit (seen ++ x ∷ []) xs) (are_fresh limit (seen ++ x ∷ xs) ys))

pub tells_one : (limit : ℕ) (seen : List ℕ) (x : ℕ) (answer : Bool) (new : List Bool) → answer ≡ (nat_lt x limit && not (is_in x seen)) → (IsTrue answer → AreMarks new (seen ++ x ∷ [])) → TellsNew limit seen (x ∷ []) answer new
tells_one limit seen x answer new told marks = record { told = told ∙ sym (and-true (nat_lt x limit && not (is_in x seen))); marks = marks }

-- two lists, one after the other
pub tells_both : (limit : ℕ) (seen xs ys : List ℕ) (mid new : List Bool) (answer : Bool) → TellsNew limit seen xs true mid → TellsNew limit (seen ++ xs) ys answer new → TellsNew limit seen (xs ++ ys) answer new
tells_both limit seen xs ys mid new answer a b = record {
  told = b.told ∙ ap (λ t. t && are_fresh limit (seen ++ xs) ys) a.told ∙ sym (fresh-append limit seen xs ys);
  marks = λ yes. subst (AreMarks new) (append_assoc seen xs ys) (b.marks yes);
}

pub tells_none : (limit : ℕ) (seen xs ys : List ℕ) (mid new : List Bool) → TellsNew limit seen xs false mid → TellsNew limit seen (xs ++ ys) false new
tells_none limit seen xs ys mid new a = record {
  told = ap (λ t. t && are_fresh limit (seen ++ xs) ys) a.told ∙ sym (fresh-append limit seen xs ys);
  marks = λ yes. absurd (true≢false (sym yes));
}

-- ---- a loop that marks list after list

pub tells_start : (limit : ℕ) (seen : List ℕ) (flags : List Bool) → AreMarks flags seen → TellsNew limit seen [] true flags
tells_start limit seen flags are = record { told = refl; marks = λ yes. subst (AreMarks flags) (sym (append-nil seen)) are }

-- ---- what is new beside the extents that are named

fresh_head : (a b c d e f : Bool) → ((a && b) && ((c && d) && (e && f))) ≡ (((e && c) && (a && d)) && (b && f))
fresh_head true true true true true f = refl
fresh_head true true true true false f = refl
fresh_head true true true false true f = refl
fresh_head true true true false false f = refl
fresh_head true true false d true f = refl
fresh_head true true false d false f = refl
fresh_head true false c d e f = tail c d e
  where
    tail : (c d e : Bool) → false ≡ (((e && c) && d) && false)
    tail true true true = refl
    tail true true false = refl
    tail true false true = refl
    tail true false false = refl
    tail false d true = refl
    tail false d false = refl
fresh_head false b c d true f = fall c
  where
    fall : (c : Bool) → false ≡ ((c && false) && (b && f))
    fall true = refl
    fall false = refl
fresh_head false b c d false f = refl

both_not : (a b : Bool) → not (a || b) ≡ (not a && not b)
both_not true b = refl
both_not false b = refl

-- none of the numbers is x, and none was seen
apart_from : (x : ℕ) (seen xs : List ℕ) → list_all (λ y. not (is_in y (seen ++ x ∷ []))) xs ≡ (not (is_in x xs) && list_all (λ y. not (is_in y seen)) xs)
apart_from x seen [] = refl
apart_from x seen (y ∷ ys) =
    let here : not (is_in y (seen ++ x ∷ [])) ≡ (not (is_in y seen) && not (y == x)) =
    ap not (in_append y seen (x ∷ []) ∙ ap (λ b. is_in y seen || b) (or_none (x == y) false refl ∙ eqb_sym x y)) ∙ both_not (is_in y seen) (y == x) in
    ap (λ b. b && list_all (λ z. not (is_in z (seen ++ x ∷ []))) ys) here
    ∙ ap (λ b. (not (is_in y seen) && not (y == x)) && b) (apart_from x seen ys)
    ∙ swap_heads (not (is_in y seen)) (not (y == x)) (not (is_in x ys)) (list_all (λ z. not (is_in z seen)) ys)
    ∙ ap (λ b. b && (not (is_in y seen) && list_all (λ z. not (is_in z seen)) ys)) (sym (both_not (y == x) (is_in x ys)))
  where
    swap_heads : (a b c d : Bool) → ((a && b) && (c && d)) ≡ ((b && c) && (a && d))
    swap_heads true b c d = sym (and_assoc b c d)
    swap_heads false true true d = refl
    swap_heads false true false d = refl
    swap_heads false false c d = refl

pub fresh-new : (limit : ℕ) (seen xs : List ℕ) → are_fresh limit seen xs ≡ ((all_distinct xs && all_below limit xs) && list_all (λ x. not (is_in x seen)) xs)
fresh-new limit seen [] = refl
fresh-new limit seen (x ∷ xs) =
    ap (λ b. (nat_lt x limit && not (is_in x seen)) && b) (fresh-new limit (seen ++ x ∷ []) xs ∙ ap (λ b. (all_distinct xs && all_below limit xs) && b) (apart_from x seen xs))
    ∙ fresh_head (nat_lt x limit) (not (is_in x seen)) (all_distinct xs) (all_below limit xs) (not (is_in x xs)) (list_all (λ y. not (is_in y seen)) xs)

-- ---- the numbers of a list below a limit

pub below_at : (limit : ℕ) (xs : List ℕ) (i : ℕ) → all_below limit xs ≡ true → i < length xs → get_or xs i 0 < limit
below_at limit [] i h within = absurd (omega arith)
below_at limit (x ∷ xs) zero h within = ltb-true x limit (and_parts (nat_lt x limit) (all_below limit xs) h).0
below_at limit (x ∷ xs) (suc i) h within = below_at limit xs i (and_parts (nat_lt x limit) (all_below limit xs) h).1 (omega arith)

pub below_parts : (limit : ℕ) (xs ys : List ℕ) → all_below limit (xs ++ ys) ≡ true → (all_below limit xs ≡ true) × (all_below limit ys ≡ true)
below_parts limit xs ys h = and_parts (all_below limit xs) (all_below limit ys) (sym (list_all-append (λ x. nat_lt x limit) xs ys) ∙ h)

pub below_node : (limit : ℕ) (es : Trie) (i : ℕ) (d : NodeId × Node) → all_below limit (named es) ≡ true → i < length es → all_below limit (node_extents (get_or es i d).1) ≡ true
below_node limit [] i d h within = absurd (omega arith)
below_node limit (e ∷ es) zero d h within = (below_parts limit (node_extents e.1) (named es) h).0
below_node limit (e ∷ es) (suc i) d h within = below_node limit es i d (below_parts limit (node_extents e.1) (named es) h).1 (omega arith)

-- one more node is marked
pub named_more : (es : Trie) (i : ℕ) (d : NodeId × Node) → i < length es → named (take (i + 1) es) ≡ named (take i es) ++ node_extents (get_or es i d).1
named_more es i d within =
    ap named (take_more es i d within) ∙ flat_map-append (λ (e : NodeId × Node). node_extents e.1) (take i es) (get_or es i d ∷ [])
    ∙ ap (λ r. named (take i es) ++ r) (append-nil (node_extents (get_or es i d).1))

-- ---- what one mark tells

pub tells_marked : (flags : List Bool) (number : ℕ) → number < length flags → get_or flags number false ≡ false → (seen : List ℕ) → AreMarks flags seen → TellsNew (length flags) seen (number ∷ []) true (set flags number true)
tells_marked flags number within free seen are =
    let absent : is_in number seen ≡ false = sym (are number within) ∙ free in
    tells_one (length flags) seen number true (set flags number true)
    (sym (and_from (nat_lt number (length flags)) (not (is_in number seen)) (lt-ltb number (length flags) within) (ap not absent)))
    (λ yes. marks_one flags seen number are within)

-- ---- loops over numbers

-- the flags mark what was seen, and these
abbrev pub MarksMore : List Bool → List ℕ → List Bool → Type 0
MarksMore old xs new = (seen : List ℕ) → AreMarks old seen → AreMarks new (seen ++ xs)

pub marks_start : (flags : List Bool) → MarksMore flags [] flags
marks_start flags seen are = subst (AreMarks flags) (sym (append-nil seen)) are

pub marks_next : (old mid new : List Bool) (xs ys zs : List ℕ) → MarksMore old xs mid → MarksMore mid ys new → zs ≡ xs ++ ys → MarksMore old zs new
marks_next old mid new xs ys zs a b joins seen are = subst (AreMarks new) (append_assoc seen xs ys ∙ ap (λ l. seen ++ l) (sym joins)) (b (seen ++ xs) (a seen are))

pub mark_more : (flags : List Bool) (number : ℕ) → number < length flags → MarksMore flags (number ∷ []) (set flags number true)
mark_more flags number within seen are = marks_one flags seen number are within

-- the numbers so far are new, and the flags mark them
abbrev pub TellsMore : ℕ → List Bool → List ℕ → Bool → List Bool → Type 0
TellsMore limit old xs answer new = (seen : List ℕ) → AreMarks old seen → TellsNew limit seen xs answer new

pub tells_begin : (limit : ℕ) (flags : List Bool) → TellsMore limit flags [] true flags
tells_begin limit flags seen are = tells_start limit seen flags are

pub tells_next : (limit : ℕ) (old mid new : List Bool) (xs ys zs : List ℕ) (answer : Bool) → TellsMore limit old xs true mid → length mid ≡ limit → TellsMore (length mid) mid ys answer new → zs ≡ xs ++ ys → TellsMore limit old zs answer new
tells_next limit old mid new xs ys zs answer a same b joins seen are =
    let first = a seen are in
    let second = subst (λ n. TellsNew n (seen ++ xs) ys answer new) same (b (seen ++ xs) (first.marks refl)) in
    subst (λ l. TellsNew limit seen l answer new) (sym joins) (tells_both limit seen xs ys mid new answer first second)

pub tells_stop : (limit : ℕ) (old new : List Bool) (xs ys zs : List ℕ) → TellsMore limit old xs false new → zs ≡ xs ++ ys → TellsMore limit old zs false new
tells_stop limit old new xs ys zs a joins seen are = subst (λ l. TellsNew limit seen l false new) (sym joins) (tells_none limit seen xs ys new new (a seen are))

-- the list is what was done and the rest
pub cut_here : (xs : List ℕ) (i : ℕ) → xs ≡ take i xs ++ drop i xs
cut_here xs i = sym (take-append-drop i xs)

-- ---- extents of a change

pub tells_are_new : (limit : ℕ) (es : Trie) (xs : List ℕ) (answer : Bool) (new : List Bool) → TellsNew limit (named es) xs answer new → answer ≡ are_new limit es xs
tells_are_new limit es xs answer new t = t.told ∙ fresh-new limit (named es) xs

-- one more child's extents
pub given_more : (children : List Child) (i : ℕ) (d : Child) → i < length children → given_extents (map child_of (take (i + 1) children)) ≡ given_extents (map child_of (take i children)) ++ ((get_or children i d).tables ++ (get_or children i d).groups)
given_more children i d within =
    ap (λ cs. given_extents (map child_of cs)) (take_more children i d within) ∙ ap given_extents (map-append child_of (take i children) (get_or children i d ∷ []))
    ∙ flat_map-append (λ (c : ChildChange). c.tables ++ c.groups) (map child_of (take i children)) (child_of (get_or children i d) ∷ [])
    ∙ ap (λ r. given_extents (map child_of (take i children)) ++ r) (append-nil ((get_or children i d).tables ++ (get_or children i d).groups))

-- one more child's groups that it does not keep
pub freed_more : (trie : Trie) (children : List Child) (i : ℕ) (d : Child) → i < length children
    → flat_map (freed_groups trie) (map child_of (take (i + 1) children)) ≡ flat_map (freed_groups trie) (map child_of (take i children)) ++ freed_groups trie (child_of (get_or children i d))
freed_more trie children i d within =
    ap (λ cs. flat_map (freed_groups trie) (map child_of cs)) (take_more children i d within) ∙ ap (flat_map (freed_groups trie)) (map-append child_of (take i children) (get_or children i d ∷ []))
    ∙ flat_map-append (freed_groups trie) (map child_of (take i children)) (child_of (get_or children i d) ∷ [])
    ∙ ap (λ r. flat_map (freed_groups trie) (map child_of (take i children)) ++ r) (append-nil (freed_groups trie (child_of (get_or children i d))))

pub given_cut : (children : List Child) (i : ℕ) → given_extents (map child_of children) ≡ given_extents (map child_of (take i children)) ++ given_extents (map child_of (drop i children))
given_cut children i =
    ap (λ cs. given_extents (map child_of cs)) (sym (take-append-drop i children)) ∙ ap given_extents (map-append child_of (take i children) (drop i children))
    ∙ flat_map-append (λ (c : ChildChange). c.tables ++ c.groups) (map child_of (take i children)) (map child_of (drop i children))

-- Dealing and rewriting lower the number of a trie's digits.
use Rattle.std.proofs.Common.{◌≡◌, ℕ, zero, suc, ◌+◌, ◌-◌, ◌*◌, ◌<◌, ◌≤◌, refl, sym, ap, subst, ◌∙◌, List, [], ◌∷◌, ◌++◌, append_assoc, map, length, length-append, drop, Bool, true, false, cond, ◌&&◌, arith, true≢false}
use Rattle.std.specs.Prelude.{fold, nat_le, sum_by, ◌==◌}
use Rattle.std.specs.FinMap.{is_sorted}
use Rattle.std.specs.List.{AllByRecursion, range_with_len}
use Rattle.std.proofs.lemmas.Bool.{eqb-true, eq-eqb, leb-true, lt-leb, ne_eqb}
use Rattle.std.proofs.lemmas.List.{length-drop}
use Rattle.std.proofs.lemmas.List.FromFn.{length-map-range_with_len}
use Rattle.std.proofs.lemmas.List.Sums.{sum_by-cons}
use Rattle.lt_tables.proofs.FitLaws.{sum_total, total}
use Rattle.lt_tables.proofs.ListLaws.{all_join, all_weaker}
use Rattle.lt_format.specs.declared.node_id.NodeId.{NodeId}
use Rattle.lt_format.specs.Changes.{ChildChange, deal, rewrite, fits, new_extents, child_after, after_child, without_oldest, after_change, children_fit}
use Rattle.lt_format.specs.Trie.{Node, Trie, IsTrie, all_below, is_last_level, named, node_cmp, node_at, node_extents, with_node}
use Rattle.lt_format.proofs.ChildLaws.{children_fit-first, children-elsewhere}
use Rattle.lt_format.proofs.KeepLaws.{after_change-trie}
use Rattle.lt_format.proofs.NamedLaws.{children-rising}
use Rattle.lt_format.proofs.Numbers.{length-distinct}
use Rattle.lt_format.proofs.TrieLaws.{with_node-rising}
use Rattle.lt_image.specs.Needs.{full_at, is_full}
use Rattle.lt_image.specs.Versions.{level_nodes}
use Rattle.lt_image.specs.Work.{digit_base, due_piles, level_tables, number_of_digits, trie_digits}
use Rattle.lt_image.proofs.CountLaws.{with_node-weight}
use Rattle.lt_image.proofs.ShareLaws.{IsDeal, fits-deal, fits-rewrite}

-- ---- the number by its digits

abbrev AllDigits : List ℕ → Type 0
AllDigits ds = AllByRecursion (λ d. d < digit_base) ds

-- the number goes on with these digits
abbrev from_number : ℕ → List ℕ → ℕ
from_number n ds = fold (λ n d. n * digit_base + d) n ds

grows : (a b : ℕ) (xs ys : List ℕ) → a < b → length xs ≡ length ys → AllDigits xs → from_number a xs < from_number b ys
grows a b [] [] less same all = less
grows a b [] (y ∷ ys) less same all = absurd (omega arith)
grows a b (x ∷ xs) [] less same all = absurd (omega arith)
grows a b (x ∷ xs) (y ∷ ys) less same all = let small = all.0 in grows (a * digit_base + x) (b * digit_base + y) xs ys (omega arith) (omega arith) all.1

falls : (n : ℕ) (front xs ys : List ℕ) (c d : ℕ) → c < d → length xs ≡ length ys → AllDigits xs → from_number n (front ++ c ∷ xs) < from_number n (front ++ d ∷ ys)
falls n [] xs ys c d less same all = grows (n * digit_base + c) (n * digit_base + d) xs ys (omega arith) same all
falls n (f ∷ front) xs ys c d less same all = falls (n * digit_base + f) front xs ys c d less same all

-- THE FIRST DIGIT that differs decides
pub digits-decide : (front xs ys : List ℕ) (c d : ℕ) → c < d → length xs ≡ length ys → AllByRecursion (λ k. k < digit_base) xs → number_of_digits (front ++ c ∷ xs) < number_of_digits (front ++ d ∷ ys)
digits-decide = falls 0

joined_count : (f g : ℕ → ℕ) (a n : ℕ) (xs ys : List ℕ) → length xs ≡ length ys → length (map g (range_with_len a n) ++ xs) ≡ length (map f (range_with_len a n) ++ ys)
joined_count f g a n xs ys same = length-append (map g (range_with_len a n)) xs ∙ (λ i. length-map-range_with_len g a n i + same i) ∙ sym (length-append (map f (range_with_len a n)) ys ∙ ap (λ k. k + length ys) (length-map-range_with_len f a n))

-- digits of places that are the same up to place k, where they fall
places_fall : (f g : ℕ → ℕ) (a n k x : ℕ) (xs ys : List ℕ) → a ≤ k → k < a + n → ((l : ℕ) → l < k → g l ≡ f l) → g k < f k → length xs ≡ length ys → AllDigits (map g (range_with_len a n) ++ xs)
    → from_number x (map g (range_with_len a n) ++ xs) < from_number x (map f (range_with_len a n) ++ ys)
places_fall f g a zero k x xs ys low high same less count all = absurd (omega arith)
places_fall f g a (suc n) k x xs ys low high same less count all =
    by_head (a == k) refl (λ past. places_fall f g (a + 1) n k (x * digit_base + g a) xs ys past (omega arith) same less count all.1)
  where
    by_head : (b : Bool) → (a == k) ≡ b → (a + 1 ≤ k → from_number (x * digit_base + g a) (map g (range_with_len (a + 1) n) ++ xs) < from_number (x * digit_base + g a) (map f (range_with_len (a + 1) n) ++ ys))
        → from_number (x * digit_base + g a) (map g (range_with_len (a + 1) n) ++ xs) < from_number (x * digit_base + f a) (map f (range_with_len (a + 1) n) ++ ys)
    by_head true e ih =
        let here : g a < f a = subst (λ i. g i < f i) (sym (eqb-true a k e)) less in
        falls x [] (map g (range_with_len (a + 1) n) ++ xs) (map f (range_with_len (a + 1) n) ++ ys) (g a) (f a) here (joined_count f g (a + 1) n xs ys count) all.1
    by_head false e ih =
        let past : a + 1 ≤ k = beyond (λ is. true≢false (sym (eq-eqb a k is) ∙ e)) in
        subst (λ d. from_number (x * digit_base + g a) (map g (range_with_len (a + 1) n) ++ xs) < from_number (x * digit_base + d) (map f (range_with_len (a + 1) n) ++ ys)) (same a (omega arith)) (ih past)
      where
        beyond : (a ≡ k → ⊥) → a + 1 ≤ k
        beyond apart = omega arith

-- ---- the digits as sums over the nodes

abbrev at_level : ℕ → NodeId × Node → ℕ
at_level l e = cond (e.0.level == l) (length e.1.tables) 0

level_total : (trie : Trie) (l : ℕ) → level_tables trie l ≡ total (at_level l) trie
level_total [] l = refl
level_total (e ∷ es) l = by_level (e.0.level == l) (level_total es l)
  where
    by_level : (b : Bool) → level_tables es l ≡ total (at_level l) es → sum_by (λ (e : NodeId × Node). length e.1.tables) (cond b (e ∷ level_nodes es l) (level_nodes es l)) ≡ cond b (length e.1.tables) 0 + total (at_level l) es
    by_level true rest = sum_by-cons (λ (e : NodeId × Node). length e.1.tables) e (level_nodes es l) ∙ ap (λ n. length e.1.tables + n) rest
    by_level false rest = omega (arith, rest)

abbrev is_due : ℕ → NodeId × Node → Bool
is_due levels e = is_last_level levels e.0 && is_full levels e

abbrev due_weight : ℕ → NodeId × Node → ℕ
due_weight levels e = cond (is_due levels e) 1 0

due_total : (levels : ℕ) (trie : Trie) → due_piles levels trie ≡ total (due_weight levels) trie
due_total levels trie = sum_total (due_weight levels) trie

-- a node counts at most its extents
named_few : (w : NodeId × Node → ℕ) → ((e : NodeId × Node) → w e ≤ length e.1.tables) → (es : Trie) → total w es ≤ length (named es)
named_few w few [] = omega arith
named_few w few (e ∷ es) = omega (arith, length-append (node_extents e.1) (named es), length-append e.1.tables e.1.groups, few e, named_few w few es)

level_few : (l : ℕ) (e : NodeId × Node) → at_level l e ≤ length e.1.tables
level_few l e = by_level (e.0.level == l)
  where
    by_level : (b : Bool) → cond b (length e.1.tables) 0 ≤ length e.1.tables
    by_level true = omega arith
    by_level false = omega arith

due_few : (levels : ℕ) (e : NodeId × Node) → due_weight levels e ≤ length e.1.tables
due_few levels e = by_level (is_last_level levels e.0) refl
  where
    by_full : (b : Bool) → is_full levels e ≡ b → is_last_level levels e.0 ≡ true → cond b 1 0 ≤ length e.1.tables
    by_full true full last =
        let many : full_at levels e.0 e.1 ≤ length e.1.tables = leb-true (full_at levels e.0 e.1) (length e.1.tables) full in
        let size : full_at levels e.0 e.1 ≡ 2 * e.1.base + 8 = ap (λ b. cond b (2 * e.1.base + 8) 8) last in
        omega (arith, many, size)
    by_full false full last = omega arith

    by_level : (b : Bool) → is_last_level levels e.0 ≡ b → cond (b && is_full levels e) 1 0 ≤ length e.1.tables
    by_level true last = by_full (is_full levels e) refl last
    by_level false last = omega arith

levels_within : (extents : ℕ) (trie : Trie) (ls : List ℕ) → length (named trie) ≤ extents → AllByRecursion (λ d. d ≤ extents) (map (level_tables trie) ls)
levels_within extents trie [] few = tt
levels_within extents trie (l ∷ ls) few = (omega (arith, level_total trie l, named_few (at_level l) (level_few l) trie, few), levels_within extents trie ls few)

-- EACH DIGIT is at most the number of extents
pub digits-within : (levels extents : ℕ) (trie : Trie) → IsTrie levels extents trie → AllByRecursion (λ d. d ≤ extents) (trie_digits levels trie)
digits-within levels extents trie t =
    let few : length (named trie) ≤ extents = length-distinct extents (named trie) t.distinct t.below in
    all_join (λ d. d ≤ extents) (map (level_tables trie) (range_with_len 0 (levels - 1))) (due_piles levels trie ∷ []) (levels_within extents trie (range_with_len 0 (levels - 1)) few)
    (omega (arith, due_total levels trie, named_few (due_weight levels) (due_few levels) trie, few), tt)

-- and below the base
pub digits-below : (levels extents : ℕ) (trie : Trie) → extents ≤ 65536 → IsTrie levels extents trie → AllByRecursion (λ d. d < digit_base) (trie_digits levels trie)
digits-below levels extents trie small t = all_weaker (λ d. d ≤ extents) (λ d. d < digit_base) (λ d few. omega arith) (trie_digits levels trie) (digits-within levels extents trie t)

-- ---- a deal

level_none : (l : ℕ) (id : NodeId) (n : Node) → n.tables ≡ [] → at_level l (id, n) ≡ 0
level_none l id n none = let len : length n.tables ≡ 0 = ap length none in omega (arith, len, level_few l (id, n))

elsewhere : (l : ℕ) (id : NodeId) (n : Node) → (id.level ≡ l → ⊥) → at_level l (id, n) ≡ 0
elsewhere l id n apart = ap (λ b. cond b (length n.tables) 0) (ne_eqb id.level l apart)

-- children of another level leave a level as it is
children_leave : (l levels : ℕ) (trie now : Trie) (id : NodeId) (from : ℕ) (cs : List ChildChange) → is_sorted node_cmp now ≡ true → children_fit levels trie id from cs ≡ true → (id.level + 1 ≡ l → ⊥) → total (at_level l) (fold after_child now cs) ≡ total (at_level l) now
children_leave l levels trie now id from [] h fit apart = refl
children_leave l levels trie now id from (c ∷ cs) h fit apart =
    let f = children_fit-first levels trie id from c cs fit in
    let other : c.node.level ≡ l → ⊥ = λ is. apart (sym f.level ∙ is) in
    let after : Node = child_after (node_at now c.node) c in
    let rest = children_leave l levels trie (after_child now c) id (c.node.number + 1) cs (with_node-rising now c.node after h) f.rest apart in
    let here = with_node-weight (at_level l) now c.node after h (level_none l c.node) in
    omega (arith, rest, here, elsewhere l c.node after other, elsewhere l c.node (node_at now c.node) other)

-- the levels above the node's have as many tables as before
deal_above : (levels : ℕ) (trie : Trie) (id : NodeId) (dropped : ℕ) (children : List ChildChange) (l : ℕ) → is_sorted node_cmp trie ≡ true → IsDeal levels trie id dropped children → l < id.level → level_tables (after_change trie (deal id dropped children)) l ≡ level_tables trie l
unfolding after_change
deal_above levels trie id dropped children l h is above =
    let given : Trie = fold after_child trie children in
    let gone : Node = without_oldest (node_at trie id) dropped in
    let apart : id.level ≡ l → ⊥ = λ e. absurd (omega arith) in
    let here = with_node-weight (at_level l) given id gone (children-rising trie children h) (level_none l id) in
    let kids = children_leave l levels trie trie id (8 * id.number) children h is.fit (λ e. absurd (omega arith)) in
    omega (arith, level_total (with_node given id gone) l, level_total trie l, here, kids, elsewhere l id gone apart, elsewhere l id (node_at given id) apart)

-- and its own has fewer
deal_here : (levels : ℕ) (trie : Trie) (id : NodeId) (dropped : ℕ) (children : List ChildChange) → is_sorted node_cmp trie ≡ true → IsDeal levels trie id dropped children → level_tables (after_change trie (deal id dropped children)) id.level < level_tables trie id.level
unfolding after_change
deal_here levels trie id dropped children h is =
    let l : ℕ = id.level in
    let given : Trie = fold after_child trie children in
    let before : Node = node_at trie id in
    let gone : Node = without_oldest before dropped in
    let same : node_at given id ≡ before = children-elsewhere levels trie trie id (8 * id.number) children id (λ e. absurd (omega arith)) is.fit in
    let at : (id.level == l) ≡ true = eq-eqb l l refl in
    let had : at_level l (id, node_at given id) ≡ length before.tables = ap (λ (n : Node). at_level l (id, n)) same ∙ ap (λ b. cond b (length before.tables) 0) at in
    let has : at_level l (id, gone) ≡ length (drop dropped before.tables) = ap (λ b. cond b (length (drop dropped before.tables)) 0) at in
    let here = with_node-weight (at_level l) given id gone (children-rising trie children h) (level_none l id) in
    let kids = children_leave l levels trie trie id (8 * id.number) children h is.fit (λ e. absurd (omega arith)) in
    omega (arith, level_total (with_node given id gone) l, level_total trie l, had, has, here, kids, length-drop dropped before.tables, is.some, is.few)

behind : (levels : ℕ) (trie : Trie) (xs : List ℕ) → trie_digits levels trie ++ xs ≡ map (level_tables trie) (range_with_len 0 (levels - 1)) ++ due_piles levels trie ∷ xs
behind levels trie xs = append_assoc (map (level_tables trie) (range_with_len 0 (levels - 1))) (due_piles levels trie ∷ []) xs

above_last : (levels : ℕ) (id : NodeId) → is_last_level levels id ≡ false → id.level < levels → id.level < levels - 1
above_last levels id inner within = by_less (λ is. true≢false (sym (eq-eqb (id.level + 1) levels is) ∙ inner))
  where
    by_less : (id.level + 1 ≡ levels → ⊥) → id.level < levels - 1
    by_less apart = omega arith

-- A DEAL lowers the number, whatever digits are behind it
pub deal-lowers : (levels extents : ℕ) (trie : Trie) (id : NodeId) (dropped : ℕ) (children : List ChildChange) (xs ys : List ℕ) → extents ≤ 65536 → IsTrie levels extents trie → fits levels trie (deal id dropped children) ≡ true → all_below extents (new_extents (deal id dropped children)) ≡ true
    → length xs ≡ length ys → AllByRecursion (λ d. d < digit_base) xs → number_of_digits (trie_digits levels (after_change trie (deal id dropped children)) ++ xs) < number_of_digits (trie_digits levels trie ++ ys)
deal-lowers levels extents trie id dropped children xs ys small t fit below count all =
    let is = fits-deal levels trie id dropped children fit in
    let after : Trie = after_change trie (deal id dropped children) in
    let deep : id.level < levels - 1 = above_last levels id is.inner is.within in
    let digits : AllDigits (trie_digits levels after ++ xs) = all_join (λ d. d < digit_base) (trie_digits levels after) xs (digits-below levels extents after small (after_change-trie levels extents trie (deal id dropped children) (omega arith) t fit below)) all in
    let less = places_fall (level_tables trie) (level_tables after) 0 (levels - 1) id.level 0 (due_piles levels after ∷ xs) (due_piles levels trie ∷ ys) (omega arith) (omega arith)
    (λ l above. deal_above levels trie id dropped children l t.rising is above) (deal_here levels trie id dropped children t.rising is) (ap suc count) (subst AllDigits (behind levels after xs) digits) in
    subst (λ ds. number_of_digits ds < number_of_digits (trie_digits levels trie ++ ys)) (sym (behind levels after xs))
    (subst (λ ds. number_of_digits (map (level_tables after) (range_with_len 0 (levels - 1)) ++ due_piles levels after ∷ xs) < number_of_digits ds) (sym (behind levels trie ys)) less)

-- ---- a rewriting

-- a pile with at most as many tables as its last rewriting gave is not due
not_due : (levels : ℕ) (id : NodeId) (n : Node) → length n.tables ≤ n.base → is_due levels (id, n) ≡ false
not_due levels id n small = by_level (is_last_level levels id) refl
  where
    by_level : (b : Bool) → is_last_level levels id ≡ b → (b && is_full levels (id, n)) ≡ false
    by_level true last = ap (λ b. nat_le (cond b (2 * n.base + 8) 8) (length n.tables)) last ∙ lt-leb (2 * n.base + 8) (length n.tables) (omega arith)
    by_level false inner = refl

none_due : (levels : ℕ) (id : NodeId) (n : Node) → n.tables ≡ [] → due_weight levels (id, n) ≡ 0
none_due levels id n none = let len : length n.tables ≡ 0 = ap length none in omega (arith, len, due_few levels (id, n))

rewritten_level : (trie : Trie) (id : NodeId) (tables groups : List ℕ) (l : ℕ) → is_sorted node_cmp trie ≡ true → (id.level ≡ l → ⊥) → level_tables (after_change trie (rewrite id tables groups)) l ≡ level_tables trie l
unfolding after_change
rewritten_level trie id tables groups l h apart =
    let after : Node = record { base = length tables; tables = tables; groups = groups } in
    omega (arith, level_total (with_node trie id after) l, level_total trie l, with_node-weight (at_level l) trie id after h (level_none l id), elsewhere l id after apart, elsewhere l id (node_at trie id) apart)

rewritten_levels : (trie : Trie) (id : NodeId) (tables groups : List ℕ) (a n : ℕ) → is_sorted node_cmp trie ≡ true → a + n ≤ id.level → map (level_tables (after_change trie (rewrite id tables groups))) (range_with_len a n) ≡ map (level_tables trie) (range_with_len a n)
rewritten_levels trie id tables groups a zero h above = refl
rewritten_levels trie id tables groups a (suc n) h above = λ i. rewritten_level trie id tables groups a h (λ e. absurd (omega arith)) i ∷ rewritten_levels trie id tables groups (a + 1) n h (omega arith) i

-- the pile is not due any more
rewritten_due : (levels : ℕ) (trie : Trie) (id : NodeId) (tables groups : List ℕ) → is_sorted node_cmp trie ≡ true → due_piles levels (after_change trie (rewrite id tables groups)) + due_weight levels (id, node_at trie id) ≡ due_piles levels trie
unfolding after_change
rewritten_due levels trie id tables groups h =
    let after : Node = record { base = length tables; tables = tables; groups = groups } in
    let gone : due_weight levels (id, after) ≡ 0 = ap (λ b. cond b 1 0) (not_due levels id after (omega arith)) in
    omega (arith, due_total levels (with_node trie id after), due_total levels trie, with_node-weight (due_weight levels) trie id after h (none_due levels id), gone)

-- A REWRITING of a due pile lowers the number, whatever digits are behind it
pub due-rewrite-lowers : (levels extents : ℕ) (trie : Trie) (id : NodeId) (tables groups xs ys : List ℕ) → IsTrie levels extents trie → fits levels trie (rewrite id tables groups) ≡ true → is_full levels (id, node_at trie id) ≡ true
    → length xs ≡ length ys → AllByRecursion (λ d. d < digit_base) xs → number_of_digits (trie_digits levels (after_change trie (rewrite id tables groups)) ++ xs) < number_of_digits (trie_digits levels trie ++ ys)
due-rewrite-lowers levels extents trie id tables groups xs ys t fit due count all =
    let is = fits-rewrite levels trie id tables groups fit in
    let after : Trie = after_change trie (rewrite id tables groups) in
    let last : id.level + 1 ≡ levels = is.last in
    let one : due_weight levels (id, node_at trie id) ≡ 1 = (λ i. cond (eq-eqb (id.level + 1) levels last i && due i) 1 0) in
    let sum = rewritten_due levels trie id tables groups t.rising in
    let less : due_piles levels after < due_piles levels trie = omega (arith, one, sum) in
    let same = rewritten_levels trie id tables groups 0 (levels - 1) t.rising (omega arith) in
    let falls = digits-decide (map (level_tables trie) (range_with_len 0 (levels - 1))) xs ys (due_piles levels after) (due_piles levels trie) less count all in
    subst (λ ds. number_of_digits ds < number_of_digits (trie_digits levels trie ++ ys)) (sym (behind levels after xs ∙ ap (λ ds. ds ++ due_piles levels after ∷ xs) same))
    (subst (λ ds. number_of_digits (map (level_tables trie) (range_with_len 0 (levels - 1)) ++ due_piles levels after ∷ xs) < number_of_digits ds) (sym (behind levels trie ys)) falls)

-- one of another pile leaves the digits
pub other-rewrite-leaves : (levels extents : ℕ) (trie : Trie) (id : NodeId) (tables groups : List ℕ) → IsTrie levels extents trie → fits levels trie (rewrite id tables groups) ≡ true → is_full levels (id, node_at trie id) ≡ false
    → trie_digits levels (after_change trie (rewrite id tables groups)) ≡ trie_digits levels trie
other-rewrite-leaves levels extents trie id tables groups t fit other =
    let is = fits-rewrite levels trie id tables groups fit in
    let last : id.level + 1 ≡ levels = is.last in
    let none : due_weight levels (id, node_at trie id) ≡ 0 = (λ i. cond (eq-eqb (id.level + 1) levels last i && other i) 1 0) in
    let sum = rewritten_due levels trie id tables groups t.rising in
    let due : due_piles levels (after_change trie (rewrite id tables groups)) ≡ due_piles levels trie = omega (arith, none, sum) in
    λ i. rewritten_levels trie id tables groups 0 (levels - 1) t.rising (omega arith) i ++ due i ∷ []

-- A deal and a rewriting keep what each key has.
use Rattle.std.proofs.Common.{◌≡◌, ℕ, zero, suc, ◌+◌, ◌<◌, refl, sym, ap, subst, ◌∙◌, List, ◌++◌, take, drop, Bool, true, false, cond, Option, Some, None, arith, append-nil, take-append-drop, true≢false, eq-eqb, ⊎_elim}
use Rattle.std.proofs.lemmas.Bool.{cases_eq}
use Rattle.std.specs.List.{flat_map, AllByRecursion}
use Rattle.std.specs.Option.{option_or}
use Rattle.std.proofs.lemmas.List.Concat.{flat_map-append}
use Rattle.lt_terms.specs.Hashes.{key_digit}
use Rattle.lt_terms.specs.Items.{Item}
use Rattle.lt_tables.specs.Table.{newest_of, newest, with_digit, without_deletes, value_of}
use Rattle.lt_tables.specs.Alike.{SameNewest}
use Rattle.lt_tables.proofs.ListLaws.{all_drop}
use Rattle.lt_tables.proofs.NewestLaws.{newest_of-append, SameNewest-each, newest_of-newest}
use Rattle.lt_tables.proofs.PartLaws.{HasOnce-newest, newest_of-with_digit, newest_of-without_deletes, put_only, value_of-put_only}
use Rattle.lt_format.specs.declared.node_id.NodeId.{NodeId}
use Rattle.lt_format.specs.Trie.{Trie, child, path, same_node, node_at}
use Rattle.lt_format.specs.Changes.{ChildChange, deal, rewrite, after_change}
use Rattle.lt_format.proofs.TrieLaws.{same_node-same, same_node-itself}
use Rattle.lt_image.proofs.DealtLaws.{IsChild, digit_small, dealt_to, dealt_to-none, tables-deal, tables-rewrite, path-parent, path_number-suc}
use Rattle.lt_image.proofs.KeepLaws.{KeepsTables, kept_pile, other_level}
use Rattle.lt_image.proofs.PathLaws.{newest_or-is}
use Rattle.lt_image.proofs.Words.{on_level, on_path}

on_path-same : (f g : ℕ → Option Item) (n : ℕ) → ((level : ℕ) → level < n → f level ≡ g level) → on_path f n ≡ on_path g n
on_path-same f g zero h = refl
on_path-same f g (suc n) h = ap (λ o. option_or o (f n)) (on_path-same f g n (λ level small. h level (omega arith))) ∙ ap (option_or (on_path g n)) (h n (omega arith))

-- ---- a deal

-- each child's new tables hold its part of the newest items of the dealt tables
pub record DealsOut (old new : ℕ → List Item) (trie : Trie) (id : NodeId) (dropped : ℕ) (children : List ChildChange) : Type 0 where
  pub to_children : AllByRecursion (λ (c : ChildChange). IsChild id c.node) children
  pub parts : (d : ℕ) → d < 8 → SameNewest (flat_map new (dealt_to children (child id d))) (with_digit id.level d (newest (flat_map old (take dropped (node_at trie id).tables))))

regroup : (p r t a : Option Item) → option_or (option_or p r) (option_or t a) ≡ option_or (option_or p (option_or r t)) a
regroup (Some x) r t a = refl
regroup None (Some x) t a = refl
regroup None None t a = refl

-- what one level gives away, the next one has before its own
pub moved_down : (f g : ℕ → Option Item) (at n : ℕ) (rest moved : Option Item) → ((level : ℕ) → (level ≡ at → ⊥) → (level ≡ suc at → ⊥) → g level ≡ f level)
    → f at ≡ option_or rest moved → g at ≡ rest → g (suc at) ≡ option_or moved (f (suc at)) → suc at < n → on_path g n ≡ on_path f n
moved_down f g at zero rest moved others here left below deep = absurd (omega arith)
moved_down f g at (suc m) rest moved others here left below deep =
    ⊎_elim
    (λ (is : m ≡ suc at). subst (λ (k : ℕ). on_path g (suc k) ≡ on_path f (suc k)) (sym is)
    (ap (λ p. option_or (option_or p (g at)) (g (suc at))) (on_path-same g f at (λ level small. others level (λ e. absurd (omega arith)) (λ e. absurd (omega arith))))
    ∙ ap (λ o. option_or (option_or (on_path f at) o) (g (suc at))) left
    ∙ ap (λ o. option_or (option_or (on_path f at) rest) o) below
    ∙ regroup (on_path f at) rest moved (f (suc at))
    ∙ ap (λ o. option_or (option_or (on_path f at) o) (f (suc at))) (sym here)))
    (λ (not_it : m ≡ suc at → ⊥).
    ap (λ o. option_or o (g m)) (moved_down f g at m rest moved others here left below (deeper not_it))
    ∙ ap (option_or (on_path f m)) (others m (λ e. absurd (omega arith)) not_it))
    (cases_eq m (suc at))
  where
    deeper : (m ≡ suc at → ⊥) → suc at < m
    deeper apart = omega arith

path-child : (key : List ℕ) (level : ℕ) → path key (suc level) ≡ child (path key level) (key_digit key level)
path-child key level =
    let levels : suc level ≡ level + 1 = omega arith in
    λ i. record { level = levels i; number = path_number-suc key level i }

no_child : (key : List ℕ) (level : ℕ) (id : NodeId) → (level ≡ suc id.level → path key id.level ≡ id → ⊥) → IsChild id (path key level) → ⊥
no_child key zero id none c = let e : 0 ≡ id.level + 1 = c.level in absurd (omega arith)
no_child key (suc level) id none c =
    let e : suc level ≡ id.level + 1 = c.level in
    let same : level ≡ id.level = omega arith in
    none (omega arith) (subst (λ (l : ℕ). path key l ≡ id) same (path-parent key level id c))

deal_other : (old new : ℕ → List Item) (trie : Trie) (id : NodeId) (dropped : ℕ) (children : List ChildChange) (key : List ℕ) (level : ℕ) → KeepsTables old new trie → DealsOut old new trie id dropped children
    → same_node (path key level) id ≡ false → (level ≡ suc id.level → path key id.level ≡ id → ⊥)
    → on_level new (after_change trie (deal id dropped children)) key level ≡ on_level old trie key level
deal_other old new trie id dropped children key level k d apart none =
    ap (λ xs. newest_of key (flat_map new xs)) (
    tables-deal trie id dropped children (path key level)
    ∙ ap (λ b. cond b (drop dropped (node_at trie id).tables) ((node_at trie (path key level)).tables ++ dealt_to children (path key level))) apart
    ∙ ap (λ xs. (node_at trie (path key level)).tables ++ xs) (dealt_to-none id children (path key level) d.to_children (no_child key level id none))
    ∙ append-nil (node_at trie (path key level)).tables)
    ∙ kept_pile old new trie (path key level) key k

deal_here : (old new : ℕ → List Item) (trie : Trie) (id : NodeId) (dropped : ℕ) (children : List ChildChange) (key : List ℕ) → KeepsTables old new trie → path key id.level ≡ id
    → on_level new (after_change trie (deal id dropped children)) key id.level ≡ newest_of key (flat_map old (drop dropped (node_at trie id).tables))
deal_here old new trie id dropped children key k is =
    ap (λ xs. newest_of key (flat_map new xs)) (
    tables-deal trie id dropped children (path key id.level)
    ∙ ap (λ b. cond b (drop dropped (node_at trie id).tables) ((node_at trie (path key id.level)).tables ++ dealt_to children (path key id.level))) (ap (λ q. same_node q id) is ∙ same_node-itself id))
    ∙ (SameNewest-each new old (drop dropped (node_at trie id).tables) (all_drop (λ x. SameNewest (new x) (old x)) dropped (node_at trie id).tables (k.each id))).each key

parts_of_pile : (old : ℕ → List Item) (trie : Trie) (id : NodeId) (dropped : ℕ) (key : List ℕ) → path key id.level ≡ id
    → on_level old trie key id.level ≡ option_or (newest_of key (flat_map old (drop dropped (node_at trie id).tables))) (newest_of key (flat_map old (take dropped (node_at trie id).tables)))
parts_of_pile old trie id dropped key is =
    let ts : List ℕ = (node_at trie id).tables in
    ap (λ q. newest_of key (flat_map old (node_at trie q).tables)) is
    ∙ ap (λ xs. newest_of key (flat_map old xs)) (sym (take-append-drop dropped ts))
    ∙ ap (newest_of key) (flat_map-append old (take dropped ts) (drop dropped ts))
    ∙ newest_of-append key (flat_map old (take dropped ts)) (flat_map old (drop dropped ts))
    ∙ newest_or-is (newest_of key (flat_map old (take dropped ts))) (newest_of key (flat_map old (drop dropped ts)))

deal_below : (old new : ℕ → List Item) (trie : Trie) (id : NodeId) (dropped : ℕ) (children : List ChildChange) (key : List ℕ) → KeepsTables old new trie → DealsOut old new trie id dropped children → path key id.level ≡ id
    → on_level new (after_change trie (deal id dropped children)) key (suc id.level) ≡ option_or (newest_of key (flat_map old (take dropped (node_at trie id).tables))) (on_level old trie key (suc id.level))
deal_below old new trie id dropped children key k d is =
    let q : NodeId = path key (suc id.level) in
    let part : List Item = flat_map old (take dropped (node_at trie id).tables) in
    let q_is : q ≡ child id (key_digit key id.level) = path-child key id.level ∙ ap (λ p. child p (key_digit key id.level)) is in
    ap (λ xs. newest_of key (flat_map new xs)) (
    tables-deal trie id dropped children q
    ∙ ap (λ b. cond b (drop dropped (node_at trie id).tables) ((node_at trie q).tables ++ dealt_to children q)) (other_level q id (λ e. absurd (omega arith))))
    ∙ ap (newest_of key) (flat_map-append new (node_at trie q).tables (dealt_to children q))
    ∙ newest_of-append key (flat_map new (node_at trie q).tables) (flat_map new (dealt_to children q))
    ∙ newest_or-is (newest_of key (flat_map new (node_at trie q).tables)) (newest_of key (flat_map new (dealt_to children q)))
    ∙ ap (option_or (newest_of key (flat_map new (dealt_to children q)))) (kept_pile old new trie q key k)
    ∙ ap (λ o. option_or o (on_level old trie key (suc id.level)))
    (ap (λ p. newest_of key (flat_map new (dealt_to children p))) q_is
    ∙ (d.parts (key_digit key id.level) (digit_small key id.level)).each key
    ∙ newest_of-with_digit key id.level (key_digit key id.level) (newest part)
    ∙ ap (λ b. cond b (newest_of key (newest part)) None) (eq-eqb (key_digit key id.level) (key_digit key id.level) refl)
    ∙ newest_of-newest key part)

-- A DEAL: below the node there is a level, and each key has what it had
pub deal-found : (old new : ℕ → List Item) (trie : Trie) (id : NodeId) (dropped : ℕ) (children : List ChildChange) (key : List ℕ) (n : ℕ) → KeepsTables old new trie → DealsOut old new trie id dropped children → suc id.level < n
    → on_path (on_level new (after_change trie (deal id dropped children)) key) n ≡ on_path (on_level old trie key) n
deal-found old new trie id dropped children key n k d deep = decide (same_node (path key id.level) id) refl
  where
    apart : (level : ℕ) → same_node (path key id.level) id ≡ false → same_node (path key level) id ≡ false
    apart level e = ⊎_elim (λ (is : level ≡ id.level). ap (λ (l : ℕ). same_node (path key l) id) is ∙ e) (λ other. other_level (path key level) id other) (cases_eq level id.level)

    decide : (s : Bool) → same_node (path key id.level) id ≡ s → on_path (on_level new (after_change trie (deal id dropped children)) key) n ≡ on_path (on_level old trie key) n
    decide true e =
        let is : path key id.level ≡ id = same_node-same (path key id.level) id e in
        moved_down (on_level old trie key) (on_level new (after_change trie (deal id dropped children)) key) id.level n
        (newest_of key (flat_map old (drop dropped (node_at trie id).tables))) (newest_of key (flat_map old (take dropped (node_at trie id).tables)))
        (λ level a b. deal_other old new trie id dropped children key level k d (other_level (path key level) id a) (λ e is. b e))
        (parts_of_pile old trie id dropped key is) (deal_here old new trie id dropped children key k is) (deal_below old new trie id dropped children key k d is) deep
    decide false e =
        on_path-same (on_level new (after_change trie (deal id dropped children)) key) (on_level old trie key) n
        (λ level small. deal_other old new trie id dropped children key level k d (apart level e) (λ l is. true≢false (sym (same_node-itself id) ∙ ap (λ q. same_node q id) (sym is) ∙ e)))

-- ---- a rewriting

-- the last level has the puts of what it had, where the node is on the path
pub rewrite-on_path : (old new : ℕ → List Item) (trie : Trie) (id : NodeId) (tables groups : List ℕ) (key : List ℕ) → KeepsTables old new trie
    → SameNewest (flat_map new tables) (without_deletes (newest (flat_map old (node_at trie id).tables)))
    → on_path (on_level new (after_change trie (rewrite id tables groups)) key) (suc id.level)
    ≡ option_or (on_path (on_level old trie key) id.level) (cond (same_node (path key id.level) id) (put_only (on_level old trie key id.level)) (on_level old trie key id.level))
rewrite-on_path old new trie id tables groups key k s =
    ap (λ o. option_or o (on_level new (after_change trie (rewrite id tables groups)) key id.level)) (on_path-same (on_level new (after_change trie (rewrite id tables groups)) key) (on_level old trie key) id.level (λ level small.
    ap (λ xs. newest_of key (flat_map new xs)) (tables-rewrite trie id tables groups (path key level) ∙ ap (λ b. cond b tables (node_at trie (path key level)).tables) (other_level (path key level) id (λ e. absurd (omega arith))))
    ∙ kept_pile old new trie (path key level) key k))
    ∙ ap (option_or (on_path (on_level old trie key) id.level)) (ap (λ xs. newest_of key (flat_map new xs)) (tables-rewrite trie id tables groups (path key id.level)) ∙ decide (same_node (path key id.level) id) refl)
  where
    decide : (b : Bool) → same_node (path key id.level) id ≡ b → newest_of key (flat_map new (cond b tables (node_at trie (path key id.level)).tables)) ≡ cond b (put_only (on_level old trie key id.level)) (on_level old trie key id.level)
    decide true e =
        s.each key
        ∙ newest_of-without_deletes key (newest (flat_map old (node_at trie id).tables)) (HasOnce-newest (flat_map old (node_at trie id).tables))
        ∙ ap put_only (newest_of-newest key (flat_map old (node_at trie id).tables) ∙ ap (λ q. newest_of key (flat_map old (node_at trie q).tables)) (sym (same_node-same (path key id.level) id e)))
    decide false e = kept_pile old new trie (path key id.level) key k

puts_value : (log p x : Option Item) (b : Bool) → value_of (option_or log (option_or p (cond b (put_only x) x))) ≡ value_of (option_or log (option_or p x))
puts_value (Some v) p x b = refl
puts_value None (Some v) x b = refl
puts_value None None x true = value_of-put_only x
puts_value None None x false = refl

-- A REWRITING of a pile of the last level: each key has the value that it had
pub rewrite-value : (old new : ℕ → List Item) (trie : Trie) (id : NodeId) (tables groups : List ℕ) (log : Option Item) (key : List ℕ) → KeepsTables old new trie
    → SameNewest (flat_map new tables) (without_deletes (newest (flat_map old (node_at trie id).tables)))
    → value_of (option_or log (on_path (on_level new (after_change trie (rewrite id tables groups)) key) (suc id.level))) ≡ value_of (option_or log (on_path (on_level old trie key) (suc id.level)))
rewrite-value old new trie id tables groups log key k s =
    ap (λ o. value_of (option_or log o)) (rewrite-on_path old new trie id tables groups key k s)
    ∙ puts_value log (on_path (on_level old trie key) id.level) (on_level old trie key id.level) (same_node (path key id.level) id)

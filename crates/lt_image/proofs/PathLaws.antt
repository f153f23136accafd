-- The newest of all versions of a key is what a search along one path finds first.
use Rattle.std.proofs.Common.{◌≡◌, ℕ, zero, suc, ◌+◌, refl, sym, ap, subst, ◌∙◌, List, [], ◌∷◌, ◌++◌, map, reverse, Bool, true, false, cond, Option, Some, None, arith, append-nil, true≢false, eq-eqb, eqb-true}
use Rattle.std.specs.Prelude.{◌==◌}
use Rattle.std.specs.FinMap.{find, is_sorted}
use Rattle.std.specs.FinMap.Entries.{below_all}
use Rattle.std.specs.Cmp.Lexicographic.{bytes_decides}
use Rattle.std.specs.List.{last_or, flat_map, AllByRecursion, range_with_len, enumerate_from}
use Rattle.std.specs.Option.{option_or, unwrap_or}
use Rattle.std.proofs.lemmas.Bool.{and_parts}
use mathlib.Core.List.{reverse-cons}
use Rattle.std.proofs.lemmas.List.Concat.{flat_map-append}
use Rattle.lt_terms.specs.Bytes.{Image, same_bytes}
use Rattle.lt_terms.specs.Items.{Item, value_at}
use Rattle.lt_tables.specs.Table.{versions_of, newest_of, value_of}
use Rattle.lt_tables.proofs.RankLaws.{newest_or, newest_or-none}
use Rattle.lt_tables.proofs.NewestLaws.{newest_of-append}
use Rattle.lt_tables.proofs.VersionLaws.{get_versions}
use Rattle.lt_format.specs.declared.node_id.NodeId.{NodeId}
use Rattle.lt_format.specs.declared.geometry.Geometry.{Geometry}
use Rattle.lt_format.specs.Trie.{Node, Trie, path, same_node, node_cmp, node_at, empty_node}
use Rattle.lt_format.proofs.TrieLaws.{same_node-same, find-below}
use Rattle.lt_image.specs.Versions.{Stop, stops_of, items_at, items_above, level_nodes, versions, map_of, first_some, at_stops, found, Opened, log_items}
use Rattle.lt_image.proofs.Words.{Belongs, PileBelongs, IsSorted, on_level, on_path}

pub newest_or-is : (a b : Option Item) → newest_or a b ≡ option_or b a
newest_or-is a None = refl
newest_or-is a (Some v) = refl

-- ---- items that belong elsewhere

no_match : (id : NodeId) (key : List ℕ) (v : Item) (rest : List Item) (same : Bool) → same_bytes v.key key ≡ same → same_node (path v.key id.level) id ≡ true → same_node (path key id.level) id ≡ false → versions_of key rest ≡ []
    → cond same (v ∷ versions_of key rest) (versions_of key rest) ≡ []
no_match id key v rest false is there none ih = ih
no_match id key v rest true is there none ih =
    absurd (true≢false (sym there ∙ ap (λ k. same_node (path k id.level) id) ((bytes_decides v.key key).0 is) ∙ none))

elsewhere : (id : NodeId) (key : List ℕ) (items : List Item) → Belongs id items → same_node (path key id.level) id ≡ false → versions_of key items ≡ []
elsewhere id key [] b none = refl
elsewhere id key (v ∷ items) b none = no_match id key v items (same_bytes v.key key) refl b.0 none (elsewhere id key items b.1 none)

pub Belongs-append : (id : NodeId) (xs ys : List Item) → Belongs id xs → Belongs id ys → Belongs id (xs ++ ys)
Belongs-append id [] ys a b = b
Belongs-append id (x ∷ xs) ys a b = (a.0, Belongs-append id xs ys a.1 b)

pub Belongs-pile : (id : NodeId) (held : ℕ → List Item) (tables : List ℕ) → AllByRecursion (λ x. Belongs id (held x)) tables → Belongs id (flat_map held tables)
Belongs-pile id held [] all = tt
Belongs-pile id held (x ∷ tables) all = Belongs-append id (held x) (flat_map held tables) all.0 (Belongs-pile id held tables all.1)

-- ---- one level

pile_at : (ℕ → List Item) → Option Node → List Item
pile_at held o = flat_map held (unwrap_or o empty_node).tables

level_step : (held : ℕ → List Item) (key : List ℕ) (level : ℕ) (e : NodeId × Node) (es : Trie) (here same : Bool)
    → (e.0.level == level) ≡ here → same_node (path key level) e.0 ≡ same
    → (same ≡ true → here ≡ true) → (same ≡ true → find node_cmp (path key level) es ≡ None)
    → (here ≡ true → same ≡ false → newest_of key (flat_map held e.1.tables) ≡ None)
    → newest_of key (flat_map (λ (e : NodeId × Node). flat_map held e.1.tables) (level_nodes es level)) ≡ newest_of key (pile_at held (find node_cmp (path key level) es))
    → newest_of key (flat_map (λ (e : NodeId × Node). flat_map held e.1.tables) (cond here (e ∷ level_nodes es level) (level_nodes es level)))
    ≡ newest_of key (pile_at held (cond same (Some e.1) (find node_cmp (path key level) es)))
unfolding pile_at
level_step held key level e es true true h s there none away ih =
    newest_of-append key (flat_map held e.1.tables) (flat_map (λ (e : NodeId × Node). flat_map held e.1.tables) (level_nodes es level))
    ∙ ap (λ o. newest_or (newest_of key (flat_map held e.1.tables)) o) (ih ∙ ap (λ o. newest_of key (pile_at held o)) (none refl))
level_step held key level e es true false h s there none away ih =
    newest_of-append key (flat_map held e.1.tables) (flat_map (λ (e : NodeId × Node). flat_map held e.1.tables) (level_nodes es level))
    ∙ ap (λ o. newest_or o (newest_of key (flat_map (λ (e : NodeId × Node). flat_map held e.1.tables) (level_nodes es level)))) (away refl refl)
    ∙ newest_or-none _ ∙ ih
level_step held key level e es false true h s there none away ih = absurd (true≢false (sym (there refl)))
level_step held key level e es false false h s there none away ih = ih

level_found : (held : ℕ → List Item) (key : List ℕ) (level : ℕ) (es : Trie) → is_sorted node_cmp es ≡ true → AllByRecursion (PileBelongs held) es
    → newest_of key (flat_map (λ (e : NodeId × Node). flat_map held e.1.tables) (level_nodes es level)) ≡ newest_of key (pile_at held (find node_cmp (path key level) es))
unfolding pile_at
level_found held key level [] s b = refl
level_found held key level (e ∷ es) s b =
    let parts = and_parts (below_all node_cmp e.0 es) (is_sorted node_cmp es) s in
    level_step held key level e es (e.0.level == level) (same_node (path key level) e.0) refl refl
    (λ same. let is : path key level ≡ e.0 = same_node-same (path key level) e.0 same in eq-eqb e.0.level level (sym (ap (λ (id : NodeId). id.level) is)))
    (λ same. let is : path key level ≡ e.0 = same_node-same (path key level) e.0 same in subst (λ id. find node_cmp id es ≡ None) (sym is) (find-below e.0 es parts.0))
    (λ here other. ap (last_or None) (elsewhere e.0 key (flat_map held e.1.tables) (Belongs-pile e.0 held e.1.tables b.0) (ap (λ l. same_node (path key l) e.0) (eqb-true e.0.level level here) ∙ other)))
    (level_found held key level es parts.1 b.1)

-- the newest version of a key on a level is that of the pile on its path
pub newest_of-level : (held : ℕ → List Item) (trie : Trie) (key : List ℕ) (level : ℕ) → IsSorted held trie
    → newest_of key (flat_map (λ (e : NodeId × Node). flat_map held e.1.tables) (level_nodes trie level)) ≡ on_level held trie key level
unfolding node_at pile_at
newest_of-level held trie key level s = level_found held key level trie s.rising s.belong

-- ---- all levels

pub newest_of-above : (g : Geometry) (image : Image) (trie : Trie) (key : List ℕ) (n : ℕ) → IsSorted (items_at g image) trie → newest_of key (items_above g image trie n) ≡ on_path (on_level (items_at g image) trie key) n
unfolding items_above
newest_of-above g image trie key zero s = refl
newest_of-above g image trie key (suc n) s =
    newest_of-append key (flat_map (λ (e : NodeId × Node). flat_map (items_at g image) e.1.tables) (level_nodes trie n)) (items_above g image trie n)
    ∙ ap (λ o. newest_or o (newest_of key (items_above g image trie n))) (newest_of-level (items_at g image) trie key n s)
    ∙ ap (λ o. newest_or (on_level (items_at g image) trie key n) o) (newest_of-above g image trie key n s)
    ∙ newest_or-is (on_level (items_at g image) trie key n) (on_path (on_level (items_at g image) trie key) n)

-- the newest version of a key on an image
pub newest_of-versions : (o : Opened) (image : Image) (key : List ℕ) → IsSorted (items_at o.named.geometry image) o.named.manifest.trie
    → newest_of key (versions o image) ≡ option_or (newest_of key (log_items o)) (on_path (on_level (items_at o.named.geometry image) o.named.manifest.trie key) o.named.geometry.levels)
unfolding versions
newest_of-versions o image key s =
    newest_of-append key (items_above o.named.geometry image o.named.manifest.trie o.named.geometry.levels) (log_items o)
    ∙ ap (λ x. newest_or x (newest_of key (log_items o))) (newest_of-above o.named.geometry image o.named.manifest.trie key o.named.geometry.levels s)
    ∙ newest_or-is (on_path (on_level (items_at o.named.geometry image) o.named.manifest.trie key) o.named.geometry.levels) (newest_of key (log_items o))

-- ---- the tables on a path, the newest first

pub option_or-assoc : {A : Type 0} (a b c : Option A) → option_or (option_or a b) c ≡ option_or a (option_or b c)
option_or-assoc None b c = refl
option_or-assoc (Some x) b c = refl

pub option_or-none : {A : Type 0} (a : Option A) → option_or a None ≡ a
option_or-none None = refl
option_or-none (Some x) = refl

pub first_some-append : {A B : Type 0} (f : A → Option B) (xs ys : List A) → first_some f (xs ++ ys) ≡ option_or (first_some f xs) (first_some f ys)
first_some-append f [] ys = refl
first_some-append f (x ∷ xs) ys = ap (option_or (f x)) (first_some-append f xs ys) ∙ sym (option_or-assoc (f x) (first_some f xs) (first_some f ys))

pub first_some-pile : (held : ℕ → List Item) (key : List ℕ) (id : NodeId) (k : ℕ) (tables : List ℕ)
    → first_some (λ (s : Stop). newest_of key (held s.extent)) (reverse (map (λ (p : ℕ × ℕ). record { node = id; index = p.0; extent = p.1 }) (enumerate_from k tables))) ≡ newest_of key (flat_map held tables)
first_some-pile held key id k [] = refl
first_some-pile held key id k (x ∷ tables) =
    ap (first_some (λ (s : Stop). newest_of key (held s.extent))) (reverse-cons (record { node = id; index = k; extent = x }) (map (λ (p : ℕ × ℕ). record { node = id; index = p.0; extent = p.1 }) (enumerate_from (k + 1) tables)))
    ∙ first_some-append (λ (s : Stop). newest_of key (held s.extent)) (reverse (map (λ (p : ℕ × ℕ). record { node = id; index = p.0; extent = p.1 }) (enumerate_from (k + 1) tables))) (record { node = id; index = k; extent = x } ∷ [])
    ∙ ap (λ o. option_or o (option_or (newest_of key (held x)) None)) (first_some-pile held key id (k + 1) tables)
    ∙ ap (option_or (newest_of key (flat_map held tables))) (option_or-none (newest_of key (held x)))
    ∙ sym (newest_or-is (newest_of key (held x)) (newest_of key (flat_map held tables)))
    ∙ sym (newest_of-append key (held x) (flat_map held tables))

pub range_more : (a n : ℕ) → range_with_len a (suc n) ≡ range_with_len a n ++ (a + n) ∷ []
range_more a zero = let e : a ≡ a + 0 = omega arith in ap (λ x. x ∷ []) e
range_more a (suc n) = let e : (a + 1) + n ≡ a + suc n = omega arith in ap (λ xs. a ∷ xs) (range_more (a + 1) n ∙ ap (λ x. range_with_len (a + 1) n ++ x ∷ []) e)

levels_found : (held : ℕ → List Item) (trie : Trie) (key : List ℕ) (n : ℕ)
    → first_some (λ (s : Stop). newest_of key (held s.extent)) (flat_map (λ level. stops_of (path key level) (node_at trie (path key level))) (range_with_len 0 n)) ≡ on_path (on_level held trie key) n
levels_found held trie key zero = refl
levels_found held trie key (suc n) =
    let at = λ (level : ℕ). stops_of (path key level) (node_at trie (path key level)) in
    let e : 0 + n ≡ n = omega arith in
    ap (λ levels. first_some (λ (s : Stop). newest_of key (held s.extent)) (flat_map at levels)) (range_more 0 n ∙ ap (λ x. range_with_len 0 n ++ x ∷ []) e)
    ∙ ap (first_some (λ (s : Stop). newest_of key (held s.extent))) (flat_map-append at (range_with_len 0 n) (n ∷ []))
    ∙ first_some-append (λ (s : Stop). newest_of key (held s.extent)) (flat_map at (range_with_len 0 n)) (flat_map at (n ∷ []))
    ∙ ap (λ o. option_or o (first_some (λ (s : Stop). newest_of key (held s.extent)) (at n ++ []))) (levels_found held trie key n)
    ∙ ap (λ ss. option_or (on_path (on_level held trie key) n) (first_some (λ (s : Stop). newest_of key (held s.extent)) ss)) (append-nil (at n))
    ∙ ap (option_or (on_path (on_level held trie key) n)) (first_some-pile held key (path key n) 0 (node_at trie (path key n)).tables)

-- what the first table on the path that holds the key has of it is what the piles on the path have
pub at_stops-is : (held : ℕ → List Item) (levels : ℕ) (trie : Trie) (key : List ℕ) → at_stops held levels trie key ≡ on_path (on_level held trie key) levels
at_stops-is held levels trie key = levels_found held trie key levels

-- THE READING: the newest version of a key on an image is the log's, and else that of the first table on its path that holds it
pub newest_of-found : (o : Opened) (image : Image) (key : List ℕ) → IsSorted (items_at o.named.geometry image) o.named.manifest.trie → newest_of key (versions o image) ≡ found o image key
newest_of-found o image key s = newest_of-versions o image key s ∙ ap (option_or (newest_of key (log_items o))) (sym (at_stops-is (items_at o.named.geometry image) o.named.geometry.levels o.named.manifest.trie key))

-- and the value of a key in the image's map is what it leaves
pub value_at-map_of : (o : Opened) (image : Image) (key : List ℕ) → IsSorted (items_at o.named.geometry image) o.named.manifest.trie → value_at (map_of o image) key ≡ value_of (found o image key)
value_at-map_of o image key s = get_versions (versions o image) key ∙ ap value_of (newest_of-found o image key s)

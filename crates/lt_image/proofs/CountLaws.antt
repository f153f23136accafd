-- How many items tables hold, before a flush and after it.
use Rattle.std.proofs.Common.{◌≡◌, ℕ, zero, suc, ◌+◌, ◌<◌, ◌≤◌, refl, sym, ap, subst, ◌∙◌, List, [], ◌∷◌, length, Bool, true, false, not, cond, Option, Some, None, Ok, arith, ne_eqb, eq-eqb}
use Rattle.std.specs.Prelude.{◌==◌, nat_lt}
use Rattle.std.specs.declared.cmp.Ordering.{Ordering}
use Rattle.std.specs.declared.cmp.Ordering.TheVariants.{Less, Equal, Greater}
use Rattle.std.specs.Ordering.{is_eq}
use Rattle.std.specs.FinMap.{find, put, is_sorted}
use Rattle.std.specs.FinMap.Entries.{where_key, below_all, by_order}
use Rattle.std.specs.List.{filter, flat_map, fold, range_with_len}
use Rattle.std.specs.Option.{unwrap_or}
use Rattle.std.proofs.lemmas.Bool.{and_parts, lt-ltb, ltb-true, ltb-false, le-ltb, eqb-true}
use Rattle.std.proofs.lemmas.List.{length-append, length-map}
use Rattle.std.proofs.lemmas.List.Concat.{flat_map-append}
use Rattle.lt_terms.specs.Bytes.{Image}
use Rattle.lt_terms.specs.Hashes.{rank_cmp}
use Rattle.lt_terms.specs.Items.{Item}
use Rattle.lt_tables.specs.Cut.{cut}
use Rattle.lt_tables.specs.Table.{newest, ranked, place_of, IsPlaced, table_items}
use Rattle.lt_tables.specs.Placement.{columns}
use Rattle.lt_tables.proofs.FitLaws.{total}
use Rattle.lt_tables.proofs.CutLaws.{cut-joined}
use Rattle.lt_tables.proofs.TableLaws.{table_items-placed}
use Rattle.lt_format.specs.declared.node_id.NodeId.{NodeId}
use Rattle.lt_format.specs.declared.geometry.Geometry.{Geometry}
use Rattle.lt_format.specs.Trie.{Node, Trie, root, node_cmp, same_node, node_at, with_node, named, empty_node}
use Rattle.lt_format.specs.Changes.{flush, appended, after_change}
use Rattle.lt_format.proofs.FreeLaws.{no_list}
use Rattle.lt_format.proofs.TrieLaws.{same_node-same, node_exact, find-below, below-less, where_key-below}
use Rattle.lt_image.specs.Versions.{Opened, open_image, log_items, number_of, extent_in, items_at, pile_items, level_nodes, level_items, items_above, stored_items}
use Rattle.lt_image.specs.Standing.{bad_blocks, Stands}
use Rattle.lt_image.specs.After.{SameExtents, Follows, PlacedIn, Flushes}
use Rattle.lt_image.proofs.KeptLaws.{items_above-same, stored-few}
use Rattle.lt_image.proofs.OpenLaws.{opens-well}
use Rattle.lt_image.proofs.StandLaws.{flush-stands, stands-as}
use Rattle.lt_language.specs.Machine.{State}
use Rattle.lt_format.specs.declared.header.Header.{Header}
use Rattle.lt_format.specs.Log.{items_in}
use Rattle.lt_format.specs.Snapshot.{after_commit, Manifest}

length-joined : {A B : Type 0} (f : A → List B) (xs : List A) → length (flat_map f xs) ≡ total (λ x. length (f x)) xs
length-joined f [] = refl
length-joined f (x ∷ xs) = omega (arith, length-append (f x) (flat_map f xs), length-joined f xs)

-- ---- the newest items are no more than all

put_long : (key : List ℕ) (v : Item) (es : List (List ℕ × Item)) → length (put rank_cmp key v es) ≤ suc (length es)
put_long key v [] = omega arith
put_long key v (e ∷ es) = by_head (rank_cmp key e.0) (put_long key v es)
  where
    by_head : (o : Ordering) → length (put rank_cmp key v es) ≤ suc (length es) → length (by_order o ((key, v) ∷ e ∷ es) ((e.0, v) ∷ es) (e ∷ put rank_cmp key v es)) ≤ suc (suc (length es))
    by_head Less rest = omega arith
    by_head Equal rest = omega arith
    by_head Greater rest = omega arith

fold_long : (vs : List Item) (es : List (List ℕ × Item)) → length (fold (λ es (v : Item). put rank_cmp v.key v es) es vs) ≤ length es + length vs
fold_long [] es = omega arith
fold_long (v ∷ vs) es = omega (arith, fold_long vs (put rank_cmp v.key v es), put_long v.key v es)

pub newest-few : (vs : List Item) → length (newest vs) ≤ length vs
newest-few vs = omega (arith, fold_long vs [], length-map (ranked vs) (λ (e : List ℕ × Item). e.1))

-- ---- a placed table holds no more items than were placed

-- how many of the columns from a on are p
abbrev hits : ℕ → ℕ → ℕ → ℕ
hits p a n = total (λ c. cond (p == c) 1 0) (range_with_len a n)

no_hits : (p a n : ℕ) → p < a → hits p a n ≡ 0
no_hits p a zero h = refl
no_hits p a (suc n) h = let other : (p == a) ≡ false = ne_eqb p a (λ e. absurd (omega arith)) in rw other (omega (arith, no_hits p (a + 1) n (omega arith)))

one_hit : (p a n : ℕ) → hits p a n ≤ 1
one_hit p a zero = omega arith
one_hit p a (suc n) = by_head (p == a) refl (one_hit p (a + 1) n)
  where
    by_head : (b : Bool) → (p == a) ≡ b → hits p (a + 1) n ≤ 1 → cond b 1 0 + hits p (a + 1) n ≤ 1
    by_head true e rest = let none : hits p (a + 1) n ≡ 0 = no_hits p (a + 1) n (let is : p ≡ a = eqb-true p a e in omega arith) in omega arith
    by_head false e rest = omega arith

abbrev pub spread : (Item → ℕ) → List Item → ℕ → ℕ → ℕ
spread place xs a n = total (λ c. length (filter (λ v. place v == c) xs)) (range_with_len a n)

spread_none : (place : Item → ℕ) (a n : ℕ) → spread place [] a n ≡ 0
spread_none place a zero = refl
spread_none place a (suc n) = omega (arith, spread_none place (a + 1) n)

spread_step : (place : Item → ℕ) (v : Item) (xs : List Item) (a n : ℕ) → spread place (v ∷ xs) a n ≡ hits (place v) a n + spread place xs a n
spread_step place v xs a zero = refl
spread_step place v xs a (suc n) = by_head (place v == a) (spread_step place v xs (a + 1) n)
  where
    by_head : (b : Bool) → spread place (v ∷ xs) (a + 1) n ≡ hits (place v) (a + 1) n + spread place xs (a + 1) n
        → length (cond b (v ∷ filter (λ w. place w == a) xs) (filter (λ w. place w == a) xs)) + spread place (v ∷ xs) (a + 1) n ≡ (cond b 1 0 + hits (place v) (a + 1) n) + (length (filter (λ w. place w == a) xs) + spread place xs (a + 1) n)
    by_head true rest = omega arith
    by_head false rest = omega arith

pub spread_few : (place : Item → ℕ) (xs : List Item) (a n : ℕ) → spread place xs a n ≤ length xs
spread_few place [] a n = omega (arith, spread_none place a n)
spread_few place (v ∷ xs) a n = omega (arith, spread_step place v xs a n, one_hit (place v) a n, spread_few place xs a n)

placed_few : (items : List Item) (block : ℕ → List ℕ) → IsPlaced items block → length (table_items block) ≤ length items
unfolding columns
placed_few items block p =
    let spread_so : length (table_items block) ≡ spread (place_of p.plans) (newest items) 0 64 =
    ap length (table_items-placed p.plans items block p.buckets) ∙ length-joined (λ c. filter (λ v. place_of p.plans v == c) (newest items)) (range_with_len 0 64) in
    omega (arith, spread_so, spread_few (place_of p.plans) (newest items) 0 64, newest-few items)

pub parts_few : (g : Geometry) (image : Image) (tables : List ℕ) (parts : List (List Item)) → PlacedIn g image tables parts → length (pile_items g image tables) ≤ length (flat_map (λ part. part) parts)
parts_few g image [] [] zip = omega arith
parts_few g image [] (y ∷ parts) zip = absurd zip
parts_few g image (x ∷ tables) [] zip = absurd zip
parts_few g image (x ∷ tables) (y ∷ parts) zip =
    omega (arith, length-append (items_at g image x) (pile_items g image tables), length-append y (flat_map (λ part. part) parts), placed_few y (extent_in g image x) zip.0, parts_few g image tables parts zip.1)

-- the tables of a flush hold no more items than the log
flush_few : (g : Geometry) (image : Image) (tables : List ℕ) (log : List Item) → PlacedIn g image tables (cut (newest log)) → length (pile_items g image tables) ≤ length log
flush_few g image tables log placed =
    let whole : length (flat_map (λ part. part) (cut (newest log))) ≡ length (newest log) = ap length (cut-joined (newest log)) in
    omega (arith, whole, parts_few g image tables (cut (newest log)) placed, newest-few log)

-- ---- a number for each node

abbrev pub found_weight : (NodeId × Node → ℕ) → NodeId → Option Node → ℕ
found_weight w id None = 0
found_weight w id (Some n) = w (id, n)

pub put_weight : (w : NodeId × Node → ℕ) (id : NodeId) (node : Node) (es : Trie) → is_sorted node_cmp es ≡ true → total w (put node_cmp id node es) + found_weight w id (find node_cmp id es) ≡ total w es + w (id, node)
put_weight w id node [] h = omega arith
put_weight w id node (e ∷ es) h = by_head (node_cmp id e.0) refl (put_weight w id node es parts.1)
  where
    parts : (below_all node_cmp e.0 es ≡ true) × (is_sorted node_cmp es ≡ true)
    parts = and_parts (below_all node_cmp e.0 es) (is_sorted node_cmp es) h

    by_head : (o : Ordering) → node_cmp id e.0 ≡ o → total w (put node_cmp id node es) + found_weight w id (find node_cmp id es) ≡ total w es + w (id, node)
        → total w (by_order o ((id, node) ∷ e ∷ es) ((e.0, node) ∷ es) (e ∷ put node_cmp id node es)) + found_weight w id (cond (is_eq o) (Some e.1) (find node_cmp id es)) ≡ total w (e ∷ es) + w (id, node)
    by_head Less before rest =
        let none : find node_cmp id es ≡ None = find-below id es (below-less id e.0 es before parts.0) in
        rw none (omega arith)
    by_head Equal same rest =
        let is : id ≡ e.0 = node_exact id e.0 same in
        let here : w (id, e.1) ≡ w e = ap (λ q. w (q, e.1)) is in
        let there : w (id, node) ≡ w (e.0, node) = ap (λ q. w (q, node)) is in
        omega arith
    by_head Greater after rest = omega arith

pub gone_weight : (w : NodeId × Node → ℕ) (id : NodeId) (es : Trie) → is_sorted node_cmp es ≡ true → total w (where_key node_cmp (λ q. not (same_node id q)) es) + found_weight w id (find node_cmp id es) ≡ total w es
gone_weight w id [] h = refl
gone_weight w id (e ∷ es) h = by_head (same_node id e.0) refl (gone_weight w id es parts.1)
  where
    parts : (below_all node_cmp e.0 es ≡ true) × (is_sorted node_cmp es ≡ true)
    parts = and_parts (below_all node_cmp e.0 es) (is_sorted node_cmp es) h

    by_head : (b : Bool) → same_node id e.0 ≡ b → total w (where_key node_cmp (λ q. not (same_node id q)) es) + found_weight w id (find node_cmp id es) ≡ total w es
        → total w (cond (not b) (e ∷ where_key node_cmp (λ q. not (same_node id q)) es) (where_key node_cmp (λ q. not (same_node id q)) es)) + found_weight w id (cond b (Some e.1) (find node_cmp id es)) ≡ total w (e ∷ es)
    by_head true same rest =
        let is : id ≡ e.0 = same_node-same id e.0 same in
        let here : w (id, e.1) ≡ w e = ap (λ q. w (q, e.1)) is in
        let first : below_all node_cmp id es ≡ true = subst (λ q. below_all node_cmp q es ≡ true) (sym is) parts.0 in
        rw (where_key-below id es first) (omega arith)
    by_head false other rest = omega arith

-- a node in place of the one before, where one without tables counts nothing
pub with_node-weight : (w : NodeId × Node → ℕ) (trie : Trie) (id : NodeId) (node : Node) → is_sorted node_cmp trie ≡ true → ((n : Node) → n.tables ≡ [] → w (id, n) ≡ 0) → total w (with_node trie id node) + w (id, node_at trie id) ≡ total w trie + w (id, node)
unfolding with_node node_at
with_node-weight w trie id node h none = by_tables (length node.tables == 0) refl
  where
    found_is : (o : Option Node) → found_weight w id o ≡ w (id, unwrap_or o empty_node)
    found_is None = sym (none empty_node refl)
    found_is (Some n) = refl

    by_tables : (gone : Bool) → (length node.tables == 0) ≡ gone → total w (cond gone (where_key node_cmp (λ q. not (same_node id q)) trie) (put node_cmp id node trie)) + w (id, unwrap_or (find node_cmp id trie) empty_node) ≡ total w trie + w (id, node)
    by_tables true is = omega (arith, gone_weight w id trie h, found_is (find node_cmp id trie), none node (no_list node.tables is))
    by_tables false is = omega (arith, put_weight w id node trie h, found_is (find node_cmp id trie))

-- ---- the stored items, node by node

-- what a node of the first levels holds
abbrev pub held_by : Geometry → Image → ℕ → NodeId × Node → ℕ
held_by g image levels e = cond (nat_lt e.0.level levels) (length (pile_items g image e.1.tables)) 0

pub held_none : (g : Geometry) (image : Image) (levels : ℕ) (id : NodeId) (n : Node) → n.tables ≡ [] → held_by g image levels (id, n) ≡ 0
held_none g image levels id n none = by_level (nat_lt id.level levels)
  where
    by_level : (b : Bool) → cond b (length (pile_items g image n.tables)) 0 ≡ 0
    by_level true = ap (λ ts. length (pile_items g image ts)) none
    by_level false = refl

level_long : (g : Geometry) (image : Image) (trie : Trie) (level : ℕ) → length (level_items g image trie level) ≡ total (λ (e : NodeId × Node). cond (e.0.level == level) (length (pile_items g image e.1.tables)) 0) trie
level_long g image [] level = refl
level_long g image (e ∷ es) level = by_level (e.0.level == level) (level_long g image es level)
  where
    by_level : (b : Bool) → length (level_items g image es level) ≡ total (λ (e : NodeId × Node). cond (e.0.level == level) (length (pile_items g image e.1.tables)) 0) es
        → length (flat_map (λ (e : NodeId × Node). pile_items g image e.1.tables) (cond b (e ∷ level_nodes es level) (level_nodes es level))) ≡ cond b (length (pile_items g image e.1.tables)) 0 + total (λ (e : NodeId × Node). cond (e.0.level == level) (length (pile_items g image e.1.tables)) 0) es
    by_level true rest = omega (arith, length-append (pile_items g image e.1.tables) (level_items g image es level))
    by_level false rest = omega (arith, rest)

one_more : (level n x : ℕ) → cond (nat_lt level (suc n)) x 0 ≡ cond (level == n) x 0 + cond (nat_lt level n) x 0
one_more level n x = by_below (nat_lt level n) refl
  where
    by_here : (b : Bool) → (level == n) ≡ b → nat_lt level n ≡ false → cond (nat_lt level (suc n)) x 0 ≡ cond b x 0 + 0
    by_here true e below = let is : level ≡ n = eqb-true level n e in rw (lt-ltb level (suc n) (omega arith)) (omega arith)
    by_here false e below =
        let past : n ≤ level = ltb-false level n below in
        let other : level ≡ n → ⊥ = λ is. absurd (different (eq-eqb level n is) e) in
        rw (le-ltb level (suc n) (above past other)) (omega arith)
      where
        different : (level == n) ≡ true → (level == n) ≡ false → ⊥
        different p q = cc

        above : n ≤ level → (level ≡ n → ⊥) → suc n ≤ level
        above past other = omega arith

    by_below : (b : Bool) → nat_lt level n ≡ b → cond (nat_lt level (suc n)) x 0 ≡ cond (level == n) x 0 + cond b x 0
    by_below true e =
        let small : level < n = ltb-true level n e in
        rw (lt-ltb level (suc n) (omega arith), ne_eqb level n (λ is. absurd (omega arith))) (omega arith)
    by_below false e = by_here (level == n) refl e

sums_add : (f g h : NodeId × Node → ℕ) (es : Trie) → ((e : NodeId × Node) → f e ≡ g e + h e) → total f es ≡ total g es + total h es
sums_add f g h [] each = refl
sums_add f g h (e ∷ es) each = omega (arith, each e, sums_add f g h es each)

none_held : (g : Geometry) (image : Image) (trie : Trie) → total (held_by g image 0) trie ≡ 0
none_held g image [] = refl
none_held g image (e ∷ es) = rw (le-ltb e.0.level 0 (omega arith)) (omega (arith, none_held g image es))

pub above_long : (g : Geometry) (image : Image) (trie : Trie) (levels : ℕ) → length (items_above g image trie levels) ≡ total (held_by g image levels) trie
unfolding items_above
above_long g image trie zero = sym (none_held g image trie)
above_long g image trie (suc level) =
    let total = sums_add (held_by g image (suc level)) (λ (e : NodeId × Node). cond (e.0.level == level) (length (pile_items g image e.1.tables)) 0) (held_by g image level) trie (λ e. one_more e.0.level level (length (pile_items g image e.1.tables))) in
    omega (arith, length-append (level_items g image trie level) (items_above g image trie level), level_long g image trie level, above_long g image trie level, total)

-- ---- a flush

after_flush : (g : Geometry) (image : Image) (trie : Trie) (tables : List ℕ) → 2 ≤ g.levels → is_sorted node_cmp trie ≡ true
    → length (items_above g image (after_change trie (flush tables)) g.levels) ≤ length (items_above g image trie g.levels) + length (pile_items g image tables)
unfolding after_change
after_flush g image trie tables deep rising =
    let before : Node = node_at trie root in
    let first : nat_lt 0 g.levels ≡ true = lt-ltb 0 g.levels (omega arith) in
    let here : held_by g image g.levels (root, before) ≡ length (pile_items g image before.tables) = rw first refl in
    let there : held_by g image g.levels (root, appended before tables) ≡ length (pile_items g image before.tables) + length (pile_items g image tables) =
    rw first (ap length (flat_map-append (items_at g image) before.tables tables) ∙ length-append (pile_items g image before.tables) (pile_items g image tables)) in
    omega (arith, above_long g image (with_node trie root (appended before tables)) g.levels, above_long g image trie g.levels, with_node-weight (held_by g image g.levels) trie root (appended before tables) rising (held_none g image g.levels root), here, there)

-- THE STORED ITEMS after a flush are at most the writes of the image before
pub flushed-few : (old new : Image) (o p : Opened) (tables : List ℕ) → open_image old ≡ Ok o → bad_blocks o old ≡ [] → Follows o p old new (flush tables) → PlacedIn o.named.geometry new tables (cut (newest (log_items o))) → length (stored_items p new) ≤ number_of o
flushed-few old new o p tables opens sound f placed =
    let g : Geometry = o.named.geometry in
    let trie : Trie = o.named.manifest.trie in
    let well = opens-well old o opens in
    let stored : length (stored_items p new) ≡ length (items_above g new (after_change trie (flush tables)) g.levels) = (λ i. length (items_above (f.geometry i) new (f.trie i) (f.geometry i).levels)) in
    let same : length (items_above g new trie g.levels) ≡ length (stored_items o old) = ap length (items_above-same g old new trie g.levels f.kept) in
    omega (arith, stored, same, after_flush g new trie tables well.levels well.rising, flush_few g new tables (log_items o) placed, stored-few o old sound)

-- so a flush that keeps the number of writes flushes
pub flushes : (old new : Image) (o p : Opened) (tables : List ℕ) → open_image old ≡ Ok o → bad_blocks o old ≡ [] → Follows o p old new (flush tables) → PlacedIn o.named.geometry new tables (cut (newest (log_items o))) → log_items p ≡ [] → number_of p ≡ number_of o → Flushes o p old new tables
flushes old new o p tables opens sound f placed emptied number = record {
  follows = f;
  placed = placed;
  emptied = emptied;
  few =
      let none : length (log_items p) ≡ 0 = ap length emptied in
      let count : p.named.manifest.header.writes + length (log_items p) ≡ number_of o = number in
      omega (arith, flushed-few old new o p tables opens sound f placed, none, count);
}

-- THE COMMIT of a flush: the manifest's header counts all writes of the image before, and the log is empty
pub flush-committed : (old new : Image) (o p : Opened) (tables : List ℕ) (header : Header) (s : State) → open_image old ≡ Ok o → open_image new ≡ Ok p → Stands old s
    → p.named.geometry ≡ o.named.geometry → p.named.manifest ≡ after_commit o.named.manifest (flush tables) header → header.writes ≡ number_of o → p.groups ≡ []
    → SameExtents o.named.geometry old new (named o.named.manifest.trie) → PlacedIn o.named.geometry new tables (cut (newest (log_items o))) → Stands new s
flush-committed old new o p tables header s opens_old opens_new st geometry manifest writes empty kept placed =
    let follows : Follows o p old new (flush tables) = record { geometry = geometry; trie = ap (λ (m : Manifest). m.trie) manifest; kept = kept } in
    let emptied : log_items p ≡ [] = ap items_in empty in
    let none : length (log_items p) ≡ 0 = ap length emptied in
    let counted : p.named.manifest.header.writes ≡ header.writes = ap (λ (m : Manifest). m.header.writes) manifest in
    let all : header.writes ≡ o.named.manifest.header.writes + length (log_items o) = writes in
    let number : number_of p ≡ number_of o = omega arith in
    flush-stands old new o p tables s opens_old opens_new st (flushes old new o p tables opens_old (stands-as old o s opens_old st).sound follows placed emptied number) number

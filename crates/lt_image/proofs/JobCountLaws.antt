-- How many items tables hold after a deal and a rewriting: no more than before. So an image stands after them for what it stood for.
use Rattle.std.proofs.Common.{◌≡◌, ℕ, zero, suc, ◌+◌, ◌*◌, ◌<◌, ◌≤◌, sym, ap, ◌∙◌, List, [], ◌∷◌, ◌++◌, length, take, drop, Bool, true, false, cond, Ok, arith, take-append-drop}
use Rattle.std.specs.Prelude.{◌==◌, nat_lt}
use Rattle.std.specs.FinMap.{is_sorted}
use Rattle.std.specs.List.{flat_map, fold, AllZip}
use Rattle.std.proofs.lemmas.Bool.{and_parts, eqb-true, eqb-false, lt-ltb}
use Rattle.std.proofs.lemmas.List.{length-append}
use Rattle.std.proofs.lemmas.List.Concat.{flat_map-append}
use Rattle.lt_terms.specs.Bytes.{Image}
use Rattle.lt_terms.specs.Hashes.{key_digit}
use Rattle.lt_terms.specs.Items.{Item}
use Rattle.lt_language.specs.Machine.{State}
use Rattle.lt_tables.specs.Cut.{cut}
use Rattle.lt_tables.specs.Table.{newest, with_digit, without_deletes, is_put}
use Rattle.lt_tables.proofs.CutLaws.{cut-joined}
use Rattle.lt_tables.proofs.FitLaws.{total}
use Rattle.lt_tables.proofs.ListLaws.{all_take, filter_few}
use Rattle.lt_format.specs.declared.header.Header.{Header}
use Rattle.lt_format.specs.declared.node_id.NodeId.{NodeId}
use Rattle.lt_format.specs.declared.geometry.Geometry.{Geometry}
use Rattle.lt_format.specs.Changes.{ChildChange, deal, rewrite, fits, child_after, after_child, without_oldest, after_change}
use Rattle.lt_format.specs.Log.{items_in}
use Rattle.lt_format.specs.Snapshot.{may_commit, log_moves, after_commit, Manifest}
use Rattle.lt_format.specs.Trie.{Node, Trie, node_cmp, node_at, with_node, named, is_last_level, IsTrie}
use Rattle.lt_format.proofs.ChildLaws.{children-elsewhere}
use Rattle.lt_format.proofs.FreeLaws.{bare_inner}
use Rattle.lt_format.proofs.NamedLaws.{children-rising}
use Rattle.lt_format.proofs.ReadLaws.{manifest_of-named}
use Rattle.lt_format.proofs.TrieLaws.{with_node-rising}
use Rattle.lt_image.specs.After.{SameExtent, SameExtents, Gets, Deals, Rewrites}
use Rattle.lt_image.specs.Versions.{Opened, open_image, log_items, number_of, items_at, pile_items, items_above, stored_items}
use Rattle.lt_image.specs.Shares.{child_share, has_tables, deal_shares, rewrite_share}
use Rattle.lt_image.specs.Standing.{bad_blocks, Stands}
use Rattle.lt_image.proofs.CountLaws.{newest-few, spread, spread_few, parts_few, with_node-weight, held_by, held_none, above_long}
use Rattle.lt_image.proofs.JobLaws.{deal-sound, deal-keeps, rewrite-sound, rewrite-keeps}
use Rattle.lt_image.proofs.KeptLaws.{items_above-same, pile_same, stored-few}
use Rattle.lt_image.proofs.MapLaws.{named-tables}
use Rattle.lt_image.proofs.OpenLaws.{opens-is}
use Rattle.lt_image.proofs.ShareLaws.{shares_from, IsDeal, fits-deal, fits-rewrite}
use Rattle.lt_image.proofs.StandLaws.{stands-as, as-stands}

-- how many items some tables hold
abbrev pile_count : Geometry → Image → List ℕ → ℕ
pile_count g image tables = length (pile_items g image tables)

abbrev given_count : Geometry → Image → List ChildChange → ℕ
given_count g image children = total (λ (c : ChildChange). pile_count g image c.tables) children

piles_join : (g : Geometry) (image : Image) (xs ys : List ℕ) → pile_count g image (xs ++ ys) ≡ pile_count g image xs + pile_count g image ys
piles_join g image xs ys = ap length (flat_map-append (items_at g image) xs ys) ∙ length-append (pile_items g image xs) (pile_items g image ys)

child_more : (g : Geometry) (image : Image) (levels : ℕ) (n : Node) (c : ChildChange) → held_by g image levels (c.node, child_after n c) ≤ held_by g image levels (c.node, n) + pile_count g image c.tables
child_more g image levels n c = by_level (nat_lt c.node.level levels)
  where
    by_level : (b : Bool) → cond b (pile_count g image (n.tables ++ c.tables)) 0 ≤ cond b (pile_count g image n.tables) 0 + pile_count g image c.tables
    by_level true = omega (arith, piles_join g image n.tables c.tables)
    by_level false = omega arith

-- children that were given tables hold at most these more
children_more : (g : Geometry) (image : Image) (levels : ℕ) (trie : Trie) (children : List ChildChange) → is_sorted node_cmp trie ≡ true → total (held_by g image levels) (fold after_child trie children) ≤ total (held_by g image levels) trie + given_count g image children
children_more g image levels trie [] rising = omega arith
children_more g image levels trie (c ∷ children) rising =
    let after : Node = child_after (node_at trie c.node) c in
    omega (
      arith,
      children_more g image levels (after_child trie c) children (with_node-rising trie c.node after rising),
      with_node-weight (held_by g image levels) trie c.node after rising (held_none g image levels c.node),
      child_more g image levels (node_at trie c.node) c,
    )

-- ---- what a deal gives is at most what it takes

given_few : (g : Geometry) (image : Image) (trie : Trie) (id : NodeId) (items : List Item) (a n : ℕ) (children : List ChildChange) → AllZip (Gets g image) children (shares_from trie id items a n)
    → given_count g image children ≤ spread (λ v. key_digit v.key id.level) items a n
given_few g image trie id items a zero [] zip = omega arith
given_few g image trie id items a zero (c ∷ cs) zip = absurd zip
given_few g image trie id items a (suc n) children zip = by_test (has_tables (child_share trie id items a)) (λ cs. given_few g image trie id items (a + 1) n cs) children zip
  where
    by_test : (b : Bool) → ((cs : List ChildChange) → AllZip (Gets g image) cs (shares_from trie id items (a + 1) n) → given_count g image cs ≤ spread (λ v. key_digit v.key id.level) items (a + 1) n)
        → (children : List ChildChange) → AllZip (Gets g image) children (cond b (child_share trie id items a ∷ shares_from trie id items (a + 1) n) (shares_from trie id items (a + 1) n))
        → given_count g image children ≤ length (with_digit id.level a items) + spread (λ v. key_digit v.key id.level) items (a + 1) n
    by_test true ih [] zip = absurd zip
    by_test true ih (c ∷ cs) zip =
        let whole : length (flat_map (λ part. part) (cut (with_digit id.level a items))) ≡ length (with_digit id.level a items) = ap length (cut-joined (with_digit id.level a items)) in
        omega (arith, whole, parts_few g image c.tables (cut (with_digit id.level a items)) zip.0.placed, ih cs zip.1)
    by_test false ih children zip = omega (arith, ih children zip)

-- ---- a deal

after_deal : (g : Geometry) (image : Image) (trie : Trie) (id : NodeId) (dropped : ℕ) (children : List ChildChange) → IsDeal g.levels trie id dropped children → is_sorted node_cmp trie ≡ true
    → length (items_above g image (after_change trie (deal id dropped children)) g.levels) + pile_count g image (take dropped (node_at trie id).tables) ≤ length (items_above g image trie g.levels) + given_count g image children
unfolding after_change
after_deal g image trie id dropped children is rising =
    let before : Node = node_at trie id in
    let given : Trie = fold after_child trie children in
    let same : node_at given id ≡ before = children-elsewhere g.levels trie trie id (8 * id.number) children id (λ e. absurd (omega arith)) is.fit in
    let inside : nat_lt id.level g.levels ≡ true = lt-ltb id.level g.levels is.within in
    let here : held_by g image g.levels (id, node_at given id) ≡ pile_count g image before.tables = ap (λ (n : Node). held_by g image g.levels (id, n)) same ∙ ap (λ b. cond b (pile_count g image before.tables) 0) inside in
    let there : held_by g image g.levels (id, without_oldest before dropped) ≡ pile_count g image (drop dropped before.tables) = ap (λ b. cond b (pile_count g image (drop dropped before.tables)) 0) inside in
    let parts : pile_count g image before.tables ≡ pile_count g image (take dropped before.tables) + pile_count g image (drop dropped before.tables) =
    ap (pile_count g image) (sym (take-append-drop dropped before.tables)) ∙ piles_join g image (take dropped before.tables) (drop dropped before.tables) in
    omega (
      arith,
      here,
      there,
      parts,
      above_long g image (with_node given id (without_oldest before dropped)) g.levels,
      above_long g image trie g.levels,
      with_node-weight (held_by g image g.levels) given id (without_oldest before dropped) (children-rising trie children rising) (held_none g image g.levels id),
      children_more g image g.levels trie children rising,
    )

same_oldest : (g : Geometry) (old new : Image) (trie : Trie) (id : NodeId) (n : ℕ) → SameExtents g old new (named trie) → pile_items g new (take n (node_at trie id).tables) ≡ pile_items g old (take n (node_at trie id).tables)
same_oldest g old new trie id n same = pile_same g old new (take n (node_at trie id).tables) (all_take (SameExtent g old new) n (node_at trie id).tables (named-tables (SameExtent g old new) trie id same))

dealt_fewer : (o p : Opened) (old new : Image) (id : NodeId) (dropped : ℕ) (children : List ChildChange) → is_sorted node_cmp o.named.manifest.trie ≡ true → Deals o p old new id dropped children → length (stored_items p new) ≤ length (stored_items o old)
dealt_fewer o p old new id dropped children rising f =
    let g : Geometry = o.named.geometry in
    let trie : Trie = o.named.manifest.trie in
    let items : List Item = pile_items g old (take dropped (node_at trie id).tables) in
    let stored : length (stored_items p new) ≡ length (items_above g new (after_change trie (deal id dropped children)) g.levels) = (λ i. length (items_above (f.follows.geometry i) new (f.follows.trie i) (f.follows.geometry i).levels)) in
    let same : length (items_above g new trie g.levels) ≡ length (stored_items o old) = ap length (items_above-same g old new trie g.levels f.follows.kept) in
    let taken : pile_count g new (take dropped (node_at trie id).tables) ≡ length items = ap length (same_oldest g old new trie id dropped f.follows.kept) in
    omega (
      arith,
      stored,
      same,
      taken,
      after_deal g new trie id dropped children (fits-deal g.levels trie id dropped children f.fit) rising,
      given_few g new trie id (newest items) 0 8 children f.given,
      spread_few (λ v. key_digit v.key id.level) (newest items) 0 8,
      newest-few items,
    )

few_still : (o p : Opened) (old new : Image) → p.named.manifest.header.writes ≡ o.named.manifest.header.writes → bad_blocks o old ≡ [] → length (stored_items p new) ≤ length (stored_items o old) → length (stored_items p new) ≤ p.named.manifest.header.writes
few_still o p old new writes sound fewer = omega (arith, writes, fewer, stored-few o old sound)

-- ---- a rewriting

after_rewrite : (g : Geometry) (image : Image) (trie : Trie) (id : NodeId) (tables groups : List ℕ) → id.level < g.levels → is_sorted node_cmp trie ≡ true
    → length (items_above g image (after_change trie (rewrite id tables groups)) g.levels) + pile_count g image (node_at trie id).tables ≤ length (items_above g image trie g.levels) + pile_count g image tables
unfolding after_change
after_rewrite g image trie id tables groups within rising =
    let after : Node = record { base = length tables; tables = tables; groups = groups } in
    let inside : nat_lt id.level g.levels ≡ true = lt-ltb id.level g.levels within in
    let here : held_by g image g.levels (id, node_at trie id) ≡ pile_count g image (node_at trie id).tables = ap (λ b. cond b (pile_count g image (node_at trie id).tables) 0) inside in
    let there : held_by g image g.levels (id, after) ≡ pile_count g image tables = ap (λ b. cond b (pile_count g image tables) 0) inside in
    omega (
      arith,
      here,
      there,
      above_long g image (with_node trie id after) g.levels,
      above_long g image trie g.levels,
      with_node-weight (held_by g image g.levels) trie id after rising (held_none g image g.levels id),
    )

rewritten_fewer : (o p : Opened) (old new : Image) (id : NodeId) (tables groups : List ℕ) → is_sorted node_cmp o.named.manifest.trie ≡ true → Rewrites o p old new id tables groups → length (stored_items p new) ≤ length (stored_items o old)
rewritten_fewer o p old new id tables groups rising f =
    let g : Geometry = o.named.geometry in
    let trie : Trie = o.named.manifest.trie in
    let items : List Item = pile_items g old (node_at trie id).tables in
    let puts : List Item = without_deletes (newest items) in
    let last : id.level + 1 ≡ g.levels = (fits-rewrite g.levels trie id tables groups f.fit).last in
    let stored : length (stored_items p new) ≡ length (items_above g new (after_change trie (rewrite id tables groups)) g.levels) = (λ i. length (items_above (f.follows.geometry i) new (f.follows.trie i) (f.follows.geometry i).levels)) in
    let same : length (items_above g new trie g.levels) ≡ length (stored_items o old) = ap length (items_above-same g old new trie g.levels f.follows.kept) in
    let taken : pile_count g new (node_at trie id).tables ≡ length items = ap length (pile_same g old new (node_at trie id).tables (named-tables (SameExtent g old new) trie id f.follows.kept)) in
    let whole : length (flat_map (λ part. part) (cut puts)) ≡ length puts = ap length (cut-joined puts) in
    omega (
      arith,
      stored,
      same,
      taken,
      whole,
      after_rewrite g new trie id tables groups (omega arith) rising,
      parts_few g new tables (cut puts) f.given.placed,
      filter_few is_put (newest items),
      newest-few items,
    )

-- ---- what an image stands for

-- the trie of an image that opens
pub opens-trie : (image : Image) (o : Opened) → open_image image ≡ Ok o → IsTrie o.named.geometry.levels o.named.manifest.header.extents o.named.manifest.trie
opens-trie image o h = (manifest_of-named image o.named (opens-is image o h).named).read.trie

-- A DEAL stores no more items than there were
pub deal-fewer : (old new : Image) (o p : Opened) (id : NodeId) (dropped : ℕ) (children : List ChildChange) → open_image old ≡ Ok o → Deals o p old new id dropped children → length (stored_items p new) ≤ length (stored_items o old)
deal-fewer old new o p id dropped children opens f = dealt_fewer o p old new id dropped children (opens-trie old o opens).rising f

-- A REWRITING too
pub rewrite-fewer : (old new : Image) (o p : Opened) (id : NodeId) (tables groups : List ℕ) → open_image old ≡ Ok o → Rewrites o p old new id tables groups → length (stored_items p new) ≤ length (stored_items o old)
rewrite-fewer old new o p id tables groups opens f = rewritten_fewer o p old new id tables groups (opens-trie old o opens).rising f

deeper : (levels : ℕ) (id : NodeId) → id.level < levels → is_last_level levels id ≡ false → suc id.level < levels
deeper levels id within inner = let apart : id.level + 1 ≡ levels → ⊥ = eqb-false (id.level + 1) levels inner in by_less apart
  where
    by_less : (id.level + 1 ≡ levels → ⊥) → suc id.level < levels
    by_less apart = omega arith

same_number : (o p : Opened) → log_items p ≡ log_items o → p.named.manifest.header.writes ≡ o.named.manifest.header.writes → number_of p ≡ number_of o
same_number o p log writes = λ i. writes i + length (log i)

-- AFTER A DEAL an image stands for the state that it stood for
pub deal-stands : (old new : Image) (o p : Opened) (id : NodeId) (dropped : ℕ) (children : List ChildChange) (s : State) → open_image old ≡ Ok o → open_image new ≡ Ok p → Stands old s → Deals o p old new id dropped children → Stands new s
deal-stands old new o p id dropped children s opens_old opens_new st f =
    let before = stands-as old o s opens_old st in
    let t = opens-trie old o opens_old in
    let is = fits-deal o.named.geometry.levels o.named.manifest.trie id dropped children f.fit in
    let bare = bare_inner o.named.geometry.levels o.named.manifest.header.extents o.named.manifest.trie id t is.inner in
    let few = few_still o p old new f.writes before.sound (dealt_fewer o p old new id dropped children t.rising f) in
    as-stands new p s opens_new (record {
      sound = deal-sound o p old new id dropped children f t bare few before.sound;
      map = deal-keeps o p old new id dropped children f t bare few (deeper o.named.geometry.levels id is.within is.inner) before.sound ∙ before.map;
      writes = same_number o p f.log f.writes ∙ before.writes;
    })

-- AFTER A REWRITING too
pub rewrite-stands : (old new : Image) (o p : Opened) (id : NodeId) (tables groups : List ℕ) (s : State) → open_image old ≡ Ok o → open_image new ≡ Ok p → Stands old s → Rewrites o p old new id tables groups → Stands new s
rewrite-stands old new o p id tables groups s opens_old opens_new st f =
    let before = stands-as old o s opens_old st in
    let t = opens-trie old o opens_old in
    let few = few_still o p old new f.writes before.sound (rewritten_fewer o p old new id tables groups t.rising f) in
    as-stands new p s opens_new (record {
      sound = rewrite-sound o p old new id tables groups f t few before.sound;
      map = rewrite-keeps o p old new id tables groups f t few before.sound ∙ before.map;
      writes = same_number o p f.log f.writes ∙ before.writes;
    })

-- ---- commits

-- THE COMMIT of a deal
pub deal-committed : (old new : Image) (o p : Opened) (id : NodeId) (dropped : ℕ) (children : List ChildChange) (header : Header) (s : State) → open_image old ≡ Ok o → open_image new ≡ Ok p → Stands old s
    → p.named.geometry ≡ o.named.geometry → p.named.manifest ≡ after_commit o.named.manifest (deal id dropped children) header → may_commit o.named.geometry.levels o.named.manifest (deal id dropped children) header ≡ true → p.groups ≡ o.groups
    → SameExtents o.named.geometry old new (named o.named.manifest.trie)
    → AllZip (Gets o.named.geometry new) children (deal_shares o.named.manifest.trie id (pile_items o.named.geometry old (take dropped (node_at o.named.manifest.trie id).tables))) → Stands new s
deal-committed old new o p id dropped children header s opens_old opens_new st geometry manifest may groups kept given =
    let a = and_parts _ (log_moves (deal id dropped children) o.named.manifest.header header) may in
    let b = and_parts _ (header.extents == o.named.manifest.header.extents) a.0 in
    let c = and_parts (fits o.named.geometry.levels o.named.manifest.trie (deal id dropped children)) _ b.0 in
    let moves = and_parts (header.log_area == o.named.manifest.header.log_area) (header.writes == o.named.manifest.header.writes) a.1 in
    deal-stands old new o p id dropped children s opens_old opens_new st (record {
      follows = record { geometry = geometry; trie = ap (λ (m : Manifest). m.trie) manifest; kept = kept };
      fit = c.0;
      given = given;
      log = ap items_in groups;
      writes = ap (λ (m : Manifest). m.header.writes) manifest ∙ eqb-true header.writes o.named.manifest.header.writes moves.1;
    })

-- THE COMMIT of a rewriting
pub rewrite-committed : (old new : Image) (o p : Opened) (id : NodeId) (tables groups : List ℕ) (header : Header) (s : State) → open_image old ≡ Ok o → open_image new ≡ Ok p → Stands old s
    → p.named.geometry ≡ o.named.geometry → p.named.manifest ≡ after_commit o.named.manifest (rewrite id tables groups) header → may_commit o.named.geometry.levels o.named.manifest (rewrite id tables groups) header ≡ true → p.groups ≡ o.groups
    → SameExtents o.named.geometry old new (named o.named.manifest.trie)
    → Gets o.named.geometry new (record { node = id; tables = tables; kept_groups = 0; groups = groups }) (rewrite_share id (pile_items o.named.geometry old (node_at o.named.manifest.trie id).tables)) → Stands new s
rewrite-committed old new o p id tables groups header s opens_old opens_new st geometry manifest may log kept given =
    let a = and_parts _ (log_moves (rewrite id tables groups) o.named.manifest.header header) may in
    let b = and_parts _ (header.extents == o.named.manifest.header.extents) a.0 in
    let c = and_parts (fits o.named.geometry.levels o.named.manifest.trie (rewrite id tables groups)) _ b.0 in
    let moves = and_parts (header.log_area == o.named.manifest.header.log_area) (header.writes == o.named.manifest.header.writes) a.1 in
    rewrite-stands old new o p id tables groups s opens_old opens_new st (record {
      follows = record { geometry = geometry; trie = ap (λ (m : Manifest). m.trie) manifest; kept = kept };
      fit = c.0;
      given = given;
      log = ap items_in log;
      writes = ap (λ (m : Manifest). m.header.writes) manifest ∙ eqb-true header.writes o.named.manifest.header.writes moves.1;
    })

-- A ready job's commit: the image after it stands for what the one before stood for.
use Rattle.std.proofs.Common.{◌≡◌, ℕ, zero, suc, ◌+◌, ◌-◌, ◌*◌, ◌≤◌, refl, sym, ap, subst, ◌∙◌, List, [], ◌∷◌, ◌++◌, length, take, drop, Bool, true, false, cond, Some, None, Ok, arith, take-append-drop}
use Rattle.std.specs.Prelude.{◌==◌, nat_le, slice_range}
use Rattle.std.specs.List.{flat_map, AllByRecursion, AllZip, enumerate_from}
use Rattle.std.proofs.lemmas.Bool.{and_parts, and_from, eqb-true}
use Rattle.std.proofs.lemmas.Option.{none-some}
use Rattle.std.proofs.Math.Seq.{take-length}
use Rattle.lt_terms.specs.Bytes.{Image}
use Rattle.lt_terms.specs.Items.{Item}
use Rattle.lt_language.specs.Machine.{State}
use Rattle.lt_tables.specs.Bucket.{bucket_of}
use Rattle.lt_tables.specs.Filter.{group_block}
use Rattle.lt_tables.specs.Table.{IsPlaced}
use Rattle.lt_tables.proofs.ListLaws.{all_take, all_drop, all_left, all_right, all_join}
use Rattle.lt_format.specs.declared.geometry.Geometry.{Geometry}
use Rattle.lt_format.specs.declared.header.Header.{Header}
use Rattle.lt_format.specs.declared.node_id.NodeId.{NodeId}
use Rattle.lt_format.specs.Changes.{Change, ChildChange, deal, rewrite, fits, are_new, new_extents, shape_fits}
use Rattle.lt_format.specs.Snapshot.{Named, may_commit, after_commit}
use Rattle.lt_format.specs.Trie.{Trie, node_at, named, is_last_level, IsTrie}
use Rattle.lt_format.proofs.ShapeLaws.{node_at-node}
use Rattle.lt_image.specs.After.{SameExtent, SameExtents, PlacedIn, IsGroupAt, Gets}
use Rattle.lt_image.specs.Versions.{Opened, open_image, extent_in, pile_items}
use Rattle.lt_image.specs.Shares.{Share, deal_shares, rewrite_share, shares_of}
use Rattle.lt_image.specs.Standing.{filter_blocks, Stands}
use Rattle.lt_image.proofs.JobCountLaws.{deal-committed, rewrite-committed}
use Rattle.lt_image.proofs.MapLaws.{named-tables}
use Rattle.lt_image.proofs.ShareLaws.{shares-behind}
use Rattle.lt_image.proofs.AfterLaws.{same_filters}
use Rattle.lt_compact.specs.Plans.{Holds, all_contents, all_given, are_shared, change_for, extents_for, rewriting, children_shared, is_own}
use Rattle.lt_compact.specs.Jobs.{JobView, Stage, scanning, planned, filling, taken_in, is_filled, change_in, change_of, is_shaped_stage, IsShaped, KeepsJob, KeepsStage}
use Rattle.lt_compact.proofs.PlanLaws.{all-given, given_extents, length-all_contents, own_first, deal-fits, rewrite-fits, rewrite-given, IsFitting}

-- ---- what holds of extents that are as before

pub placed_same : (g : Geometry) (old new : Image) (x : ℕ) (items : List Item) → SameExtent g old new x → IsPlaced items (extent_in g old x) → IsPlaced items (extent_in g new x)
placed_same g old new x items same p = record {
  plans = p.plans;
  placement = p.placement;
  buckets = λ c small. ap bucket_of (same c (omega arith)) ∙ p.buckets c small;
  filters = same 64 (omega arith) ∙ p.filters;
}

placed_in_same : (g : Geometry) (old new : Image) (xs : List ℕ) (parts : List (List Item)) → SameExtents g old new xs → PlacedIn g old xs parts → PlacedIn g new xs parts
placed_in_same g old new [] [] same zip = zip
placed_in_same g old new [] (p ∷ parts) same zip = zip
placed_in_same g old new (x ∷ xs) [] same zip = absurd zip
placed_in_same g old new (x ∷ xs) (p ∷ parts) same zip = (placed_same g old new x p same.0 zip.0, placed_in_same g old new xs parts same.1 zip.1)

group_same : (g : Geometry) (old new : Image) (pile : List ℕ) (p : ℕ × ℕ) → SameExtents g old new pile → SameExtent g old new p.1 → IsGroupAt g old pile p → IsGroupAt g new pile p
group_same g old new pile p same_pile same is =
    let part : List ℕ = slice_range pile (64 * p.0) (64 * p.0 + 64) in
    let filters : filter_blocks g new part ≡ filter_blocks g old part = same_filters g old new part (all_take (SameExtent g old new) (64 * p.0 + 64 - 64 * p.0) (drop (64 * p.0) pile) (all_drop (SameExtent g old new) (64 * p.0) pile same_pile)) in
    record { columns = λ c small. same c (omega arith) ∙ is.columns c small ∙ ap (λ fs. group_block fs c) (sym filters) }

groups_same : (g : Geometry) (old new : Image) (pile xs : List ℕ) (j : ℕ) → SameExtents g old new pile → SameExtents g old new xs → AllByRecursion (IsGroupAt g old pile) (enumerate_from j xs) → AllByRecursion (IsGroupAt g new pile) (enumerate_from j xs)
groups_same g old new pile [] j same_pile same all = tt
groups_same g old new pile (x ∷ xs) j same_pile same all = (group_same g old new pile (j, x) same_pile same.0 all.0, groups_same g old new pile xs (j + 1) same_pile same.1 all.1)

-- what a node got it has where its extents are as before
pub gets-same : (g : Geometry) (old new : Image) (c : ChildChange) (s : Share) → SameExtents g old new s.behind → SameExtents g old new (c.tables ++ c.groups) → Gets g old c s → Gets g new c s
gets-same g old new c s behind fresh gets =
    let tables = all_left (SameExtent g old new) c.tables c.groups fresh in
    let groups = all_right (SameExtent g old new) c.tables c.groups fresh in
    record {
      node = gets.node;
      placed = placed_in_same g old new c.tables s.parts tables gets.placed;
      grouped = groups_same g old new (s.behind ++ c.tables) c.groups c.kept_groups (all_join (SameExtent g old new) s.behind c.tables behind tables) groups gets.grouped;
    }

all_gets_same : (g : Geometry) (old new : Image) (cs : List ChildChange) (shares : List Share) → AllByRecursion (λ (s : Share). SameExtents g old new s.behind) shares → SameExtents g old new (flat_map (λ (c : ChildChange). c.tables ++ c.groups) cs)
    → AllZip (Gets g old) cs shares → AllZip (Gets g new) cs shares
all_gets_same g old new [] [] behind fresh zip = zip
all_gets_same g old new [] (s ∷ shares) behind fresh zip = zip
all_gets_same g old new (c ∷ cs) [] behind fresh zip = absurd zip
all_gets_same g old new (c ∷ cs) (s ∷ shares) behind fresh zip = (
  gets-same g old new c s behind.0 (all_left (SameExtent g old new) (c.tables ++ c.groups) (flat_map (λ (c : ChildChange). c.tables ++ c.groups) cs) fresh) zip.0,
  all_gets_same g old new cs shares behind.1 (all_right (SameExtent g old new) (c.tables ++ c.groups) (flat_map (λ (c : ChildChange). c.tables ++ c.groups) cs) fresh) zip.1,
)

piles_same : (g : Geometry) (old new : Image) (trie : Trie) (shares : List Share) → SameExtents g old new (named trie) → AllByRecursion (λ (s : Share). s.behind ≡ (node_at trie s.node).tables) shares → AllByRecursion (λ (s : Share). SameExtents g old new s.behind) shares
piles_same g old new trie [] same behind = tt
piles_same g old new trie (s ∷ shares) same behind = (subst (SameExtents g old new) (sym behind.0) (named-tables (SameExtent g old new) trie s.node same), piles_same g old new trie shares same behind.1)

-- ---- a job whose extents are all filled

-- the stage of a ready job
pub record IsReady (levels : ℕ) (id : NodeId) (sources : List ℕ) (stage : Stage) (change : Change) : Type 0 where
  pub shares : List Share
  pub numbers : List ℕ
  pub stage_is : stage ≡ filling shares numbers (length numbers)
  pub change_is : change ≡ change_for levels id (length sources) shares numbers

some_same : (a b : Change) → Some a ≡ Some b → a ≡ b
some_same a b e = cc

ready_stage : (levels : ℕ) (id : NodeId) (sources : List ℕ) (stage : Stage) (change : Change) → (cond (is_filled stage) (change_in levels id sources stage) None) ≡ Some change → IsReady levels id sources stage change
ready_stage levels id sources (scanning n kept loose) change e = absurd (none-some change e)
ready_stage levels id sources (planned shares) change e = absurd (none-some change e)
ready_stage levels id sources (filling shares numbers filled) change e = by_count (filled == length numbers) refl e
  where
    by_count : (b : Bool) → (filled == length numbers) ≡ b → cond b (Some (change_for levels id (length sources) shares numbers)) None ≡ Some change → IsReady levels id sources (filling shares numbers filled) change
    by_count true is e =
        let count : filled ≡ length numbers = eqb-true filled (length numbers) is in
        record { shares = shares; numbers = numbers; stage_is = ap (λ n. filling shares numbers n) count; change_is = sym (some_same (change_for levels id (length sources) shares numbers) change e) }
    by_count false is e = absurd (none-some change e)

pub job-ready : (j : JobView) (change : Change) → change_of j ≡ Some change → IsReady j.levels j.node j.sources j.stage change
job-ready j change e = ready_stage j.levels j.node j.sources j.stage change e

-- what a ready job has
pub record HasShares (g : Geometry) (trie : Trie) (image : Image) (id : NodeId) (sources : List ℕ) (shares : List Share) (numbers : List ℕ) : Type 0 where
  pub fit : are_shared g.levels trie id shares ≡ true
  pub count : length numbers ≡ extents_for g.levels shares
  pub are : shares ≡ shares_of g.levels trie id (pile_items g image sources)
  pub held : AllZip (Holds g image) numbers (all_contents g.levels shares numbers)

take_all : {A B : Type 0} (P : A → B → Type 0) (xs : List A) (ys : List B) (n : ℕ) → length xs ≤ n → AllZip P (take n xs) (take n ys) → length ys ≤ n → AllZip P xs ys
take_all P [] [] n a zip b = tt
take_all P [] (y ∷ ys) zero a zip b = absurd (omega arith)
take_all P [] (y ∷ ys) (suc n) a zip b = zip
take_all P (x ∷ xs) [] zero a zip b = absurd (omega arith)
take_all P (x ∷ xs) [] (suc n) a zip b = zip
take_all P (x ∷ xs) (y ∷ ys) zero a zip b = absurd (omega arith)
take_all P (x ∷ xs) (y ∷ ys) (suc n) a zip b = (zip.0, take_all P xs ys n (omega arith) zip.1 (omega arith))

-- a job that is shaped and keeps its facts has its shares
has_shares : (g : Geometry) (trie : Trie) (m : Named) (image : Image) (j : JobView) (shares : List Share) (numbers : List ℕ) → m.geometry ≡ g → m.manifest.trie ≡ trie → IsShaped g.levels trie j → j.stage ≡ filling shares numbers (length numbers) → KeepsJob m image j → HasShares g trie image j.node j.sources shares numbers
has_shares g trie m image j shares numbers geometry trie_is shaped stage keeps =
    let tests : is_shaped_stage g.levels trie j.node j.sources (filling shares numbers (length numbers)) ≡ true = subst (λ (s : Stage). is_shaped_stage g.levels trie j.node j.sources s ≡ true) stage shaped.stage in
    let a = and_parts _ (nat_le (length numbers) (length numbers)) tests in
    let b = and_parts (are_shared g.levels trie j.node shares) (length numbers == extents_for g.levels shares) a.0 in
    let count : length numbers ≡ extents_for g.levels shares = eqb-true (length numbers) (extents_for g.levels shares) b.1 in
    let kept : KeepsStage m image j.node j.sources (filling shares numbers (length numbers)) = subst (λ (s : Stage). KeepsStage m image j.node j.sources s) stage keeps in
    let are : shares ≡ shares_of g.levels trie j.node (pile_items g image j.sources) = kept.0 ∙ (λ i. shares_of (geometry i).levels (trie_is i) j.node (pile_items (geometry i) image j.sources)) in
    let held : AllZip (Holds g image) (take (length numbers) numbers) (take (length numbers) (all_contents g.levels shares numbers)) = subst (λ (h : Geometry). AllZip (Holds h image) (take (length numbers) numbers) (take (length numbers) (all_contents h.levels shares numbers))) geometry kept.1 in
    let long : length (all_contents g.levels shares numbers) ≡ extents_for g.levels shares = length-all_contents g.levels shares numbers in
    record { fit = b.0; count = count; are = are; held = take_all (Holds g image) numbers (all_contents g.levels shares numbers) (length numbers) (omega arith) held (omega arith) }

-- ---- what the change of a ready job is

-- the change of a last-level node's ready job: its node got its share, in the extents that are as before
pub record RewritesNode (g : Geometry) (old new : Image) (id : NodeId) (pile : List ℕ) (change : Change) : Type 0 where
  pub tables : List ℕ
  pub groups : List ℕ
  pub is : change ≡ rewrite id tables groups
  pub gets : Gets g new (record { node = id; tables = tables; kept_groups = 0; groups = groups }) (rewrite_share id (pile_items g old pile))

pub ready-rewrites : (m : Named) (old new : Image) (j : JobView) (change : Change) → change_of j ≡ Some change → is_last_level m.geometry.levels j.node ≡ true
    → SameExtents m.geometry old new (taken_in j.stage) → IsShaped m.geometry.levels m.manifest.trie j → KeepsJob m old j → RewritesNode m.geometry old new j.node (node_at m.manifest.trie j.node).tables change
ready-rewrites m old new j change change_is last filled shaped keeps =
    let levels : ℕ = m.geometry.levels in
    let trie : Trie = m.manifest.trie in
    let ready : IsReady j.levels j.node j.sources j.stage change = job-ready j change change_is in
    let numbers : List ℕ = ready.numbers in
    let has : HasShares m.geometry trie old j.node j.sources ready.shares numbers = has_shares m.geometry trie m old j ready.shares numbers refl refl shaped ready.stage_is keeps in
    let is_change : change ≡ change_for levels j.node (length j.sources) ready.shares numbers = ready.change_is ∙ ap (λ l. change_for l j.node (length j.sources) ready.shares numbers) shaped.same in
    let fresh : SameExtents m.geometry old new numbers = subst (λ (s : Stage). SameExtents m.geometry old new (taken_in s)) ready.stage_is filled in
    let pile : List ℕ = (node_at trie j.node).tables in
    let items : List Item = pile_items m.geometry old pile in
    let own : Share = rewrite_share j.node items in
    let whole : length pile ≡ length j.sources = shaped.whole last in
    let sources : j.sources ≡ pile = sym shaped.oldest ∙ ap (λ n. take n pile) (sym whole) ∙ take-length pile in
    let are : ready.shares ≡ own ∷ [] = has.are ∙ ap (λ b. cond b (rewrite_share j.node (pile_items m.geometry old j.sources) ∷ []) (deal_shares trie j.node (pile_items m.geometry old j.sources))) last ∙ ap (λ xs. rewrite_share j.node (pile_items m.geometry old xs) ∷ []) sources in
    let count : length numbers ≡ extents_for levels (own ∷ []) = has.count ∙ ap (extents_for levels) are in
    let gets = rewrite-given m.geometry old levels j.node items numbers last count (subst (λ ss. AllZip (Holds m.geometry old) numbers (all_contents levels ss numbers)) are has.held) in
    record {
      tables = take (length own.parts) numbers;
      groups = drop (length own.parts) numbers;
      is = is_change ∙ ap (λ b. cond b (rewriting j.node (all_given levels ready.shares numbers)) (deal j.node (length j.sources) (all_given levels ready.shares numbers))) last
          ∙ ap (λ ss. rewriting j.node (all_given levels ss numbers)) are ∙ ap (λ xs. rewrite j.node (take (length own.parts) xs) (drop (length own.parts) xs)) (own_first levels own numbers count);
      gets = gets-same m.geometry old new (record { node = j.node; tables = take (length own.parts) numbers; kept_groups = 0; groups = drop (length own.parts) numbers }) own tt
          (subst (SameExtents m.geometry old new) (sym (take-append-drop (length own.parts) numbers)) fresh) gets;
    }

-- THE COMMIT OF A JOB: where its extents and those that were named are as before
pub job-committed : (old new : Image) (o p : Opened) (j : JobView) (change : Change) (header : Header) (s : State) → open_image old ≡ Ok o → open_image new ≡ Ok p → Stands old s → p.named.geometry ≡ o.named.geometry
    → change_of j ≡ Some change → p.named.manifest ≡ after_commit o.named.manifest change header → may_commit o.named.geometry.levels o.named.manifest change header ≡ true → p.groups ≡ o.groups
    → SameExtents o.named.geometry old new (named o.named.manifest.trie) → SameExtents o.named.geometry old new (taken_in j.stage)
    → IsShaped o.named.geometry.levels o.named.manifest.trie j → KeepsJob o.named old j → Stands new s
job-committed old new o p j change header s opens_old opens_new st geometry change_is manifest may groups kept filled shaped keeps = by_level (is_last_level levels j.node) refl
  where
    levels : ℕ
    levels = o.named.geometry.levels

    trie : Trie
    trie = o.named.manifest.trie

    ready : IsReady j.levels j.node j.sources j.stage change
    ready = job-ready j change change_is

    numbers : List ℕ
    numbers = ready.numbers

    has : HasShares o.named.geometry trie old j.node j.sources ready.shares numbers
    has = has_shares o.named.geometry trie o.named old j ready.shares numbers refl refl shaped ready.stage_is keeps

    is_change : change ≡ change_for levels j.node (length j.sources) ready.shares numbers
    is_change = ready.change_is ∙ ap (λ l. change_for l j.node (length j.sources) ready.shares numbers) shaped.same

    fresh : SameExtents o.named.geometry old new numbers
    fresh = subst (λ (s : Stage). SameExtents o.named.geometry old new (taken_in s)) ready.stage_is filled

    moved : (c : Change) → change ≡ c → (p.named.manifest ≡ after_commit o.named.manifest c header) × (may_commit levels o.named.manifest c header ≡ true)
    moved c is = subst (λ q. (p.named.manifest ≡ after_commit o.named.manifest q header) × (may_commit levels o.named.manifest q header ≡ true)) is (manifest, may)

    by_level : (b : Bool) → is_last_level levels j.node ≡ b → Stands new s
    by_level true last =
        let r = ready-rewrites o.named old new j change change_is last filled shaped keeps in
        let m = moved (rewrite j.node r.tables r.groups) r.is in
        rewrite-committed old new o p j.node r.tables r.groups header s opens_old opens_new st geometry m.0 m.1 groups kept r.gets
    by_level false inner =
        let children : List ChildChange = all_given levels ready.shares numbers in
        let pile : List ℕ = (node_at trie j.node).tables in
        let are : ready.shares ≡ deal_shares trie j.node (pile_items o.named.geometry old j.sources) = has.are ∙ ap (λ b. cond b (rewrite_share j.node (pile_items o.named.geometry old j.sources) ∷ []) (deal_shares trie j.node (pile_items o.named.geometry old j.sources))) inner in
        let dealt : ready.shares ≡ deal_shares trie j.node (pile_items o.named.geometry old (take (length j.sources) pile)) = are ∙ ap (λ xs. deal_shares trie j.node (pile_items o.named.geometry old xs)) (sym shaped.oldest) in
        let behind : AllByRecursion (λ (q : Share). q.behind ≡ (node_at trie q.node).tables) ready.shares = subst (AllByRecursion (λ (q : Share). q.behind ≡ (node_at trie q.node).tables)) (sym are) (shares-behind trie j.node (pile_items o.named.geometry old j.sources)) in
        let is : change ≡ deal j.node (length j.sources) children = is_change ∙ ap (λ b. cond b (rewriting j.node children) (deal j.node (length j.sources) children)) inner in
        let m = moved (deal j.node (length j.sources) children) is in
        deal-committed old new o p j.node (length j.sources) children header s opens_old opens_new st geometry m.0 m.1 groups kept
        (subst (AllZip (Gets o.named.geometry new) children) dealt
        (all_gets_same o.named.geometry old new children ready.shares (piles_same o.named.geometry old new trie ready.shares kept behind)
        (subst (SameExtents o.named.geometry old new) (sym (given_extents levels ready.shares numbers has.count)) fresh)
        (all-given o.named.geometry old levels ready.shares numbers has.held)))

-- the change of an inner node's ready job is a deal of its tables
pub record DealsNode (id : NodeId) (dropped : ℕ) (change : Change) : Type 0 where
  pub children : List ChildChange
  pub is : change ≡ deal id dropped children

pub ready-deals : (levels : ℕ) (trie : Trie) (j : JobView) (change : Change) → change_of j ≡ Some change → is_last_level levels j.node ≡ false → IsShaped levels trie j → DealsNode j.node (length j.sources) change
ready-deals levels trie j change change_is inner shaped =
    let ready = job-ready j change change_is in
    record {
      children = all_given levels ready.shares ready.numbers;
      is = ready.change_is ∙ ap (λ l. change_for l j.node (length j.sources) ready.shares ready.numbers) shaped.same
          ∙ ap (λ b. cond b (rewriting j.node (all_given levels ready.shares ready.numbers)) (deal j.node (length j.sources) (all_given levels ready.shares ready.numbers))) inner;
    }

-- ---- its change fits

oldest_few : (n : ℕ) (xs : List ℕ) → length (take n xs) ≡ n → n ≤ length xs
oldest_few zero xs h = omega arith
oldest_few (suc n) [] h = absurd (omega arith)
oldest_few (suc n) (x ∷ xs) h = let rest = oldest_few n xs (omega arith) in omega arith

fits-shape : (levels : ℕ) (trie : Trie) (change : Change) → are_new 65536 trie (new_extents change) ≡ true → shape_fits levels trie change ≡ true → fits levels trie change ≡ true
unfolding fits
fits-shape levels trie change new shape = and_from _ _ new shape

-- THE CHANGE OF A READY JOB fits the trie, and names what the job reserved
pub record IsFor (levels : ℕ) (trie : Trie) (change : Change) (numbers : List ℕ) : Type 0 where
  pub fit : fits levels trie change ≡ true
  pub names : new_extents change ≡ numbers

pub job-fits : (levels extents : ℕ) (trie : Trie) (j : JobView) (change : Change) → IsTrie levels extents trie → IsShaped levels trie j → change_of j ≡ Some change → are_new 65536 trie (taken_in j.stage) ≡ true → IsFor levels trie change (taken_in j.stage)
job-fits levels extents trie j change t shaped change_is new =
    let ready = job-ready j change change_is in
    let numbers : List ℕ = ready.numbers in
    let tests : is_shaped_stage levels trie j.node j.sources (filling ready.shares numbers (length numbers)) ≡ true = subst (λ (s : Stage). is_shaped_stage levels trie j.node j.sources s ≡ true) ready.stage_is shaped.stage in
    let a = and_parts _ (nat_le (length numbers) (length numbers)) tests in
    let b = and_parts (are_shared levels trie j.node ready.shares) (length numbers == extents_for levels ready.shares) a.0 in
    let count : length numbers ≡ extents_for levels ready.shares = eqb-true (length numbers) (extents_for levels ready.shares) b.1 in
    let few : length j.sources ≤ length (node_at trie j.node).tables = oldest_few (length j.sources) (node_at trie j.node).tables (ap length shaped.oldest) in
    let some : 1 ≤ length j.sources = shaped.some in
    let there : 1 ≤ length (node_at trie j.node).tables = omega arith in
    let is : change ≡ change_for levels j.node (length j.sources) ready.shares numbers = ready.change_is ∙ ap (λ l. change_for l j.node (length j.sources) ready.shares numbers) shaped.same in
    let f = by_level (is_last_level levels j.node) refl ready.shares numbers count there few some b.0 in
    let names : new_extents change ≡ taken_in j.stage = ap new_extents is ∙ f.names ∙ ap taken_in (sym ready.stage_is) in
    record {
      fit = fits-shape levels trie change (ap (are_new 65536 trie) names ∙ new) (ap (shape_fits levels trie) is ∙ f.shape);
      names = names;
    }
  where
    by_level : (b : Bool) → is_last_level levels j.node ≡ b → (shares : List Share) (numbers : List ℕ) → length numbers ≡ extents_for levels shares → 1 ≤ length (node_at trie j.node).tables → length j.sources ≤ length (node_at trie j.node).tables → 1 ≤ length j.sources
        → are_shared levels trie j.node shares ≡ true → IsFitting levels trie (change_for levels j.node (length j.sources) shares numbers) numbers
    by_level true last shares numbers count there few some shared =
        subst (λ c. IsFitting levels trie (cond c (rewriting j.node (all_given levels shares numbers)) (deal j.node (length j.sources) (all_given levels shares numbers))) numbers) (sym last)
        (rewrite-fits levels trie j.node shares numbers last there (sym (ap (λ c. cond c (is_own j.node shares) (children_shared trie j.node (8 * j.node.number) shares)) last) ∙ shared) count)
    by_level false inner shares numbers count there few some shared =
        subst (λ c. IsFitting levels trie (cond c (rewriting j.node (all_given levels shares numbers)) (deal j.node (length j.sources) (all_given levels shares numbers))) numbers) (sym inner)
        (deal-fits levels trie j.node (length j.sources) shares numbers inner (node_at-node levels extents trie j.node t.nodes there) some few (sym (ap (λ c. cond c (is_own j.node shares) (children_shared trie j.node (8 * j.node.number) shares)) inner) ∙ shared) count)

-- How pressed an image is for extents rests on its manifest and the extents that this names.
use Rattle.std.proofs.Common.{◌≡◌, ◌+◌, refl, ap, [], ◌∷◌, length, Bool, not, ◌&&◌, ◌||◌}
use Rattle.std.specs.Prelude.{nat_lt}
use Rattle.std.specs.List.{list_all}
use Rattle.lt_terms.specs.Bytes.{Image}
use Rattle.lt_tables.proofs.ListLaws.{all_left, all_right}
use Rattle.lt_format.specs.declared.node_id.NodeId.{NodeId}
use Rattle.lt_format.specs.Snapshot.{Named}
use Rattle.lt_format.specs.Trie.{Node, Trie, named, node_at, node_extents, is_last_level}
use Rattle.lt_image.specs.After.{SameExtent, SameExtents}
use Rattle.lt_image.specs.Needs.{is_full, is_twice_full, node_items, has_slack, is_slack, waits, is_settled, is_paced, is_exhausted}
use Rattle.lt_image.specs.Shares.{needed}
use Rattle.lt_image.specs.Versions.{free_extents}
use Rattle.lt_image.proofs.KeptLaws.{pile_same}
use Rattle.lt_image.proofs.MapLaws.{named-tables}

items_same : (m : Named) (old new : Image) (e : NodeId × Node) → SameExtents m.geometry old new e.1.tables → node_items m new e.1 ≡ node_items m old e.1
items_same m old new e same = pile_same m.geometry old new e.1.tables same

pub waits-same : (m : Named) (old new : Image) (e : NodeId × Node) → SameExtents m.geometry old new e.1.tables → waits m new e ≡ waits m old e
waits-same m old new e same = ap (λ xs. nat_lt (free_extents m) (needed m.geometry.levels m.manifest.trie e.0 xs)) (items_same m old new e same)

pub slack-same : (m : Named) (old new : Image) (e : NodeId × Node) → SameExtents m.geometry old new e.1.tables → is_slack m new e ≡ is_slack m old e
slack-same m old new e same = ap (λ xs. is_last_level m.geometry.levels e.0 && has_slack m.geometry.levels m.manifest.trie e.0 xs (length e.1.tables + length e.1.groups)) (items_same m old new e same)

-- each test of the nodes' waiting that is the same on both images
all_same : (m : Named) (old new : Image) (f g : NodeId × Node → Bool) (es : Trie) → ((e : NodeId × Node) → SameExtents m.geometry old new e.1.tables → f e ≡ g e) → SameExtents m.geometry old new (named es)
    → list_all (λ e. not (f e) || waits m new e) es ≡ list_all (λ e. not (g e) || waits m old e) es
all_same m old new f g [] each same = refl
all_same m old new f g (e ∷ es) each same =
    let here = all_left (SameExtent m.geometry old new) e.1.tables e.1.groups (all_left (SameExtent m.geometry old new) (node_extents e.1) (named es) same) in
    λ i. (not (each e here i) || waits-same m old new e here i) && all_same m old new f g es each (all_right (SameExtent m.geometry old new) (node_extents e.1) (named es) same) i

pub settled-same : (m : Named) (old new : Image) → SameExtents m.geometry old new (named m.manifest.trie) → is_settled m new ≡ is_settled m old
unfolding is_settled
settled-same m old new same = all_same m old new (is_full m.geometry.levels) (is_full m.geometry.levels) m.manifest.trie (λ e s. refl) same

pub paced-same : (m : Named) (old new : Image) → SameExtents m.geometry old new (named m.manifest.trie) → is_paced m new ≡ is_paced m old
unfolding is_paced
paced-same m old new same = all_same m old new (is_twice_full m.geometry.levels) (is_twice_full m.geometry.levels) m.manifest.trie (λ e s. refl) same

pub exhausted-same : (m : Named) (old new : Image) → SameExtents m.geometry old new (named m.manifest.trie) → is_exhausted m new ≡ is_exhausted m old
unfolding is_exhausted
exhausted-same m old new same = λ i. settled-same m old new same i && all_same m old new (is_slack m new) (is_slack m old) m.manifest.trie (slack-same m old new) same i

pub node-waits-same : (m : Named) (old new : Image) (id : NodeId) → SameExtents m.geometry old new (named m.manifest.trie) → waits m new (id, node_at m.manifest.trie id) ≡ waits m old (id, node_at m.manifest.trie id)
node-waits-same m old new id same = waits-same m old new (id, node_at m.manifest.trie id) (named-tables (SameExtent m.geometry old new) m.manifest.trie id same)

pub node-needs-same : (m : Named) (old new : Image) (id : NodeId) → SameExtents m.geometry old new (named m.manifest.trie) → needed m.geometry.levels m.manifest.trie id (node_items m new (node_at m.manifest.trie id)) ≡ needed m.geometry.levels m.manifest.trie id (node_items m old (node_at m.manifest.trie id))
node-needs-same m old new id same = ap (needed m.geometry.levels m.manifest.trie id) (items_same m old new (id, node_at m.manifest.trie id) (named-tables (SameExtent m.geometry old new) m.manifest.trie id same))

pub node-slack-same : (m : Named) (old new : Image) (id : NodeId) → SameExtents m.geometry old new (named m.manifest.trie) → is_slack m new (id, node_at m.manifest.trie id) ≡ is_slack m old (id, node_at m.manifest.trie id)
node-slack-same m old new id same = slack-same m old new (id, node_at m.manifest.trie id) (named-tables (SameExtent m.geometry old new) m.manifest.trie id same)

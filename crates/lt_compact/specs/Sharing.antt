-- How the newest items of a job become shares.
use Rattle.std.specs.Prelude.{◌≡◌, ℕ, ◌<◌, ◌≤◌, ◌^◌, false, List, [], ◌∷◌, length, map, IsTrue}
use Rattle.std.specs.List.{AllZip, list_all, range_with_len}
use Rattle.lt_terms.specs.Items.{Item, is_valid}
use Rattle.lt_tables.specs.Cut.{cut, cut_counts}
use Rattle.lt_tables.specs.Table.{newest, with_digit}
use Rattle.lt_tables.specs.Placement.{entry_of}
use Rattle.lt_format.specs.declared.node_id.NodeId.{NodeId}
use Rattle.lt_format.specs.Trie.{Trie, child, is_last_level, is_node, node_at}
use Rattle.lt_image.specs.Shares.{Share}

-- items in rank order, each key once, and fewer than 2^32
pub record AreRanked (items : List Item) : Type 0 where
  pub ranked : newest items ≡ items
  pub few : length items < 2 ^ 32

-- a node of a trie with so many levels, which has children
pub record IsInner (levels : ℕ) (id : NodeId) : Type 0 where
  pub node : IsTrue (is_node levels id)
  pub inner : is_last_level levels id ≡ false

-- valid items in rank order, each key once, and how many of them each table of their cut takes; behind a pile
pub record IsCut (behind : List ℕ) (items : List Item) (counts : List ℕ) : Type 0 where
  pub ranked : newest items ≡ items
  pub valid : IsTrue (list_all is_valid items)
  pub counts_are : counts ≡ cut_counts (map entry_of items)
  pub few : length items < 2 ^ 32
  pub pile : length behind ≤ 65536

-- what is known of a child's share before the items are dealt: the digit, the child and its pile, and how many items
-- each of its tables takes
pub record FrameView : Type 0 where
  pub digit : ℕ
  pub node : NodeId
  pub behind : List ℕ
  pub counts : List ℕ

-- the frame of the child for a digit, where these items are dealt
abbrev pub frame_of : Trie → NodeId → List Item → ℕ → FrameView
frame_of trie id items d = record {
  digit = d;
  node = child id d;
  behind = (node_at trie (child id d)).tables;
  counts = cut_counts (map entry_of (with_digit id.level d items));
}

-- a frame with its child's items as a share
abbrev pub framed : FrameView → List Item → Share
framed f items = record { node = f.node; behind = f.behind; parts = cut items }

-- frames with the items of their children, as shares
abbrev pub all_framed : List FrameView → List (List Item) → List Share
all_framed [] lists = []
all_framed (f ∷ frames) [] = []
all_framed (f ∷ frames) (items ∷ lists) = framed f items ∷ all_framed frames lists

-- frames of rising digits from `from` on, and beside each the items of its child: its counts are those of their cut
pub record AreFrames (from : ℕ) (frames : List FrameView) (lists : List (List Item)) : Type 0 where
  pub digits : map (λ (f : FrameView). f.digit) frames ≡ range_with_len from (length lists)
  pub cuts : AllZip (λ (f : FrameView) items. IsCut f.behind items f.counts) frames lists

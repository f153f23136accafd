-- The fields of a node before its extent numbers.
use Rattle.std.specs.Prelude.{ℕ, ◌+◌, ◌^◌, ◌&&◌, Option, Result, Ok, nat_le, nat_lt, ◌==◌, if◌then◌else◌}
use Rattle.std.specs.Int.{w8, w16, w32}
use Rattle.lt_format.specs.declared.node_id.NodeId.{NodeId}
use Rattle.lt_format.specs.Trie.{Node, groups_for}
use Rattle.lt_format.specs.Snapshot.{field, follows, ◌>>=◌}
use Rattle.lt_manifest.specs.declared.snapshot.node.NodeRead.{NodeRead}
use Rattle.lt_manifest.specs.declared.snapshot.node.Shape.{Shape as ShapeRead}

-- the node's name and base, and how many tables and groups it has
pub record Shape : Type 0 where
  pub id : NodeId
  pub base : ℕ
  pub tables : ℕ
  pub groups : ℕ

-- the fields of a node as they were read
abbrev pub shape_of : ShapeRead → Shape
shape_of s = record { id = s.id; base = s.base; tables = s.tables; groups = s.groups }

-- the fields of a node of a trie with these levels, after this one, up to its extent numbers
unfoldable pub shape_read : (ℕ → ℕ) → ℕ → ℕ → ℕ → Option NodeId → ℕ → Result (Shape × ℕ) ℕ
shape_read bytes limit levels extents last_id at = do
  level ← field bytes limit w8 (λ l. nat_lt l levels) at
  number ← field bytes limit w16
      (λ n. nat_lt n (8 ^ level.0) && follows last_id (record { level = level.0; number = n })) level.1
  base ← field bytes limit w32 (λ m. nat_le m (if level.0 + 1 == levels then extents else 0)) number.1
  tables_len ← field bytes limit w32 (λ t. nat_le 1 t && nat_le t extents) base.1
  groups_len ← field bytes limit w32
      (λ g. g == (if level.0 + 1 == levels then groups_for tables_len.0 else 0)) tables_len.1
  Ok (
    record {
      id = record { level = level.0; number = number.0 };
      base = base.0;
      tables = tables_len.0;
      groups =
          groups_len.0;
    },
    groups_len.1,
  )

-- a node as it was read, under its name
abbrev pub entry_of : NodeRead → NodeId × Node
entry_of n = (n.id, record { base = n.base; tables = n.tables.items; groups = n.groups.items })

-- The bytes that were read of a manifest area, and what they spell behind the header.
use Rattle.std.specs.Prelude.{◌≡◌, ℕ, ◌+◌, ◌/◌, ◌%◌, ◌<◌, Bool, List, [], Option, Some, None, Result, Ok, Err, length}
use Rattle.std.specs.Prelude.{nat_le, ◌==◌, if◌then◌else◌, slice_index}
use Rattle.std.specs.Int.{Width, byte_len}
use Rattle.lt_terms.specs.Bytes.{Image, block_at}
use Rattle.lt_format.specs.declared.geometry.Geometry.{Geometry}
use Rattle.lt_manifest.specs.declared.fault.ReadFault.{ReadFault}
use Rattle.lt_manifest.specs.declared.fault.ReadFault.TheVariants as faults
use Rattle.lt_manifest.specs.declared.snapshot.header.Front.{Front as FrontRead}
use Rattle.lt_format.specs.Snapshot.{Manifest, Front, field, nodes_read, number_in, total_offset, ◌>>=◌}

-- these are the bytes of the blocks from this one on
pub record AreBytesFrom (image : Image) (first : ℕ) (bytes : List ℕ) : Type 0 where
  pub each : (n : ℕ) → n < length bytes
      → slice_index bytes n ≡ slice_index (block_at image (first + n / 4096)) (n % 4096)

-- a header as it was read, with how many nodes follow and the length of the whole
abbrev pub front_of : FrontRead → Front
front_of front = record { header = front.header; nodes = front.nodes; total = front.total }

-- the manifest whose header was read
abbrev pub after_front : Geometry → (ℕ → ℕ) → Front → Result Manifest ℕ
after_front g bytes front = do
  nodes ← nodes_read bytes front.total g.levels front.header.extents front.nodes None [] 40
  if nodes.1 == front.total then Ok (record { header = front.header; trie = nodes.0 }) else Err total_offset

-- the number of a width that stands in these bytes from a place on, if they are long enough
abbrev pub number_at : List ℕ → Width → ℕ → Option ℕ
number_at bytes w at = if nat_le (at + byte_len w) (length bytes) then Some
    (number_in w (slice_index bytes) at) else None

-- the field of a width from a place on, which these bytes have where its number passes the test
abbrev pub field_at : List ℕ → Width → (ℕ → Bool) → ℕ → Result (ℕ × ℕ) ℕ
field_at bytes w stands at = field (slice_index bytes) (length bytes) w stands at

-- what was read, seen so, is this answer; where there was no memory nothing is said of it
abbrev pub IsReadAs : {T A : Type 0} → Result T ReadFault → (T → A) → Result A ℕ → Type 0
IsReadAs (Ok x) seen answer = answer ≡ Ok (seen x)
IsReadAs (Err (faults.Field at)) seen answer = answer ≡ Err at
IsReadAs (Err faults.NoMemory) seen answer = Unit {0}

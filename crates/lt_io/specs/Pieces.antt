-- Which pieces are left, of those that stand in memory.
use Rattle.std.specs.Prelude.{ℕ, ◌<◌, ◌≤◌, List, [], ◌∷◌, length, drop, map, slice_index_or}
use Rattle.std.specs.List.{All}
use Rattle.lt_io.specs.declared.pieces.Pieces.TheInside.{Inside}

-- the pieces, without the first bytes of the first one
abbrev pub without_front : ℕ → List (List ℕ) → List (List ℕ)
without_front at [] = []
without_front at (piece ∷ pieces) = drop at piece ∷ pieces

-- the bytes of each piece, of those handed out too
abbrev pub all_pieces : Inside → List (List ℕ)
all_pieces p = map (λ piece. piece.items) p.pieces.items

-- the pieces that are left
abbrev pub left_of : Inside → List (List ℕ)
left_of p = without_front p.at (drop p.first (all_pieces p))

-- no piece is empty, and the next byte stands in the first piece that is left
pub record HasPlace (p : Inside) : Type 0 where
  pub first : p.first ≤ length p.pieces.items
  pub at_end : length p.pieces.items ≤ p.first → p.at ≤ 0
  pub at : p.first < length p.pieces.items → p.at < length (slice_index_or (all_pieces p) p.first [])
  pub each : All (λ piece. 0 < length piece) (all_pieces p)

-- What a read of a source leaves, as each source promises it.
use Rattle.std.specs.Prelude.{◌≡◌, ℕ, ◌≤◌, List, [], Some, Result, IfOk, OnErr, take}
use Rattle.lt_terms.specs.Causes.{HasCause}
use Rattle.lt_io.specs.Streams.{IsAtEnd, Takes, pieces_after}
use Rattle.lt_io.specs.declared.source.Source.{Ghosts as SourceGhosts}

-- one read: the bytes that stand at the front of the page, and what the source has left
pub record ReadsPiece {S E : Type 0} (g : SourceGhosts S) (old new : S) (page : List ℕ) (result : Result ℕ E)
    : Type 0 where
  pub fits : IfOk result (λ n. n ≤ 4096)
  pub bytes : IfOk result (λ n. Takes (g.left old) (g.left new) (take n page))
  pub end : IfOk result (λ n. n ≡ 0 → IsAtEnd (g.left old))
  pub only_end : IfOk result (λ n. g.left old ≡ Some [] → n ≡ 0)
  pub pieces : IfOk result (λ n. g.pieces new ≡ pieces_after n (g.pieces old))
  pub cause : HasCause (g.faults old) (g.faults new) result
  pub err : OnErr result (g.left new ≡ g.left old)
  pub err_pieces : OnErr result (g.pieces new ≡ g.pieces old)

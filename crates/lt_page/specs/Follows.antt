-- How a write through a lent value comes back to its block.
use base.Fml.{Fml}
use denote.RattleType.{RattleType}
use denote.Ref.{MutBor}
use denote.Follow.{follows}
use Rattle.core.specs.declared.alloc.Allocator.{Ghosts}
use Rattle.lt_page.specs.declared.block.Block.{Block}
use Rattle.lt_page.specs.contracts.block.Block.{the_row}

-- the block with this value in it
abbrev pub with_value : {T A : Type 0} → Block T A → T → Block T A
with_value block value = record { at = block.at; alloc = block.alloc; value = value }

-- once the loan r ends, the block behind b holds the last value that was written through r
abbrev pub block_follows :
    (T A : RattleType) (g : Ghosts A.Denot) → MutBor (Block T.Denot A.Denot) → MutBor T.Denot → Fml
block_follows T A g b r = follows (the_row T A g) T b.ghost_name r.ghost_name (with_value b.now)

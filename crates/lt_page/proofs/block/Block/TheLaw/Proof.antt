-- A `&` to a block is made of a borrow of it: its value is lent where it lies.
use mathlib.Core.List.{[], ◌++◌}
use base.Fraction.{full_share}
use base.Fml.{Fml, Incl-trans}
use contract.BorrowLft.{meet_⊑_left}
use mir.Raw.{raw as bare}
use denote.RattleType.{RattleType}
use denote.Memory.{lone}
use denote.RawPtr.{lies_at}
use denote.Shares.{Shares-less}
use denote.Param.Laws.{Laws, row_shared}
use denote.Param.Shared.{copy_shared}
use denote.Struct.Field.{RawPtr-field}
use denote.Struct.Laws.{RawPtr-copy}
use denote.Struct.Lending.{lent_at, lent_at_shr_laws, Lends-lies, Lends-first, of_Lends}
use Rattle.core.specs.declared.alloc.Allocator.{Ghosts}
use Rattle.lt_page.specs.contracts.block.Block as block
use Rattle.lt_page.proofs.block.Block.TheLaw.Statement.{statement}

pub shares : (T A : RattleType) (g : Ghosts A.Denot) (of_T : Laws T) (of_A : Laws A) → statement T A g of_T of_A
shares T A g of_T of_A =
    of_Lends (block.struct T A g) (block.the_codes T.Denot A.Denot T.coded A.coded) (block.the_heap T A g) (block.the_lent T A g)
    (λ d p. lent_at_shr_laws T of_T.shr_laws d.at d.value)
    (copy_shared RawPtr-field RawPtr-copy, (row_shared A of_A, tt))
    (λ M 𝓤 𝓛 d p.
    let life = (block.the_row T A g).lives in
    let leave : Fml = g.dealloc_token d.alloc (bare (lone T.mir)) d.at in
    let lies = Lends-lies 𝓛 T life d.at d.value (Shares-less 𝓛 T T.lives life (Incl-trans (meet_⊑_left (T.lives ++ (A.lives ++ [])) _) (meet_⊑_left T.lives (A.lives ++ []))) (of_T.shares 𝓛) d.value) in
    Lends-first 𝓛 (lies_at T full_share d.at d.value) leave (lent_at T d.at d.value) life lies)

use Rattle.std.proofs.Common.{[], ◌∷◌, ◌++◌, refl, ap, ◌∙◌, arith}
use Rattle.std.specs.Prelude.{codes}
use Rattle.lt_terms.specs.Bytes.{u16, filled}
use Rattle.lt_layout.proofs.FillLaws.{filled-block_of}
use Rattle.lt_layout.proofs.superblock.write_super.Goals as goal

pub returns : goal.returns
returns c =
    let g = c.args.geometry.now in
    let magic = c.fill_from.ensures.filled ∙ ap (λ page. filled page 0 (codes "LSMTRIE1")) c.clear.ensures.zeros ∙ filled-block_of [] (codes "LSMTRIE1") 0 refl (omega arith) in
    let levels = c.fill_from-2.ensures.filled ∙ ap (λ page. filled page 8 (g.levels ∷ [])) magic ∙ filled-block_of (codes "LSMTRIE1") (g.levels ∷ []) 8 refl (omega arith) in
    c.fill_from-3.ensures.filled ∙ ap (λ bytes. filled c.fill_from-2.new.self 9 bytes) c.to_be_bytes.ensures ∙ ap (λ page. filled page 9 (u16 g.slots)) levels
    ∙ filled-block_of (codes "LSMTRIE1" ++ g.levels ∷ []) (u16 g.slots) 9 refl (omega arith)

use Rattle.std.proofs.Common.{ℕ, ◌∙◌, ap, List, [], ◌∷◌, arith, refl}
use Rattle.lt_terms.specs.Bytes.{filled}
use Rattle.lt_layout.proofs.FillLaws.{filled-block_of}
use Rattle.lt_manifest.proofs.area.fill_selector.Goals as goal

pub returns : goal.returns
returns c = c.fill_from.ensures.filled ∙ ap (λ (p : List ℕ). filled p 0 (c.args.area ∷ [])) c.clear.ensures.zeros ∙ filled-block_of [] (c.args.area ∷ []) 0 refl (omega arith)

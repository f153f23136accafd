use Rattle.std.proofs.Common.{◌≡◌, ℕ, Bool, true, false, [], ◌∷◌, refl, ap, ◌∙◌, arith}
use Rattle.std.specs.Prelude.{if◌then◌else◌}
use mir.Val.{bool_byte}
use Rattle.lt_terms.specs.Bytes.{block_of, filled}
use Rattle.lt_layout.proofs.FillLaws.{filled-block_of}
use Rattle.lt_layout.proofs.gate.write_gate.Goals as goal

byte_of : (b : Bool) → bool_byte b ≡ (if b then 1 else 0)
byte_of true = refl
byte_of false = refl

pub returns : goal.returns
returns c =
    c.fill_from.ensures.filled ∙ ap (λ page. filled page 0 (c.from.result ∷ [])) c.clear.ensures.zeros
    ∙ filled-block_of [] (c.from.result ∷ []) 0 refl (omega arith) ∙ ap (λ (b : ℕ). block_of (b ∷ [])) (c.from.ensures ∙ byte_of c.args.is_open)

use Rattle.std.proofs.Common.{rules, ◌≡◌, ◌∙◌, ap, List, ℕ, fold, bit_or, ◌==◌}
use Rattle.lt_page.proofs.Zeros.{fold_or_zero}
use Rattle.lt_page.proofs.bytes.all_zero.Goals as goal

pub returns : goal.returns
returns c =
    let ran : c.fold.result ≡ fold (λ seen b. bit_or seen b) 0 c.args.bytes.now = search rules in
    ap (λ n. n == 0) ran ∙ fold_or_zero c.args.bytes.now

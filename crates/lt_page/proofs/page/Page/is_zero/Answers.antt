use Rattle.std.proofs.Common.{◌≡◌, ◌↔◌, ◌∙◌, sym, ap, length}
use Rattle.std.specs.List.{All}
use Rattle.lt_terms.specs.Bytes.{zero_block}
use Rattle.lt_page.proofs.Zeros.{all_zero-zero_block}
use Rattle.lt_page.proofs.page.Page.is_zero.Goals as goal

pub returns-clause-zeros : goal.returns-clause-zeros
returns-clause-zeros c =
    let same = c.as_ref.ensures ∙ c.self.view_is in
    all_zero-zero_block _ _ c.all_zero.result (ap length c.as_ref.ensures ∙ c.self.invariant.len) same c.all_zero.ensures

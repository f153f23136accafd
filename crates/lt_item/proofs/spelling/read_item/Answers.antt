use Rattle.std.proofs.Common.{◌∙◌, sym, ap, arith}
use Rattle.std.proofs.lemmas.List.{at_drop_all}
use Rattle.std.specs.Option.{option_map}
use Rattle.lt_terms.specs.Items.{front_item}
use Rattle.lt_item.specs.Views.{found_in}
use Rattle.lt_item.proofs.spelling.read_item.Goals as goal

pub returns-in_err-bytes-clause-item : goal.returns-in_err-bytes-clause-item
unfolding front_item
returns-in_err-bytes-clause-item c =
    ap (option_map (found_in c.args.bytes.now)) c.from_residual.ensures
    ∙ sym (at_drop_all front_item c.args.bytes.now c.args.at (omega (arith, c.in_err-bytes.ensures.cases)))

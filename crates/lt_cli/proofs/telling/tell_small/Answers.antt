use Rattle.std.proofs.lemmas.Result.{on_err_weaker}
use Rattle.lt_io.proofs.Flows.{GainsFront-longer, GainsPart-front}
use Rattle.lt_cli.proofs.TellingLaws.{small-second, small-third, small-fourth}
use Rattle.lt_cli.proofs.telling.tell_small.Goals as goal
use Rattle.lt_terms.proofs.CauseLaws.{OnErr-always}

pub returns-in_err-write_all-clause-front : goal.returns-in_err-write_all-clause-front
returns-in_err-write_all-clause-front g c = OnErr-always c.from_residual.result (GainsFront-longer _ _ _ _ (GainsPart-front _ _ _ c.in_err-write_all.ensures.err))

pub returns-in_err-tell_number-clause-front : goal.returns-in_err-tell_number-clause-front
returns-in_err-tell_number-clause-front g c = OnErr-always c.from_residual-in_err-tell_number.result (small-second _ _ _ c.args.needed c.args.has c.in_ok-write_all.ensures.all c.in_err-tell_number.ensures.front)

pub returns-in_err-tell_number-2-clause-front : goal.returns-in_err-tell_number-2-clause-front
returns-in_err-tell_number-2-clause-front g c = OnErr-always c.from_residual-in_err-tell_number-2.result (small-third _ _ _ c.args.needed c.args.has _ c.in_ok-write_all.ensures.all c.in_ok-tell_number.ensures.all c.in_err-tell_number-2.ensures.front)

pub returns-clause-front : goal.returns-clause-front
returns-clause-front g c = on_err_weaker c.write_all-2.result (small-fourth _ _ _ c.args.needed c.args.has _ _ c.in_ok-write_all.ensures.all c.in_ok-tell_number.ensures.all c.in_ok-tell_number-2.ensures.all) (on_err_weaker c.write_all-2.result (GainsPart-front _ _ _) c.write_all-2.ensures.err)

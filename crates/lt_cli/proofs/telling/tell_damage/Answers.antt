use Rattle.std.proofs.lemmas.Result.{on_err_weaker}
use Rattle.lt_io.proofs.Flows.{GainsFront-longer, GainsPart-front}
use Rattle.lt_cli.proofs.TellingLaws.{damage-second, damage-third}
use Rattle.lt_cli.proofs.telling.tell_damage.Goals as goal
use Rattle.lt_terms.proofs.CauseLaws.{OnErr-always}

pub returns-in_err-write_all-clause-front : goal.returns-in_err-write_all-clause-front
returns-in_err-write_all-clause-front g c = OnErr-always c.from_residual.result (GainsFront-longer _ _ _ _ (GainsPart-front _ _ _ c.in_err-write_all.ensures.err))

pub returns-in_err-tell_number-clause-front : goal.returns-in_err-tell_number-clause-front
returns-in_err-tell_number-clause-front g c = OnErr-always c.from_residual-in_err-tell_number.result (damage-second _ _ _ c.args.block c.in_ok-write_all.ensures.all c.in_err-tell_number.ensures.front)

pub returns-clause-front : goal.returns-clause-front
returns-clause-front g c = on_err_weaker c.write_all-2.result (damage-third _ _ _ c.args.block _ c.in_ok-write_all.ensures.all c.in_ok-tell_number.ensures.all) (on_err_weaker c.write_all-2.result (GainsPart-front _ _ _) c.write_all-2.ensures.err)

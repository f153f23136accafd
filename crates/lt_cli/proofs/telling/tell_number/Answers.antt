use Rattle.std.proofs.Common.{subst, ◌∙◌, List, ℕ}
use Rattle.std.proofs.lemmas.Result.{on_err_weaker}
use Rattle.lt_io.proofs.Flows.{GainsFront-longer, GainsFront-more, GainsPart-front}
use Rattle.lt_io.specs.Streams.{GainsFront}
use Rattle.lt_cli.proofs.telling.tell_number.Goals as goal
use Rattle.lt_terms.proofs.CauseLaws.{OnErr-always}

pub returns-in_err-write_all-clause-front : goal.returns-in_err-write_all-clause-front
returns-in_err-write_all-clause-front g c = OnErr-always c.from_residual.result (GainsFront-longer _ _ _ _ (GainsPart-front _ _ _ c.in_err-write_all.ensures.err))

pub returns-clause-front : goal.returns-clause-front
returns-clause-front g c = on_err_weaker c.write_all-2.result (λ front. GainsFront-more _ _ _ _ _ c.in_ok-write_all.ensures.all
    (subst (λ (xs : List ℕ). GainsFront (g.K.Sink.stands c.write_all.new.sink) (g.K.Sink.stands c.write_all-2.new.sink) xs) (c.as_bytes.ensures.value ∙ c.format.ensures.text) front)) (on_err_weaker c.write_all-2.result (GainsPart-front _ _ _) c.write_all-2.ensures.err)

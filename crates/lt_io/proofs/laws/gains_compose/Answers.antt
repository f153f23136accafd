use Rattle.lt_io.proofs.Flows.{Gains-none, Gains-more, GainsFront-all, GainsFront-more, GainsFront-longer}
use Rattle.lt_io.proofs.laws.gains_compose.Goals as goal

pub returns-clause-none : goal.returns-clause-none
returns-clause-none g c = λ sink. Gains-none (g.K.Sink.stands sink)

pub returns-clause-more : goal.returns-clause-more
returns-clause-more g c = λ old between new. Gains-more (g.K.Sink.stands old) (g.K.Sink.stands between) (g.K.Sink.stands new)

pub returns-clause-all : goal.returns-clause-all
returns-clause-all g c = λ old new. GainsFront-all (g.K.Sink.stands old) (g.K.Sink.stands new)

pub returns-clause-front : goal.returns-clause-front
returns-clause-front g c = λ old between new. GainsFront-more (g.K.Sink.stands old) (g.K.Sink.stands between) (g.K.Sink.stands new)

pub returns-clause-longer : goal.returns-clause-longer
returns-clause-longer g c = λ old new. GainsFront-longer (g.K.Sink.stands old) (g.K.Sink.stands new)

use Rattle.lt_store.proofs.GoLaws.{goes-none, goes-behind, breaks-behind, goes-state}
use Rattle.lt_store.proofs.laws.goes_compose.Goals as goal

pub returns-clause-none : goal.returns-clause-none
returns-clause-none c = goes-none

pub returns-clause-more : goal.returns-clause-more
returns-clause-more c = λ v w x a b d old mid new g h. goes-behind v w a d old mid g x b new h

pub returns-clause-breaks : goal.returns-clause-breaks
returns-clause-breaks c = λ v w a d old mid new g run. breaks-behind v w a d old mid g new run

pub returns-clause-state : goal.returns-clause-state
returns-clause-state c = λ v w a d old new g. goes-state v w a d old new g

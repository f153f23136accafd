use Rattle.lt_store.proofs.GoLaws.{crashed-rests, open-rests, fresh-rests}
use Rattle.lt_store.proofs.SeenLaws.{opened-seen}
use Rattle.lt_store.proofs.laws.open_rests.Goals as goal

pub returns-clause-opened : goal.returns-clause-opened
returns-clause-opened c = open-rests

pub returns-clause-fresh : goal.returns-clause-fresh
returns-clause-fresh c = fresh-rests

pub returns-clause-crashed : goal.returns-clause-crashed
returns-clause-crashed c = crashed-rests

pub returns-clause-seen : goal.returns-clause-seen
returns-clause-seen c = opened-seen

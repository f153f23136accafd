use Rattle.lt_device.proofs.CallLaws.{reads_more, writes_more, more}
use Rattle.lt_device.proofs.laws.calls_go_on.Goals as goal

pub returns-clause-reads : goal.returns-clause-reads
returns-clause-reads g c = λ m n k old mid new within first second. reads_more within first second

pub returns-clause-writes : goal.returns-clause-writes
returns-clause-writes g c = λ old mid new first second. writes_more first second

pub returns-clause-both : goal.returns-clause-both
returns-clause-both g c = λ m n k old mid new within first second. more within first second

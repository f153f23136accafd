use Rattle.std.proofs.Common.{length, sym, arith}
use Rattle.std.proofs.lemmas.Bool.{eqb-true, eqb-false}
use Rattle.lt_balance.proofs.TableLaws.{IsCut-more, IsCut-whole}
use Rattle.lt_balance.proofs.tables.cut.Goals as goal

pub loop-rest-preserved : goal.loop-rest-preserved
loop-rest-preserved c =
    IsCut-more c.args.entries.now c.loop-rest.counts.items c.push.new.self.items c.loop-rest.rest.now c.split_at.result.1.now c.first_count-count.result c.loop-rest.invariant
    (let some = eqb-false (length c.loop-rest.rest.now) 0 (sym c.loop-rest-test.ensures) in omega arith)
    c.first_count-count.ensures.count c.in_ok-push.ensures.items c.split_at.ensures.back

pub returns : goal.returns
returns c = IsCut-whole c.args.entries.now c.loop-rest.counts.items c.loop-rest.rest.now c.loop-rest.invariant (let none = eqb-true (length c.loop-rest.rest.now) 0 (sym c.loop-rest-test.ensures) in omega arith)

use Rattle.std.proofs.Common.{◌+◌, take, sym, ◌∙◌, arith}
use Rattle.lt_tables.proofs.CutLaws.{table_count-within}
use Rattle.lt_balance.proofs.ColumnLaws.{AreColumns-nil, AreColumns-next, sums-fit}
use Rattle.lt_balance.proofs.EntryLaws.{AreEntries-take}
use Rattle.lt_balance.proofs.TableLaws.{NoneSends-start, NoneSends-next, IsFitted-start, IsFitted-more, IsFitted-full, IsFitted-whole}
use Rattle.lt_balance.proofs.tables.first_count.Goals as goal

pub loop-count-init : goal.loop-count-init
loop-count-init c = (IsFitted-start c.args.entries.now _ c.requires.entries c.requires.some AreColumns-nil, λ _. NoneSends-start)

pub with-requires-clause-load : goal.with-requires-clause-load
with-requires-clause-load c = (sums-fit c.args.entries.now c.loop-count.count _ c.loop-count.columns c.requires.entries c.loop-count-test.true c.loop-count.invariant.0.are).load

pub with-requires-clause-sent : goal.with-requires-clause-sent
with-requires-clause-sent c = (sums-fit c.args.entries.now c.loop-count.count _ c.loop-count.columns c.requires.entries c.loop-count-test.true c.loop-count.invariant.0.are).sent

pub fit-requires : goal.fit-requires
fit-requires c = NoneSends-next c.args.entries.now c.loop-count.count _ c.loop-count.columns c.with.result c.loop-count.sends c.requires.entries c.loop-count-test.true c.loop-count.invariant.0.are c.loop-count.invariant.1

pub returns-then-not-fit : goal.returns-then-not-fit
returns-then-not-fit c =
    let are = AreColumns-next c.args.entries.now c.loop-count.count _ c.loop-count.columns c.with.result c.requires.entries c.loop-count-test.true c.loop-count.invariant.0.are c.with.ensures in
    let full = sym (c.fit.ensures (take (c.loop-count.count + 1) c.args.entries.now) (AreEntries-take (c.loop-count.count + 1) c.args.entries.now c.requires.entries) are) ∙ c.if-not-fit.true in
    let count = IsFitted-full c.args.entries.now c.loop-count.count c.loop-count.columns c.loop-count.invariant.0 c.loop-count-test.true full in
    let some = table_count-within c.args.entries.now c.requires.some in
    record { count = count; some = omega arith; within = omega arith }

pub loop-count-preserved : goal.loop-count-preserved
loop-count-preserved c =
    let are = AreColumns-next c.args.entries.now c.loop-count.count _ c.loop-count.columns c.with.result c.requires.entries c.loop-count-test.true c.loop-count.invariant.0.are c.with.ensures in
    let fits = sym (c.fit.ensures (take (c.loop-count.count + 1) c.args.entries.now) (AreEntries-take (c.loop-count.count + 1) c.args.entries.now c.requires.entries) are) ∙ c.if-not-fit.false in (
      IsFitted-more c.args.entries.now c.loop-count.count c.loop-count.columns _ c.loop-count.invariant.0 c.loop-count-test.true are fits,
      NoneSends-next c.args.entries.now c.loop-count.count _ c.loop-count.columns c.with.result c.loop-count.sends c.requires.entries c.loop-count-test.true c.loop-count.invariant.0.are c.loop-count.invariant.1,
    )

pub returns-clause-count : goal.returns-clause-count
returns-clause-count c = IsFitted-whole c.args.entries.now c.loop-count.count c.loop-count.columns c.loop-count.invariant.0 c.loop-count.auto.count-end c.loop-count-test.false

use Rattle.std.proofs.Common.{◌≡◌, ℕ, ◌-◌, ◌≤◌, List, length, arith, subst}
use Rattle.std.specs.Prelude.{insert}
use Rattle.lt_tables.specs.Placement.{put_by_load}
use Rattle.lt_balance.proofs.SendingLaws.{IsOrder, IsOrder-takes, IsOrder-keeps, IsOrder-whole}
use Rattle.lt_balance.proofs.sendings.senders_of.Goals as goal

pub loop-column-preserved-then-columns-column-gt-CAPACITY : goal.loop-column-preserved-then-columns-column-gt-CAPACITY
loop-column-preserved-then-columns-column-gt-CAPACITY c =
    IsOrder-takes c.args.columns.now c.loop-column.column c.loop-column.order.items c.insert.new.self.items c.place_by_load-at.result c.loop-column.invariant (omega arith) c.loop-column.auto.column c.if-columns-column-gt-CAPACITY.true
    (subst (λ (ds : List ℕ). c.place_by_load-at.result ≤ length ds) c.as_slice.ensures.value c.place_by_load-at.ensures.within)
    c.insert.ensures.items c.insert.ensures.len
    (λ es are. subst (λ (ds : List ℕ). insert ds c.place_by_load-at.result (c.loop-column.column - 1) ≡ put_by_load es (c.loop-column.column - 1) ds) c.as_slice.ensures.value (c.place_by_load-at.ensures.place es are))

pub loop-column-preserved : goal.loop-column-preserved
loop-column-preserved c = IsOrder-keeps c.args.columns.now c.loop-column.column c.loop-column.order.items c.loop-column.invariant (omega arith) c.loop-column.auto.column c.if-columns-column-gt-CAPACITY.false

pub returns-clause-order : goal.returns-clause-order
returns-clause-order c = λ es are. IsOrder-whole es c.args.columns.now c.loop-column.order.items (subst (λ n. IsOrder c.args.columns.now n c.loop-column.order.items) (let done : c.loop-column.column ≡ 0 = omega arith in done) c.loop-column.invariant) are

use Rattle.std.proofs.Common.{◌≡◌, ap, sym, ◌∙◌, cond}
use Rattle.std.specs.Prelude.{◌==◌}
use Rattle.std.proofs.lemmas.Bool.{eq-eqb, ne_eqb}
use Rattle.lt_balance.proofs.ColumnLaws.{column_of-full, column_of-fits}
use Rattle.lt_balance.proofs.columns.Column.with.Goals as goal
use Rattle.lt_balance.proofs.columns.Column.with.Goals.{then-entry-self, else-entry-self}

pub returns-then-self-gt-CAPACITY : goal.returns-then-self-gt-CAPACITY
returns-then-self-gt-CAPACITY c = λ es is none. rw c.from-cost.ensures (column_of-full es c.args.entry.now c.args.self is none c.if-self-gt-CAPACITY.true)

pub returns : goal.returns
returns c = λ es is none.
    let before : c.if-entry-self.sent_before ≡ cond (c.args.entry.now.suffix == c.args.self.mark) c.args.self.sent 0 = elim c.if-entry-self.branch [
      | then-entry-self w ↦ w.sent_before-is ∙ sym (ap (λ b. cond b c.args.self.sent 0) (eq-eqb _ _ w.if-entry-self.true))
      | else-entry-self w ↦ w.sent_before-is ∙ sym (ap (λ b. cond b c.args.self.sent 0) (ne_eqb _ _ w.if-entry-self.false))
    ] in
    rw (c.from-cost.ensures, before) (column_of-fits es c.args.entry.now c.args.self is none c.if-self-gt-CAPACITY.false)

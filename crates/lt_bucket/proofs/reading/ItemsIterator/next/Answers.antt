use Rattle.std.proofs.Common.{rules, ◌≡◌, ◌∙◌, sym, ap, ◌-◌, ◌∷◌, arith, true, is_some}
use Rattle.lt_terms.specs.Items.{items_of}
use Rattle.lt_item.specs.Views.{item_of}
use Rattle.lt_bucket.specs.Reading.{items_in}
use Rattle.lt_bucket.proofs.ItemsOf.{items_in-none, items_in-one, is_some-none, is_some-one}
use Rattle.lt_bucket.proofs.reading.ItemsIterator.next.Goals as goal

pub returns-then-self-eq0-clause-steps : goal.returns-then-self-eq0-clause-steps
returns-then-self-eq0-clause-steps c =
    let empty = sym c.self.view_is ∙ items_in-none _ _ c.if-self-eq0.true in (empty, empty)

pub returns-in_err-item-clause-steps : goal.returns-in_err-item-clause-steps
returns-in_err-item-clause-steps c =
    let none = is_some-none c.self.inside.left (c.self.inside.left - 1) _ (omega arith) (sym c.in_err-item.ensures.item) in
    let some : is_some (items_of c.self.inside.left c.self.inside.bytes.now) ≡ true = c.self.invariant in
    absurd (cc)

pub invariant_of-self : goal.invariant_of-self
invariant_of-self c =
    ap (λ bytes. is_some (items_of (c.self.inside.left - 1) bytes)) c.split_at.ensures.back
    ∙ sym (is_some-one c.self.inside.left (c.self.inside.left - 1) _ _ (omega arith) (sym c.in_ok-item.ensures.item))
    ∙ c.self.invariant

pub returns-clause-steps : goal.returns-clause-steps
returns-clause-steps c =
    sym c.self.view_is
    ∙ items_in-one c.self.inside.left (c.self.inside.left - 1) _ _ (omega arith) (sym c.in_ok-item.ensures.item) c.self.invariant
    ∙ ap (λ bytes. item_of c.in_ok-item.item ∷ items_in (c.self.inside.left - 1) bytes) (sym c.split_at.ensures.back)

pub returns-clause-goes : goal.returns-clause-goes
returns-clause-goes c = rw (returns-clause-steps c) (search rules)

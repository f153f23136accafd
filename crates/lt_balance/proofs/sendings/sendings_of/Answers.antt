use Rattle.std.proofs.Common.{◌≡◌, ◌<◌, List, ℕ, [], get_or, length, refl, sym, ap, subst, ◌∙◌}
use Rattle.std.specs.List.{All}
use Rattle.lt_tables.specs.declared.Sending.{Sending}
use Rattle.lt_tables.specs.Placement.{sendings}
use Rattle.lt_balance.proofs.SendingLaws.{IsDealt, IsDealt-start, IsDealt-more, IsDealt-whole, no_receiver, no_room}
use Rattle.lt_balance.proofs.sendings.sendings_of.Goals as goal

-- a sender is a column
from_small : (order items : List ℕ) (at : ℕ) → items ≡ order → All (λ c. c < 64) order → at < length items → get_or items at 0 < 64
from_small order items at same all below = let there : at < length order = subst (λ (xs : List ℕ). at < length xs) same below in subst (λ (xs : List ℕ). get_or xs at 0 < 64) (sym same) (all at 0 there)

pub loop-from-init : goal.loop-from-init
loop-from-init c = subst (λ (xs : List Sending). IsDealt c.args.columns.now c.as_slice-from-items.result.now 0 xs c.first_rooms-rooms.result) (sym c.new-made.ensures) (IsDealt-start c.args.columns.now c.as_slice-from-items.result.now c.first_rooms-rooms.result c.first_rooms-rooms.ensures.len c.first_rooms-rooms.ensures.rooms)

pub loop-from-preserved : goal.loop-from-preserved
loop-from-preserved c =
    IsDealt-more c.args.columns.now c.as_slice-from-items.result.now c.loop-from.from-index c.loop-from.made.items c.push.new.self.items c.loop-from.rooms c.in_ok-to.to c.loop-from.invariant c.loop-from-test.true
    (from_small c.senders_of-order.result.items c.as_slice-from-items.result.now c.loop-from.from-index c.as_slice-from-items.ensures.value c.senders_of-order.ensures.columns c.loop-from-test.true)
    (c.in_ok-to.ensures.column c.in_ok-to.to refl)
    (λ es are. c.in_ok-to.ensures.best es c.loop-from.made.items are (c.loop-from.invariant.rooms_are es are)) c.if-sent-rooms.false c.push.ensures.items

pub returns-in_err-to : goal.returns-in_err-to
returns-in_err-to c = λ es are.
    rw c.from_residual.ensures
    (ap (λ order. sendings es order []) (sym (c.as_slice-from-items.ensures.value ∙ c.senders_of-order.ensures.order es are))
    ∙ no_receiver es c.args.columns.now c.as_slice-from-items.result.now c.loop-from.from-index c.loop-from.made.items c.loop-from.rooms c.loop-from.invariant c.loop-from-test.true are
    (c.in_err-to.ensures.best es c.loop-from.made.items are (c.loop-from.invariant.rooms_are es are)))

pub returns-then-sent-rooms : goal.returns-then-sent-rooms
returns-then-sent-rooms c = λ es are.
    ap (λ order. sendings es order []) (sym (c.as_slice-from-items.ensures.value ∙ c.senders_of-order.ensures.order es are))
    ∙ no_room es c.args.columns.now c.as_slice-from-items.result.now c.loop-from.from-index c.loop-from.made.items c.loop-from.rooms c.in_ok-to.to c.loop-from.invariant c.loop-from-test.true are
    (from_small c.senders_of-order.result.items c.as_slice-from-items.result.now c.loop-from.from-index c.as_slice-from-items.ensures.value c.senders_of-order.ensures.columns c.loop-from-test.true)
    (c.in_ok-to.ensures.column c.in_ok-to.to refl)
    (c.in_ok-to.ensures.best es c.loop-from.made.items are (c.loop-from.invariant.rooms_are es are)) c.if-sent-rooms.true

pub returns : goal.returns
returns c = λ es are.
    ap (λ order. sendings es order []) (sym (c.as_slice-from-items.ensures.value ∙ c.senders_of-order.ensures.order es are))
    ∙ IsDealt-whole es c.args.columns.now c.as_slice-from-items.result.now c.loop-from.from-index c.loop-from.made.items c.loop-from.rooms c.loop-from.invariant c.loop-from-test.false are

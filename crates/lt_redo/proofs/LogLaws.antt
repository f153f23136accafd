-- The log of an image after a change of its next slot.
use Rattle.std.proofs.Common.{◌≡◌, ◌≢◌, inl, inr, ℕ, zero, suc, ◌+◌, ◌<◌, ◌≤◌, refl, sym, ap, subst, ◌∙◌, Bool, true, false, cond, List, [], ◌∷◌, ◌++◌, length, Option, Some, None, Result, Ok, Err, arith}
use Rattle.std.proofs.lemmas.Bool.{false≢true}
use Rattle.std.proofs.lemmas.Option.{none-some}
use Rattle.std.proofs.lemmas.List.{length-append}
use Rattle.lt_terms.specs.Bytes.{Image, block_at}
use Rattle.lt_terms.specs.Items.{Item}
use Rattle.lt_device.specs.State.{SameOutside}
use Rattle.lt_format.specs.declared.geometry.Geometry.{Geometry}
use Rattle.lt_format.specs.Layout.{is_open, log_gate, log_content, first_open, closed_from}
use Rattle.lt_format.specs.Log.{log_from, with_group, read_with, group_on, log_fits, items_in}
use Rattle.lt_format.proofs.LocalLaws.{first_open-same}
use Rattle.lt_redo.specs.Slots.{HasLog, HasLogOrLonger, MayFollow}
use Rattle.lt_format.proofs.ReadLaws.{ok_same}

-- all slots but this one have the same blocks
pub record OutsideSlot (g : Geometry) (b slot : ℕ) (image left : Image) : Type 0 where
  pub gates : (k : ℕ) → k ≢ slot → block_at left (log_gate g b k) ≡ block_at image (log_gate g b k)
  pub contents : (k : ℕ) → k ≢ slot → block_at left (log_content g b k) ≡ block_at image (log_content g b k)

ok_err : {A : Type 0} (x : A) (e : ℕ) → Err e ≡ Ok x → ⊥
ok_err x e h = cc

-- nothing is open from here on
closed_is : {A : Type 0} (o : Option ℕ) (x y : A) → closed_from o x ≡ Ok y → (o ≡ None) × (x ≡ y)
closed_is None x y h = (refl, ok_same x y h)
closed_is (Some gate) x y h = absurd (ok_err y gate h)

not_open : (b : Bool) (x : ℕ) (o : Option ℕ) → cond b (Some x) o ≡ None → (b ≡ false) × (o ≡ None)
not_open true x o h = absurd (none-some x (sym h))
not_open false x o h = (refl, h)

-- a log whose gates are closed from here on has no more groups
pub log_from-closed : (g : Geometry) (image : Image) (b writes i n : ℕ) (groups : List (List Item)) → first_open image (log_gate g b) i n ≡ None → log_from g image b writes i n groups ≡ Ok groups
unfolding first_open log_from
log_from-closed g image b writes i zero groups closed = refl
log_from-closed g image b writes i (suc n) groups closed =
    let here = not_open (is_open (block_at image (log_gate g b i))) (log_gate g b i) (first_open image (log_gate g b) (i + 1) n) closed in
    rw (here.0, here.1) refl

-- the group that was read
read_is : (writes : ℕ) (groups all : List (List Item)) (o : Option (List Item)) (block : ℕ) (rest : List (List Item) → Result (List (List Item)) ℕ) → read_with (with_group writes groups o) block rest ≡ Ok all
    → (group : List Item) × (with_group writes groups o ≡ Some (groups ++ group ∷ [])) × (rest (groups ++ group ∷ []) ≡ Ok all)
read_is writes groups all None block rest h = absurd (ok_err all block h)
read_is writes groups all (Some group) block rest h = by_fit (log_fits writes (items_in (groups ++ group ∷ []))) refl h
  where
    by_fit : (fits : Bool) → log_fits writes (items_in (groups ++ group ∷ [])) ≡ fits → read_with (cond fits (Some (groups ++ group ∷ [])) None) block rest ≡ Ok all
        → (more : List Item) × (cond (log_fits writes (items_in (groups ++ group ∷ []))) (Some (groups ++ group ∷ [])) None ≡ Some (groups ++ more ∷ [])) × (rest (groups ++ more ∷ []) ≡ Ok all)
    by_fit true is h = (group, rw (is) refl, h)
    by_fit false is h = absurd (ok_err all block h)

-- what is read from a slot on, by its gate
abbrev from_gate : Geometry → Image → ℕ → ℕ → ℕ → ℕ → List (List Item) → Bool → Result (List (List Item)) ℕ
from_gate g image b writes i n groups opened =
    cond opened (read_with (with_group writes groups (group_on (block_at image (log_content g b i)))) (log_content g b i) (λ more. log_from g image b writes (i + 1) n more)) (closed_from (first_open image (log_gate g b) (i + 1) n) groups)

-- groups are added to those that were there
pub log_from-grows : (g : Geometry) (image : Image) (b writes i n : ℕ) (groups all : List (List Item)) → log_from g image b writes i n groups ≡ Ok all → length groups ≤ length all
unfolding log_from
log_from-grows g image b writes i zero groups all h = let e = ap length (ok_same groups all h) in omega arith
log_from-grows g image b writes i (suc n) groups all h =
    elim (is_open (block_at image (log_gate g b i))) as (λ opened. from_gate g image b writes i n groups opened ≡ Ok all → length groups ≤ length all) [
      | true ↦ λ h.
          let one = read_is writes groups all _ _ _ h in
          let more = log_from-grows g image b writes (i + 1) n (groups ++ one.0 ∷ []) all one.2 in
          omega (arith, length-append groups (one.0 ∷ []))
      | false ↦ λ h. let e = ap length (closed_is _ groups all h).1 in omega arith
    ] h

-- the slot behind these groups holds this group, if its gate is open
pub record NextSlot (g : Geometry) (b writes slot : ℕ) (all : List (List Item)) (group : List Item) (left : Image) (opened : Bool) : Type 0 where
  pub gate : is_open (block_at left (log_gate g b slot)) ≡ opened
  pub spelled : opened ≡ true → group_on (block_at left (log_content g b slot)) ≡ Some group
  pub fits : opened ≡ true → log_fits writes (items_in (all ++ group ∷ [])) ≡ true

-- the log with the slot's group, if its gate is open
abbrev pub with_slot : Bool → List (List Item) → List Item → List (List Item)
with_slot opened all group = cond opened (all ++ group ∷ []) all

-- the first closed gate, where the log ends
at_end : (g : Geometry) (image left : Image) (b writes i n : ℕ) (all : List (List Item)) (group : List Item) (opened : Bool) → OutsideSlot g b i image left → NextSlot g b writes i all group left opened
    → first_open image (log_gate g b) (i + 1) n ≡ None → log_from g left b writes i (suc n) all ≡ Ok (with_slot opened all group)
unfolding log_from
at_end g image left b writes i n all group true same next closed =
    let behind : first_open left (log_gate g b) (i + 1) n ≡ None = first_open-same image left (log_gate g b) (i + 1) n (λ k low high. same.gates k (omega arith)) ∙ closed in
    rw (next.gate, next.spelled refl, next.fits refl) (log_from-closed g left b writes (i + 1) n (all ++ group ∷ []) behind)
at_end g image left b writes i n all group false same next closed =
    let behind : first_open left (log_gate g b) (i + 1) n ≡ None = first_open-same image left (log_gate g b) (i + 1) n (λ k low high. same.gates k (omega arith)) ∙ closed in
    rw (next.gate, behind) refl

-- a log whose next slot alone has changed
pub log_from-slot : (g : Geometry) (image left : Image) (b writes i n : ℕ) (groups all : List (List Item)) (group : List Item) (slot : ℕ) (opened : Bool) → log_from g image b writes i n groups ≡ Ok all
    → length all + i ≡ length groups + slot → slot < i + n → OutsideSlot g b slot image left → NextSlot g b writes slot all group left opened → log_from g left b writes i n groups ≡ Ok (with_slot opened all group)
unfolding log_from
log_from-slot g image left b writes i zero groups all group slot opened h is fits same next = let grows = log_from-grows g image b writes i zero groups all h in absurd (omega arith)
log_from-slot g image left b writes i (suc n) groups all group slot opened h is fits same next =
    elim (is_open (block_at image (log_gate g b i))) as (λ o. is_open (block_at image (log_gate g b i)) ≡ o → from_gate g image b writes i n groups o ≡ Ok all → log_from g left b writes i (suc n) groups ≡ Ok (with_slot opened all group)) [
      | true ↦ λ o h.
          let one = read_is writes groups all (group_on (block_at image (log_content g b i))) (log_content g b i) (λ more. log_from g image b writes (i + 1) n more) h in
          let more = log_from-grows g image b writes (i + 1) n (groups ++ one.0 ∷ []) all one.2 in
          let len = length-append groups (one.0 ∷ []) in
          let other : i ≢ slot = omega arith in
          let gate : is_open (block_at left (log_gate g b i)) ≡ true = ap is_open (same.gates i other) ∙ o in
          let content : block_at left (log_content g b i) ≡ block_at image (log_content g b i) = same.contents i other in
          rw (gate, content, one.1) (log_from-slot g image left b writes (i + 1) n (groups ++ one.0 ∷ []) all group slot opened one.2 (omega arith) (omega arith) same next)
      | false ↦ λ o h.
          let end = closed_is (first_open image (log_gate g b) (i + 1) n) groups all h in
          let at : slot ≡ i = omega (arith, ap length end.1) in
          subst (λ gs. log_from g left b writes i (suc n) gs ≡ Ok (with_slot opened all group)) (sym end.1)
          (at_end g image left b writes i n all group opened (subst (λ k. OutsideSlot g b k image left) at same) (subst (λ k. NextSlot g b writes k all group left opened) at next) end.0)
    ] refl h

-- the gate of the slot behind a log is closed
log_from-next : (g : Geometry) (image : Image) (b writes i n : ℕ) (groups all : List (List Item)) (slot : ℕ) → log_from g image b writes i n groups ≡ Ok all
    → length all + i ≡ length groups + slot → slot < i + n → is_open (block_at image (log_gate g b slot)) ≡ false
unfolding log_from
log_from-next g image b writes i zero groups all slot h is fits = let e = ap length (ok_same groups all h) in absurd (omega arith)
log_from-next g image b writes i (suc n) groups all slot h is fits =
    elim (is_open (block_at image (log_gate g b i))) as (λ o. is_open (block_at image (log_gate g b i)) ≡ o → from_gate g image b writes i n groups o ≡ Ok all → is_open (block_at image (log_gate g b slot)) ≡ false) [
      | true ↦ λ o h.
          let one = read_is writes groups all (group_on (block_at image (log_content g b i))) (log_content g b i) (λ more. log_from g image b writes (i + 1) n more) h in
          let len = length-append groups (one.0 ∷ []) in
          log_from-next g image b writes (i + 1) n (groups ++ one.0 ∷ []) all slot one.2 (omega arith) (omega arith)
      | false ↦ λ o h.
          let e = ap length (closed_is (first_open image (log_gate g b) (i + 1) n) groups all h).1 in
          let at : slot ≡ i = omega arith in
          ap (λ k. is_open (block_at image (log_gate g b k))) at ∙ o
    ] refl h

module _ (g : Geometry) (b writes : ℕ) (groups : List (List Item)) (room : length groups < g.slots) where
  has_log-slot : (image left : Image) (group : List Item) (opened : Bool) → HasLog g b writes groups image → OutsideSlot g b (length groups) image left → NextSlot g b writes (length groups) groups group left opened → HasLog g b writes (with_slot opened groups group) left
  has_log-slot image left group opened has same next = record { read = log_from-slot g image left b writes 0 g.slots [] groups group (length groups) opened has.read (omega arith) (omega arith) same next }

  pub has_log-closed : (image : Image) → HasLog g b writes groups image → is_open (block_at image (log_gate g b (length groups))) ≡ false
  has_log-closed image has = log_from-next g image b writes 0 g.slots [] groups (length groups) has.read (omega arith) (omega arith)

  -- whatever stands in the content of the next slot, the log is the same
  pub has_log-content : (image left : Image) → SameOutside (λ k. k ≡ log_content g b (length groups)) image left → HasLog g b writes groups image → HasLog g b writes groups left
  has_log-content image left same has =
      let gate : block_at left (log_gate g b (length groups)) ≡ block_at image (log_gate g b (length groups)) = same.others _ (λ at. absurd (omega arith)) in
      has_log-slot image left [] false has
      (record {
        gates = λ k other. same.others (log_gate g b k) (λ at. absurd (omega arith));
        contents = λ k other. same.others (log_content g b k) (λ at. other (omega arith));
      })
      (record { gate = ap is_open gate ∙ has_log-closed image has; spelled = λ e. absurd (false≢true e); fits = λ e. absurd (false≢true e) })

  -- whatever stands in its gate, the log is the same, or has the group of its content
  gate_changed : (image left : Image) (group : List Item) (content : List ℕ) → MayFollow g writes groups group content → block_at image (log_content g b (length groups)) ≡ content
      → SameOutside (λ k. k ≡ log_gate g b (length groups)) image left → HasLog g b writes groups image → (opened : Bool) → is_open (block_at left (log_gate g b (length groups))) ≡ opened → HasLog g b writes (with_slot opened groups group) left
  gate_changed image left group content follows there same has opened is =
      let kept : block_at left (log_content g b (length groups)) ≡ content = same.others _ (λ at. absurd (omega arith)) ∙ there in
      has_log-slot image left group opened has
      (record {
        gates = λ k other. same.others (log_gate g b k) (λ at. other (omega arith));
        contents = λ k other. same.others (log_content g b k) (λ at. absurd (omega arith));
      })
      (record { gate = is; spelled = λ e. ap group_on kept ∙ follows.spelled; fits = λ e. follows.fits })

  pub has_log-gate : (image left : Image) (group : List Item) (content : List ℕ) → MayFollow g writes groups group content → block_at image (log_content g b (length groups)) ≡ content
      → SameOutside (λ k. k ≡ log_gate g b (length groups)) image left → HasLog g b writes groups image → HasLogOrLonger g b writes groups group left
  has_log-gate image left group content follows there same has =
      elim (is_open (block_at left (log_gate g b (length groups)))) as (λ o. is_open (block_at left (log_gate g b (length groups))) ≡ o → HasLogOrLonger g b writes groups group left) [
        | true ↦ λ is. record { either = inr (gate_changed image left group content follows there same has true is) }
        | false ↦ λ is. record { either = inl (gate_changed image left group content follows there same has false is) }
      ] refl

  pub has_log-open : (image left : Image) (group : List Item) (content : List ℕ) → MayFollow g writes groups group content → block_at image (log_content g b (length groups)) ≡ content
      → SameOutside (λ k. k ≡ log_gate g b (length groups)) image left → HasLog g b writes groups image → is_open (block_at left (log_gate g b (length groups))) ≡ true → HasLog g b writes (groups ++ group ∷ []) left
  has_log-open image left group content follows there same has is = gate_changed image left group content follows there same has true is

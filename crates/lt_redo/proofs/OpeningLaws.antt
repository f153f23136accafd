-- A log that is read slot by slot.
use Rattle.std.proofs.Common.{◌≡◌, ℕ, suc, ◌+◌, ◌-◌, ◌<◌, ◌≤◌, refl, sym, ap, ◌∙◌, List, [], ◌∷◌, ◌++◌, length, true, false, Option, Some, None, Result, Ok, Err, arith, append-nil}
use Rattle.std.proofs.lemmas.Grind.{flat_map-append}
use Rattle.std.proofs.lemmas.List.{length-append}
use Rattle.std.proofs.lemmas.Option.{cond_some, none-some}
use Rattle.lt_terms.specs.Bytes.{Image, block_at}
use Rattle.lt_terms.specs.Items.{Item}
use Rattle.lt_format.specs.declared.geometry.Geometry.{Geometry}
use Rattle.lt_format.specs.Layout.{is_open, log_gate, log_content, first_open, closed_from}
use Rattle.lt_format.specs.Log.{log_from, log_groups, with_group, group_on, log_fits, items_in}
use Rattle.lt_redo.specs.Opening.{HasItems, items_with}
use Rattle.lt_terms.proofs.ItemLaws.{guard_none}

-- the error that a `?` hands on
pub handed_on : {T U E : Type 0} (inner : Result T E) (outer : Result U E) (fault given error : E) → inner ≡ Err fault → outer ≡ Err given → given ≡ fault → outer ≡ Err error → inner ≡ Err error
handed_on inner outer fault given error was is same error_is = cc

-- the gates from slot i to the last, by the first of them
pub first_open-closed : (image : Image) (gate : ℕ → ℕ) (i last : ℕ) → i < last → is_open (block_at image (gate i)) ≡ false → first_open image gate i (last - i) ≡ first_open image gate (i + 1) (last - (i + 1))
unfolding first_open
first_open-closed image gate i last below closed = let one : last - i ≡ suc (last - (i + 1)) = omega arith in rw (one, closed) refl

pub first_open-open : (image : Image) (gate : ℕ → ℕ) (i last : ℕ) → i < last → is_open (block_at image (gate i)) ≡ true → first_open image gate i (last - i) ≡ Some (gate i)
unfolding first_open
first_open-open image gate i last below opened = let one : last - i ≡ suc (last - (i + 1)) = omega arith in rw (one, opened) refl

pub first_open-end : (image : Image) (gate : ℕ → ℕ) (i last : ℕ) → last ≤ i → first_open image gate i (last - i) ≡ None
unfolding first_open
first_open-end image gate i last past = let none : last - i ≡ 0 = omega arith in rw none refl

pub items_in-push : (groups : List (List Item)) (group : List Item) → items_in (groups ++ group ∷ []) ≡ items_in groups ++ group
items_in-push groups group = flat_map-append (λ (items : List Item). items) groups (group ∷ []) ∙ ap (λ xs. items_in groups ++ xs) (append-nil group)

-- the groups with one more, by what that makes of their items
record IsAdded (writes : ℕ) (groups : List (List Item)) (read : Option (List Item)) (items : List Item) : Type 0 where
  pub group : List Item
  pub with_it : with_group writes groups read ≡ Some (groups ++ group ∷ [])
  pub items_is : items_in (groups ++ group ∷ []) ≡ items

added : (writes : ℕ) (groups : List (List Item)) (read : Option (List Item)) (old new : List Item) → items_in groups ≡ old → items_with writes old read ≡ Some new → IsAdded writes groups read new
added writes groups None old new is h = absurd (none-some new h)
added writes groups (Some group) old new is h =
    let more : items_in (groups ++ group ∷ []) ≡ old ++ group = items_in-push groups group ∙ ap (λ xs. xs ++ group) is in
    let made = cond_some (log_fits writes (old ++ group)) (old ++ group) new h in
    let fits : log_fits writes (items_in (groups ++ group ∷ [])) ≡ true = ap (log_fits writes) more ∙ made.0 in
    record { group = group; with_it = rw (fits) refl; items_is = more ∙ made.1 }

not_added : (writes : ℕ) (groups : List (List Item)) (read : Option (List Item)) (items : List Item) → items_in groups ≡ items → items_with writes items read ≡ None → with_group writes groups read ≡ None
not_added writes groups None items is h = refl
not_added writes groups (Some group) items is h =
    let more : items_in (groups ++ group ∷ []) ≡ items ++ group = items_in-push groups group ∙ ap (λ xs. xs ++ group) is in
    let fails : log_fits writes (items_in (groups ++ group ∷ [])) ≡ false = ap (log_fits writes) more ∙ guard_none (log_fits writes (items ++ group)) (items ++ group) h in
    rw (fails) refl

-- the groups of the first slots were read, and what is read from the next slot on with them is the whole log
pub record IsReplayed (g : Geometry) (b writes slot : ℕ) (items : List Item) (image : Image) : Type 0 where
  pub groups : List (List Item)
  pub slots_is : slot ≡ length groups
  pub items_is : items_in groups ≡ items
  pub goes_on : log_from g image b writes slot (g.slots - slot) groups ≡ log_groups g image b writes

module _ (g : Geometry) (b writes : ℕ) (image : Image) where
  -- an open gate, and behind it a content that spells a group with which the log fits
  pub replayed-more : (slot : ℕ) (old new : List Item) → slot < g.slots → IsReplayed g b writes slot old image → is_open (block_at image (log_gate g b slot)) ≡ true
      → items_with writes old (group_on (block_at image (log_content g b slot))) ≡ Some new → IsReplayed g b writes (slot + 1) new image
  unfolding log_from
  replayed-more slot old new below before opened read =
      let one : g.slots - slot ≡ suc (g.slots - (slot + 1)) = omega arith in
      let more = added writes before.groups (group_on (block_at image (log_content g b slot))) old new before.items_is read in
      let step : log_from g image b writes slot (g.slots - slot) before.groups ≡ log_from g image b writes (slot + 1) (g.slots - (slot + 1)) (before.groups ++ more.group ∷ []) = rw (one, opened, more.with_it) refl in
      record {
        groups = before.groups ++ more.group ∷ [];
        slots_is = let len = length-append before.groups (more.group ∷ []) in let was = before.slots_is in omega arith;
        items_is = more.items_is;
        goes_on = sym step ∙ before.goes_on;
      }

  -- an open gate, and behind it any other content
  pub replayed-damaged : (slot : ℕ) (items : List Item) → slot < g.slots → IsReplayed g b writes slot items image → is_open (block_at image (log_gate g b slot)) ≡ true
      → items_with writes items (group_on (block_at image (log_content g b slot))) ≡ None → log_groups g image b writes ≡ Err (log_content g b slot)
  unfolding log_from
  replayed-damaged slot items below before opened read =
      let one : g.slots - slot ≡ suc (g.slots - (slot + 1)) = omega arith in
      let none = not_added writes before.groups (group_on (block_at image (log_content g b slot))) items before.items_is read in
      let step : log_from g image b writes slot (g.slots - slot) before.groups ≡ Err (log_content g b slot) = rw (one, opened, none) refl in
      sym before.goes_on ∙ step

  -- a closed gate: the log ends, if no gate behind it is open
  replayed-closed : (slot : ℕ) (items : List Item) → slot < g.slots → (before : IsReplayed g b writes slot items image) → is_open (block_at image (log_gate g b slot)) ≡ false
      → log_groups g image b writes ≡ closed_from (first_open image (log_gate g b) (slot + 1) (g.slots - (slot + 1))) before.groups
  unfolding log_from
  replayed-closed slot items below before closed =
      let one : g.slots - slot ≡ suc (g.slots - (slot + 1)) = omega arith in
      let step : log_from g image b writes slot (g.slots - slot) before.groups ≡ closed_from (first_open image (log_gate g b) (slot + 1) (g.slots - (slot + 1))) before.groups = rw (one, closed) refl in
      sym before.goes_on ∙ step

  pub replayed-ended : (slot : ℕ) (items : List Item) → slot < g.slots → IsReplayed g b writes slot items image → is_open (block_at image (log_gate g b slot)) ≡ false
      → first_open image (log_gate g b) (slot + 1) (g.slots - (slot + 1)) ≡ None → HasItems g b writes slot items image
  replayed-ended slot items below before closed none = record {
    groups = before.groups;
    log = record { read = replayed-closed slot items below before closed ∙ ap (λ o. closed_from o before.groups) none };
    slots_is = before.slots_is;
    items_is = sym before.items_is;
  }

  pub replayed-open_behind : (slot gate : ℕ) (items : List Item) → slot < g.slots → IsReplayed g b writes slot items image → is_open (block_at image (log_gate g b slot)) ≡ false
      → first_open image (log_gate g b) (slot + 1) (g.slots - (slot + 1)) ≡ Some gate → log_groups g image b writes ≡ Err gate
  replayed-open_behind slot gate items below before closed some = replayed-closed slot items below before closed ∙ ap (λ o. closed_from o before.groups) some

  -- all slots have a group
  pub replayed-all : (slot : ℕ) (items : List Item) → g.slots ≡ slot → IsReplayed g b writes slot items image → HasItems g b writes g.slots items image
  unfolding log_from
  replayed-all slot items all before =
      let none : g.slots - slot ≡ 0 = omega arith in
      let step : log_from g image b writes slot (g.slots - slot) before.groups ≡ Ok before.groups = rw none refl in
      record {
        groups = before.groups;
        log = record { read = sym before.goes_on ∙ step };
        slots_is = all ∙ before.slots_is;
        items_is = sym before.items_is;
      }

use Rattle.std.proofs.Common.{◌≡◌, ℕ, sym, ◌∙◌, subst, List, map, Some, None, Global, Vec}
use Rattle.std.specs.Prelude.{slice_get, slice_index_or}
use Rattle.std.specs.List.{flat_map}
use Rattle.lt_bucket.specs.declared.owned.Item.{Item}
use Rattle.lt_terms.specs.Items as terms
use Rattle.lt_tables.specs.Table.{newest}
use Rattle.lt_merge.specs.Places.{AreApart, AreFilled}
use Rattle.lt_merge.proofs.PlaceLaws.{places-apart, places-filled, moved-newest, all-moved}
use Rattle.lt_merge.proofs.merging.newest.Goals as goal

pub gathered-requires-clause-apart : goal.gathered-requires-clause-apart
gathered-requires-clause-apart c =
    let all : List terms.Item = flat_map (λ (list : Vec Item Global). list.items) c.args.lists.now.items in
    let places : map (slice_get all) c.in_ok-order.field-0.order.items ≡ map Some (newest all) =
    subst (λ (ls : List (Vec Item Global)). map (slice_get (flat_map (λ (list : Vec Item Global). list.items) ls)) c.in_ok-order.field-0.order.items ≡ map Some (newest (flat_map (λ (list : Vec Item Global). list.items) ls))) c.deref.ensures.value
    c.in_ok-order.ensures.newest in
    subst AreApart (sym c.deref-2.ensures.value) (places-apart all c.in_ok-order.field-0.order.items places)

pub gathered-requires-clause-filled : goal.gathered-requires-clause-filled
gathered-requires-clause-filled c =
    let all : List terms.Item = flat_map (λ (list : Vec Item Global). list.items) c.args.lists.now.items in
    let places : map (slice_get all) c.in_ok-order.field-0.order.items ≡ map Some (newest all) =
    subst (λ (ls : List (Vec Item Global)). map (slice_get (flat_map (λ (list : Vec Item Global). list.items) ls)) c.in_ok-order.field-0.order.items ≡ map Some (newest (flat_map (λ (list : Vec Item Global). list.items) ls))) c.deref.ensures.value
    c.in_ok-order.ensures.newest in
    let slots : c.loop-list.slots.items ≡ map Some all = all-moved (λ (list : Vec Item Global). list.items) c.loop-list.slots.items c.loop-list.list-iterator.rest.items all (sym c.loop-list.list-iterator.rest.ok.0 ∙ c.in-None.ensures.steps.0) c.loop-list.invariant.moved in
    subst (AreFilled c.loop-list.slots.items) (sym c.deref-2.ensures.value) (places-filled all c.in_ok-order.field-0.order.items c.loop-list.slots.items places slots)

pub returns-clause-newest : goal.returns-clause-newest
returns-clause-newest c =
    let all : List terms.Item = flat_map (λ (list : Vec Item Global). list.items) c.args.lists.now.items in
    let places : map (slice_get all) c.in_ok-order.field-0.order.items ≡ map Some (newest all) =
    subst (λ (ls : List (Vec Item Global)). map (slice_get (flat_map (λ (list : Vec Item Global). list.items) ls)) c.in_ok-order.field-0.order.items ≡ map Some (newest (flat_map (λ (list : Vec Item Global). list.items) ls))) c.deref.ensures.value
    c.in_ok-order.ensures.newest in
    let slots : c.loop-list.slots.items ≡ map Some all = all-moved (λ (list : Vec Item Global). list.items) c.loop-list.slots.items c.loop-list.list-iterator.rest.items all (sym c.loop-list.list-iterator.rest.ok.0 ∙ c.in-None.ensures.steps.0) c.loop-list.invariant.moved in
    moved-newest all c.gathered.result.items c.in_ok-order.field-0.order.items c.loop-list.slots.items places slots
    (subst (λ (ps : List ℕ). map Some c.gathered.result.items ≡ map (λ p. slice_index_or c.loop-list.slots.items p None) ps) c.deref-2.ensures.value c.gathered.ensures)

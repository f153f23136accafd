use Rattle.std.proofs.Common.{◌≡◌, ℕ, sym, ap, ◌∙◌, subst, List, length, map, Some}
use Rattle.std.specs.Borrow.{Bor}
use Rattle.std.specs.Prelude.{slice_get}
use Rattle.std.proofs.lemmas.List.{length-map}
use Rattle.lt_bucket.specs.declared.owned.Item.{Item}
use Rattle.lt_terms.specs.Items as terms
use Rattle.lt_tables.specs.Table.{newest}
use Rattle.lt_merge.specs.Places.{PointTo}
use Rattle.lt_merge.proofs.PlaceLaws.{points-newest}
use Rattle.lt_merge.proofs.places.places_of.Goals as goal

pub returns-clause-newest : goal.returns-clause-newest
returns-clause-newest c =
    let refs : List (Bor Item) = c.in_ok-all.all.items in
    let seen : List terms.Item = map (λ (i : Bor Item). i.now) refs in
    let entries : List (List ℕ × ℕ) = c.in_ok-ranked.ranked.entries in
    let points : PointTo seen entries (length seen) =
    subst (λ n. PointTo seen entries n) (sym (length-map refs (λ (i : Bor Item). i.now)))
    (subst (λ (xs : List (Bor Item)). PointTo (map (λ (i : Bor Item). i.now) xs) entries (length xs)) c.deref.ensures.value c.in_ok-ranked.ensures) in
    subst (λ (xs : List terms.Item). map (λ p. slice_get xs p) c.in_ok-order_of.field-0.items ≡ map (λ x. Some x) (newest xs)) c.in_ok-all.ensures
    (ap (map (slice_get seen)) c.in_ok-order_of.ensures ∙ points-newest seen entries points)

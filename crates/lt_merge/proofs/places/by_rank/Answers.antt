use Rattle.std.proofs.Common.{◌≡◌, ℕ, ◌<◌, sym, ap, ◌∙◌, List, length, map, get_or, arith}
use Rattle.std.specs.Borrow.{Bor}
use Rattle.std.specs.BTreeMap.{insert_entry}
use Rattle.std.proofs.lemmas.List.{length-map, get_or-map}
use Rattle.lt_bucket.specs.declared.owned.Item.{Item}
use Rattle.lt_terms.specs.Hashes.{rank_cmp}
use Rattle.lt_terms.specs.Items as terms
use Rattle.lt_merge.proofs.PlaceLaws.{points-more}
use Rattle.lt_merge.proofs.places.by_rank.Goals as goal

pub loop-place-preserved : goal.loop-place-preserved
loop-place-preserved c =
    let all : List (Bor Item) = c.args.all.now in
    let place : ℕ = c.loop-place.place in
    let item : terms.Item = c.index-all-place.result.now in
    let within : place < length (map (λ (i : Bor Item). i.now) all) = omega (arith, length-map all (λ (i : Bor Item). i.now), c.loop-place-test.true) in
    let is : item ≡ get_or (map (λ (i : Bor Item). i.now) all) place item = ap (λ (i : Bor Item). i.now) c.index-all-place.is ∙ sym (get_or-map (λ (i : Bor Item). i.now) all place c.index-all-place.result item (omega arith)) in
    let key : c.of.result ≡ item.key = c.of.ensures ∙ ap (λ (i : terms.Item). i.key) c.view.ensures.item in
    points-more (map (λ (i : Bor Item). i.now) all) c.loop-place.newest.entries c.insert.new.self.entries place item within is
    (c.in_ok-insert.ensures.entries ∙ ap (λ k. insert_entry rank_cmp c.loop-place.newest.entries k place) key) c.loop-place.invariant

use Rattle.std.proofs.Common.{◌≡◌, ◌+◌, ◌-◌, ◌*◌, ◌<◌, ◌≤◌, ◌∙◌, ◌++◌, ◌∷◌, [], ◌⊎◌, ℕ, List, sym, ap, length, take, drop, arith, length-append, min, inl, inr, ⊎_elim}
use Rattle.lt_compact.proofs.SpotLaws.{min-cases, slice-end, slice-more}
use Rattle.lt_compact.proofs.filling.tables_of.Goals as goal

pub loop-place-preserved : goal.loop-place-preserved
loop-place-preserved c =
    let pile : List ℕ = c.args.behind.now ++ c.args.new.now in
    let first : ℕ = 64 * c.args.group in
    let size : length pile ≡ length c.args.behind.now + length c.args.new.now = length-append c.args.behind.now c.args.new.now in
    let above : first ≤ c.loop-place.place = c.loop-place.auto.place in
    let below : c.loop-place.place < length pile = omega (arith, c.loop-place-test.true, c.min-end.ensures, size) in
    record {
      tables = c.push_reserved.ensures.items
          ∙ ap (λ (ts : List ℕ). ts ++ c.number_at.result ∷ []) c.loop-place.invariant.tables
          ∙ ap (λ (n : ℕ). take (c.loop-place.place - first) (drop first pile) ++ n ∷ []) c.number_at.ensures
          ∙ sym (slice-more pile first c.loop-place.place above below);
      count = omega (arith, c.push_reserved.ensures.len, c.loop-place.invariant.count, above);
      room = omega (arith, c.push_reserved.ensures.capacity, c.loop-place.invariant.room);
    }

pub returns : goal.returns
returns c =
    let pile : List ℕ = c.args.behind.now ++ c.args.new.now in
    let first : ℕ = 64 * c.args.group in
    let place : ℕ = c.loop-place.place in
    let size : length pile ≡ length c.args.behind.now + length c.args.new.now = length-append c.args.behind.now c.args.new.now in
    let end : place ≡ c.min-end.result = omega (arith, c.loop-place-test.false, c.loop-place.auto.place-end, c.min-end.ensures, c.requires.some, size) in
    let whole : (place ≡ first + 64) ⊎ (place ≡ length pile) = ⊎_elim
    (λ (group_end : min (first + 64) (length c.args.behind.now + length c.args.new.now) ≡ first + 64). inl (omega (arith, end, c.min-end.ensures, group_end)))
    (λ (pile_end : min (first + 64) (length c.args.behind.now + length c.args.new.now) ≡ length c.args.behind.now + length c.args.new.now). inr (omega (arith, end, c.min-end.ensures, pile_end, size)))
    (min-cases (first + 64) (length c.args.behind.now + length c.args.new.now)) in
    c.loop-place.invariant.tables ∙ slice-end pile first (first + 64) place (omega (arith, end, c.min-end.ensures)) (omega (arith, end, c.min-end.ensures, size)) whole

use Rattle.std.proofs.Common.{◌≡◌, ◌∙◌, ◌<◌, [], ℕ, List, false, map, sym, ap, subst, length, set, get_or, arith, eqb-true, true≢false, Global, Vec, vec_capacity, vec_len, zero, suc}
use Rattle.std.specs.Prelude.{◌==◌}
use Rattle.std.specs.List.{filter}
use Rattle.lt_bucket.specs.declared.owned.Item.{Item}
use Rattle.lt_terms.specs.Items as terms
use Rattle.lt_image.specs.Shares.{Share, has_tables}
use Rattle.lt_compact.specs.Sharing.{FrameView, IsCut, all_framed, framed}
use Rattle.lt_compact.proofs.FrameLaws.{IsFilling, frame-cut, frame-fill, frame-skip}
use Rattle.lt_compact.proofs.sharing.filled.Goals as goal

some-count : (n : ℕ) → false ≡ (n == 0) → 0 < n
some-count zero is = absurd (true≢false (sym is))
some-count (suc n) is = omega arith

pub of-requires : goal.of-requires
of-requires c =
    let items_of : Vec Item Global → List terms.Item = λ list. list.items in
    let wanted : List Share = filter has_tables (all_framed c.args.frames.items (map items_of c.args.lists.items)) in
    let digit : c.frame.inside.digit ≡ c.in-Some.frame.digit = ap (λ (f : FrameView). f.digit) c.frame.view_is in
    let here = c.index_mut.ensures.value ∙ ap (λ (k : ℕ). get_or c.loop-frame.lists.items k c.index_mut.result.now) digit in
    subst (λ (f : FrameView). IsCut f.behind c.replace-items.result.items f.counts) (sym c.frame.view_is)
    (subst (λ (list : Vec Item Global). IsCut c.in-Some.frame.behind list.items c.in-Some.frame.counts) (sym c.replace-items.ensures.value)
    (frame-cut items_of wanted c.in-Some.frame c.loop-frame.frame-iterator.rest.items c.next.new.self.rest.items c.loop-frame.lists.items c.index_mut.result.now c.loop-frame.shares.items (vec_capacity c.loop-frame.shares)
    c.in-Some.ensures.steps.0 here c.loop-frame.invariant))

pub loop-frame-preserved-then-not-is_empty : goal.loop-frame-preserved-then-not-is_empty
loop-frame-preserved-then-not-is_empty c =
    let items_of : Vec Item Global → List terms.Item = λ list. list.items in
    let wanted : List Share = filter has_tables (all_framed c.args.frames.items (map items_of c.args.lists.items)) in
    let digit : c.frame.inside.digit ≡ c.in-Some.frame.digit = ap (λ (f : FrameView). f.digit) c.frame.view_is in
    let here = c.index_mut.ensures.value ∙ ap (λ (k : ℕ). get_or c.loop-frame.lists.items k c.index_mut.result.now) digit in
    let counts : length c.in-Some.frame.counts ≡ vec_len c.frame.inside.counts = ap (λ (f : FrameView). length f.counts) (sym c.frame.view_is) ∙ sym c.frame.inside.counts.ok.0 in
    let any : 0 < length c.in-Some.frame.counts = subst (λ (n : ℕ). 0 < n) (sym counts) (some-count (vec_len c.frame.inside.counts) c.if-not-is_empty.ensures) in
    let share : c.of.result ≡ framed c.in-Some.frame c.index_mut.result.now.items =
    c.of.ensures ∙ ap (λ (f : FrameView). framed f c.replace-items.result.items) c.frame.view_is ∙ ap (λ (list : Vec Item Global). framed c.in-Some.frame list.items) c.replace-items.ensures.value in
    let none : c.replace-items.new.dest.items ≡ [] = ap (λ (list : Vec Item Global). list.items) c.replace-items.ensures.after ∙ c.new.ensures.items in
    subst (λ (k : ℕ). IsFilling wanted c.next.new.self.rest.items (map items_of (set c.loop-frame.lists.items k c.replace-items.new.dest)) c.push_reserved.new.self.items (vec_capacity c.push_reserved.new.self)) (sym digit)
    (frame-fill items_of wanted c.in-Some.frame c.loop-frame.frame-iterator.rest.items c.next.new.self.rest.items c.loop-frame.lists.items c.index_mut.result.now c.replace-items.new.dest c.loop-frame.shares.items c.push_reserved.new.self.items c.of.result
    (vec_capacity c.loop-frame.shares) (vec_capacity c.push_reserved.new.self) c.in-Some.ensures.steps.0 here none share c.push_reserved.ensures.items c.push_reserved.ensures.capacity any c.loop-frame.invariant)

pub loop-frame-preserved : goal.loop-frame-preserved
loop-frame-preserved c =
    let items_of : Vec Item Global → List terms.Item = λ list. list.items in
    let wanted : List Share = filter has_tables (all_framed c.args.frames.items (map items_of c.args.lists.items)) in
    let counts : length c.in-Some.frame.counts ≡ vec_len c.frame.inside.counts = ap (λ (f : FrameView). length f.counts) (sym c.frame.view_is) ∙ sym c.frame.inside.counts.ok.0 in
    let none : length c.in-Some.frame.counts ≡ 0 = counts ∙ eqb-true (vec_len c.frame.inside.counts) 0 (sym c.if-not-is_empty.ensures) in
    frame-skip items_of wanted c.in-Some.frame c.loop-frame.frame-iterator.rest.items c.next.new.self.rest.items c.loop-frame.lists.items c.loop-frame.shares.items (vec_capacity c.loop-frame.shares)
    c.in-Some.ensures.steps.0 none c.loop-frame.invariant

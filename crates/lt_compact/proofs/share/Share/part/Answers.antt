use Rattle.std.proofs.Common.{◌≡◌, ◌<◌, ◌∙◌, ℕ, List, map, length, [], sym, ap, subst, get_or}
use Rattle.lt_terms.specs.Items.{Item}
use Rattle.lt_tables.specs.Cut.{cut_counts, pieces}
use Rattle.lt_tables.specs.Placement.{entry_of}
use Rattle.lt_htable.specs.Cutting.{IsPart}
use Rattle.lt_compact.proofs.PieceLaws.{part-at, shows}
use Rattle.lt_compact.proofs.share.Share.part.Goals as goal

pub part_of-requires-clause-counts : goal.part_of-requires-clause-counts
part_of-requires-clause-counts c = c.deref-2.ensures.value ∙ c.self.invariant.counts_are ∙ sym (ap (λ (xs : List Item). cut_counts (map entry_of xs)) c.deref.ensures.value)

pub part_of-requires-clause-place : goal.part_of-requires-clause-place
part_of-requires-clause-place c =
    let s = shows c.self.inside.node c.self.inside.behind.items c.self.inside.items.items c.self.inside.counts.items c.args.self.now c.self.view_is c.self.invariant in
    subst (λ (n : ℕ). c.args.place < n) (s.tables ∙ sym (ap length c.deref-2.ensures.value)) c.requires

pub returns-clause-items : goal.returns-clause-items
returns-clause-items c =
    let s = shows c.self.inside.node c.self.inside.behind.items c.self.inside.items.items c.self.inside.counts.items c.args.self.now c.self.view_is c.self.invariant in
    c.part_of.ensures
    ∙ ap (λ (ns : List ℕ). get_or (pieces ns c.deref.result.now) c.args.place []) c.deref-2.ensures.value
    ∙ ap (λ (xs : List Item). get_or (pieces c.self.inside.counts.items xs) c.args.place []) c.deref.ensures.value
    ∙ sym (ap (λ (ps : List (List Item)). get_or ps c.args.place []) s.parts_are)

pub returns-clause-part : goal.returns-clause-part
returns-clause-part c =
    let s = shows c.self.inside.node c.self.inside.behind.items c.self.inside.items.items c.self.inside.counts.items c.args.self.now c.self.view_is c.self.invariant in
    let part : c.part_of.result.now ≡ get_or (pieces c.self.inside.counts.items c.self.inside.items.items) c.args.place [] =
    c.part_of.ensures
    ∙ ap (λ (ns : List ℕ). get_or (pieces ns c.deref.result.now) c.args.place []) c.deref-2.ensures.value
    ∙ ap (λ (xs : List Item). get_or (pieces c.self.inside.counts.items xs) c.args.place []) c.deref.ensures.value in
    subst IsPart (sym part) (part-at c.self.inside.items.items c.self.inside.counts.items c.args.place c.self.invariant.counts_are c.self.invariant.ranked c.self.invariant.valid (subst (λ (n : ℕ). c.args.place < n) s.tables c.requires))

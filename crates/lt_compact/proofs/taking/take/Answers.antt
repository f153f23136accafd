use Rattle.std.proofs.Common.{◌∙◌, [], subst, ap, sym, List, ℕ, ◌||◌}
use Rattle.lt_terms.specs.Bytes.{is_in}
use Rattle.lt_alloc.specs.Extents.{Reserves, free_count, is_free}
use Rattle.lt_format.specs.Trie.{all_distinct}
use Rattle.lt_compact.specs.Extents.{AllTaken}
use Rattle.lt_compact.proofs.TakeLaws.{given-same, reserved-distinct, reserved-taken, reserves-of}
use Rattle.lt_compact.proofs.taking.take.Goals as goal

pub give_back-requires-clause-distinct : goal.give_back-requires-clause-distinct
give_back-requires-clause-distinct c =
    let r : Reserves c.args.needed c.args.extents.now c.take.new.self c.in_ok-numbers.numbers.items c.take.new.into.items = reserves-of _ c.args.needed (free_count c.args.extents.now) c.take.result c.take.ensures.short c.requires.free c.take.ensures.ok in
    let at : Reserves c.args.needed c.args.extents.now c.take.new.self [] c.take.new.into.items = subst (λ (xs : List ℕ). Reserves c.args.needed c.args.extents.now c.take.new.self xs c.take.new.into.items) c.in_ok-numbers.ensures.items r in
    ap all_distinct c.deref-in-Err.ensures.value ∙ reserved-distinct c.args.needed c.args.extents.now c.take.new.self c.take.new.into.items at

pub give_back-requires-clause-taken : goal.give_back-requires-clause-taken
give_back-requires-clause-taken c =
    let r : Reserves c.args.needed c.args.extents.now c.take.new.self c.in_ok-numbers.numbers.items c.take.new.into.items = reserves-of _ c.args.needed (free_count c.args.extents.now) c.take.result c.take.ensures.short c.requires.free c.take.ensures.ok in
    let at : Reserves c.args.needed c.args.extents.now c.take.new.self [] c.take.new.into.items = subst (λ (xs : List ℕ). Reserves c.args.needed c.args.extents.now c.take.new.self xs c.take.new.into.items) c.in_ok-numbers.ensures.items r in
    subst (λ (xs : List ℕ). AllTaken c.take.new.self xs) (sym c.deref-in-Err.ensures.value) (reserved-taken c.args.needed c.args.extents.now c.take.new.self c.take.new.into.items at)

pub returns-in-Err-clause-kept : goal.returns-in-Err-clause-kept
returns-in-Err-clause-kept c =
    let r : Reserves c.args.needed c.args.extents.now c.take.new.self c.in_ok-numbers.numbers.items c.take.new.into.items = reserves-of _ c.args.needed (free_count c.args.extents.now) c.take.result c.take.ensures.short c.requires.free c.take.ensures.ok in
    let at : Reserves c.args.needed c.args.extents.now c.take.new.self [] c.take.new.into.items = subst (λ (xs : List ℕ). Reserves c.args.needed c.args.extents.now c.take.new.self xs c.take.new.into.items) c.in_ok-numbers.ensures.items r in
    given-same c.args.needed c.args.extents.now c.take.new.self c.take.new.into.items at c.give_back.new.extents c.give_back.ensures.extents
    (λ x. c.give_back.ensures.free x ∙ ap (λ xs. is_free c.take.new.self x || is_in x xs) c.deref-in-Err.ensures.value)

use Rattle.std.proofs.Common.{◌≡◌, ◌+◌, ◌++◌, subst, sym, length, take, drop, map, true, false}
use Rattle.std.proofs.lemmas.List.{take_all}
use Rattle.lt_format.specs.Changes.{given_extents}
use Rattle.lt_node.specs.Changing.{child_of}
use Rattle.lt_node.proofs.MarkLaws.{TellsMore, tells_begin, tells_next, tells_stop, given_more, given_cut}
use Rattle.lt_node.proofs.fitting.mark_children.Goals as goal

pub loop-child-init : goal.loop-child-init
loop-child-init c = tells_begin (length c.args.marks.now) c.args.marks.now

pub loop-child-preserved : goal.loop-child-preserved
loop-child-preserved c =
    let i = c.loop-child.child-index in
    let cs = c.args.children.now in
    let item = c.child-item.result in
    tells_next (length c.args.marks.now) c.args.marks.now c.loop-child.marks c.mark_child.new.marks (given_extents (map child_of (take i cs))) (item.tables ++ item.groups) (given_extents (map child_of (take (i + 1) cs))) true c.loop-child.invariant c.loop-child.auto.marks c.if-not-mark_child.ensures
    (subst (λ e. given_extents (map child_of (take (i + 1) cs)) ≡ given_extents (map child_of (take i cs)) ++ (e.tables ++ e.groups)) (sym c.child-item.is) (given_more cs i item c.loop-child-test.true))

pub returns-then-not-mark_child : goal.returns-then-not-mark_child
returns-then-not-mark_child c =
    let i = c.loop-child.child-index in
    let cs = c.args.children.now in
    let item = c.child-item.result in
    tells_stop (length c.args.marks.now) c.args.marks.now c.mark_child.new.marks (given_extents (map child_of (take (i + 1) cs))) (given_extents (map child_of (drop (i + 1) cs))) (given_extents (map child_of cs))
    (tells_next (length c.args.marks.now) c.args.marks.now c.loop-child.marks c.mark_child.new.marks (given_extents (map child_of (take i cs))) (item.tables ++ item.groups) (given_extents (map child_of (take (i + 1) cs))) false c.loop-child.invariant c.loop-child.auto.marks c.if-not-mark_child.ensures
    (subst (λ e. given_extents (map child_of (take (i + 1) cs)) ≡ given_extents (map child_of (take i cs)) ++ (e.tables ++ e.groups)) (sym c.child-item.is) (given_more cs i item c.loop-child-test.true)))
    (given_cut cs (i + 1))

pub returns : goal.returns
returns c = subst (λ cs. TellsMore (length c.args.marks.now) c.args.marks.now (given_extents (map child_of cs)) true c.loop-child.marks) (take_all _ c.args.children.now c.loop-child-test.false) c.loop-child.invariant

use Rattle.std.proofs.Common.{◌≡◌, ◌∙◌, sym, ◌∷◌, ◌++◌, [], arith}
use Rattle.std.proofs.lemmas.Result.{err_from_is_err_and}
use Rattle.lt_manifest.proofs.ExtentLaws.{part-none, part-more, part-fault, part-all}
use Rattle.lt_manifest.proofs.FaultLaws.{read-field, read-none}
use Rattle.lt_manifest.proofs.snapshot.extents.read_extents.Goals as goal

pub loop-init : goal.loop-init
loop-init c = record {
  marks = c.requires;
  part = λ before marks. let none : c.new-list.result.items ≡ [] = c.new-list.ensures.items in rw none (part-none _ _ _ _ _ before _ marks);
}

pub loop-preserved : goal.loop-preserved
loop-preserved c = record {
  marks = omega (arith, c.loop.invariant.marks);
  part = λ before marks.
      let so_far = c.loop.invariant.part before marks in
      let read = sym (c.read_extent.ensures.read (c.loop.list.items ++ before) so_far.marks_are) ∙ c.in_ok-extent.was in
      let more = part-more _ _ _ _ _ before _ _ _ _ _ _ _ c.loop-test.true so_far read (c.in_ok-extent.ensures.marked (c.loop.list.items ++ before) so_far.marks_are) in
      let items : c.push.new.self.items ≡ c.loop.list.items ++ c.in_ok-extent.extent ∷ [] = c.in_ok-push.ensures.items in
      rw items more;
}

pub returns-in_err-extent-clause-read : goal.returns-in_err-extent-clause-read
returns-in_err-extent-clause-read c = λ before marks.
    let so_far = c.loop.invariant.part before marks in
    let read = sym (c.read_extent.ensures.read (c.loop.list.items ++ before) so_far.marks_are) ∙ c.in_err-extent.was in
    let fault = err_from_is_err_and c.from_residual.result c.from_residual.ensures.1 in
    read-field _ _ _ fault.0 _ fault.1 fault.2 (part-fault _ _ _ _ _ before _ _ _ _ _ c.loop-test.true so_far read)

pub returns-in_err-push-clause-read : goal.returns-in_err-push-clause-read
returns-in_err-push-clause-read c = λ before marks.
    let fault = err_from_is_err_and c.from_residual-in_err-push.result c.from_residual-in_err-push.ensures.1 in
    read-none _ _ _ fault.0 fault.1 fault.2

pub returns-clause-read : goal.returns-clause-read
returns-clause-read c = λ before marks. part-all _ _ _ _ _ before _ _ _ _ (omega (arith, c.loop-test.false)) (c.loop.invariant.part before marks)

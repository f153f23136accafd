use Rattle.std.proofs.Common.{◌≡◌, ◌<◌, List, Bool, false, length, subst, sym, arith}
use Rattle.lt_alloc.specs.Extents.{is_free}
use Rattle.lt_alloc.proofs.StackLaws.{free_count-short}
use Rattle.lt_alloc.proofs.extents.Extents.give.Goals as goal

pub unwrap-requires : goal.unwrap-requires
unwrap-requires c =
    let within : c.args.number < length c.self.inside.taken.items = subst (λ (taken : List Bool). c.args.number < length taken) (sym c.self.view_is) c.requires.within in
    let is_taken : is_free c.self.inside.taken.items c.args.number ≡ false = subst (λ (taken : List Bool). is_free taken c.args.number ≡ false) (sym c.self.view_is) c.requires.taken in
    let spare = free_count-short c.self.inside.taken.items c.args.number within is_taken in
    let len = c.self.invariant.len in
    let room = c.self.invariant.room in
    c.push.ensures.succeeds (omega (arith, c.self.inside.free.ok.0))

use Rattle.std.proofs.Common.{arith, Global, Vec, vec_capacity}
use Rattle.lt_bucket.specs.declared.owned.Item.{Item}
use Rattle.lt_merge.proofs.DealLaws.{pushed}
use Rattle.lt_merge.proofs.dealing.rooms.Goals as goal

pub loop-digit-preserved : goal.loop-digit-preserved
loop-digit-preserved c =
    pushed (λ (list : Vec Item Global). list.items) (λ (list : Vec Item Global). vec_capacity list) c.args.level c.args.items.now c.loop-digit.digit c.loop-digit.lists.items c.push.new.self.items c.in_ok-with_capacity.field-0
    c.in_ok-push.ensures.items c.in_ok-with_capacity.ensures.items (omega (arith, c.count-room.ensures, c.in_ok-with_capacity.ensures.capacity)) c.loop-digit.invariant

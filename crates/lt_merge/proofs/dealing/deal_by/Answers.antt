use Rattle.std.proofs.Common.{◌<◌, length, set, arith, Global, Vec, vec_capacity, refl}
use Rattle.lt_bucket.specs.declared.owned.Item.{Item}
use Rattle.lt_merge.proofs.DealLaws.{dealt-fits, dealt-more}
use Rattle.lt_merge.proofs.dealing.deal_by.Goals as goal

pub push_reserved-requires : goal.push_reserved-requires
push_reserved-requires c =
    let list : Vec Item Global = c.index_mut.result.now in
    let fits : length list.items < vec_capacity list =
    dealt-fits (λ (list : Vec Item Global). list.items) (λ (list : Vec Item Global). vec_capacity list) c.args.level c.args.items.now.items c.loop-item.item-iterator.rest.items c.next.new.self.rest.items c.in-Some.item c.loop-item.lists.items c.digit_of-digit.result list
    c.in-Some.ensures.steps.0 c.digit_of-digit.ensures.digit c.digit_of-digit.ensures.small c.index_mut.ensures.value c.loop-item.invariant in
    omega (arith, fits, list.ok.0)

pub loop-item-preserved : goal.loop-item-preserved
loop-item-preserved c =
    dealt-more (λ (list : Vec Item Global). list.items) (λ (list : Vec Item Global). vec_capacity list) c.args.level c.args.items.now.items c.loop-item.item-iterator.rest.items c.next.new.self.rest.items c.in-Some.item c.loop-item.lists.items
    (set c.loop-item.lists.items c.digit_of-digit.result c.push_reserved.new.self) c.digit_of-digit.result c.index_mut.result.now c.push_reserved.new.self
    c.in-Some.ensures.steps.0 c.digit_of-digit.ensures.digit c.digit_of-digit.ensures.small c.index_mut.ensures.value c.push_reserved.ensures.items c.push_reserved.ensures.capacity refl c.loop-item.invariant

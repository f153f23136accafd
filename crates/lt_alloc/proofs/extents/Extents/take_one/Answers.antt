use Rattle.std.proofs.Common.{◌++◌, set, true, ap, subst, sym, ◌∙◌, vec_capacity, arith}
use Rattle.std.specs.Option.{option_to_list}
use Rattle.lt_alloc.specs.Stack.{IsStack}
use Rattle.lt_alloc.proofs.StackLaws.{Pops, IsStack-pop, is_free-within}
use Rattle.lt_alloc.proofs.extents.Extents.take_one.Goals as goal
use Rattle.lt_alloc.proofs.extents.Extents.take_one.Goals.{After-unwrap-number}

-- the number was free
popped : (c : After-unwrap-number) → Pops c.self.inside.taken.items c.pop.new.self.items (vec_capacity c.self.inside.free) c.unwrap-number.result
popped c = IsStack-pop c.self.inside.taken.items c.self.inside.free.items c.pop.new.self.items (vec_capacity c.self.inside.free) c.unwrap-number.result c.self.invariant (c.pop.ensures.items ∙ ap (λ o. c.pop.new.self.items ++ option_to_list o) c.unwrap-number.ensures)

pub index_mut-requires : goal.index_mut-requires
index_mut-requires c = let below = is_free-within c.self.inside.taken.items c.unwrap-number.result (popped ((goal.at.index_mut-requires c).After-unwrap-number)).free in omega (arith, c.self.inside.taken.ok.0)

pub invariant_of-self : goal.invariant_of-self
invariant_of-self c =
    subst (λ room. IsStack (set c.self.inside.taken.items c.unwrap-number.result true) c.pop.new.self.items room) (sym c.pop.ensures.capacity) (popped ((goal.at.invariant_of-self c).After-unwrap-number)).stack

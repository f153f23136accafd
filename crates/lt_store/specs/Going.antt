-- How an open store goes on, from call to call.
use Rattle.std.specs.Prelude.{◌≡◌, ℕ, ◌+◌, ◌≤◌, List, [], ◌∷◌, ◌++◌, length, take, drop}
use Rattle.lt_terms.specs.Items.{Item}
use Rattle.lt_device.specs.State as told
use Rattle.lt_device.specs.Moments.{Leaves}
use Rattle.lt_language.specs.Machine.{State}
use Rattle.lt_image.specs.Standing.{IsPrefix, after_writes}
use Rattle.lt_store.specs.Open.{StoreView, IsOpen}

-- each image since the start has first writes of those that were pending and those that were accepted, behind
-- all that was durable
abbrev pub Survives : StoreView → List Item → State → told.State → told.State → Type 0
Survives v accepted durable old new = Leaves (λ left. IsPrefix left durable (v.log.pending ++ accepted) 0) old new

-- A call that accepted these writes: the first of the pending and the accepted ones became durable, the
-- others are pending, and nothing was lost at any moment.
pub record Goes (v : StoreView) (accepted : List Item) (w : StoreView) (durable : State)
    (old new : told.State) : Type 0 where
  pub sure : ℕ
  pub within : sure ≤ length (v.log.pending ++ accepted)
  pub pending : w.log.pending ≡ drop sure (v.log.pending ++ accepted)
  pub opened : IsOpen w (after_writes durable (take sure (v.log.pending ++ accepted))) new
  pub survives : Survives v accepted durable old new

-- what is durable after a call that went on
abbrev pub durable_after : {v w : StoreView} {accepted : List Item} {durable : State} {old new : told.State}
    → Goes v accepted w durable old new → State
durable_after {v} {w} {accepted} {durable} g = after_writes durable (take g.sure (v.log.pending ++ accepted))

-- the store with one write more, which is pending
abbrev pub appended : StoreView → Item → StoreView
appended v item = record v {
  log = record v.log { pending = v.log.pending ++ item ∷ [] };
  memory =
      v.memory ++ item ∷ [];
  writes = v.writes + 1;
}

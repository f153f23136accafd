-- A store whose open group was committed.
use Rattle.std.specs.Prelude.{◌≡◌, ◌⊎◌, []}
use Rattle.lt_terms.specs.Bytes.{Image}
use Rattle.lt_language.specs.Machine.{State}
use Rattle.lt_image.specs.Standing.{Stands}
use Rattle.lt_redo.specs.LogState.{LogState, slots_with}
use Rattle.lt_store.specs.Open.{StoreView}

-- the log with its open group behind the others
abbrev pub committed_log : LogState → LogState
committed_log log = record log { slots = slots_with log.slots log.pending; pending = [] }

-- nothing but the log is another
abbrev pub Relogs : StoreView → StoreView → Type 0
Relogs v w = w ≡ record v { log = w.log }

-- nothing is pending any more
abbrev pub committed : StoreView → StoreView
committed v = record v { log = committed_log v.log }

-- the image stands for one of these two states
abbrev pub StandsForEither : State → State → Image → Type 0
StandsForEither a b image = Stands image a ⊎ Stands image b

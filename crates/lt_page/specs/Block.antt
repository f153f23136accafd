-- What a block owns: its memory, and the leave to give it back.
use mir.Syntax.{Ty}
use mir.Raw.{raw}
use base.Fml.{Fml, fsep}
use denote.RattleType.{RattleType}
use denote.Memory.{lone}
use denote.RawPtr.{Ptr, room_for}
use Rattle.core.specs.Ptr.{points_to}

-- room for a value of type R at p
abbrev pub room_owns : (Ty → Ptr → Fml) → RattleType → Ptr → Fml
room_owns leave R p = fsep (room_for (raw (lone R.mir)) p) (leave (raw (lone R.mir)) p)

-- the value x of type R at p
abbrev pub block_owns : (Ty → Ptr → Fml) → (R : RattleType) → Ptr → R.Denot → Fml
block_owns leave R p x = fsep (points_to R p x) (leave (raw (lone R.mir)) p)

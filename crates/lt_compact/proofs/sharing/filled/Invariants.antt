use Rattle.std.proofs.Common.{map, vec_capacity}
use Rattle.std.specs.List.{filter}
use Rattle.lt_image.specs.Shares.{has_tables}
use Rattle.lt_compact.specs.Sharing.{all_framed}
use Rattle.lt_compact.proofs.FrameLaws.{IsFilling}
use Rattle.lt_compact.proofs.sharing.filled.Given as goal

-- the frames so far are shares
abbrev pub invariant-loop-frame : goal.invariant-loop-frame
invariant-loop-frame l = IsFilling (filter has_tables (all_framed l.fn.frames.items (map (λ list. list.items) l.fn.lists.items))) l.frame-iterator.rest.items (map (λ list. list.items) l.lists.items) l.shares.items (vec_capacity l.shares)

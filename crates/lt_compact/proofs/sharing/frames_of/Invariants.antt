use Rattle.std.proofs.Common.{◌≡◌, ◌<◌, map}
use Rattle.std.specs.Prelude.{IsTrue}
use Rattle.std.specs.List.{list_all, range_with_len}
use Rattle.lt_terms.specs.Items.{is_valid}
use Rattle.lt_compact.specs.Sharing.{frame_of}
use Rattle.lt_compact.proofs.sharing.frames_of.Given as goal

-- the frames of the digits so far; behind the first the items are known to be valid
abbrev pub invariant-loop-digit : goal.invariant-loop-digit
invariant-loop-digit l = record {
  frames : l.frames.items ≡ map (frame_of l.trie.nodes l.node l.kept) (range_with_len 0 l.digit);
  valid : 0 < l.digit → IsTrue (list_all is_valid l.kept);
}

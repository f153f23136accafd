use Rattle.std.proofs.Common.{◌∙◌, ◌++◌, ◌∷◌, [], sym, ap, List, map, arith}
use Rattle.std.specs.List.{range_with_len}
use Rattle.std.proofs.lemmas.List.FromFn.{map-range_with_len_more}
use Rattle.lt_compact.specs.Sharing.{FrameView, frame_of}
use Rattle.lt_compact.proofs.sharing.frames_of.Goals as goal

pub loop-digit-preserved : goal.loop-digit-preserved
loop-digit-preserved c =
    let old : List FrameView = map (frame_of c.args.trie.now.nodes c.args.node c.args.kept.now) (range_with_len 0 c.loop-digit.digit) in
    record {
      frames = c.in_ok-push.ensures.items
          ∙ ap (λ (fs : List FrameView). fs ++ c.in_ok-frame_of.field-0 ∷ []) c.loop-digit.invariant.frames
          ∙ ap (λ (f : FrameView). old ++ f ∷ []) c.in_ok-frame_of.ensures.frame
          ∙ sym (map-range_with_len_more (frame_of c.args.trie.now.nodes c.args.node c.args.kept.now) 0 c.loop-digit.digit c.loop-digit.digit (omega arith));
      valid = λ _. c.in_ok-frame_of.ensures.valid;
    }

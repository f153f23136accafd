use Rattle.std.proofs.Common.{◌≡◌, ◌∙◌, List, map, sym, ap, subst, Global, Vec}
use Rattle.std.specs.Prelude.{IsTrue}
use Rattle.std.specs.List.{filter, list_all, range_with_len}
use Rattle.lt_bucket.specs.declared.owned.Item.{Item}
use Rattle.lt_terms.specs.Items as terms
use Rattle.lt_terms.specs.Items.{is_valid}
use Rattle.lt_image.specs.Shares.{has_tables}
use Rattle.lt_compact.specs.Sharing.{AreFrames, FrameView, all_framed, frame_of}
use Rattle.lt_compact.proofs.FrameLaws.{are-frames, dealt-framed}
use Rattle.lt_compact.proofs.NeedLaws.{inner-small, pile-few}
use Rattle.lt_compact.proofs.sharing.dealing.Goals as goal

pub deal_by-requires : goal.deal_by-requires
deal_by-requires c = (inner-small c.args.trie.now.levels c.args.node c.levels.ensures.trie.most c.requires.inner.node c.requires.inner.inner).level

pub filled-requires-clause-frames : goal.filled-requires-clause-frames
filled-requires-clause-frames c =
    let items : List terms.Item = c.args.kept.now.items in
    let frames : c.in_ok-frames.frames.items ≡ map (frame_of c.args.trie.now.nodes c.args.node items) (range_with_len 0 8) =
    c.in_ok-frames.ensures.frames ∙ ap (λ (xs : List terms.Item). map (frame_of c.args.trie.now.nodes c.args.node xs) (range_with_len 0 8)) c.deref.ensures.value in
    let valid : IsTrue (list_all is_valid items) = subst (λ (xs : List terms.Item). IsTrue (list_all is_valid xs)) c.deref.ensures.value c.in_ok-frames.ensures.valid in
    let are = are-frames c.args.trie.now.nodes c.args.node items (λ q. pile-few c.args.trie.now.levels c.args.trie.now.nodes q c.levels.ensures.trie.trie) c.requires.items.ranked valid c.requires.items.few in
    subst (λ (fs : List FrameView). AreFrames 0 fs (map (λ (list : Vec Item Global). list.items) c.in_ok-lists.lists.items)) (sym frames)
    (subst (AreFrames 0 (map (frame_of c.args.trie.now.nodes c.args.node items) (range_with_len 0 8))) (sym c.in_ok-lists.ensures.dealt) are)

pub returns-clause-shares : goal.returns-clause-shares
returns-clause-shares c =
    let items : List terms.Item = c.args.kept.now.items in
    let frames : c.in_ok-frames.frames.items ≡ map (frame_of c.args.trie.now.nodes c.args.node items) (range_with_len 0 8) =
    c.in_ok-frames.ensures.frames ∙ ap (λ (xs : List terms.Item). map (frame_of c.args.trie.now.nodes c.args.node xs) (range_with_len 0 8)) c.deref.ensures.value in
    c.filled.ensures
    ∙ ap (λ (fs : List FrameView). filter has_tables (all_framed fs (map (λ (list : Vec Item Global). list.items) c.in_ok-lists.lists.items))) frames
    ∙ ap (λ (ls : List (List terms.Item)). filter has_tables (all_framed (map (frame_of c.args.trie.now.nodes c.args.node items) (range_with_len 0 8)) ls)) c.in_ok-lists.ensures.dealt
    ∙ dealt-framed c.args.trie.now.nodes c.args.node items c.requires.items.ranked

pub returns-clause-valid : goal.returns-clause-valid
returns-clause-valid c = subst (λ (xs : List terms.Item). IsTrue (list_all is_valid xs)) c.deref.ensures.value c.in_ok-frames.ensures.valid

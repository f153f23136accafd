-- Frames and the items of their children become the shares of a deal.
use Rattle.std.proofs.Common.{◌≡◌, ℕ, zero, suc, ◌+◌, ◌-◌, ◌*◌, ◌<◌, ◌≤◌, refl, sym, ap, subst, ◌∙◌, List, [], ◌∷◌, ◌++◌, map, length, drop, set, get_or, Bool, false, cond, arith, add-one, drop-cons, append_assoc, le-leb}
use Rattle.std.specs.Prelude.{nat_le, ◌==◌, IsTrue}
use Rattle.std.specs.List.{AllZip, filter, list_all, range_with_len}
use Rattle.std.proofs.lemmas.List.{append-nil, drop-set-lt, get_or-map, length-drop, length-map, map-set}
use Rattle.std.proofs.lemmas.List.FromFn.{length-map-range_with_len}
use Rattle.lt_terms.specs.Hashes.{key_digit}
use Rattle.lt_terms.specs.Items.{Item, is_valid}
use Rattle.lt_tables.specs.Cut.{cut, pieces}
use Rattle.lt_tables.specs.Table.{newest, with_digit}
use Rattle.lt_tables.proofs.ListLaws.{filter_few}
use Rattle.lt_tables.proofs.RankedLaws.{pieces-count}
use Rattle.lt_format.specs.declared.node_id.NodeId.{NodeId}
use Rattle.lt_format.specs.Trie.{Trie, node_at}
use Rattle.lt_image.specs.Shares.{Share, child_share, deal_shares, has_tables}
use Rattle.lt_compact.specs.Sharing.{AreFrames, FrameView, IsCut, all_framed, frame_of, framed}
use Rattle.lt_compact.proofs.NeedLaws.{filter-ranked, valid-filter}

-- ---- the frames of all children

pub frames-framed : (trie : Trie) (id : NodeId) (items : List Item) (a n : ℕ) → all_framed (map (frame_of trie id items) (range_with_len a n)) (map (λ d. with_digit id.level d items) (range_with_len a n)) ≡ map (child_share trie id items) (range_with_len a n)
frames-framed trie id items a zero = refl
frames-framed trie id items a (suc n) = ap (λ ss. child_share trie id items a ∷ ss) (frames-framed trie id items (a + 1) n)

frames-digits : (trie : Trie) (id : NodeId) (items : List Item) (a n : ℕ) → map (λ (f : FrameView). f.digit) (map (frame_of trie id items) (range_with_len a n)) ≡ range_with_len a n
frames-digits trie id items a zero = refl
frames-digits trie id items a (suc n) = ap (λ ds. a ∷ ds) (frames-digits trie id items (a + 1) n)

frames-cut : (trie : Trie) (id : NodeId) (items : List Item) → ((q : NodeId) → length (node_at trie q).tables ≤ 65536) → newest items ≡ items → IsTrue (list_all is_valid items) → length items < 4294967296 → (a n : ℕ)
    → AllZip (λ (f : FrameView) xs. IsCut f.behind xs f.counts) (map (frame_of trie id items) (range_with_len a n)) (map (λ d. with_digit id.level d items) (range_with_len a n))
frames-cut trie id items piles ranked valid few a zero = tt
frames-cut trie id items piles ranked valid few a (suc n) =
    let test : Item → Bool = λ v. key_digit v.key id.level == a in
    let pile = piles (record { level = id.level + 1; number = 8 * id.number + a }) in
    let fewer : length (filter test items) ≤ length items = filter_few test items in (
      record { ranked = filter-ranked test items ranked; valid = valid-filter test items valid; counts_are = refl; few = omega arith; pile = pile },
      frames-cut trie id items piles ranked valid few (a + 1) n,
    )

-- THE FRAMES of a node's children, beside the items that are dealt to them
pub are-frames : (trie : Trie) (id : NodeId) (items : List Item) → ((q : NodeId) → length (node_at trie q).tables ≤ 65536) → newest items ≡ items → IsTrue (list_all is_valid items) → length items < 4294967296
    → AreFrames 0 (map (frame_of trie id items) (range_with_len 0 8)) (map (λ d. with_digit id.level d items) (range_with_len 0 8))
are-frames trie id items piles ranked valid few = record {
  digits = frames-digits trie id items 0 8 ∙ ap (range_with_len 0) (sym (length-map-range_with_len (λ d. with_digit id.level d items) 0 8));
  cuts = frames-cut trie id items piles ranked valid few 0 8;
}

-- THE SHARES that they become
pub dealt-framed : (trie : Trie) (id : NodeId) (items : List Item) → newest items ≡ items → filter has_tables (all_framed (map (frame_of trie id items) (range_with_len 0 8)) (map (λ d. with_digit id.level d items) (range_with_len 0 8))) ≡ deal_shares trie id items
dealt-framed trie id items ranked = ap (filter has_tables) (frames-framed trie id items 0 8) ∙ ap (λ xs. filter has_tables (map (child_share trie id xs) (range_with_len 0 8))) (sym ranked)

-- ---- one frame after another is filled

-- frames that are left, the lists, the shares so far, and how many there is room for
pub record IsFilling (wanted : List Share) (rest : List FrameView) (lists : List (List Item)) (shares : List Share) (places : ℕ) : Type 0 where
  pub turn : ℕ
  pub frames : AreFrames turn rest (drop turn lists)
  pub made : shares ++ filter has_tables (all_framed rest (drop turn lists)) ≡ wanted
  pub room : length shares + length rest ≤ places

pub filling-start : (frames : List FrameView) (lists : List (List Item)) (shares : List Share) (room : ℕ) → shares ≡ [] → length frames ≤ room → AreFrames 0 frames lists → IsFilling (filter has_tables (all_framed frames lists)) frames lists shares room
filling-start frames lists shares room none fits are =
    let empty : length shares ≡ 0 = ap length none in
    record { turn = 0; frames = are; made = ap (λ ss. ss ++ filter has_tables (all_framed frames lists)) none; room = omega arith }

-- the next frame stands beside the list of its digit
pub record IsTurn (wanted : List Share) (f : FrameView) (after : List FrameView) (lists : List (List Item)) (shares : List Share) (room : ℕ) : Type 0 where
  pub within : f.digit < length lists
  pub cut : IsCut f.behind (get_or lists f.digit []) f.counts
  pub free : length shares < room
  pub some : 0 < length f.counts → IsFilling wanted after (set lists f.digit []) (shares ++ framed f (get_or lists f.digit []) ∷ []) room
  pub none : length f.counts ≡ 0 → IsFilling wanted after lists shares room

length-one : {A : Type 0} (xs : List A) (x : A) → length (xs ++ x ∷ []) ≡ length xs + 1
length-one [] x = refl
length-one (y ∷ xs) x = omega (arith, length-one xs x)

turn-parts : (wanted : List Share) (f : FrameView) (after : List FrameView) (lists : List (List Item)) (shares : List Share) (room turn : ℕ) (ls : List (List Item)) → drop turn lists ≡ ls → AreFrames turn (f ∷ after) ls
    → shares ++ filter has_tables (all_framed (f ∷ after) ls) ≡ wanted → length shares + suc (length after) ≤ room → IsTurn wanted f after lists shares room
turn-parts wanted f after lists shares room turn [] is frames made fits = absurd frames.cuts
turn-parts wanted f after lists shares room turn (l ∷ ls) is frames made fits =
    let count : length (drop turn lists) ≡ length lists - turn = length-drop turn lists in
    let some_left : length (drop turn lists) ≡ suc (length ls) = ap length is in
    let within : turn < length lists = omega arith in
    let split : l ∷ ls ≡ get_or lists turn [] ∷ drop (suc turn) lists = sym is ∙ drop-cons lists turn [] within in
    let here : l ≡ get_or lists turn [] = cc in
    let rest : ls ≡ drop (turn + 1) lists = let later : ls ≡ drop (suc turn) lists = cc in later ∙ ap (λ k. drop k lists) (sym (add-one turn)) in
    let digits : f.digit ∷ map (λ (g : FrameView). g.digit) after ≡ turn ∷ range_with_len (turn + 1) (length ls) = frames.digits in
    let digit : f.digit ≡ turn = cc in
    let others : map (λ (g : FrameView). g.digit) after ≡ range_with_len (turn + 1) (length ls) = cc in
    let item : get_or lists f.digit [] ≡ l = ap (λ k. get_or lists k []) digit ∙ sym here in
    let tables : length (cut l) ≡ length f.counts = ap (λ ns. length (pieces ns l)) (sym frames.cuts.0.counts_are) ∙ pieces-count f.counts l in
    let unset : drop (turn + 1) (set lists f.digit []) ≡ ls = drop-set-lt (turn + 1) lists f.digit [] (omega arith) ∙ sym rest in
    record {
      within = omega arith;
      cut = subst (λ xs. IsCut f.behind xs f.counts) (sym item) frames.cuts.0;
      free = omega arith;
      some = λ any. record {
        turn = turn + 1;
        frames = subst (AreFrames (turn + 1) after) (sym unset) (record { digits = others; cuts = frames.cuts.1 });
        made = ap (λ xs. (shares ++ framed f (get_or lists f.digit []) ∷ []) ++ filter has_tables (all_framed after xs)) unset
            ∙ ap (λ xs. (shares ++ framed f xs ∷ []) ++ filter has_tables (all_framed after ls)) item
            ∙ append_assoc shares (framed f l ∷ []) (filter has_tables (all_framed after ls))
            ∙ ap (λ b. shares ++ cond b (framed f l ∷ filter has_tables (all_framed after ls)) (filter has_tables (all_framed after ls))) (sym (le-leb 1 (length (cut l)) (omega arith)))
            ∙ made;
        room = omega (arith, length-one shares (framed f (get_or lists f.digit [])));
      };
      none = λ no. record {
        turn = turn + 1;
        frames = subst (AreFrames (turn + 1) after) rest (record { digits = others; cuts = frames.cuts.1 });
        made = ap (λ xs. shares ++ filter has_tables (all_framed after xs)) (sym rest)
            ∙ ap (λ b. shares ++ cond b (framed f l ∷ filter has_tables (all_framed after ls)) (filter has_tables (all_framed after ls))) (sym (no_table (length (cut l)) (omega arith)))
            ∙ made;
        room = omega arith;
      };
    }
  where
    no_table : (n : ℕ) → n ≡ 0 → nat_le 1 n ≡ false
    no_table n e = ap (nat_le 1) e

pub turn-of : (wanted : List Share) (f : FrameView) (rest after : List FrameView) (lists : List (List Item)) (shares : List Share) (room : ℕ) → rest ≡ f ∷ after → IsFilling wanted rest lists shares room → IsTurn wanted f after lists shares room
turn-of wanted f rest after lists shares room is filling =
    turn-parts wanted f after lists shares room filling.turn (drop filling.turn lists) refl (subst (λ fs. AreFrames filling.turn fs (drop filling.turn lists)) is filling.frames)
    (ap (λ fs. shares ++ filter has_tables (all_framed fs (drop filling.turn lists))) (sym is) ∙ filling.made)
    (subst (λ fs. length shares + length fs ≤ room) is filling.room)

-- ALL ARE FILLED
pub filled-all : (wanted : List Share) (rest : List FrameView) (lists : List (List Item)) (shares : List Share) (room : ℕ) → length rest ≡ 0 → IsFilling wanted rest lists shares room → shares ≡ wanted
filled-all wanted [] lists shares room none filling = sym (append-nil shares) ∙ filling.made
filled-all wanted (f ∷ rest) lists shares room none filling = absurd (omega arith)

-- ---- the frame that comes next, where the lists have items of their own kind

-- the list of the frame's digit
frame-list : {A : Type 0} (items_of : A → List Item) (lists : List A) (digit : ℕ) (list : A) → digit < length (map items_of lists) → list ≡ get_or lists digit list → get_or (map items_of lists) digit [] ≡ items_of list
frame-list items_of lists digit list within is =
    get_or-map items_of lists digit list [] (omega (arith, length-map lists items_of)) ∙ ap items_of (sym is)

pub frame-within : {A : Type 0} (items_of : A → List Item) (wanted : List Share) (f : FrameView) (rest after : List FrameView) (lists : List A) (shares : List Share) (room : ℕ) → rest ≡ f ∷ after → IsFilling wanted rest (map items_of lists) shares room
    → (f.digit < length lists) × (length shares < room)
frame-within items_of wanted f rest after lists shares room is filling =
    let turn = turn-of wanted f rest after (map items_of lists) shares room is filling in
    (omega (arith, turn.within, length-map lists items_of), turn.free)

pub frame-cut : {A : Type 0} (items_of : A → List Item) (wanted : List Share) (f : FrameView) (rest after : List FrameView) (lists : List A) (list : A) (shares : List Share) (room : ℕ) → rest ≡ f ∷ after → list ≡ get_or lists f.digit list
    → IsFilling wanted rest (map items_of lists) shares room → IsCut f.behind (items_of list) f.counts
frame-cut items_of wanted f rest after lists list shares room is here filling =
    let turn = turn-of wanted f rest after (map items_of lists) shares room is filling in
    subst (λ xs. IsCut f.behind xs f.counts) (frame-list items_of lists f.digit list turn.within here) turn.cut

-- it becomes a share
pub frame-fill : {A : Type 0} (items_of : A → List Item) (wanted : List Share) (f : FrameView) (rest after : List FrameView) (lists : List A) (list empty : A) (shares now : List Share) (s : Share) (room places : ℕ) → rest ≡ f ∷ after → list ≡ get_or lists f.digit list
    → items_of empty ≡ [] → s ≡ framed f (items_of list) → now ≡ shares ++ s ∷ [] → places ≡ room → 0 < length f.counts → IsFilling wanted rest (map items_of lists) shares room → IsFilling wanted after (map items_of (set lists f.digit empty)) now places
frame-fill items_of wanted f rest after lists list empty shares now s room places is here none s_is now_is same any filling =
    let turn = turn-of wanted f rest after (map items_of lists) shares room is filling in
    let item : get_or (map items_of lists) f.digit [] ≡ items_of list = frame-list items_of lists f.digit list turn.within here in
    let left : set (map items_of lists) f.digit [] ≡ map items_of (set lists f.digit empty) = ap (set (map items_of lists) f.digit) (sym none) ∙ sym (map-set items_of lists f.digit empty) in
    let given : shares ++ framed f (get_or (map items_of lists) f.digit []) ∷ [] ≡ now = ap (λ xs. shares ++ framed f xs ∷ []) item ∙ ap (λ t. shares ++ t ∷ []) (sym s_is) ∙ sym now_is in
    subst (λ n. IsFilling wanted after (map items_of (set lists f.digit empty)) now n) (sym same)
    (subst (λ ss. IsFilling wanted after (map items_of (set lists f.digit empty)) ss room) given (subst (λ ls. IsFilling wanted after ls (shares ++ framed f (get_or (map items_of lists) f.digit []) ∷ []) room) left (turn.some any)))

-- or it has no table
pub frame-skip : {A : Type 0} (items_of : A → List Item) (wanted : List Share) (f : FrameView) (rest after : List FrameView) (lists : List A) (shares : List Share) (room : ℕ) → rest ≡ f ∷ after → length f.counts ≡ 0
    → IsFilling wanted rest (map items_of lists) shares room → IsFilling wanted after (map items_of lists) shares room
frame-skip items_of wanted f rest after lists shares room is empty filling = (turn-of wanted f rest after (map items_of lists) shares room is filling).none empty

-- What serving answers on any blocks, piece by piece.
use Rattle.std.proofs.Common.{◌≡◌, ◌⊎◌, ℕ, zero, suc, refl, sym, ap, subst, ◌∙◌, List, [], ◌∷◌, ◌++◌, take, drop, append_assoc, append-nil, take-append-drop, inl, inr, Option, Some, Ok, Err}
use Rattle.std.specs.Bool.{IsFalse}
use Rattle.lt_terms.specs.Bytes.{Image}
use Rattle.lt_device.specs.State as told
use Rattle.lt_io.specs.Streams.{Takes}
use Rattle.lt_io.proofs.Flows.{Gains-none, Gains-more, Takes-none, Takes-more}
use Rattle.lt_language.specs.declared.Bad.TheVariants.{End}
use Rattle.lt_language.specs.Commands.{Command, bad, commands, ended, has_line_feed, refused_rest, rest_of}
use Rattle.lt_language.specs.Replies as replies
use Rattle.lt_language.specs.Replies.{Reply, text, texts}
use Rattle.lt_language.proofs.LineLaws.{lines_split}
use Rattle.lt_line.specs.Held.{kept_of}
use Rattle.lt_line.specs.Waiting.{Waiting, all_settled, nothing_waits}
use Rattle.lt_line.proofs.HeldLaws.{kept_of-none, kept_of-nothing}
use Rattle.lt_layout.specs.declared.fault.OpenFault.{OpenFault}
use Rattle.lt_layout.specs.declared.fault.OpenFault.TheVariants as opens
use Rattle.lt_image.specs.Versions.{Opened, open_image}
use Rattle.lt_store.specs.Getting.{seen_of}
use Rattle.lt_store.specs.Promise.{seen_on}
use Rattle.lt_store.specs.Open.{StoreView}
use Rattle.lt_serve.specs.declared.faults.RoundFault.{RoundFault}
use Rattle.lt_serve.specs.declared.faults.RoundFault.TheVariants as faults
use Rattle.lt_serve.specs.declared.served.Served.{Served}
use Rattle.lt_serve.specs.declared.served.Served.TheVariants as served
use Rattle.lt_serve.specs.Ends.{with_end}
use Rattle.lt_serve.specs.Faults.{served_of, unopened_of}
use Rattle.lt_serve.specs.Promise.{AnswersSeen, BeginsWithOk, ServesSeen, Sight, StopsNext, WritesNext}
use Rattle.lt_serve.specs.Seeing.{EndsSeen, FailsSeen, SeesLines, SeesMore, StaysBehind}
use Rattle.lt_serve.proofs.CallLaws.{by-damaged}
use Rattle.lt_serve.proofs.LineLaws.{commands-append, rest_of-append}
use Rattle.lt_serve.proofs.OverLaws.{refused-some}
use Rattle.lt_serve.proofs.RunLaws.{texts-append}
use Rattle.lt_serve.proofs.SeeingLaws.{are-append, begins-more, shown-still, still-more, still-none, stops-more, writes-more}

-- ---- lines behind lines

-- commands behind those that were answered
order-behind : (acted others : List Command) (bytes more : List ℕ) → acted ++ others ≡ commands bytes → acted ++ (others ++ commands (rest_of bytes ++ more)) ≡ commands (bytes ++ more)
order-behind acted others bytes more order = sym (append_assoc acted others (commands (rest_of bytes ++ more))) ∙ ap (λ cs. cs ++ commands (rest_of bytes ++ more)) order ∙ sym (commands-append bytes more)

-- the same with the rest at the end of input
order-ended : (acted others : List Command) (bytes more : List ℕ) → acted ++ others ≡ commands bytes → acted ++ ((others ++ commands (rest_of bytes ++ more)) ++ refused_rest (rest_of (bytes ++ more))) ≡ ended (bytes ++ more)
order-ended acted others bytes more order =
    sym (append_assoc acted (others ++ commands (rest_of bytes ++ more)) (refused_rest (rest_of (bytes ++ more)))) ∙ ap (λ cs. cs ++ refused_rest (rest_of (bytes ++ more))) (order-behind acted others bytes more order)

module _ (sight : Sight) (input output : List ℕ) (still : Type 0) (s : SeesLines sight input output still) where
  -- an `OK` stands in the output: from there on anything may
  pub lines-written : (more added : List ℕ) (still' : Type 0) → BeginsWithOk s.further × WritesNext s.others → SeesLines sight (input ++ more) (output ++ added) still'
  lines-written more added still' written = record {
    acted = s.acted;
    others = s.others ++ commands (rest_of input ++ more);
    order = order-behind s.acted s.others input more s.order;
    replies = s.replies;
    answers = s.answers;
    further = s.further ++ added;
    text = ap (λ t. t ++ added) s.text ∙ append_assoc (texts s.replies) s.further added;
    ends = inl (begins-more s.further added written.0, writes-more s.others (commands (rest_of input ++ more)) written.1);
  }

  pub ends-written : (status : Served) (more added : List ℕ) → BeginsWithOk s.further × WritesNext s.others → AnswersSeen sight status (input ++ more) (output ++ added)
  ends-written status more added written = record {
    acted = s.acted;
    others = (s.others ++ commands (rest_of input ++ more)) ++ refused_rest (rest_of (input ++ more));
    order = order-ended s.acted s.others input more s.order;
    replies = s.replies;
    answers = s.answers;
    hidden = [];
    further = s.further ++ added;
    text = append-nil (output ++ added) ∙ ap (λ t. t ++ added) s.text ∙ append_assoc (texts s.replies) s.further added;
    ends = inl (begins-more s.further added written.0, writes-more (s.others ++ commands (rest_of input ++ more)) (refused_rest (rest_of (input ++ more))) (writes-more s.others (commands (rest_of input ++ more)) written.1));
  }

  -- serving ends elsewhere, and this much of the output is shown
  cut-ends : (status : Served) (more : List ℕ) → (status ≡ served.Done → ⊥) → ((b : ℕ) → status ≡ served.Damaged b → ⊥) → (BeginsWithOk s.further × WritesNext s.others) ⊎ ((s.others ≡ []) × (s.further ≡ []) × still)
      → (others : List Command) (hidden : List ℕ) → (WritesNext s.others → WritesNext others) → (BeginsWithOk s.further × WritesNext others) ⊎ ((s.further ≡ []) × (status ≡ served.Done → (others ≡ []) × (hidden ≡ [])) × ((b : ℕ) → status ≡ served.Damaged b → StopsNext sight others b))
  cut-ends status more other sound (inl written) others hidden writes = inl (written.0, writes written.1)
  cut-ends status more other sound (inr none) others hidden writes = inr (none.1, λ done. absurd (other done), λ b is. absurd (sound b is))

  pub ends-cut : (status : Served) (more shown hidden : List ℕ) → output ≡ shown ++ hidden → (status ≡ served.Done → ⊥) → ((b : ℕ) → status ≡ served.Damaged b → ⊥) → AnswersSeen sight status (input ++ more) shown
  ends-cut status more shown hidden is other sound =
      let others : List Command = (s.others ++ commands (rest_of input ++ more)) ++ refused_rest (rest_of (input ++ more)) in
      record {
        acted = s.acted;
        others = others;
        order = order-ended s.acted s.others input more s.order;
        replies = s.replies;
        answers = s.answers;
        hidden = hidden;
        further = s.further;
        text = sym is ∙ s.text;
        ends = cut-ends status more other sound s.ends others hidden (λ w. writes-more (s.others ++ commands (rest_of input ++ more)) (refused_rest (rest_of (input ++ more))) (writes-more s.others (commands (rest_of input ++ more)) w));
      }

  -- no write was taken: all commands so far have replies, and they are the output
  pub all-answered : s.others ≡ [] → s.acted ≡ commands input
  all-answered none = sym (append-nil s.acted) ∙ ap (λ o. s.acted ++ o) (sym none) ∙ s.order

  pub all-told : s.further ≡ [] → output ≡ texts s.replies
  all-told none = s.text ∙ ap (λ f. texts s.replies ++ f) none ∙ append-nil (texts s.replies)

not-done : (fault : RoundFault) → served_of fault ≡ served.Done → ⊥
not-done faults.Device is = absurd (cc (is))
not-done (faults.Damaged block) is = absurd (cc (is))
not-done faults.NoMemory is = absurd (cc (is))

module _ (v w : StoreView) (image : Image) (input output kept : List ℕ) (start mid : told.State) (s : SeesLines (seen_of v image) input output (StaysBehind input kept v w start mid)) (shown : start.shown ≡ Some image) where
  -- what a store sees that sees the same
  sight-is : StaysBehind input kept v w start mid → seen_of w image ≡ seen_of v image
  sight-is still = ap (λ (f : Image → Sight). f image) still.still.sees

  pub mid-shown : StaysBehind input kept v w start mid → mid.shown ≡ Some image
  mid-shown still = shown-still v w start mid image still.still shown

  joined-ends : (more kept' : List ℕ) (x : StoreView) (new : told.State) → StaysBehind input kept v w start mid → (further : List ℕ) (others : List Command) → (BeginsWithOk further × WritesNext others) ⊎ ((others ≡ []) × (further ≡ []) × StaysBehind (rest_of input ++ more) kept' w x mid new)
      → (BeginsWithOk further × WritesNext others) ⊎ ((others ≡ []) × (further ≡ []) × StaysBehind (input ++ more) kept' v x start new)
  joined-ends more kept' x new still further others (inl written) = inl written
  joined-ends more kept' x new still further others (inr none) =
      inr (none.0, none.1, record { line = none.2.line ∙ ap kept_of (sym (rest_of-append input more)); still = still-more v w x start mid new still.still none.2.still })

  -- more lines were answered
  pub lines-joined : (more added kept' : List ℕ) (x : StoreView) (new : told.State) → s.others ≡ [] → s.further ≡ [] → StaysBehind input kept v w start mid → SeesLines (seen_of w image) (rest_of input ++ more) added (StaysBehind (rest_of input ++ more) kept' w x mid new)
      → SeesLines (seen_of v image) (input ++ more) (output ++ added) (StaysBehind (input ++ more) kept' v x start new)
  lines-joined more added kept' x new done told still given =
      let p = subst (λ (f : Sight). SeesLines f (rest_of input ++ more) added (StaysBehind (rest_of input ++ more) kept' w x mid new)) (sight-is still) given in
      record {
        acted = s.acted ++ p.acted;
        others = p.others;
        order = append_assoc s.acted p.acted p.others ∙ ap (λ cs. s.acted ++ cs) p.order ∙ ap (λ cs. cs ++ commands (rest_of input ++ more)) (all-answered (seen_of v image) input output (StaysBehind input kept v w start mid) s done) ∙ sym (commands-append input more);
        replies = s.replies ++ p.replies;
        answers = are-append (seen_of v image) s.acted p.acted s.replies p.replies s.answers p.answers;
        further = p.further;
        text = ap (λ t. t ++ added) (all-told (seen_of v image) input output (StaysBehind input kept v w start mid) s told) ∙ ap (λ t. texts s.replies ++ t) p.text ∙ sym (append_assoc (texts s.replies) (texts p.replies) p.further) ∙ ap (λ t. t ++ p.further) (sym (texts-append s.replies p.replies));
        ends = joined-ends more kept' x new still p.further p.others p.ends;
      }

  -- a round went on, and this text was told
  round-either : (more kept' : List ℕ) (x : StoreView) (new : told.State) (said : List ℕ) → ((image' : Image) (line : List ℕ) → mid.shown ≡ Some image' → IsFalse (has_line_feed line) → kept ≡ kept_of line → (told : List ℕ) × (said ≡ told) × SeesLines (seen_of w image') (line ++ more) told (StaysBehind (line ++ more) kept' w x mid new))
      → (BeginsWithOk s.further × WritesNext s.others) ⊎ ((s.others ≡ []) × (s.further ≡ []) × StaysBehind input kept v w start mid) → SeesLines (seen_of v image) (input ++ more) (output ++ said) (StaysBehind (input ++ more) kept' v x start new)
  round-either more kept' x new said call (inl written) = lines-written (seen_of v image) input output (StaysBehind input kept v w start mid) s more said (StaysBehind (input ++ more) kept' v x start new) written
  round-either more kept' x new said call (inr none) =
      let given = call image (rest_of input) (mid-shown none.2) (lines_split input).last none.2.line in
      lines-joined more said kept' x new none.0 none.1 none.2 (subst (λ (t : List ℕ). SeesLines (seen_of w image) (rest_of input ++ more) t (StaysBehind (rest_of input ++ more) kept' w x mid new)) (sym given.1) given.2)

  pub round-more : (more kept' : List ℕ) (x : StoreView) (new : told.State) (said : List ℕ) → ((image' : Image) (line : List ℕ) → mid.shown ≡ Some image' → IsFalse (has_line_feed line) → kept ≡ kept_of line → (told : List ℕ) × (said ≡ told) × SeesLines (seen_of w image') (line ++ more) told (StaysBehind (line ++ more) kept' w x mid new))
      → SeesLines (seen_of v image) (input ++ more) (output ++ said) (StaysBehind (input ++ more) kept' v x start new)
  round-more more kept' x new said call = round-either more kept' x new said call s.ends

  fault-ends : (more said shown' hidden : List ℕ) (fault : RoundFault) → said ≡ shown' ++ hidden → (s.others ≡ []) → (s.further ≡ []) → StaysBehind input kept v w start mid → FailsSeen (seen_of w image) (rest_of input ++ more) fault [] said → AnswersSeen (seen_of v image) (served_of fault) (input ++ more) (output ++ shown')
  fault-ends more said shown' hidden fault cut done told still given =
      let p = subst (λ (f : Sight). FailsSeen f (rest_of input ++ more) fault [] said) (sight-is still) given in
      let later : List Command = refused_rest (rest_of (input ++ more)) in
      record {
        acted = s.acted ++ p.acted;
        others = p.others ++ later;
        order = append_assoc s.acted p.acted (p.others ++ later) ∙ ap (λ cs. s.acted ++ cs) (sym (append_assoc p.acted p.others later) ∙ ap (λ cs. cs ++ later) p.order)
            ∙ sym (append_assoc s.acted (commands (rest_of input ++ more)) later)
            ∙ ap (λ cs. (cs ++ commands (rest_of input ++ more)) ++ later) (all-answered (seen_of v image) input output (StaysBehind input kept v w start mid) s done)
            ∙ ap (λ cs. cs ++ later) (sym (commands-append input more));
        replies = s.replies ++ p.replies;
        answers = are-append (seen_of v image) s.acted p.acted s.replies p.replies s.answers p.answers;
        hidden = hidden;
        further = [];
        text = append_assoc output shown' hidden ∙ ap (λ t. output ++ t) (sym cut ∙ p.text) ∙ ap (λ t. t ++ texts p.replies) (all-told (seen_of v image) input output (StaysBehind input kept v w start mid) s told)
            ∙ sym (texts-append s.replies p.replies) ∙ sym (append-nil (texts (s.replies ++ p.replies)));
        ends = inr (refl, λ is. absurd (not-done fault is), λ b is. stops-more (seen_of v image) p.others later b (p.stops b (by-damaged fault b is)));
      }

  fault-either : (more said shown' hidden : List ℕ) (fault : RoundFault) → said ≡ shown' ++ hidden → ((image' : Image) (line : List ℕ) → mid.shown ≡ Some image' → IsFalse (has_line_feed line) → kept ≡ kept_of line → FailsSeen (seen_of w image') (line ++ more) fault [] said)
      → (BeginsWithOk s.further × WritesNext s.others) ⊎ ((s.others ≡ []) × (s.further ≡ []) × StaysBehind input kept v w start mid) → AnswersSeen (seen_of v image) (served_of fault) (input ++ more) (output ++ shown')
  fault-either more said shown' hidden fault cut call (inl written) = ends-written (seen_of v image) input output (StaysBehind input kept v w start mid) s (served_of fault) more shown' written
  fault-either more said shown' hidden fault cut call (inr none) = fault-ends more said shown' hidden fault cut none.0 none.1 none.2 (call image (rest_of input) (mid-shown none.2) (lines_split input).last none.2.line)

  -- a round failed, and this much of what is settled was told
  pub round-fails : (more said shown' hidden : List ℕ) (fault : RoundFault) → said ≡ shown' ++ hidden → ((image' : Image) (line : List ℕ) → mid.shown ≡ Some image' → IsFalse (has_line_feed line) → kept ≡ kept_of line → FailsSeen (seen_of w image') (line ++ more) fault [] said)
      → AnswersSeen (seen_of v image) (served_of fault) (input ++ more) (output ++ shown')
  round-fails more said shown' hidden fault cut call = fault-either more said shown' hidden fault cut call s.ends

-- ---- the end of input

-- the replies to all commands are known, with that to the rest
done-ends : (v : StoreView) (image : Image) (input output : List ℕ) (still : Type 0) (s : SeesLines (seen_of v image) input output still) (status : Served) (shown hidden : List ℕ) → (rest_of input ≡ [] → ⊥) → s.others ≡ [] → s.further ≡ [] → text (replies.bad End) ≡ shown ++ hidden → (status ≡ served.Done → hidden ≡ []) → ((b : ℕ) → status ≡ served.Damaged b → ⊥)
    → AnswersSeen (seen_of v image) status input (output ++ shown)
done-ends v image input output still s status shown hidden some done told cut all sound = record {
  acted = s.acted ++ bad End ∷ [];
  others = [];
  order = append-nil (s.acted ++ bad End ∷ []) ∙ ap (λ cs. cs ++ bad End ∷ []) (all-answered (seen_of v image) input output still s done) ∙ ap (λ cs. commands input ++ cs) (sym (refused-some (rest_of input) some));
  replies = s.replies ++ replies.bad End ∷ [];
  answers = are-append (seen_of v image) s.acted (bad End ∷ []) s.replies (replies.bad End ∷ []) s.answers (refl, tt);
  hidden = hidden;
  further = [];
  text = append_assoc output shown hidden ∙ ap (λ t. output ++ t) (sym cut) ∙ ap (λ t. t ++ text (replies.bad End)) (all-told (seen_of v image) input output still s told)
      ∙ ap (λ t. texts s.replies ++ t) (sym (append-nil (text (replies.bad End)))) ∙ sym (texts-append s.replies (replies.bad End ∷ [])) ∙ sym (append-nil (texts (s.replies ++ replies.bad End ∷ [])));
  ends = inr (refl, λ is. (refl, all is), λ b is. absurd (sound b is));
}

-- no byte is left unfinished
whole-ends : (v : StoreView) (image : Image) (input output : List ℕ) (still : Type 0) (s : SeesLines (seen_of v image) input output still) (status : Served) → rest_of input ≡ [] → s.others ≡ [] → s.further ≡ [] → ((b : ℕ) → status ≡ served.Damaged b → ⊥) → AnswersSeen (seen_of v image) status input (output ++ [])
whole-ends v image input output still s status none done told sound = record {
  acted = s.acted;
  others = [];
  order = append-nil s.acted ∙ all-answered (seen_of v image) input output still s done ∙ sym (append-nil (commands input)) ∙ ap (λ (rest : List ℕ). commands input ++ refused_rest rest) (sym none);
  replies = s.replies;
  answers = s.answers;
  hidden = [];
  further = [];
  text = append-nil (output ++ []) ∙ append-nil output ∙ all-told (seen_of v image) input output still s told ∙ sym (append-nil (texts s.replies));
  ends = inr (refl, λ is. (refl, refl), λ b is. absurd (sound b is));
}

none-of : (n : ℕ) → take {A = ℕ} n [] ≡ []
none-of zero = refl
none-of (suc n) = refl

finish-either : (v w : StoreView) (image : Image) (input output kept : List ℕ) (start now : told.State) (s : SeesLines (seen_of v image) input output (StaysBehind input kept v w start now)) (status : Served) (count : ℕ) (said : List ℕ) → said ≡ (with_end kept nothing_waits).pending_text
    → (status ≡ served.Done → drop count said ≡ []) → ((b : ℕ) → status ≡ served.Damaged b → ⊥) → (BeginsWithOk s.further × WritesNext s.others) ⊎ ((s.others ≡ []) × (s.further ≡ []) × StaysBehind input kept v w start now) → AnswersSeen (seen_of v image) status input (output ++ take count said)
finish-either v w image input output kept start now s status count said is all sound (inl written) =
    subst (λ (bytes : List ℕ). AnswersSeen (seen_of v image) status bytes (output ++ take count said)) (append-nil input) (ends-written (seen_of v image) input output (StaysBehind input kept v w start now) s status [] (take count said) written)
finish-either v w image input output [] start now s status count said is all sound (inr none) =
    let nothing : take count said ≡ [] = ap (take count) is ∙ none-of count in
    subst (λ (t : List ℕ). AnswersSeen (seen_of v image) status input (output ++ t)) (sym nothing)
    (whole-ends v image input output (StaysBehind input [] v w start now) s status (kept_of-nothing (rest_of input) (sym none.2.line)) none.0 none.1 sound)
finish-either v w image input output (b ∷ kept) start now s status count said is all sound (inr none) =
    let some : rest_of input ≡ [] → ⊥ = λ nil. let no : (b ∷ kept) ≡ [] = none.2.line ∙ ap kept_of nil ∙ kept_of-none in absurd (cc (no)) in
    done-ends v image input output (StaysBehind input (b ∷ kept) v w start now) s status (take count said) (drop count said) some none.0 none.1 (sym is ∙ sym (take-append-drop count said)) all sound

settled-end : (kept : List ℕ) (waiting : Waiting) → waiting ≡ all_settled (with_end kept nothing_waits) → waiting.settled_text ≡ (with_end kept nothing_waits).pending_text
settled-end [] waiting is = ap (λ (t : Waiting). t.settled_text) is
settled-end (b ∷ kept) waiting is = ap (λ (t : Waiting). t.settled_text) is

-- the rest is refused, and this much of the refusal was told
pub finish-ends : (v w : StoreView) (image : Image) (input output kept : List ℕ) (start now : told.State) (s : SeesLines (seen_of v image) input output (StaysBehind input kept v w start now)) (status : Served) (count : ℕ) (waiting : Waiting) → waiting ≡ all_settled (with_end kept nothing_waits)
    → (status ≡ served.Done → drop count waiting.settled_text ≡ []) → ((b : ℕ) → status ≡ served.Damaged b → ⊥) → AnswersSeen (seen_of v image) status input (output ++ take count waiting.settled_text)
finish-ends v w image input output kept start now s status count waiting is all sound = finish-either v w image input output kept start now s status count waiting.settled_text (settled-end kept waiting is) all sound s.ends

-- ---- call by call

-- nothing was answered yet
pub lines-none : (v : StoreView) (image : Image) (kept : List ℕ) (s : told.State) → kept ≡ [] → v.log.pending ≡ [] → SeesLines (seen_of v image) [] [] (StaysBehind [] kept v v s s)
lines-none v image kept s none idle = record {
  acted = [];
  others = [];
  order = refl;
  replies = [];
  answers = tt;
  further = [];
  text = refl;
  ends = inr (refl, refl, record { line = none ∙ sym kept_of-none; still = still-none v s idle });
}

pub more-none : (sight : Sight) (input output : List ℕ) (stands : List ℕ → Type 0) (still : Type 0) → SeesLines sight input output still → SeesMore sight input output stands stands still
more-none sight input output stands still s = record { added = []; gained = Gains-none stands; lines = subst (λ (t : List ℕ). SeesLines sight input t still) (sym (append-nil output)) s }

pub more-twice : (sight : Sight) (input input' output : List ℕ) (stands0 stands1 stands : List ℕ → Type 0) (still still' : Type 0) (m : SeesMore sight input output stands0 stands1 still) → SeesMore sight input' (output ++ m.added) stands1 stands still' → SeesMore sight input' output stands0 stands still'
more-twice sight input input' output stands0 stands1 stands still still' m n = record {
  added = m.added ++ n.added;
  gained = Gains-more stands0 stands1 stands m.added n.added m.gained n.gained;
  lines = subst (λ (t : List ℕ). SeesLines sight input' t still') (append_assoc output m.added n.added) n.lines;
}

pub ends-twice : (sight : Sight) (status : Served) (input input' output : List ℕ) (stands0 stands1 stands : List ℕ → Type 0) (still : Type 0) (m : SeesMore sight input output stands0 stands1 still) → EndsSeen sight status input' (output ++ m.added) stands1 stands → EndsSeen sight status input' output stands0 stands
ends-twice sight status input input' output stands0 stands1 stands still m n = record {
  added = m.added ++ n.added;
  gained = Gains-more stands0 stands1 stands m.added n.added m.gained n.gained;
  answers = subst (λ (t : List ℕ). AnswersSeen sight status input' t) (append_assoc output m.added n.added) n.answers;
}

-- serving ends between two calls
pub ends-still : (sight : Sight) (status : Served) (input output : List ℕ) (stands : List ℕ → Type 0) (still : Type 0) → SeesLines sight input output still → (status ≡ served.Done → ⊥) → ((b : ℕ) → status ≡ served.Damaged b → ⊥) → EndsSeen sight status input output stands stands
ends-still sight status input output stands still s other sound = record {
  added = [];
  gained = Gains-none stands;
  answers = subst (λ (bytes : List ℕ). AnswersSeen sight status bytes (output ++ [])) (append-nil input) (ends-cut sight input output still s status [] (output ++ []) [] (sym (append-nil (output ++ []) ∙ append-nil output)) other sound);
}

-- ---- from the beginning

-- what was taken so far, and how it was answered
abbrev pub SoFar : StoreView → Image → List ℕ → StoreView → Option (List ℕ) → Option (List ℕ) → (List ℕ → Type 0) → (List ℕ → Type 0) → told.State → told.State → Type 0
SoFar v image kept w left0 left stands0 stands start now = (taken : List ℕ) × Takes left0 left taken × SeesMore (seen_of v image) taken [] stands0 stands (StaysBehind taken kept v w start now)

pub served-none : (v : StoreView) (image : Image) (kept : List ℕ) (s : told.State) (left : Option (List ℕ)) (stands : List ℕ → Type 0) → kept ≡ [] → v.log.pending ≡ [] → SoFar v image kept v left left stands stands s s
served-none v image kept s left stands none idle = ([], Takes-none left, more-none (seen_of v image) [] [] stands (StaysBehind [] kept v v s s) (lines-none v image kept s none idle))

module _ (v : StoreView) (image : Image) (kept : List ℕ) (w : StoreView) (left0 left1 : Option (List ℕ)) (stands0 stands1 : List ℕ → Type 0) (start mid : told.State) (m : SoFar v image kept w left0 left1 stands0 stands1 start mid) where
  pub serves-more : (kept' : List ℕ) (x : StoreView) (left : Option (List ℕ)) (stands : List ℕ → Type 0) (new : told.State) → (taken : List ℕ) × Takes left1 left taken × SeesMore (seen_of v image) (m.0 ++ taken) m.2.added stands1 stands (StaysBehind (m.0 ++ taken) kept' v x start new) → SoFar v image kept' x left0 left stands0 stands start new
  serves-more kept' x left stands new n = (
    m.0 ++ n.0,
    Takes-more left0 left1 left m.0 n.0 m.1 n.1,
    more-twice (seen_of v image) m.0 (m.0 ++ n.0) [] stands0 stands1 stands (StaysBehind m.0 kept v w start mid) (StaysBehind (m.0 ++ n.0) kept' v x start new) m.2 n.2,
  )

  served-ends : (status : Served) (left : Option (List ℕ)) (stands : List ℕ → Type 0) (taken : List ℕ) → Takes left0 left taken → EndsSeen (seen_of v image) status taken [] stands0 stands → ServesSeen (seen_of v image) status left0 left stands0 stands
  served-ends status left stands taken takes e = record { taken = taken; takes = takes; shown = e.added; gained = e.gained; seen = e.answers }

  pub serves-last : (status : Served) (left : Option (List ℕ)) (stands : List ℕ → Type 0) → (taken : List ℕ) × Takes left1 left taken × EndsSeen (seen_of v image) status (m.0 ++ taken) m.2.added stands1 stands → ServesSeen (seen_of v image) status left0 left stands0 stands
  serves-last status left stands n = served-ends status left stands (m.0 ++ n.0) (Takes-more left0 left1 left m.0 n.0 m.1 n.1) (ends-twice (seen_of v image) status m.0 (m.0 ++ n.0) [] stands0 stands1 stands (StaysBehind m.0 kept v w start mid) m.2 n.2)

  pub serves-still : (status : Served) → (status ≡ served.Done → ⊥) → ((b : ℕ) → status ≡ served.Damaged b → ⊥) → ServesSeen (seen_of v image) status left0 left1 stands0 stands1
  serves-still status other sound = served-ends status left1 stands1 m.0 m.1 (ends-twice (seen_of v image) status m.0 m.0 [] stands0 stands1 stands1 (StaysBehind m.0 kept v w start mid) m.2 (ends-still (seen_of v image) status m.0 m.2.added stands1 (StaysBehind m.0 kept v w start mid) m.2.lines other sound))

-- nothing was served
nothing-seen : (sight : Sight) (status : Served) (left : Option (List ℕ)) (stands : List ℕ → Type 0) → (status ≡ served.Done → ⊥) → ((b : ℕ) → status ≡ served.Damaged b → ⊥) → ServesSeen sight status left left stands stands
nothing-seen sight status left stands other sound = record {
  taken = [];
  takes = Takes-none left;
  shown = [];
  gained = Gains-none stands;
  seen = record { acted = []; others = []; order = refl; replies = []; answers = tt; hidden = []; further = []; text = refl; ends = inr (refl, λ done. (refl, refl), λ b is. absurd (sound b is)) };
}

-- what opens does not stop
opens-on : (image : Image) (o : Opened) (b : ℕ) → open_image image ≡ Ok o → open_image image ≡ Err b → ⊥
opens-on image o b opens stops = let no : Ok o ≡ Err b = sym opens ∙ stops in cc (no)

pub unopened-sees : (fault : OpenFault) (status : Served) (image : Image) (opened : Opened) (left : Option (List ℕ)) (stands : List ℕ → Type 0) → status ≡ unopened_of fault → open_image image ≡ Ok opened → ((b : ℕ) → fault ≡ opens.Damaged b → open_image image ≡ Err b) → ServesSeen (seen_on opened image) status left left stands stands
unopened-sees opens.Device status image opened left stands is good stops = nothing-seen (seen_on opened image) status left stands (λ e. absurd (cc (is, e))) (λ b e. absurd (cc (is, e)))
unopened-sees (opens.Damaged block) status image opened left stands is good stops = absurd (opens-on image opened block good (stops block refl))
unopened-sees opens.NoMemory status image opened left stands is good stops = nothing-seen (seen_on opened image) status left stands (λ e. absurd (cc (is, e))) (λ b e. absurd (cc (is, e)))

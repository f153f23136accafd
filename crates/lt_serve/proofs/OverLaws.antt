-- Serving is over.
use Rattle.std.proofs.Common.{◌≡◌, ℕ, ◌+◌, ◌≤◌, refl, sym, ap, subst, ◌∙◌, List, [], ◌∷◌, ◌++◌, length, take, drop, length-append, append_assoc, append-nil, take-append-drop, arith}
use Rattle.std.proofs.lemmas.List.{length-map, take-append-le}
use Rattle.std.proofs.Math.Seq.{take-length, take-append-add}
use Rattle.lt_terms.specs.Bytes.{Image}
use Rattle.lt_terms.specs.Items.{Item}
use Rattle.lt_device.specs.Moments.{Leaves, MayLeave}
use Rattle.lt_device.specs.State as told
use Rattle.lt_device.proofs.Runs.{joins, weakens}
use Rattle.lt_image.specs.Standing.{IsPrefix, after_writes}
use Rattle.lt_image.proofs.KeptLaws.{no_writes, writes-joined}
use Rattle.lt_image.proofs.PrefixLaws.{prefix-whole, prefix-fewer, prefix-longer, prefix-later}
use Rattle.lt_language.specs.declared.Bad.TheVariants.{End}
use Rattle.lt_language.specs.Commands.{bad, command_of, commands, refused_rest, lines_of, rest_of}
use Rattle.lt_language.specs.Machine.{State}
use Rattle.lt_language.specs.Replies as replies
use Rattle.lt_language.specs.Replies.{Reply, text, texts}
use Rattle.lt_language.proofs.LineLaws.{split_lines-append}
use Rattle.lt_store.specs.Open.{StoreView, IsOpen}
use Rattle.lt_store.specs.Promise.{AtRest}
use Rattle.lt_store.proofs.GoLaws.{open-rests}
use Rattle.lt_serve.specs.declared.served.Served.{Served}
use Rattle.lt_serve.specs.declared.served.Served.TheVariants as served
use Rattle.lt_serve.specs.Promise.{IsPause, IsInnerHalt, Moment, Runs, acknowledged, ShowsFirst, ServingEnded}
use Rattle.lt_serve.specs.Serving.{ServedSoFar}
use Rattle.lt_serve.proofs.CountLaws.{counts-bad}
use Rattle.lt_serve.proofs.RunLaws.{runs-more, runs-length, runs-counts, texts-append}
use Rattle.lt_serve.proofs.ShownLaws.{acknowledged-append}

-- each image has first writes of some, and then of those and more
pub since-more : (s : State) (first rest : List Item) (start mid new : told.State) → Leaves (λ left. IsPrefix left s first 0) start mid → Leaves (λ left. IsPrefix left (after_writes s first) rest 0) mid new → Leaves (λ left. IsPrefix left s (first ++ rest) 0) start new
since-more s first rest start mid new earlier later =
    joins later (weakens earlier (λ left p. prefix-longer left s first rest 0 p))
    (λ left p. prefix-fewer left s (first ++ rest) 0 (length first + 0) (omega arith) (prefix-later left s first rest 0 p))

-- an open store's device may leave only images that have all writes
pub open-has : (w : StoreView) (s : State) (writes : List Item) (count : ℕ) (now : told.State) → IsOpen w (after_writes s writes) now → count ≤ length writes → (left : Image) → MayLeave now left → IsPrefix left s writes count
open-has w s writes count now opened le left may = prefix-fewer left s writes count (length writes) le (prefix-whole left s writes (opened.rest.each left may))

-- at rest with all writes is at rest with the first so many
pub rests-whole : (s : State) (writes : List Item) (now : told.State) → AtRest (after_writes s writes) now → (sure : ℕ) × AtRest (after_writes s (take sure writes)) now
rests-whole s writes now rests = (length writes, subst (λ (ws : List Item). AtRest (after_writes s ws) now) (sym (take-length writes)) rests)

-- at rest with the first of some writes, behind those before them
pub rests-later : (s : State) (first rest : List Item) (now : told.State) → (sure : ℕ) × AtRest (after_writes (after_writes s first) (take sure rest)) now → (sure : ℕ) × AtRest (after_writes s (take sure (first ++ rest))) now
rests-later s first rest now r =
    let joined : after_writes (after_writes s first) (take r.0 rest) ≡ after_writes s (first ++ take r.0 rest) = writes-joined s first (take r.0 rest) in
    (length first + r.0, subst (λ (t : State). AtRest t now) (joined ∙ ap (after_writes s) (sym (take-append-add first rest r.0))) r.1)

-- the text of the first replies stands in front
texts-split : (n : ℕ) (rs : List Reply) → texts rs ≡ texts (take n rs) ++ texts (drop n rs)
texts-split n rs = ap texts (sym (take-append-drop n rs)) ∙ texts-append (take n rs) (drop n rs)

-- the first replies are shown
pub shows : (n : ℕ) (rs hs : List Reply) (output further : List ℕ) → n ≤ length rs → output ≡ texts rs ++ further → ShowsFirst n (rs ++ hs) output
shows n rs hs output further le is = record {
  many = omega (arith, length-append rs hs);
  further = texts (drop n rs) ++ further;
  whole = is ∙ ap (λ xs. xs ++ further) (texts-split n rs) ∙ append_assoc (texts (take n rs)) (texts (drop n rs)) further ∙ ap (λ xs. texts xs ++ (texts (drop n rs) ++ further)) (sym (take-append-le n rs hs le));
}

-- more bytes have no fewer lines
lines-front : (front behind : List ℕ) → length (lines_of front) ≤ length (lines_of (front ++ behind))
lines-front front behind =
    let e : length (lines_of (front ++ behind)) ≡ length (lines_of front) + length (lines_of (rest_of front ++ behind)) = ap (λ (p : List (List ℕ) × List ℕ). length p.0) (split_lines-append front behind) ∙ length-append (lines_of front) (lines_of (rest_of front ++ behind)) in
    omega arith

-- a reply to each line
pub lines-answered : (e : ℕ) (s : State) (input : List ℕ) (rs : List Reply) (writes : List Item) → Runs e s (commands input) rs writes → (front behind : List ℕ) → input ≡ front ++ behind → length (lines_of front) ≤ length rs
lines-answered e s input rs writes runs front behind is =
    let n = runs-length e s (commands input) rs writes runs in
    let m = length-map (lines_of input) command_of in
    let l = lines-front front behind in
    let k : length (lines_of input) ≡ length (lines_of (front ++ behind)) = ap (λ (xs : List ℕ). length (lines_of xs)) is in
    omega arith

-- a line is refused, and nothing is written
runs-refused : (e : ℕ) (s : State) → Runs e s (bad End ∷ []) (replies.bad End ∷ []) []
runs-refused e s = record { run = (s, (refl, refl), no_writes s); taken_are = refl }

-- bytes after the last line feed are refused
pub refused-some : (rest : List ℕ) → (rest ≡ [] → ⊥) → refused_rest rest ≡ bad End ∷ []
refused-some [] some = absurd (some refl)
refused-some (b ∷ rest) some = refl

module _ (e : ℕ) (before : State) (input output kept : List ℕ) (w : StoreView) (start now : Moment) (r : ServedSoFar e before input output kept w start now) where
  -- every reply that is acknowledged tells of a durable write
  reached-sure : acknowledged r.replies (length output) ≤ length r.writes
  reached-sure =
      let a = acknowledged-append r.replies [] (length output) (omega (arith, ap length r.text)) in
      let b = runs-counts e before (commands input) r.replies r.writes r.runs in
      let c : acknowledged (r.replies ++ []) (length output) ≡ acknowledged r.replies (length output) = ap (λ (rs : List Reply). acknowledged rs (length output)) (append-nil r.replies) in
      omega arith

  -- the replies to all lines are shown
  reached-far : (front behind : List ℕ) → input ≡ front ++ behind → 4096 ≤ length behind → ShowsFirst (length (lines_of front)) r.replies output
  reached-far front behind is long = subst (λ (rs : List Reply). ShowsFirst (length (lines_of front)) rs output) (append-nil r.replies)
      (shows (length (lines_of front)) r.replies [] output [] (lines-answered e before input r.replies r.writes r.runs front behind is) (r.text ∙ sym (append-nil (texts r.replies))))

  -- the device is at rest with all writes
  pub reached-rests : AtRest (after_writes before r.writes) now.state
  reached-rests = open-rests w (after_writes before r.writes) now.state r.opened

  -- between two lines
  pub over-paused : (status : Served) (faults0 faults : ℕ) → (status ≡ served.Done → ⊥) → ServingEnded e before status input output faults0 faults start now
  over-paused status faults0 faults other = record {
    acted = commands input;
    others = refused_rest (rest_of input);
    order = refl;
    replies = r.replies;
    writes = r.writes;
    runs = r.runs;
    hidden = [];
    text = sym r.text ∙ sym (append-nil output);
    all = λ done. absurd (other done);
    paused = λ pause. (refl, refl);
    far = reached-far;
    whole = λ inner still. record { shown = r.replies; hidden = []; order = sym (append-nil r.replies); text = r.text; first = tt };
    since = r.since;
    at_exit = open-has w before r.writes (acknowledged r.replies (length output)) now.state r.opened reached-sure;
    rests = λ short. rests-whole before r.writes now.state reached-rests;
    rests_all = λ settled. reached-rests;
    quiet = λ settled. r.quiet;
    counts = r.counts;
  }

  -- at the end of input, where no byte is left unfinished
  pub over-done : (faults0 faults : ℕ) → rest_of input ≡ [] → ServingEnded e before served.Done input output faults0 faults start now
  over-done faults0 faults none = record {
    acted = commands input;
    others = [];
    order = ap (λ (rest : List ℕ). commands input ++ refused_rest rest) (sym none);
    replies = r.replies;
    writes = r.writes;
    runs = r.runs;
    hidden = [];
    text = sym r.text ∙ sym (append-nil output);
    all = λ done. (refl, refl);
    paused = λ pause. absurd pause;
    far = reached-far;
    whole = λ inner. absurd inner;
    since = r.since;
    at_exit = open-has w before r.writes (acknowledged r.replies (length output)) now.state r.opened reached-sure;
    rests = λ short. rests-whole before r.writes now.state reached-rests;
    rests_all = λ settled. reached-rests;
    quiet = λ settled. r.quiet;
    counts = r.counts;
  }

  -- at the end of input, where the rest was refused, and this much of the refusal is shown
  pub over-rest : (status : Served) (faults0 faults : ℕ) (added behind : List ℕ) → (rest_of input ≡ [] → ⊥) → text (replies.bad End) ≡ added ++ behind → (status ≡ served.Done → behind ≡ []) → (IsPause status → ⊥) → (IsInnerHalt status → ⊥) → ServingEnded e before status input (output ++ added) faults0 faults start now
  over-rest status faults0 faults added behind some said all pause inner =
      let last : List Reply = replies.bad End ∷ [] in
      let whole : texts (r.replies ++ last) ≡ (output ++ added) ++ behind = texts-append r.replies last ∙ ap (λ xs. xs ++ texts last) (sym r.text) ∙ ap (λ xs. output ++ xs) (append-nil (text (replies.bad End)) ∙ said) ∙ sym (append_assoc output added behind) in
      let runs : Runs e before (commands input ++ bad End ∷ []) (r.replies ++ last) r.writes = subst (λ (ws : List Item). Runs e before (commands input ++ bad End ∷ []) (r.replies ++ last) ws) (append-nil r.writes)
      (runs-more e before (commands input) (bad End ∷ []) r.replies last r.writes [] r.runs (runs-refused e (after_writes before r.writes))) in
      record {
        acted = commands input ++ bad End ∷ [];
        others = [];
        order = append-nil (commands input ++ bad End ∷ []) ∙ ap (λ cs. commands input ++ cs) (sym (refused-some (rest_of input) some));
        replies = r.replies ++ last;
        writes = r.writes;
        runs = runs;
        hidden = behind;
        text = whole;
        all = λ done. (refl, all done);
        paused = λ p. absurd (pause p);
        far = λ front later is long. shows (length (lines_of front)) r.replies last (output ++ added) added (lines-answered e before input r.replies r.writes r.runs front later is) (ap (λ xs. xs ++ added) r.text);
        whole = λ i. absurd (inner i);
        since = r.since;
        at_exit = open-has w before r.writes (acknowledged (r.replies ++ last) (length (output ++ added))) now.state r.opened
            (let a = acknowledged-append (r.replies ++ last) [] (length (output ++ added)) (omega (arith, ap length whole, length-append (output ++ added) behind)) in
            let b = runs-counts e before (commands input ++ bad End ∷ []) (r.replies ++ last) r.writes runs in
            let c : acknowledged ((r.replies ++ last) ++ []) (length (output ++ added)) ≡ acknowledged (r.replies ++ last) (length (output ++ added)) = ap (λ (rs : List Reply). acknowledged rs (length (output ++ added))) (append-nil (r.replies ++ last)) in
            omega arith);
        rests = λ short. rests-whole before r.writes now.state reached-rests;
        rests_all = λ settled. reached-rests;
        quiet = λ settled. r.quiet;
        counts = counts-bad before r.replies End r.writes start now r.counts;
      }

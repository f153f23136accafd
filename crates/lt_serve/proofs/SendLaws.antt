-- Giving settled text to a sink, call by call.
use Rattle.std.proofs.Common.{◌≡◌, ℕ, ◌+◌, ◌-◌, ◌≤◌, sym, ap, subst, ◌∙◌, List, [], ◌++◌, length, take, drop, length-drop, take-add, arith}
use Rattle.std.proofs.lemmas.List.{drop-drop}
use Rattle.lt_io.specs.Streams.{Gains}
use Rattle.lt_io.proofs.Flows.{Gains-none, Gains-more}
use Rattle.lt_line.specs.Waiting.{Waiting, without_front}
use Rattle.lt_serve.specs.Sending.{Sends}
use Rattle.lt_serve.specs.Promise.{GainsSome}

pub sends-none : (stands : List ℕ → Type 0) (waiting : Waiting) → Sends 0 stands stands waiting waiting
sends-none stands waiting = record {
  within = omega arith;
  gained = Gains-none stands;
  dropped = let room : waiting.room ≡ waiting.room + 0 = omega arith in ap (λ n. record { settled_text = waiting.settled_text; pending_text = waiting.pending_text; room = n }) room;
}

-- the sink took n bytes more, and these were dropped
pub sends-more : (count n : ℕ) (stands0 stands1 stands : List ℕ → Type 0) (waiting0 waiting1 waiting : Waiting) → Sends count stands0 stands1 waiting0 waiting1 → n ≤ length waiting1.settled_text → Gains stands1 stands (take n waiting1.settled_text) → waiting ≡ without_front n waiting1 → Sends (count + n) stands0 stands waiting0 waiting
sends-more count n stands0 stands1 stands waiting0 waiting1 waiting so_far fits gained dropped =
    let left : waiting1.settled_text ≡ drop count waiting0.settled_text = ap (λ (w : Waiting). w.settled_text) so_far.dropped in
    let rest : length waiting1.settled_text ≡ length waiting0.settled_text - count = ap length left ∙ length-drop count waiting0.settled_text in
    let within : count ≤ length waiting0.settled_text = so_far.within in
    let text : drop n (drop count waiting0.settled_text) ≡ drop (count + n) waiting0.settled_text = drop-drop n count waiting0.settled_text in
    let room : (waiting0.room + count) + n ≡ waiting0.room + (count + n) = omega arith in
    record {
      within = omega arith;
      gained = subst (λ (xs : List ℕ). Gains stands0 stands xs) (ap (λ xs. take count waiting0.settled_text ++ take n xs) left ∙ sym (take-add count n waiting0.settled_text)) (Gains-more stands0 stands1 stands (take count waiting0.settled_text) (take n waiting1.settled_text) so_far.gained gained);
      dropped = dropped ∙ ap (without_front n) so_far.dropped ∙ (λ i. record { settled_text = text i; pending_text = waiting0.pending_text; room = room i });
    }

-- the sink took nothing, and then more
pub gains_some-none : (stands : List ℕ → Type 0) → GainsSome stands stands
gains_some-none stands = record { shown = []; gained = Gains-none stands }

pub gains_some-more : (stands0 stands1 stands : List ℕ → Type 0) → GainsSome stands0 stands1 → GainsSome stands1 stands → GainsSome stands0 stands
gains_some-more stands0 stands1 stands first then = record { shown = first.shown ++ then.shown; gained = Gains-more stands0 stands1 stands first.shown then.shown first.gained then.gained }

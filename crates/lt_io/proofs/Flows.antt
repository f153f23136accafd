-- What a source hands out, and what a sink gains, over several calls.
use Rattle.std.proofs.Common.{◌≡◌, ℕ, ◌+◌, ◌-◌, ◌<◌, arith, refl, sym, ap, ◌∙◌, List, [], ◌++◌, length, take, drop, Option, Some, None, append_assoc}
use Rattle.std.proofs.lemmas.List.{take_rest, append-nil, take-append-drop, length-drop}
use Rattle.std.proofs.Math.Seq.{take-add}
use Rattle.lt_io.specs.Streams.{Takes, Gains, GainsFront, GainsPart}

pub Takes-none : (left : Option (List ℕ)) → Takes left left []
Takes-none (Some left) = record { front = refl }
Takes-none None = record { front = tt }

pub Takes-more : (before between after : Option (List ℕ)) (xs ys : List ℕ) → Takes before between xs → Takes between after ys → Takes before after (xs ++ ys)
Takes-more (Some before) (Some between) (Some after) xs ys first then =
    record { front = first.front ∙ ap (λ bytes. xs ++ bytes) then.front ∙ sym (append_assoc xs ys after) }
Takes-more (Some before) (Some between) None xs ys first then = absurd then.front
Takes-more (Some before) None after xs ys first then = absurd first.front
Takes-more None (Some between) after xs ys first then = absurd first.front
Takes-more None None (Some after) xs ys first then = absurd then.front
Takes-more None None None xs ys first then = record { front = tt }

pub Gains-none : (stands : List ℕ → Type 0) → Gains stands stands []
Gains-none stands = record { each = λ taken t. rw append-nil t }

pub Gains-more : (old between new : List ℕ → Type 0) (xs ys : List ℕ) → Gains old between xs → Gains between new ys → Gains old new (xs ++ ys)
Gains-more old between new xs ys first then =
    record { each = λ taken t. rw append_assoc at (then.each (taken ++ xs) (first.each taken t)) }

-- all of the bytes are a front of them and more
pub GainsFront-all : (old new : List ℕ → Type 0) (xs ys : List ℕ) → Gains old new xs → GainsFront old new (xs ++ ys)
GainsFront-all old new xs ys gained = record { shown = xs; hidden = ys; whole = refl; gained = gained }

-- a front of what came after all of the first bytes
pub GainsFront-more : (old between new : List ℕ → Type 0) (xs ys : List ℕ) → Gains old between xs → GainsFront between new ys → GainsFront old new (xs ++ ys)
GainsFront-more old between new xs ys first then =
    record {
      shown = xs ++ then.shown;
      hidden = then.hidden;
      whole = ap (λ bytes. xs ++ bytes) then.whole ∙ sym (append_assoc xs then.shown then.hidden);
      gained = Gains-more old between new xs then.shown first then.gained;
    }

-- a front of the first bytes is one of all
pub GainsFront-longer : (old new : List ℕ → Type 0) (xs ys : List ℕ) → GainsFront old new xs → GainsFront old new (xs ++ ys)
GainsFront-longer old new xs ys front =
    record {
      shown = front.shown;
      hidden = front.hidden ++ ys;
      whole = ap (λ bytes. bytes ++ ys) front.whole ∙ append_assoc front.shown front.hidden ys;
      gained = front.gained;
    }

-- a write took n more of the bytes
pub Gains-written : (old between new : List ℕ → Type 0) (bytes : List ℕ) (written n : ℕ) → Gains old between (take written bytes) → Gains between new (take n (take (length bytes - written) (drop written bytes))) → Gains old new (take (written + n) bytes)
Gains-written old between new bytes written n first then =
    rw take-add (Gains-more old between new (take written bytes) (take n (drop written bytes)) first (rw take_rest at then))

-- a write failed behind a front of the bytes, where more were left
pub GainsPart-stopped : (old between new : List ℕ → Type 0) (bytes : List ℕ) (written : ℕ) → written < length bytes → Gains old between (take written bytes) → Gains between new [] → GainsPart old new bytes
GainsPart-stopped old between new bytes written within first then =
    record {
      front = record {
        shown = take written bytes;
        hidden = drop written bytes;
        whole = sym (take-append-drop written bytes);
        gained = rw append-nil at (Gains-more old between new (take written bytes) [] first then);
      };
      some = let rest : length (drop written bytes) ≡ length bytes - written = length-drop written bytes in omega arith;
    }

pub GainsPart-front : (old new : List ℕ → Type 0) (bytes : List ℕ) → GainsPart old new bytes → GainsFront old new bytes
GainsPart-front old new bytes part = part.front

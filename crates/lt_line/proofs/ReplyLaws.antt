-- What becomes of the text that waits when its bytes change.
use Rattle.std.proofs.Common.{◌≡◌, ℕ, ◌+◌, ◌-◌, ◌≤◌, List, ◌++◌, length, take, drop, refl, sym, ap, ◌∙◌, arith, length-drop}
use Rattle.std.proofs.lemmas.List.{drop-drop, drop-take, drop_all, take_all, take_rest, take-append-drop, length-take-le}
use Rattle.std.proofs.Math.Seq.{drop-length}
use Rattle.lt_line.specs.Waiting.{Waiting, waiting_at, all_settled, without_front, settled_alone, reply_room}

abbrev of : List ℕ → List ℕ → ℕ → Waiting
of settled pending room = record { settled_text = settled; pending_text = pending; room = room }

same : (a b p q : List ℕ) (m n : ℕ) → a ≡ b → p ≡ q → m ≡ n → of a p m ≡ of b q n
same a b p q m n e f g = ap (λ x. of x p m) e ∙ ap (λ x. of b x m) f ∙ ap (λ x. of b q x) g

-- what is not settled, from the front of the text
pending-drop : (bytes : List ℕ) (start settled : ℕ) → start ≤ settled → drop (settled - start) (drop start bytes) ≡ drop settled bytes
pending-drop bytes start settled le =
    let sum : start + (settled - start) ≡ settled = omega arith in
    drop-drop (settled - start) start bytes ∙ ap (λ n. drop n bytes) sum

pub waiting-settled : (bytes : List ℕ) (start settled : ℕ) → start ≤ settled → settled ≤ length bytes → waiting_at bytes start (length bytes) ≡ all_settled (waiting_at bytes start settled)
waiting-settled bytes start settled le within = same _ _ _ _ _ _
    (take_rest bytes start
    ∙ sym (take-append-drop (settled - start) (drop start bytes))
    ∙ ap (λ rest. take (settled - start) (drop start bytes) ++ rest) (pending-drop bytes start settled le))
    (drop-length bytes)
    refl

pub waiting-front : (bytes : List ℕ) (start settled n : ℕ) → start + n ≤ settled → settled ≤ length bytes → length bytes ≤ reply_room → waiting_at bytes (start + n) settled ≡ without_front n (waiting_at bytes start settled)
waiting-front bytes start settled n le within few =
    let sum : n + (settled - (start + n)) ≡ settled - start = omega arith in
    let room : reply_room - (length bytes - (start + n)) ≡ reply_room - (length bytes - start) + n = omega arith in
    same _ _ _ _ _ _
    (ap (λ xs. take (settled - (start + n)) xs) (sym (drop-drop n start bytes))
    ∙ sym (drop-take n (settled - (start + n)) (drop start bytes))
    ∙ ap (λ m. drop n (take m (drop start bytes))) sum)
    refl
    room

pub waiting-unsettled : (bytes : List ℕ) (start settled : ℕ) → start ≤ settled → settled ≤ length bytes → length bytes ≤ reply_room → waiting_at (take settled bytes) start settled ≡ settled_alone (waiting_at bytes start settled)
waiting-unsettled bytes start settled le within few =
    let sum : start + (settled - start) ≡ settled = omega arith in
    let len = length-take-le settled bytes within in
    let rest = length-drop settled bytes in
    let middle = length-drop start bytes in
    let short = length-take-le (settled - start) (drop start bytes) (omega arith) in
    let room : reply_room - (length (take settled bytes) - start) ≡ reply_room - (length bytes - start) + length (drop settled bytes) = omega arith in
    same _ _ _ _ _ _
    (ap (λ m. take (settled - start) (drop start (take m bytes))) (sym sum)
    ∙ ap (λ xs. take (settled - start) xs) (drop-take start (settled - start) bytes)
    ∙ take_all (settled - start) (take (settled - start) (drop start bytes)) (omega arith))
    (drop_all settled (take settled bytes) (omega arith))
    room

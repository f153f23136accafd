-- An item that is written into bytes, and read again.
use Rattle.std.proofs.Common.{◌≡◌, ℕ, ◌+◌, ◌≤◌, sym, ap, ◌∙◌, List, ◌++◌, length, take, drop, arith, append_assoc, add_assoc}
use Rattle.std.proofs.lemmas.List.{length-append, length-take-le, take_at, drop_at, drop-drop}
use Rattle.std.proofs.Math.Seq.{drop-append-add}
use Rattle.std.specs.Prelude.{Some, IsTrue}
use Rattle.lt_terms.specs.Items.{Item, is_valid, item_cost, spelling, front_item}
use Rattle.lt_item.specs.Views.{header_of, item_written, WritesInParts}
use Rattle.lt_terms.proofs.ItemLaws.{front_item-spelling}
use Rattle.lt_terms.proofs.SpellingLaws.{length-spelling}
use Rattle.lt_terms.specs.Bytes.{filled}

pub drop-filled : (old : List ℕ) (at : ℕ) (bytes : List ℕ) → at ≤ length old → drop at (filled old at bytes) ≡ bytes ++ drop (at + length bytes) old
drop-filled old at bytes within =
    ap (drop at) (append_assoc (take at old) bytes (drop (at + length bytes) old))
    ∙ drop_at (take at old) (bytes ++ drop (at + length bytes) old) at (length-take-le at old within)

-- bytes behind bytes are written as one
pub filled-filled : (old : List ℕ) (at : ℕ) (xs ys : List ℕ) → at ≤ length old → filled (filled old at xs) (at + length xs) ys ≡ filled old at (xs ++ ys)
filled-filled old at xs ys within =
    let front : List ℕ = take at old ++ xs in
    let rest : List ℕ = drop (at + length xs) old in
    let front_len : length front ≡ at + length xs = length-append (take at old) xs ∙ ap (λ n. n + length xs) (length-take-le at old within) in
    let kept : take (at + length xs) (front ++ rest) ≡ front = take_at front rest (at + length xs) front_len in
    let past : drop (at + length xs + length ys) (front ++ rest) ≡ drop (length ys) rest = ap (λ n. drop (n + length ys) (front ++ rest)) (sym front_len) ∙ drop-append-add front rest (length ys) in
    let more : drop (length ys) rest ≡ drop (at + length (xs ++ ys)) old = drop-drop (length ys) (at + length xs) old ∙ ap (λ n. drop n old) (add_assoc at (length xs) (length ys) ∙ ap (λ n. at + n) (sym (length-append xs ys))) in
    ap (λ kept. kept ++ ys ++ drop (at + length xs + length ys) (front ++ rest)) kept
    ∙ ap (λ rest. front ++ ys ++ rest) (past ∙ more)
    ∙ ap (λ front. front ++ drop (at + length (xs ++ ys)) old) (append_assoc (take at old) xs ys)

-- the header, the key and the value, one behind the other
pub filled-item : (item : Item) (old : List ℕ) (at : ℕ) → WritesInParts item old at
filled-item item old at within =
    let header : List ℕ = header_of item in
    let behind : at + 4 + length item.key ≡ at + length (header ++ item.key) = omega arith in
    ap (λ one. filled one (at + 4 + length item.key) item.value) (filled-filled old at header item.key within)
    ∙ ap (λ q. filled (filled old at (header ++ item.key)) q item.value) behind
    ∙ filled-filled old at (header ++ item.key) item.value within
    ∙ ap (λ n. take at old ++ spelling item ++ drop (at + n) old) (length-spelling item)

-- the same, where each part was put by a call
pub put_in_parts : (item : Item) (old one two new header : List ℕ) (at p q : ℕ) → at ≤ length old → header ≡ header_of item
    → one ≡ filled old at header → p ≡ at + length header → two ≡ filled one p item.key → q ≡ p + length item.key → new ≡ filled two q item.value
    → new ≡ item_written old at item
put_in_parts item old one two new header at p q within header_is one_is p_is two_is q_is new_is =
    new_is
    ∙ ap (λ q. filled two q item.value) q_is
    ∙ ap (λ two. filled two (p + length item.key) item.value) two_is
    ∙ ap (λ p. filled (filled one p item.key) (p + length item.key) item.value) p_is
    ∙ ap (λ one. filled (filled one (at + length header) item.key) (at + length header + length item.key) item.value) one_is
    ∙ ap (λ header. filled (filled (filled old at header) (at + length header) item.key) (at + length header + length item.key) item.value) header_is
    ∙ filled-item item old at within

-- what was written is read again
pub written-read : (item : Item) (old new : List ℕ) (at : ℕ) → at ≤ length old → IsTrue (is_valid item) → new ≡ item_written old at item → front_item (drop at new) ≡ Some (item, drop (at + item_cost item) old)
written-read item old new at within valid written =
    ap (λ new. front_item (drop at new)) (written ∙ ap (λ n. take at old ++ spelling item ++ drop (at + n) old) (sym (length-spelling item)))
    ∙ ap front_item (drop-filled old at (spelling item) within)
    ∙ front_item-spelling item (drop (at + length (spelling item)) old) valid
    ∙ ap (λ n. Some (item, drop (at + n) old)) (length-spelling item)

-- The pages of a run of bytes.
use Rattle.std.proofs.Common.{◌≡◌, ⊎_elim, ℕ, ◌+◌, ◌-◌, ◌*◌, ◌<◌, ◌≤◌, refl, sym, ap, ◌∙◌, min, List, [], length, take, drop, arith}
use Rattle.std.proofs.lemmas.Bool.{cases_lt}
use Rattle.std.proofs.lemmas.List.{take_all, length-take, length-drop}
use Rattle.lt_terms.specs.Bytes.{block_of, zero_block, filled}
use Rattle.lt_layout.proofs.FillLaws.{filled-block_of}
use Rattle.lt_manifest.specs.Written.{page_of}

part-same : (bytes : List ℕ) (start end more : ℕ) → end ≡ min (length bytes) (start + 4096) → more ≡ 4096 → take (end - start) (drop start bytes) ≡ take more (drop start bytes)
part-same bytes start end more ends is = ⊎_elim
    (λ (short : length bytes < start + 4096).
    let rest = length-drop start bytes in
    take_all (end - start) (drop start bytes) (omega arith) ∙ sym (take_all more (drop start bytes) (omega arith)))
    (λ (long : start + 4096 ≤ length bytes). ap (λ n. take n (drop start bytes)) (omega arith))
    (cases_lt (length bytes) (start + 4096))

-- a page that is filled with the bytes of its number
pub page-filled : (bytes clear page part : List ℕ) (k end : ℕ) → clear ≡ zero_block → end ≡ min (length bytes) (4096 * k + 4096) → part ≡ take (end - 4096 * k) (drop (4096 * k) bytes) → page ≡ filled clear 0 part → page ≡ page_of bytes k
page-filled bytes clear page part k end zeros ends part_is is =
    let same : take (end - 4096 * k) (drop (4096 * k) bytes) ≡ take (4096 * (k + 1) - 4096 * k) (drop (4096 * k) bytes) = part-same bytes (4096 * k) end (4096 * (k + 1) - 4096 * k) ends (omega arith) in
    let small : length part ≤ 4096 = omega (arith, ap length part_is, length-take (end - 4096 * k) (drop (4096 * k) bytes)) in
    is ∙ ap (λ (p : List ℕ). filled p 0 part) zeros ∙ filled-block_of [] part 0 refl (omega arith) ∙ ap block_of (part_is ∙ same)

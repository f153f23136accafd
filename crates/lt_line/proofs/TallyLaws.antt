-- How the counts of a tally go on with a byte.
use Rattle.std.proofs.Common.{◌≡◌, ℕ, ◌+◌, ◌-◌, refl, sym, ap, ◌∙◌, List, [], ◌∷◌, ◌++◌, length, take, Bool, true, false, cond, append-nil, arith, length-append}
use Rattle.std.specs.Prelude.{min}
use Rattle.std.specs.List.{count_by, sum_by}
use Rattle.std.proofs.lemmas.List.Sums.{sum_by_push}
use Rattle.std.proofs.lemmas.Bool.{ne_eqb}
use Rattle.lt_terms.specs.Causes.{last_count}
use Rattle.lt_language.specs.Commands.{line_feed, lines_of, rest_of}
use Rattle.lt_language.specs.Counts.{Counts, capped, counts_of, counts_of_lines, is_ok, is_refused, is_value, is_none, shown_bytes}
use Rattle.lt_language.proofs.LineLaws.{split_lines-ended, split_lines-unbroken}
use Rattle.lt_io.specs.Streams.{Gains}
use Rattle.lt_line.specs.Tally.{IsTallyOf, counted, with_line, with_more}

-- the kind of a line is told by its first six bytes
kinds : (line : List ℕ) → (is_ok (take 6 line) ≡ is_ok line) × (is_refused (take 6 line) ≡ is_refused line) × (is_value (take 6 line) ≡ is_value line) × (is_none (take 6 line) ≡ is_none line)
unfolding is_ok is_refused is_value is_none
kinds [] = (refl, refl, refl, refl)
kinds (a ∷ []) = (refl, refl, refl, refl)
kinds (a ∷ b ∷ []) = (refl, refl, refl, refl)
kinds (a ∷ b ∷ c ∷ []) = (refl, refl, refl, refl)
kinds (a ∷ b ∷ c ∷ d ∷ []) = (refl, refl, refl, refl)
kinds (a ∷ b ∷ c ∷ d ∷ e ∷ []) = (refl, refl, refl, refl)
kinds (a ∷ b ∷ c ∷ d ∷ e ∷ f ∷ more) = (refl, refl, refl, refl)

min_twice : (n x m : ℕ) → min (min n m + x) m ≡ min (n + x) m
min_twice n x m = omega arith

min_both : (n x m : ℕ) → min (min n m + min x m) m ≡ min (n + x) m
min_both n x m = omega arith

line_counted : (test : List ℕ → Bool) (lines : List (List ℕ)) (line : List ℕ) → counted (capped (count_by test lines)) (test line) ≡ capped (count_by test (lines ++ line ∷ []))
line_counted test lines line = min_twice (count_by test lines) (cond (test line) 1 0) last_count ∙ ap capped (sym (sum_by_push (λ x. cond (test x) 1 0) lines line))

front_counted : (test : List ℕ → Bool) (lines : List (List ℕ)) (line : List ℕ) → test (take 6 line) ≡ test line → counted (capped (count_by test lines)) (test (take 6 line)) ≡ capped (count_by test (lines ++ line ∷ []))
front_counted test lines line same = ap (λ b. counted (capped (count_by test lines)) b) same ∙ line_counted test lines line

shown : (b : Bool) (n x : ℕ) → capped (capped n + cond b (capped x) 0) ≡ capped (n + cond b x 0)
shown true n x = min_both n x last_count
shown false n x = min_twice n 0 last_count

bytes_counted : (lines : List (List ℕ)) (line : List ℕ) → is_value (take 6 line) ≡ is_value line
    → capped (capped (sum_by shown_bytes lines) + cond (is_value (take 6 line)) (capped (length line - 6)) 0) ≡ capped (sum_by shown_bytes (lines ++ line ∷ []))
bytes_counted lines line same =
    ap (λ b. capped (capped (sum_by shown_bytes lines) + cond b (capped (length line - 6)) 0)) same
    ∙ shown (is_value line) (sum_by shown_bytes lines) (length line - 6)
    ∙ ap capped (sym (sum_by_push shown_bytes lines line))

abbrev counts : ℕ → ℕ → ℕ → ℕ → ℕ → Counts
counts a b c d e = record { oks = a; refusals = b; values = c; nones = d; bytes = e; front = []; further = 0 }

same_counts : (a b c d e a' b' c' d' e' : ℕ) → a ≡ a' → b ≡ b' → c ≡ c' → d ≡ d' → e ≡ e' → counts a b c d e ≡ counts a' b' c' d' e'
same_counts a b c d e a' b' c' d' e' p q r s t = rw (p, q, r, s, t) refl

line_ends : (lines : List (List ℕ)) (rest : List ℕ) → with_line (counts_of_lines lines rest) ≡ counts_of_lines (lines ++ rest ∷ []) []
line_ends lines rest =
    let kind = kinds rest in
    same_counts _ _ _ _ _ _ _ _ _ _ (front_counted is_ok lines rest kind.0) (front_counted is_refused lines rest kind.1) (front_counted is_value lines rest kind.2) (front_counted is_none lines rest kind.3) (bytes_counted lines rest kind.2)

abbrev unfinished : List (List ℕ) → List ℕ → ℕ → Counts
unfinished lines front further = record (counts_of_lines lines []) { front = front; further = further }

line_goes_on : (lines : List (List ℕ)) (rest : List ℕ) (x : ℕ) → with_more (counts_of_lines lines rest) x ≡ counts_of_lines lines (rest ++ x ∷ [])
line_goes_on lines [] x = refl
line_goes_on lines (a ∷ []) x = refl
line_goes_on lines (a ∷ b ∷ []) x = refl
line_goes_on lines (a ∷ b ∷ c ∷ []) x = refl
line_goes_on lines (a ∷ b ∷ c ∷ d ∷ []) x = refl
line_goes_on lines (a ∷ b ∷ c ∷ d ∷ e ∷ []) x = refl
line_goes_on lines (a ∷ b ∷ c ∷ d ∷ e ∷ f ∷ more) x =
    let longer : length (a ∷ b ∷ c ∷ d ∷ e ∷ f ∷ (more ++ x ∷ [])) - 6 ≡ length (a ∷ b ∷ c ∷ d ∷ e ∷ f ∷ more) - 6 + 1 = omega (arith, length-append more (x ∷ [])) in
    ap (λ n. unfinished lines (a ∷ b ∷ c ∷ d ∷ e ∷ f ∷ []) n) (min_twice (length (a ∷ b ∷ c ∷ d ∷ e ∷ f ∷ more) - 6) 1 last_count ∙ ap capped (sym longer))

-- a line feed ends the line
pub Gains-ended : (old new : Counts) (b : ℕ) → b ≡ line_feed → new ≡ with_line old → Gains (IsTallyOf old) (IsTallyOf new) (b ∷ [])
Gains-ended old new b feed is = record {
  each = λ taken old_is.
      let lines = split_lines-ended taken [] refl in
      is ∙ ap with_line old_is ∙ line_ends (lines_of taken) (rest_of taken)
      ∙ ap (λ line. counts_of_lines (lines_of taken ++ line ∷ []) []) (sym (append-nil (rest_of taken)))
      ∙ sym (ap (λ (p : List (List ℕ) × List ℕ). counts_of_lines p.0 p.1) lines)
      ∙ ap (λ x. counts_of (taken ++ x ∷ [])) (sym feed);
}

-- another byte makes it longer
pub Gains-longer : (old new : Counts) (b : ℕ) → (b ≡ line_feed → ⊥) → new ≡ with_more old b → Gains (IsTallyOf old) (IsTallyOf new) (b ∷ [])
Gains-longer old new b other is = record {
  each = λ taken old_is.
      let lines = split_lines-unbroken taken (b ∷ []) (rw (ne_eqb b line_feed other) refl) in
      is ∙ ap (λ c. with_more c b) old_is ∙ line_goes_on (lines_of taken) (rest_of taken) b
      ∙ sym (ap (λ (p : List (List ℕ) × List ℕ). counts_of_lines p.0 p.1) lines);
}

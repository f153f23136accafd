-- What a tally of replies keeps of the bytes that it took.
use Rattle.std.specs.Prelude.{ℕ, ◌-◌, min, Bool, ◌||◌, List, length, take}
use Rattle.std.specs.Prelude.{if◌then◌else◌, codes}
use Rattle.std.specs.List.{count_by, sum_by}
use Rattle.lt_terms.specs.Bytes.{same_bytes}
use Rattle.lt_terms.specs.Causes.{last_count}
use Rattle.lt_language.specs.Commands.{begins, lines_of, rest_of}

-- a number, or the end of its type where it is greater
abbrev pub capped : ℕ → ℕ
capped n = min n last_count

-- the line is `OK`
unfoldable pub is_ok : List ℕ → Bool
is_ok line = same_bytes line (codes "OK")

-- the line begins with `FULL` or is `LIMIT`
unfoldable pub is_refused : List ℕ → Bool
is_refused line = begins line (codes "FULL") || same_bytes line (codes "LIMIT")

-- the line begins with `VALUE `
unfoldable pub is_value : List ℕ → Bool
is_value line = begins line (codes "VALUE ")

-- the line is `NONE`
unfoldable pub is_none : List ℕ → Bool
is_none line = same_bytes line (codes "NONE")

-- how many bytes of a value the line shows
abbrev pub shown_bytes : List ℕ → ℕ
shown_bytes line = if is_value line then length line - 6 else 0

-- how many lines are of each kind, how many bytes of values they show, the first six bytes of the unfinished line,
-- and how many bytes of it follow those
pub record Counts : Type 0 where
  pub oks : ℕ
  pub refusals : ℕ
  pub values : ℕ
  pub nones : ℕ
  pub bytes : ℕ
  pub front : List ℕ
  pub further : ℕ

-- the counts of these lines and this unfinished one
abbrev pub counts_of_lines : List (List ℕ) → List ℕ → Counts
counts_of_lines lines rest = record {
  oks = capped (count_by is_ok lines);
  refusals = capped (count_by is_refused lines);
  values = capped (count_by is_value lines);
  nones = capped (count_by is_none lines);
  bytes = capped (sum_by shown_bytes lines);
  front = take 6 rest;
  further = capped (length rest - 6);
}

-- the counts of the lines of these bytes and of the unfinished line behind them
abbrev pub counts_of : List ℕ → Counts
counts_of taken = counts_of_lines (lines_of taken) (rest_of taken)

-- How a tally goes on.
use Rattle.std.specs.Prelude.{◌≡◌, ℕ, ◌+◌, Bool, List, [], ◌∷◌, ◌++◌, length, if◌then◌else◌, nat_lt}
use Rattle.lt_language.specs.Counts.{Counts, capped, counts_of, is_ok, is_refused, is_value, is_none}

-- a tally stands for each list of bytes that has its counts
abbrev pub IsTallyOf : Counts → List ℕ → Type 0
IsTallyOf counts taken = counts ≡ counts_of taken

-- a count after one more line, where the line counts
abbrev pub counted : ℕ → Bool → ℕ
counted count counts = capped (count + (if counts then 1 else 0))

-- the counts once the unfinished line has ended
abbrev pub with_line : Counts → Counts
with_line c = record {
  oks = counted c.oks (is_ok c.front);
  refusals = counted c.refusals (is_refused c.front);
  values = counted c.values (is_value c.front);
  nones = counted c.nones (is_none c.front);
  bytes = capped (c.bytes + (if is_value c.front then c.further else 0));
  front = [];
  further = 0;
}

-- the counts once the unfinished line has this byte too
abbrev pub with_more : Counts → ℕ → Counts
with_more c b =
    if nat_lt (length c.front) 6 then record c { front = c.front ++ b ∷ [] }
    else record c { further = capped (c.further + 1) }

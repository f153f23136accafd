-- The stream that `load` serves, made of a seed and a count: so many lines of writes, and then a get of each key.
use Rattle.std.specs.Prelude.{ℕ, zero, suc, ◌+◌, ◌*◌, ◌/◌, ◌%◌, ◌^◌, List, [], ◌∷◌, ◌++◌, map, replicate, ◌==◌}
use Rattle.std.specs.Prelude.{if◌then◌else◌, codes}
use Rattle.std.specs.List.{range_with_len}
use Rattle.lt_language.specs.Commands.{joined}

-- the number drawn after this one
abbrev pub draw : ℕ → ℕ
draw x = (1664525 * x + 1013904223) % 2 ^ 32

-- how many keys there are in a stream of so many writes
abbrev pub key_count : ℕ → ℕ
key_count count = (count + 1) / 2

-- a decimal digit of a number, by the power of ten that it stands for
abbrev pub digit_of : ℕ → ℕ → ℕ
digit_of n power = 48 + n / power % 10

-- `key` and the number in seven decimal digits
abbrev pub key_text : ℕ → List ℕ
key_text n = codes "key"
    ++ map (digit_of n) (1000000 ∷ 100000 ∷ 10000 ∷ 1000 ∷ 100 ∷ 10 ∷ 1 ∷ [])

-- 40 to 140 times one of the letters a to z, by a number drawn
abbrev pub value_text : ℕ → List ℕ
value_text c = replicate (40 + c / 2 ^ 16 % 101) (97 + c / 2 ^ 24 % 26)

-- the line of a write to one of so many keys, by three numbers drawn: every tenth or so is a delete
abbrev pub write_line : ℕ → ℕ → ℕ → ℕ → List ℕ
write_line keys a b c =
    let key = key_text (a / 2 ^ 8 % keys) in
    if b / 2 ^ 16 % 10 == 0 then codes "delete " ++ key else codes "put " ++ key ++ 32 ∷ value_text c

-- so many lines of writes, by the numbers drawn after x, three a line
abbrev pub write_lines : ℕ → ℕ → ℕ → List (List ℕ)
write_lines keys x zero = []
write_lines keys x (suc n) =
    write_line keys (draw x) (draw (draw x)) (draw (draw (draw x)))
    ∷ write_lines keys (draw (draw (draw x))) n

-- the line of a get of the key with this number
abbrev pub get_line : ℕ → List ℕ
get_line n = codes "get " ++ key_text n

-- gets of so many keys, from a number on
abbrev pub get_lines : ℕ → ℕ → List (List ℕ)
get_lines first n = map get_line (range_with_len first n)

-- the bytes of the lines of writes and then of a get of each key
unfoldable pub load_stream : ℕ → ℕ → List ℕ
load_stream seed count =
    joined (write_lines (key_count count) seed count ++ get_lines 0 (key_count count))

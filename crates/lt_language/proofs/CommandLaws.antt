-- The commands that lines are keep to the limits of keys and values.
use Rattle.std.proofs.Common.{◌≡◌, ℕ, ◌+◌, refl, List, take, drop, length, Bool, true, false, ◌&&◌, cond, Option, Some, None, nat_le, nat_lt, inl, inr}
use Rattle.std.specs.List.{position}
use Rattle.std.proofs.lemmas.Bool.{cases_Bool}
use Rattle.lt_terms.specs.Items.{is_key}
use Rattle.lt_language.specs.declared.Bad.TheVariants.{Long, Syntax}
use Rattle.lt_language.specs.Commands.{Command, delete, get, stat, bad, is_space, has_space, is_word_key, keyed, valued, put_split, put_command, get_command, delete_command, begins_put, begins_get, begins_delete, is_stat, command_of}
use Rattle.lt_language.specs.Valid.{IsWithinLimits}

either : (b : Bool) (x y : Command) → IsWithinLimits x → IsWithinLimits y → IsWithinLimits (cond b x y)
either true x y first then = first
either false x y first then = then

both : (a b : Bool) → (a && b) ≡ true → a ≡ true
both true b h = refl
both false b h = h

-- of a key that is one
by_key : (key : List ℕ) (command : Command) → ((is_key key ≡ true) → IsWithinLimits command) → IsWithinLimits (keyed key command)
by_key key command valid = elim (cases_Bool (is_word_key key)) [
  | inl word ↦ rw (word) (valid (both (is_key key) (cond (has_space key) false true) word))
  | inr other ↦ rw (other) tt
]

by_value : (key value : List ℕ) → is_key key ≡ true → IsWithinLimits (valued key value)
by_value key value valid = elim (cases_Bool (nat_le (length value) 3000)) [
  | inl short ↦ rw (short) (rw (valid, short) refl)
  | inr long ↦ rw (long) tt
]

by_space : (place : Option ℕ) (words : List ℕ) → IsWithinLimits (put_split place words)
by_space None words = tt
by_space (Some i) words = by_key (take i words) (valued (take i words) (drop (i + 1) words)) (by_value (take i words) (drop (i + 1) words))

-- the rules of a line from the second, third, fourth and last one on
abbrev from_stat : List ℕ → Command
from_stat line = cond (is_stat line) stat (bad Syntax)

abbrev from_delete : List ℕ → Command
from_delete line = cond (begins_delete line) (delete_command (drop 7 line)) (from_stat line)

abbrev from_get : List ℕ → Command
from_get line = cond (begins_get line) (get_command (drop 4 line)) (from_delete line)

abbrev from_put : List ℕ → Command
from_put line = cond (begins_put line) (put_command (drop 4 line)) (from_get line)

pub command_of-IsWithinLimits : (line : List ℕ) → IsWithinLimits (command_of line)
unfolding command_of
command_of-IsWithinLimits line =
    either (nat_lt 3260 (length line)) (bad Long) (from_put line) tt
    (either (begins_put line) (put_command (drop 4 line)) (from_get line) (by_space (position is_space (drop 4 line)) (drop 4 line))
    (either (begins_get line) (get_command (drop 4 line)) (from_delete line) (by_key (drop 4 line) (get (drop 4 line)) (λ valid. rw (valid) refl))
    (either (begins_delete line) (delete_command (drop 7 line)) (from_stat line) (by_key (drop 7 line) (delete (drop 7 line)) (λ valid. rw (valid) refl))
    (either (is_stat line) stat (bad Syntax) tt tt))))

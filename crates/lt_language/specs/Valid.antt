-- What the keys and values of commands keep to.
use Rattle.std.specs.Prelude.{IsTrue}
use Rattle.lt_terms.specs.Items.{is_valid, put_of, delete_of}
use Rattle.lt_language.specs.Commands.{Command, put, delete, get}

-- a write is a valid item, and a get asks for a key that an item can have
abbrev pub IsWithinLimits : Command → Type 0
IsWithinLimits (put key value) = IsTrue (is_valid (put_of key value))
IsWithinLimits (delete key) = IsTrue (is_valid (delete_of key))
IsWithinLimits (get key) = IsTrue (is_valid (delete_of key))
IsWithinLimits command = Unit {0}

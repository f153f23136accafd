-- Runs of the map machine, with the writes that were taken in them.
use Rattle.std.specs.Prelude.{ℕ, List}
use Rattle.std.specs.List.{count_by}
use Rattle.lt_language.specs.Replies.{Reply}
use Rattle.lt_serve.specs.Promise.{is_ok}

-- how many of the replies are an `OK`
abbrev pub ok_count : List Reply → ℕ
ok_count replies = count_by is_ok replies

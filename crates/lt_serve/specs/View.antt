-- What calls see of a session.
use Rattle.std.specs.Prelude.{ℕ, List}
use Rattle.lt_store.specs.Open.{StoreView}
use Rattle.lt_store.specs.View.{view_of}
use Rattle.lt_serve.specs.declared.session.Session.{Session}

-- the store of a session
abbrev pub store_in : Session → StoreView
store_in s = view_of s.store

-- what a session keeps of the unfinished line
abbrev pub kept_in : Session → List ℕ
kept_in s = s.lines.kept

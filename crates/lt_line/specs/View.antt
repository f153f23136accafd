-- The command that a line was read as.
use Rattle.lt_language.specs.Commands.{Command, put, delete, get, stat, bad}
use Rattle.lt_line.specs.declared.command.Command.{Command as ReadCommand}
use Rattle.lt_line.specs.declared.command.Command.TheVariants.{Put, Delete, Get, Stat, Bad}

-- the command of the definitions that it stands for
abbrev pub view_of : ReadCommand → Command
view_of (Put key value) = put key.now value.now
view_of (Delete key) = delete key.now
view_of (Get key) = get key.now
view_of Stat = stat
view_of (Bad reason) = bad reason

-- Labels that stored commands give.
use Rattle.std.specs.Prelude.{Bool, true, false, Some}
use Rattle.hg_trace.specs.declared.stored.StoredCommand.{StoredCommand}
use Rattle.hg_trace.specs.declared.stored.StoredCommand.TheVariants as stored

-- whether the line of a command gives a label
abbrev pub binds : StoredCommand → Bool
binds (stored.Alloc actor arena bytes (Some label)) = true
binds _ = false

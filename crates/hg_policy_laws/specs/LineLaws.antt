-- A law of the lines of faults.
use Rattle.std.specs.Str.{NoCharPasses}
use Rattle.hg_policy_text.specs.declared.fault.PolicyFault.{PolicyFault}
use Rattle.hg_policy_text.specs.FaultLines.{fault_line}
use Rattle.hg_policy_text.specs.OneLine.{is_written_out}

-- no character of a fault's line is a control character, breaks the line or turns its direction
abbrev pub FaultsAreOneLine : Type 0
FaultsAreOneLine = (fault : PolicyFault) → NoCharPasses is_written_out (fault_line fault)

-- Faults of lines, and one step after another up to the first fault.
use Rattle.std.specs.Prelude.{ℕ, Result, Ok, Err}
use Rattle.hg_trace.specs.declared.fault.LineFault.{LineFault}
use Rattle.hg_trace.specs.declared.fault.LineFault.TheVariants as line_fault

-- by its number a fault is told
abbrev pub fault_number : LineFault → ℕ
fault_number line_fault.Byte = 1
fault_number line_fault.Command = 2
fault_number line_fault.Operand = 3
fault_number line_fault.UnknownLabel = 4
fault_number line_fault.RepeatedLabel = 5

infixl 10 ◌>>=◌
abbrev pub ◌>>=◌ : {A B E : Type 0} → Result A E → (A → Result B E) → Result B E
(Ok x) >>= f = f x
(Err fault) >>= f = Err fault

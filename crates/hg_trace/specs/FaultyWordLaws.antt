-- Laws of the words at fault: the reader refuses just the words that haven't their forms.
use Rattle.std.specs.Prelude.{◌≡◌, ℕ, zero, suc, List, Option, Some, None, Err, IfErr, IsSome}
use Rattle.hg_trace.specs.declared.fault.LineFault.{LineFault}
use Rattle.hg_trace.specs.declared.fault.LineFault.TheVariants as fault
use Rattle.hg_trace.specs.declared.fault.TraceFault.TheVariants as trace_fault
use Rattle.hg_trace.specs.declared.faulty.FaultyWord.{FaultyWord}
use Rattle.hg_trace.specs.Commands.{words_at}
use Rattle.hg_trace.specs.Trace.{trace_of}
use Rattle.hg_trace.specs.Forms.{wrong_word}
use Rattle.hg_trace.specs.FaultyWord.{line_of, Tells}

-- the fault of a worker or a command, or that of an operand
abbrev pub fault_at : ℕ → LineFault
fault_at zero = fault.Command
fault_at (suc zero) = fault.Command
fault_at (suc (suc n)) = fault.Operand

abbrev pub IsOfLabel : LineFault → Type 0
IsOfLabel fault.UnknownLabel = Unit {0}
IsOfLabel fault.RepeatedLabel = Unit {0}
IsOfLabel _ = ⊥

-- where a word isn't what is wanted there, the fault of the first such word is the line's
abbrev pub WrongWordsAreFaults : Type 0
WrongWordsAreFaults =
    (labels words : List (List ℕ)) (number : ℕ) → wrong_word words ≡ Some number
    → words_at labels words ≡ Err (fault_at number)

-- and where each is, the line has no fault, or that of a label
abbrev pub RightWordsAreRead : Type 0
RightWordsAreRead =
    (labels words : List (List ℕ)) → wrong_word words ≡ None
    → IfErr (words_at labels words) IsOfLabel

-- of each fault of a line that the bytes of a trace have something is told
abbrev pub FaultsAreTold : Type 0
FaultsAreTold =
    (bytes : List ℕ) (number : ℕ) (f : LineFault) (told : Option FaultyWord)
    → trace_of bytes ≡ Err (trace_fault.Line number f) → Tells f (line_of bytes number) told
    → IsSome told

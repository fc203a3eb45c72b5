-- What holds of each command with its operands holds of the name of each.
use Rattle.std.proofs.Common.{◌≡◌, ℕ, Bool, true, false, List, [], ◌∷◌, Option, Some, None, Result, Err, refl, codes, bytes_eq, if◌then◌else◌}
use Rattle.hg_trace.specs.declared.fault.LineFault.{LineFault}
use Rattle.hg_trace.specs.declared.fault.LineFault.TheVariants as fault
use Rattle.hg_trace.specs.declared.line.Command.{Command}
use Rattle.hg_trace.specs.declared.wanted.Wanted.{Wanted}
use Rattle.hg_trace.specs.declared.wanted.Wanted.TheVariants as wanted
use Rattle.hg_trace.specs.Commands.{alloc_command, free_command, deliver_command, take_command, collect_command, read_command, write_command, look_command, list_command, abandon_command, refill_command, command_at}
use Rattle.hg_trace.specs.Forms.{operands_of}

-- of the operands of each command and of its reader
pub record OfEach (labels : List (List ℕ)) (Q : List Wanted → (List (List ℕ) → Result Command LineFault) → Type 0) : Type 0 where
  pub alloc : Q (wanted.Actor ∷ wanted.Arena ∷ wanted.Bytes ∷ wanted.As ∷ wanted.Label ∷ []) alloc_command
  pub free : Q (wanted.Actor ∷ wanted.Block ∷ []) (free_command labels)
  pub deliver : Q [] deliver_command
  pub takes : Q (wanted.Segment ∷ []) take_command
  pub collect : Q [] collect_command
  pub read : Q (wanted.Actor ∷ wanted.Block ∷ wanted.Index ∷ []) (read_command labels)
  pub write : Q (wanted.Actor ∷ wanted.Block ∷ wanted.Index ∷ wanted.Value ∷ []) (write_command labels)
  pub look : Q (wanted.Actor ∷ wanted.Place ∷ []) look_command
  pub list : Q (wanted.Actor ∷ []) list_command
  pub abandon : Q (wanted.Segment ∷ []) abandon_command
  pub refill : Q (wanted.Arena ∷ []) refill_command

-- of a name that is no command's, and of one that is a command's with these operands
abbrev pub Cases : (List Wanted → (List (List ℕ) → Result Command LineFault) → Type 0) → Option (List Wanted) → (List (List ℕ) → Result Command LineFault) → Type 0
Cases Q None next = (operands : List (List ℕ)) → next operands ≡ Err fault.Command
Cases Q (Some forms) next = Q forms next

module _ (labels : List (List ℕ)) (Q : List Wanted → (List (List ℕ) → Result Command LineFault) → Type 0) (each : OfEach labels Q) where
  chosen : (a b c d e f g h i j k : Bool) → Cases Q
      (if a then Some (wanted.Actor ∷ wanted.Arena ∷ wanted.Bytes ∷ wanted.As ∷ wanted.Label ∷ [])
      else (if b then Some (wanted.Actor ∷ wanted.Block ∷ []) else (if c then Some [] else (if d then Some (wanted.Segment ∷ []) else (if e then Some []
      else (if f then Some (wanted.Actor ∷ wanted.Block ∷ wanted.Index ∷ []) else (if g then Some (wanted.Actor ∷ wanted.Block ∷ wanted.Index ∷ wanted.Value ∷ [])
      else (if h then Some (wanted.Actor ∷ wanted.Place ∷ []) else (if i then Some (wanted.Actor ∷ []) else (if j then Some (wanted.Segment ∷ [])
      else (if k then Some (wanted.Arena ∷ []) else None)))))))))))
      (λ words. if a then alloc_command words else (if b then free_command labels words else (if c then deliver_command words else (if d then take_command words
      else (if e then collect_command words else (if f then read_command labels words else (if g then write_command labels words else (if h then look_command words
      else (if i then list_command words else (if j then abandon_command words else (if k then refill_command words else Err fault.Command)))))))))))
  chosen true b c d e f g h i j k = each.alloc
  chosen false true c d e f g h i j k = each.free
  chosen false false true d e f g h i j k = each.deliver
  chosen false false false true e f g h i j k = each.takes
  chosen false false false false true f g h i j k = each.collect
  chosen false false false false false true g h i j k = each.read
  chosen false false false false false false true h i j k = each.write
  chosen false false false false false false false true i j k = each.look
  chosen false false false false false false false false true j k = each.list
  chosen false false false false false false false false false true k = each.abandon
  chosen false false false false false false false false false false true = each.refill
  chosen false false false false false false false false false false false = λ words. refl

  pub command_cases : (name : List ℕ) → Cases Q (operands_of name) (λ words. command_at labels (name ∷ words))
  unfolding command_at
  command_cases name =
      chosen (bytes_eq name (codes "alloc")) (bytes_eq name (codes "free")) (bytes_eq name (codes "deliver")) (bytes_eq name (codes "take")) (bytes_eq name (codes "collect"))
      (bytes_eq name (codes "read")) (bytes_eq name (codes "write")) (bytes_eq name (codes "look")) (bytes_eq name (codes "list")) (bytes_eq name (codes "abandon")) (bytes_eq name (codes "refill"))

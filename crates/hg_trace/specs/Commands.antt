-- What the words of a line mean, or its first fault.
use Rattle.std.specs.Prelude.{ℕ, ◌^◌, ◌==◌, List, [], ◌∷◌, Option, Some, None, Result, Ok, Err}
use Rattle.std.specs.Prelude.{ok_or, bytes_eq, codes, if◌then◌else◌}
use Rattle.hg_place.specs.declared.geometry.TheConstants.{MAX_SEGMENTS}
use Rattle.hg_trace.specs.declared.line.BlockName.{BlockName}
use Rattle.hg_trace.specs.declared.line.Command.{Command}
use Rattle.hg_trace.specs.declared.line.Command.TheVariants as command
use Rattle.hg_trace.specs.declared.fault.LineFault.{LineFault}
use Rattle.hg_trace.specs.declared.fault.LineFault.TheVariants as fault
use Rattle.hg_trace.specs.Faults.{◌>>=◌}
use Rattle.hg_trace.specs.Numbers.{number_below}
use Rattle.hg_trace.specs.Operands.{name_operand, number_operand, label_operand, no_operand}
use Rattle.hg_trace.specs.Handles.{place_operand}
use Rattle.hg_trace.specs.Blocks.{block_operand}
use Rattle.hg_trace.specs.Labels.{repeats}

-- a `w` and a number from 0 to 15
abbrev pub worker_of : List ℕ → Result ℕ LineFault
worker_of [] = Err fault.Command
worker_of (b ∷ digits) =
    if b == 119 then ok_or (number_below 16 digits) fault.Command else Err fault.Command

-- a label that no earlier line gave is told only of a line whose operands all have their form
abbrev pub known : Option BlockName → Result BlockName LineFault
known block = ok_or block fault.UnknownLabel

-- ACTOR ARENA BYTES, and then nothing or `as` LABEL
unfoldable pub alloc_command : List (List ℕ) → Result Command LineFault
alloc_command words = do
  actor ← name_operand words
  arena ← name_operand actor.1
  bytes ← number_operand (2 ^ 64) arena.1
  label ← label_operand bytes.1
  Ok (command.Alloc actor.0 arena.0 bytes.0 label)

-- ACTOR BLOCK
unfoldable pub free_command : List (List ℕ) → List (List ℕ) → Result Command LineFault
free_command labels words = do
  actor ← name_operand words
  block ← block_operand labels actor.1
  end ← no_operand block.1
  found ← known block.0
  Ok (command.Free actor.0 found)

-- no operands
unfoldable pub deliver_command : List (List ℕ) → Result Command LineFault
deliver_command words = do
  end ← no_operand words
  Ok command.Deliver

-- SEGMENT
unfoldable pub take_command : List (List ℕ) → Result Command LineFault
take_command words = do
  segment ← number_operand MAX_SEGMENTS words
  end ← no_operand segment.1
  Ok (command.Take segment.0)

-- no operands
unfoldable pub collect_command : List (List ℕ) → Result Command LineFault
collect_command words = do
  end ← no_operand words
  Ok command.Collect

-- ACTOR BLOCK INDEX
unfoldable pub read_command : List (List ℕ) → List (List ℕ) → Result Command LineFault
read_command labels words = do
  actor ← name_operand words
  block ← block_operand labels actor.1
  index ← number_operand (2 ^ 32) block.1
  end ← no_operand index.1
  found ← known block.0
  Ok (command.Read actor.0 found index.0)

-- ACTOR BLOCK INDEX VALUE
unfoldable pub write_command : List (List ℕ) → List (List ℕ) → Result Command LineFault
write_command labels words = do
  actor ← name_operand words
  block ← block_operand labels actor.1
  index ← number_operand (2 ^ 32) block.1
  value ← number_operand (2 ^ 64) index.1
  end ← no_operand value.1
  found ← known block.0
  Ok (command.Write actor.0 found index.0 value.0)

-- ACTOR PLACE
unfoldable pub look_command : List (List ℕ) → Result Command LineFault
look_command words = do
  actor ← name_operand words
  place ← place_operand actor.1
  end ← no_operand place.1
  Ok (command.Look actor.0 place.0)

-- ACTOR
unfoldable pub list_command : List (List ℕ) → Result Command LineFault
list_command words = do
  actor ← name_operand words
  end ← no_operand actor.1
  Ok (command.List actor.0)

-- SEGMENT
unfoldable pub abandon_command : List (List ℕ) → Result Command LineFault
abandon_command words = do
  segment ← number_operand MAX_SEGMENTS words
  end ← no_operand segment.1
  Ok (command.Abandon segment.0)

-- ARENA
unfoldable pub refill_command : List (List ℕ) → Result Command LineFault
refill_command words = do
  arena ← name_operand words
  end ← no_operand arena.1
  Ok (command.Refill arena.0)

-- a command by its name, with its operands, where earlier lines gave these labels
unfoldable pub command_at : List (List ℕ) → List (List ℕ) → Result Command LineFault
command_at labels [] = Err fault.Command
command_at labels (name ∷ operands) =
    if bytes_eq name (codes "alloc") then alloc_command operands
    else (if bytes_eq name (codes "free") then free_command labels operands
    else (if bytes_eq name (codes "deliver") then deliver_command operands
    else (if bytes_eq name (codes "take") then take_command operands
    else (if bytes_eq name (codes "collect") then collect_command operands
    else (if bytes_eq name (codes "read") then read_command labels operands
    else (if bytes_eq name (codes "write") then write_command labels operands
    else (if bytes_eq name (codes "look") then look_command operands
    else (if bytes_eq name (codes "list") then list_command operands
    else (if bytes_eq name (codes "abandon") then abandon_command operands
    else (if bytes_eq name (codes "refill") then refill_command operands
    else Err fault.Command))))))))))

-- a worker and its command, or nothing where there are no words. A label is given once
unfoldable pub words_at
    : List (List ℕ) → List (List ℕ) → Result (Option (ℕ × Command)) LineFault
words_at labels [] = Ok None
words_at labels (word ∷ words) = do
  worker ← worker_of word
  command ← command_at labels words
  if repeats labels command then Err fault.RepeatedLabel else Ok (Some (worker, command))

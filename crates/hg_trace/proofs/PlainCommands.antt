-- Each command is read from how it is written.
use Rattle.std.proofs.Common.{◌≡◌, ℕ, ◌^◌, List, [], ◌∷◌, Option, Ok, decimal, refl, arith}
use Rattle.hg_place.specs.declared.Place.{Place}
use Rattle.hg_place.specs.declared.geometry.TheConstants.{MAX_SEGMENTS}
use Rattle.hg_trace.specs.declared.line.BlockName.{BlockName}
use Rattle.hg_trace.specs.declared.line.Command.{Command}
use Rattle.hg_trace.specs.declared.line.Command.TheVariants as command
use Rattle.hg_trace.specs.Commands.{command_at, alloc_command, free_command, deliver_command, take_command, collect_command, read_command}
use Rattle.hg_trace.specs.Commands.{write_command, look_command, list_command, abandon_command, refill_command}
use Rattle.hg_trace.specs.Printed.{place_text, block_text, label_words, command_words}
use Rattle.hg_trace.specs.Plain.{AreLabels, IsPlainCommand}
use Rattle.hg_trace.proofs.PlainOperands.{number_operand-plain, name_operand-plain}
use Rattle.hg_trace.proofs.PlainWords.{place_operand-plain, block_operand-plain, label_operand-plain}

module _ (labels : List (List ℕ)) (are : AreLabels labels) where
  alloc_plain : (actor : List ℕ) (arena : List ℕ) (bytes : ℕ) (label : Option (List ℕ)) → IsPlainCommand labels (command.Alloc actor arena bytes label) → alloc_command (actor ∷ arena ∷ decimal bytes ∷ label_words label) ≡ Ok (command.Alloc actor arena bytes label)
  unfolding alloc_command
  alloc_plain actor arena bytes label (p_actor, p_arena, p_bytes, p_label) =
      let read_actor = name_operand-plain actor (arena ∷ decimal bytes ∷ label_words label) p_actor in
      let read_arena = name_operand-plain arena (decimal bytes ∷ label_words label) p_arena in
      let read_bytes = number_operand-plain (2 ^ 64) bytes (label_words label) (omega arith) p_bytes in
      let read_label = label_operand-plain labels label p_label in
      rw (read_actor, read_arena, read_bytes, read_label) refl

  free_plain : (actor : List ℕ) (block : BlockName) → IsPlainCommand labels (command.Free actor block) → free_command labels (actor ∷ block_text labels block ∷ []) ≡ Ok (command.Free actor block)
  unfolding free_command
  free_plain actor block (p_actor, p_block) =
      let read_actor = name_operand-plain actor (block_text labels block ∷ []) p_actor in
      let read_block = block_operand-plain labels block [] are p_block in
      rw (read_actor, read_block) refl

  deliver_plain : deliver_command [] ≡ Ok command.Deliver
  unfolding deliver_command
  deliver_plain = refl

  take_plain : (segment : ℕ) → IsPlainCommand labels (command.Take segment) → take_command (decimal segment ∷ []) ≡ Ok (command.Take segment)
  unfolding take_command
  take_plain segment p_segment =
      let read_segment = number_operand-plain MAX_SEGMENTS segment [] (omega arith) p_segment in
      rw read_segment refl

  collect_plain : collect_command [] ≡ Ok command.Collect
  unfolding collect_command
  collect_plain = refl

  read_plain : (actor : List ℕ) (block : BlockName) (index : ℕ) → IsPlainCommand labels (command.Read actor block index) → read_command labels (actor ∷ block_text labels block ∷ decimal index ∷ []) ≡ Ok (command.Read actor block index)
  unfolding read_command
  read_plain actor block index (p_actor, p_block, p_index) =
      let read_actor = name_operand-plain actor (block_text labels block ∷ decimal index ∷ []) p_actor in
      let read_block = block_operand-plain labels block (decimal index ∷ []) are p_block in
      let read_index = number_operand-plain (2 ^ 32) index [] (omega arith) p_index in
      rw (read_actor, read_block, read_index) refl

  write_plain : (actor : List ℕ) (block : BlockName) (index : ℕ) (value : ℕ) → IsPlainCommand labels (command.Write actor block index value) → write_command labels (actor ∷ block_text labels block ∷ decimal index ∷ decimal value ∷ []) ≡ Ok (command.Write actor block index value)
  unfolding write_command
  write_plain actor block index value (p_actor, p_block, p_index, p_value) =
      let read_actor = name_operand-plain actor (block_text labels block ∷ decimal index ∷ decimal value ∷ []) p_actor in
      let read_block = block_operand-plain labels block (decimal index ∷ decimal value ∷ []) are p_block in
      let read_index = number_operand-plain (2 ^ 32) index (decimal value ∷ []) (omega arith) p_index in
      let read_value = number_operand-plain (2 ^ 64) value [] (omega arith) p_value in
      rw (read_actor, read_block, read_index, read_value) refl

  look_plain : (actor : List ℕ) (place : Place) → IsPlainCommand labels (command.Look actor place) → look_command (actor ∷ place_text place ∷ []) ≡ Ok (command.Look actor place)
  unfolding look_command
  look_plain actor place p_actor =
      let read_actor = name_operand-plain actor (place_text place ∷ []) p_actor in
      let read_place = place_operand-plain place [] in
      rw (read_actor, read_place) refl

  list_plain : (actor : List ℕ) → IsPlainCommand labels (command.List actor) → list_command (actor ∷ []) ≡ Ok (command.List actor)
  unfolding list_command
  list_plain actor p_actor =
      let read_actor = name_operand-plain actor [] p_actor in
      rw read_actor refl

  abandon_plain : (segment : ℕ) → IsPlainCommand labels (command.Abandon segment) → abandon_command (decimal segment ∷ []) ≡ Ok (command.Abandon segment)
  unfolding abandon_command
  abandon_plain segment p_segment =
      let read_segment = number_operand-plain MAX_SEGMENTS segment [] (omega arith) p_segment in
      rw read_segment refl

  refill_plain : (arena : List ℕ) → IsPlainCommand labels (command.Refill arena) → refill_command (arena ∷ []) ≡ Ok (command.Refill arena)
  unfolding refill_command
  refill_plain arena p_arena =
      let read_arena = name_operand-plain arena [] p_arena in
      rw read_arena refl

  -- by its name
  pub command_at-plain : (c : Command) → IsPlainCommand labels c → command_at labels (command_words labels c) ≡ Ok c
  unfolding command_at
  command_at-plain (command.Alloc actor arena bytes label) plain = alloc_plain actor arena bytes label plain
  command_at-plain (command.Free actor block) plain = free_plain actor block plain
  command_at-plain command.Deliver plain = deliver_plain
  command_at-plain (command.Take segment) plain = take_plain segment plain
  command_at-plain command.Collect plain = collect_plain
  command_at-plain (command.Read actor block index) plain = read_plain actor block index plain
  command_at-plain (command.Write actor block index value) plain = write_plain actor block index value plain
  command_at-plain (command.Look actor place) plain = look_plain actor place plain
  command_at-plain (command.List actor) plain = list_plain actor plain
  command_at-plain (command.Abandon segment) plain = abandon_plain segment plain
  command_at-plain (command.Refill arena) plain = refill_plain arena plain

-- A command that was read is how it is written.
use Rattle.std.proofs.Common.{◌≡◌, ℕ, ◌^◌, ◌<◌, ◌≤◌, true, false, List, [], ◌∷◌, Option, Some, None}
use Rattle.std.proofs.Common.{Ok, codes, decimal, ap, subst, ◌∙◌, inl, inr, arith}
use Rattle.std.specs.Prelude.{Result, bytes_eq, if◌then◌else◌, IfSome}
use Rattle.hg_place.specs.declared.Place.{Place}
use Rattle.hg_place.specs.declared.geometry.TheConstants.{MAX_SEGMENTS}
use Rattle.hg_policy_text.specs.NameForm.{is_name}
use Rattle.hg_trace.specs.declared.line.Command.{Command}
use Rattle.hg_trace.specs.declared.line.Command.TheVariants as command
use Rattle.hg_trace.specs.declared.fault.LineFault.{LineFault}
use Rattle.hg_trace.specs.Faults.{◌>>=◌}
use Rattle.hg_trace.specs.Operands.{name_operand, number_operand, no_operand}
use Rattle.hg_trace.specs.Handles.{place_operand}
use Rattle.hg_trace.specs.Labels.{repeats}
use Rattle.hg_trace.specs.Commands.{command_at, alloc_command, free_command, deliver_command}
use Rattle.hg_trace.specs.Commands.{take_command, collect_command, read_command, write_command}
use Rattle.hg_trace.specs.Commands.{look_command, list_command, abandon_command, refill_command}
use Rattle.hg_trace.specs.Printed.{place_text, command_words}
use Rattle.hg_trace.specs.Plain.{IsNewLabel, IsPlainCommand}
use Rattle.hg_trace.proofs.Binds.{bind_ok, ok_is, if_ok, bytes_eq-true}
use Rattle.hg_trace.proofs.PlainOperands.{number_operand-is, name_operand-is, no_operand-is}
use Rattle.hg_trace.proofs.PlainWords.{place_operand-is, block_operand-is, label_operand-is}

-- a label that doesn't repeat is new
new_label : (labels : List (List ℕ)) (actor arena : List ℕ) (bytes : ℕ) (label : Option (List ℕ))
    → IfSome label (λ text. is_name text ≡ true)
    → repeats labels (command.Alloc actor arena bytes label) ≡ false → IsNewLabel labels label
new_label labels actor arena bytes None named fresh = tt
new_label labels actor arena bytes (Some label) named fresh = (named, fresh)

-- one word, and then those that the rest of the words are
on : {words rest more : List (List ℕ)} {word : List ℕ} → words ≡ word ∷ rest → rest ≡ more
    → words ≡ word ∷ more
on {word = word} first later = first ∙ ap (λ l. word ∷ l) later

-- an operand was read and then the rest of the command, so the words begin with the operand's
module _ (c : Command) where
  name_then : (words : List (List ℕ)) (f : List ℕ × List (List ℕ) → Result Command LineFault)
      → (name_operand words >>= f) ≡ Ok c
      → (x : List ℕ × List (List ℕ)) × (words ≡ x.0 ∷ x.1) × (is_name x.0 ≡ true) × (f x ≡ Ok c)
  name_then words f h =
      let (x, read, rest) = bind_ok (name_operand words) f c h in
      let (text, plain) = name_operand-is words x read in
      (x, text, plain, rest)

  number_then : (limit : ℕ) (words : List (List ℕ))
      (f : ℕ × List (List ℕ) → Result Command LineFault) → limit ≤ 2 ^ 64
      → (number_operand limit words >>= f) ≡ Ok c
      → (x : ℕ × List (List ℕ)) × (words ≡ decimal x.0 ∷ x.1) × (x.0 < limit) × (f x ≡ Ok c)
  number_then limit words f fits h =
      let (x, read, rest) = bind_ok (number_operand limit words) f c h in
      let (text, small) = number_operand-is limit words x fits read in
      (x, text, small, rest)

  place_then : (words : List (List ℕ)) (f : Place × List (List ℕ) → Result Command LineFault)
      → (place_operand words >>= f) ≡ Ok c
      → (x : Place × List (List ℕ)) × (words ≡ place_text x.0 ∷ x.1) × (f x ≡ Ok c)
  place_then words f h =
      let (x, read, rest) = bind_ok (place_operand words) f c h in
      (x, place_operand-is words x read, rest)

  end_then : (words : List (List ℕ)) (f : Unit {0} → Result Command LineFault)
      → (no_operand words >>= f) ≡ Ok c → (x : Unit {0}) × (words ≡ []) × (f x ≡ Ok c)
  end_then words f h =
      let (x, read, rest) = bind_ok (no_operand words) f c h in
      (x, no_operand-is words x read, rest)

-- what a command is written as, and that it is plain
abbrev IsWritten : List (List ℕ) → List ℕ → List (List ℕ) → Command → Type 0
IsWritten labels name words c = (name ∷ words ≡ command_words labels c) × IsPlainCommand labels c

module _ (labels words : List (List ℕ)) (c : Command) (fresh : repeats labels c ≡ false) where
  alloc_is : alloc_command words ≡ Ok c → IsWritten labels (codes "alloc") words c
  unfolding alloc_command
  alloc_is h =
      let (actor, w0, p0, h0) = name_then c words _ h in
      let (arena, w1, p1, h1) = name_then c actor.1 _ h0 in
      let (bytes, w2, p2, h2) = number_then c (2 ^ 64) arena.1 _ (omega arith) h1 in
      let (label, read, is) = bind_ok _ _ c h2 in
      let (w3, p3) = label_operand-is bytes.1 label read in
      let same = ok_is (command.Alloc actor.0 arena.0 bytes.0 label) c is in
      let new = new_label labels actor.0 arena.0 bytes.0 label p3 (ap (repeats labels) same ∙ fresh)
      in
      subst (IsWritten labels (codes "alloc") words) same
      (ap (λ l. codes "alloc" ∷ l) (on w0 (on w1 (on w2 w3))), (p0, p1, p2, new))

  free_is : free_command labels words ≡ Ok c → IsWritten labels (codes "free") words c
  unfolding free_command
  free_is h =
      let (actor, w0, p0, h0) = name_then c words _ h in
      let (block, read, h1) = bind_ok _ _ c h0 in
      let (end, w2, h2) = end_then c block.1 _ h1 in
      let (found, named, is) = bind_ok _ _ c h2 in
      let (w1, p1) = block_operand-is labels actor.1 block found read named in
      subst (IsWritten labels (codes "free") words) (ok_is (command.Free actor.0 found) c is)
      (ap (λ l. codes "free" ∷ l) (on w0 (on w1 w2)), (p0, p1))

  deliver_is : deliver_command words ≡ Ok c → IsWritten labels (codes "deliver") words c
  unfolding deliver_command
  deliver_is h =
      let (end, w0, is) = end_then c words _ h in
      subst (IsWritten labels (codes "deliver") words) (ok_is command.Deliver c is)
      (ap (λ l. codes "deliver" ∷ l) w0, tt)

  take_is : take_command words ≡ Ok c → IsWritten labels (codes "take") words c
  unfolding take_command
  take_is h =
      let (segment, w0, p0, h0) = number_then c MAX_SEGMENTS words _ (omega arith) h in
      let (end, w1, is) = end_then c segment.1 _ h0 in
      subst (IsWritten labels (codes "take") words) (ok_is (command.Take segment.0) c is)
      (ap (λ l. codes "take" ∷ l) (on w0 w1), p0)

  collect_is : collect_command words ≡ Ok c → IsWritten labels (codes "collect") words c
  unfolding collect_command
  collect_is h =
      let (end, w0, is) = end_then c words _ h in
      subst (IsWritten labels (codes "collect") words) (ok_is command.Collect c is)
      (ap (λ l. codes "collect" ∷ l) w0, tt)

  read_is : read_command labels words ≡ Ok c → IsWritten labels (codes "read") words c
  unfolding read_command
  read_is h =
      let (actor, w0, p0, h0) = name_then c words _ h in
      let (block, read, h1) = bind_ok _ _ c h0 in
      let (index, w2, p2, h2) = number_then c (2 ^ 32) block.1 _ (omega arith) h1 in
      let (end, w3, h3) = end_then c index.1 _ h2 in
      let (found, named, is) = bind_ok _ _ c h3 in
      let (w1, p1) = block_operand-is labels actor.1 block found read named in
      subst (IsWritten labels (codes "read") words) (ok_is (command.Read actor.0 found index.0) c is)
      (ap (λ l. codes "read" ∷ l) (on w0 (on w1 (on w2 w3))), (p0, p1, p2))

  write_is : write_command labels words ≡ Ok c → IsWritten labels (codes "write") words c
  unfolding write_command
  write_is h =
      let (actor, w0, p0, h0) = name_then c words _ h in
      let (block, read, h1) = bind_ok _ _ c h0 in
      let (index, w2, p2, h2) = number_then c (2 ^ 32) block.1 _ (omega arith) h1 in
      let (value, w3, p3, h3) = number_then c (2 ^ 64) index.1 _ (omega arith) h2 in
      let (end, w4, h4) = end_then c value.1 _ h3 in
      let (found, named, is) = bind_ok _ _ c h4 in
      let (w1, p1) = block_operand-is labels actor.1 block found read named in
      subst (IsWritten labels (codes "write") words)
      (ok_is (command.Write actor.0 found index.0 value.0) c is)
      (ap (λ l. codes "write" ∷ l) (on w0 (on w1 (on w2 (on w3 w4)))), (p0, p1, p2, p3))

  look_is : look_command words ≡ Ok c → IsWritten labels (codes "look") words c
  unfolding look_command
  look_is h =
      let (actor, w0, p0, h0) = name_then c words _ h in
      let (place, w1, h1) = place_then c actor.1 _ h0 in
      let (end, w2, is) = end_then c place.1 _ h1 in
      subst (IsWritten labels (codes "look") words) (ok_is (command.Look actor.0 place.0) c is)
      (ap (λ l. codes "look" ∷ l) (on w0 (on w1 w2)), p0)

  list_is : list_command words ≡ Ok c → IsWritten labels (codes "list") words c
  unfolding list_command
  list_is h =
      let (actor, w0, p0, h0) = name_then c words _ h in
      let (end, w1, is) = end_then c actor.1 _ h0 in
      subst (IsWritten labels (codes "list") words) (ok_is (command.List actor.0) c is)
      (ap (λ l. codes "list" ∷ l) (on w0 w1), p0)

  abandon_is : abandon_command words ≡ Ok c → IsWritten labels (codes "abandon") words c
  unfolding abandon_command
  abandon_is h =
      let (segment, w0, p0, h0) = number_then c MAX_SEGMENTS words _ (omega arith) h in
      let (end, w1, is) = end_then c segment.1 _ h0 in
      subst (IsWritten labels (codes "abandon") words) (ok_is (command.Abandon segment.0) c is)
      (ap (λ l. codes "abandon" ∷ l) (on w0 w1), p0)

  refill_is : refill_command words ≡ Ok c → IsWritten labels (codes "refill") words c
  unfolding refill_command
  refill_is h =
      let (arena, w0, p0, h0) = name_then c words _ h in
      let (end, w1, is) = end_then c arena.1 _ h0 in
      subst (IsWritten labels (codes "refill") words) (ok_is (command.Refill arena.0) c is)
      (ap (λ l. codes "refill" ∷ l) (on w0 w1), p0)

-- by its name
module _ (labels words : List (List ℕ)) (c : Command) (name : List ℕ) where
  abbrev IsNamed : Type 0
  IsNamed = (name ∷ words ≡ command_words labels c) × IsPlainCommand labels c

  -- it has this name, or is one of the others
  named : (text : List ℕ) (here others : Result Command LineFault)
      → (if bytes_eq name text then here else others) ≡ Ok c
      → (here ≡ Ok c → IsWritten labels text words c) → (others ≡ Ok c → IsNamed) → IsNamed
  named text here others h one more =
      elim (if_ok (bytes_eq name text) here others c h) [
        | inl (same, read) ↦
            let (written, plain) = one read in
            (ap (λ n. n ∷ words) (bytes_eq-true name text same) ∙ written, plain)
        | inr (unlike, read) ↦ more read
      ]

pub command_at-is : (labels words : List (List ℕ)) (c : Command) → repeats labels c ≡ false
    → command_at labels words ≡ Ok c
    → (words ≡ command_words labels c) × IsPlainCommand labels c
unfolding command_at
command_at-is labels [] c fresh h = absurd (cc)
command_at-is labels (name ∷ words) c fresh h =
    named labels words c name (codes "alloc") _ _ h (alloc_is labels words c fresh) (λ h0.
    named labels words c name (codes "free") _ _ h0 (free_is labels words c fresh) (λ h1.
    named labels words c name (codes "deliver") _ _ h1 (deliver_is labels words c fresh) (λ h2.
    named labels words c name (codes "take") _ _ h2 (take_is labels words c fresh) (λ h3.
    named labels words c name (codes "collect") _ _ h3 (collect_is labels words c fresh) (λ h4.
    named labels words c name (codes "read") _ _ h4 (read_is labels words c fresh) (λ h5.
    named labels words c name (codes "write") _ _ h5 (write_is labels words c fresh) (λ h6.
    named labels words c name (codes "look") _ _ h6 (look_is labels words c fresh) (λ h7.
    named labels words c name (codes "list") _ _ h7 (list_is labels words c fresh) (λ h8.
    named labels words c name (codes "abandon") _ _ h8 (abandon_is labels words c fresh) (λ h9.
    named labels words c name (codes "refill") _ _ h9 (refill_is labels words c fresh) (λ h10.
    absurd (cc))))))))))))

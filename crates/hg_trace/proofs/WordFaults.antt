-- The reader refuses just the words that haven't their forms.
use Rattle.std.proofs.Common.{◌≡◌, ℕ, zero, suc, ◌+◌, ◌<◌, ◌≤◌, ◌^◌, ◌==◌, Bool, true, false, not, List, [], ◌∷◌, length, Option, Some, None, Result, Ok, Err, refl, sym, ap, ◌∙◌, arith, codes, bytes_eq, if◌then◌else◌}
use Rattle.std.specs.Prelude.{slice_get, slice_index_or, is_ok, is_some, ok_or, unwrap_or, IfErr}
use Rattle.hg_place.specs.declared.Place.{Place}
use Rattle.hg_place.specs.declared.geometry.TheConstants.{MAX_SEGMENTS, SEGMENT_PAGES, PAGE_PLACES}
use Rattle.hg_policy_text.specs.NameForm.{is_name}
use Rattle.hg_policy_text.proofs.FirstRefused.{position-at, position-fails}
use Rattle.hg_trace.specs.declared.fault.LineFault.{LineFault}
use Rattle.hg_trace.specs.declared.fault.LineFault.TheVariants as fault
use Rattle.hg_trace.specs.declared.line.BlockName.{BlockName}
use Rattle.hg_trace.specs.declared.line.Command.{Command}
use Rattle.hg_trace.specs.declared.line.Command.TheVariants as command
use Rattle.hg_trace.specs.declared.wanted.Wanted.{Wanted}
use Rattle.hg_trace.specs.declared.wanted.Wanted.TheVariants as wanted
use Rattle.hg_trace.specs.Faults.{◌>>=◌}
use Rattle.hg_trace.specs.Numbers.{number_below}
use Rattle.hg_trace.specs.Operands.{name_operand, number_operand, no_operand, label_operand}
use Rattle.hg_trace.specs.Handles.{parts_of, place_in, generation_in, place_of, place_operand, handle_of}
use Rattle.hg_trace.specs.Blocks.{block_of, block_operand}
use Rattle.hg_trace.specs.Labels.{repeats}
use Rattle.hg_trace.specs.Commands.{worker_of, known, alloc_command, free_command, deliver_command, take_command, collect_command, read_command, write_command, look_command, list_command, abandon_command, refill_command, command_at, words_at}
use Rattle.hg_trace.specs.Forms.{operands_of, has_form, has_block_form, may_be_missing, is_as_wanted, wanted_at}
use Rattle.hg_trace.proofs.CommandCases.{OfEach, Cases, command_cases}
use Rattle.hg_trace.specs.FaultyWordLaws.{fault_at, IsOfLabel, WrongWordsAreFaults, RightWordsAreRead}

-- what stands at a number is what these forms want there
abbrev fits : List Wanted → List (List ℕ) → ℕ → Bool
fits forms words n = is_as_wanted (slice_index_or forms n wanted.Nothing) (slice_get words n)

-- words are refused where the first doesn't fit these forms, and else for a label alone
record Follows {C : Type 0} (forms : List Wanted) (next : List (List ℕ) → Result C LineFault) : Type 0 where
  stops : (words : List (List ℕ)) (n : ℕ) → n ≤ length words → ((k : ℕ) → k < n → fits forms words k ≡ true) → fits forms words n ≡ false → next words ≡ Err fault.Operand
  passes : (words : List (List ℕ)) → ((k : ℕ) → k ≤ length words → fits forms words k ≡ true) → IfErr (next words) IsOfLabel

-- a reader of one operand takes just the words of this form
record Reads {X : Type 0} (form : Wanted) (read : List (List ℕ) → Result (X × List (List ℕ)) LineFault) : Type 0 where
  wants : may_be_missing form ≡ false
  missing : read [] ≡ Err fault.Operand
  wrong : (word : List ℕ) (words : List (List ℕ)) → has_form form word ≡ false → read (word ∷ words) ≡ Err fault.Operand
  right : (word : List ℕ) (words : List (List ℕ)) → has_form form word ≡ true → (x : X) × (read (word ∷ words) ≡ Ok (x, words))

module _ {X C : Type 0} (form : Wanted) (forms : List Wanted) (read : List (List ℕ) → Result (X × List (List ℕ)) LineFault) (next : X × List (List ℕ) → Result C LineFault) (reads : Reads form read) (follows : (x : X) → Follows forms (λ words. next (x, words))) where
  then-stops : (words : List (List ℕ)) (n : ℕ) → n ≤ length words → ((k : ℕ) → k < n → fits (form ∷ forms) words k ≡ true) → fits (form ∷ forms) words n ≡ false → (read words >>= next) ≡ Err fault.Operand
  then-stops [] n within before wrong = ap (λ r. r >>= next) reads.missing
  then-stops (word ∷ words) zero within before wrong = ap (λ r. r >>= next) (reads.wrong word words wrong)
  then-stops (word ∷ words) (suc n) within before wrong =
      let (x, is) = reads.right word words (before 0 (omega arith)) in
      ap (λ r. r >>= next) is ∙ (follows x).stops words n (omega arith) (λ k h. before (suc k) (omega arith)) wrong

  then-passes : (words : List (List ℕ)) → ((k : ℕ) → k ≤ length words → fits (form ∷ forms) words k ≡ true) → IfErr (read words >>= next) IsOfLabel
  then-passes [] fit = let no : false ≡ true = sym reads.wants ∙ fit 0 (omega arith) in absurd (cc)
  then-passes (word ∷ words) fit =
      let (x, is) = reads.right word words (fit 0 (omega arith)) in
      rw is ((follows x).passes words (λ k h. fit (suc k) (omega arith)))

  and_then : Follows (form ∷ forms) (λ words. read words >>= next)
  and_then = record { stops = then-stops; passes = then-passes }

-- behind the last operand there is no word
module _ {C : Type 0} (last : Result C LineFault) (told : IfErr last IsOfLabel) where
  end-stops : (words : List (List ℕ)) (n : ℕ) → n ≤ length words → ((k : ℕ) → k < n → fits [] words k ≡ true) → fits [] words n ≡ false → (no_operand words >>= λ end. last) ≡ Err fault.Operand
  end-stops [] zero within before wrong = let no : true ≡ false = wrong in absurd (cc)
  end-stops [] (suc n) within before wrong = absurd (omega arith)
  end-stops (word ∷ words) n within before wrong = refl

  end-passes : (words : List (List ℕ)) → ((k : ℕ) → k ≤ length words → fits [] words k ≡ true) → IfErr (no_operand words >>= λ end. last) IsOfLabel
  end-passes [] fit = told
  end-passes (word ∷ words) fit = let no : false ≡ true = fit 0 (omega arith) in absurd (cc)

  and_end : Follows [] (λ words. no_operand words >>= λ end. last)
  and_end = record { stops = end-stops; passes = end-passes }

-- the readers of operands
name_wrong : (word : List ℕ) (words : List (List ℕ)) → is_name word ≡ false → name_operand (word ∷ words) ≡ Err fault.Operand
name_wrong word words e = rw e refl

name_right : (word : List ℕ) (words : List (List ℕ)) → is_name word ≡ true → (x : List ℕ) × (name_operand (word ∷ words) ≡ Ok (x, words))
name_right word words e = (word, rw e refl)

actor_reads : Reads wanted.Actor name_operand
actor_reads = record { wants = refl; missing = refl; wrong = name_wrong; right = name_right }

arena_reads : Reads wanted.Arena name_operand
arena_reads = record { wants = refl; missing = refl; wrong = name_wrong; right = name_right }

label_reads : Reads wanted.Label name_operand
label_reads = record { wants = refl; missing = refl; wrong = name_wrong; right = name_right }

abbrev number_then : Option ℕ → List (List ℕ) → Result (ℕ × List (List ℕ)) LineFault
number_then o words = ok_or o fault.Operand >>= λ n. Ok (n, words)

number_wrong : (limit : ℕ) (o : Option ℕ) (words : List (List ℕ)) → is_some o ≡ false → number_then o words ≡ Err fault.Operand
number_wrong limit None words e = refl
number_wrong limit (Some n) words e = absurd (cc)

number_right : (limit : ℕ) (o : Option ℕ) (words : List (List ℕ)) → is_some o ≡ true → (x : ℕ) × (number_then o words ≡ Ok (x, words))
number_right limit None words e = absurd (cc)
number_right limit (Some n) words e = (n, refl)

bytes_reads : Reads wanted.Bytes (number_operand (2 ^ 64))
bytes_reads = record { wants = refl; missing = refl; wrong = λ word words e. number_wrong (2 ^ 64) (number_below (2 ^ 64) word) words e; right = λ word words e. number_right (2 ^ 64) (number_below (2 ^ 64) word) words e }

segment_reads : Reads wanted.Segment (number_operand MAX_SEGMENTS)
segment_reads = record { wants = refl; missing = refl; wrong = λ word words e. number_wrong MAX_SEGMENTS (number_below MAX_SEGMENTS word) words e; right = λ word words e. number_right MAX_SEGMENTS (number_below MAX_SEGMENTS word) words e }

index_reads : Reads wanted.Index (number_operand (2 ^ 32))
index_reads = record { wants = refl; missing = refl; wrong = λ word words e. number_wrong (2 ^ 32) (number_below (2 ^ 32) word) words e; right = λ word words e. number_right (2 ^ 32) (number_below (2 ^ 32) word) words e }

value_reads : Reads wanted.Value (number_operand (2 ^ 64))
value_reads = record { wants = refl; missing = refl; wrong = λ word words e. number_wrong (2 ^ 64) (number_below (2 ^ 64) word) words e; right = λ word words e. number_right (2 ^ 64) (number_below (2 ^ 64) word) words e }

-- no other fault than that of an operand
abbrev pub IsOperand : LineFault → Type 0
IsOperand f = f ≡ fault.Operand

only_then : {A B : Type 0} (r : Result A LineFault) (next : A → Result B LineFault) → IfErr r IsOperand → ((x : A) → IfErr (next x) IsOperand) → IfErr (r >>= next) IsOperand
only_then (Ok x) next first later = later x
only_then (Err f) next first later = first

pub only_number : (limit : ℕ) (parts : List (List ℕ)) → IfErr (number_operand limit parts) IsOperand
only_number limit [] = refl
only_number limit (part ∷ parts) = only_ok_or (number_below limit part)
  where
    only_ok_or : (o : Option ℕ) → IfErr (number_then o parts) IsOperand
    only_ok_or None = refl
    only_ok_or (Some n) = tt

pub only_end : (parts : List (List ℕ)) → IfErr (no_operand parts) IsOperand
only_end [] = tt
only_end (part ∷ parts) = refl

only_place_in : (parts : List (List ℕ)) → IfErr (place_in parts) IsOperand
unfolding place_in
only_place_in parts =
    only_then (number_operand MAX_SEGMENTS parts) _ (only_number MAX_SEGMENTS parts) (λ segment.
    only_then (number_operand SEGMENT_PAGES segment.1) _ (only_number SEGMENT_PAGES segment.1) (λ page.
    only_then (number_operand PAGE_PLACES page.1) _ (only_number PAGE_PLACES page.1) (λ index. tt)))

pub only_place : (text : List ℕ) → IfErr (place_of text) IsOperand
unfolding place_of
only_place text = only_then (place_in (parts_of text)) _ (only_place_in (parts_of text)) (λ place. only_then (no_operand place.1) _ (only_end place.1) (λ end. tt))

only_generation : (parts : List (List ℕ)) → IfErr (generation_in parts) IsOperand
unfolding generation_in
only_generation parts = only_then (number_operand (2 ^ 32) parts) _ (only_number (2 ^ 32) parts) (λ generation. only_if (generation.0 == 0) generation)
  where
    only_if : (b : Bool) (generation : ℕ × List (List ℕ)) → IfErr (if b then Err fault.Operand else Ok generation) IsOperand
    only_if true generation = refl
    only_if false generation = tt

only_handle : (text : List ℕ) → IfErr (handle_of text) IsOperand
unfolding handle_of
only_handle text =
    only_then (place_in (parts_of text)) _ (only_place_in (parts_of text)) (λ place.
    only_then (generation_in place.1) _ (only_generation place.1) (λ generation. only_then (no_operand generation.1) _ (only_end generation.1) (λ end. tt)))

only_block_by : (labels : List (List ℕ)) (b : ℕ) (bs : List ℕ) (mark name : Bool) → (b == 64) ≡ mark → is_name (b ∷ bs) ≡ name → IfErr (block_of labels (b ∷ bs)) IsOperand × (is_ok (block_of labels (b ∷ bs)) ≡ is_ok (block_of [] (b ∷ bs)))
unfolding block_of
only_block_by labels b bs true name e f = rw e (only_then (handle_of bs) _ (only_handle bs) (λ handle. tt), refl)
only_block_by labels b bs false true e f = rw (e, f) (tt, refl)
only_block_by labels b bs false false e f = rw (e, f) (refl, refl)

pub only_block : (labels : List (List ℕ)) (word : List ℕ) → IfErr (block_of labels word) IsOperand × (is_ok (block_of labels word) ≡ is_ok (block_of [] word))
unfolding block_of
only_block labels [] = (refl, refl)
only_block labels (b ∷ bs) = only_block_by labels b bs (b == 64) (is_name (b ∷ bs)) refl refl

-- by whether something is read
not_read : {X : Type 0} (r : Result X LineFault) → IfErr r IsOperand → is_ok r ≡ false → r ≡ Err fault.Operand
not_read (Ok x) only e = absurd (cc)
not_read (Err f) only e = ap (λ (g : LineFault). Err g) only

is_read : {X : Type 0} (r : Result X LineFault) → is_ok r ≡ true → (x : X) × (r ≡ Ok x)
is_read (Ok x) e = (x, refl)
is_read (Err f) e = absurd (cc)

abbrev place_then : Result Place LineFault → List (List ℕ) → Result (Place × List (List ℕ)) LineFault
place_then r words = r >>= λ place. Ok (place, words)

place_wrong : (word : List ℕ) (words : List (List ℕ)) → is_ok (place_of word) ≡ false → place_operand (word ∷ words) ≡ Err fault.Operand
unfolding place_operand
place_wrong word words e = rw (not_read (place_of word) (only_place word) e) refl

place_right : (word : List ℕ) (words : List (List ℕ)) → is_ok (place_of word) ≡ true → (x : Place) × (place_operand (word ∷ words) ≡ Ok (x, words))
unfolding place_operand
place_right word words e =
    let read = is_read (place_of word) e in
    (read.0, ap (λ (r : Result Place LineFault). place_then r words) read.1)

place_missing : place_operand [] ≡ Err fault.Operand
unfolding place_operand
place_missing = refl

place_reads : Reads wanted.Place place_operand
place_reads = record { wants = refl; missing = place_missing; wrong = place_wrong; right = place_right }

abbrev block_then : Result (Option BlockName) LineFault → List (List ℕ) → Result (Option BlockName × List (List ℕ)) LineFault
block_then r words = r >>= λ block. Ok (block, words)

module _ (labels : List (List ℕ)) where
  block_wrong : (word : List ℕ) (words : List (List ℕ)) → has_block_form word ≡ false → block_operand labels (word ∷ words) ≡ Err fault.Operand
  unfolding block_operand
  block_wrong word words e =
      let only = only_block labels word in
      rw (not_read (block_of labels word) only.0 (only.1 ∙ e)) refl

  block_right : (word : List ℕ) (words : List (List ℕ)) → has_block_form word ≡ true → (x : Option BlockName) × (block_operand labels (word ∷ words) ≡ Ok (x, words))
  unfolding block_operand
  block_right word words e =
      let read = is_read (block_of labels word) ((only_block labels word).1 ∙ e) in
      (read.0, ap (λ (r : Result (Option BlockName) LineFault). block_then r words) read.1)

  block_missing : block_operand labels [] ≡ Err fault.Operand
  unfolding block_operand
  block_missing = refl

  block_reads : Reads wanted.Block (block_operand labels)
  block_reads = record { wants = refl; missing = block_missing; wrong = block_wrong; right = block_right }

-- `as` and a label, or nothing
IfErr-then : {A B : Type 0} (r : Result A LineFault) (f : A → B) → IfErr r IsOfLabel → IfErr (r >>= λ x. Ok (f x)) IsOfLabel
IfErr-then (Ok x) f told = tt
IfErr-then (Err g) f told = told

label_follows : Follows (wanted.Label ∷ []) (λ words. name_operand words >>= λ label. no_operand label.1 >>= λ end. Ok (Some label.0))
label_follows = and_then _ _ _ (λ label. no_operand label.1 >>= λ end. Ok (Some label.0)) label_reads (λ label. and_end (Ok (Some label)) tt)

module _ (f : Option (List ℕ) → Command) where
  as-stops : (words : List (List ℕ)) (n : ℕ) → n ≤ length words → ((k : ℕ) → k < n → fits (wanted.As ∷ wanted.Label ∷ []) words k ≡ true) → fits (wanted.As ∷ wanted.Label ∷ []) words n ≡ false → (label_operand words >>= λ label. Ok (f label)) ≡ Err fault.Operand
  unfolding label_operand
  as-stops [] zero within before wrong = let no : true ≡ false = wrong in absurd (cc)
  as-stops [] (suc n) within before wrong = absurd (omega arith)
  as-stops (word ∷ words) zero within before wrong = let other : bytes_eq word (codes "as") ≡ false = wrong in rw other refl
  as-stops (word ∷ words) (suc n) within before wrong =
      let same : bytes_eq word (codes "as") ≡ true = before 0 (omega arith) in
      let refused = label_follows.stops words n (omega arith) (λ k h. before (suc k) (omega arith)) wrong in
      rw (same, refused) refl

  as-passes : (words : List (List ℕ)) → ((k : ℕ) → k ≤ length words → fits (wanted.As ∷ wanted.Label ∷ []) words k ≡ true) → IfErr (label_operand words >>= λ label. Ok (f label)) IsOfLabel
  unfolding label_operand
  as-passes [] fit = tt
  as-passes (word ∷ words) fit =
      let same : bytes_eq word (codes "as") ≡ true = fit 0 (omega arith) in
      rw same (IfErr-then _ f (label_follows.passes words (λ k h. fit (suc k) (omega arith))))

  as_follows : Follows (wanted.As ∷ wanted.Label ∷ []) (λ words. label_operand words >>= λ label. Ok (f label))
  as_follows = record { stops = as-stops; passes = as-passes }

-- what a line comes to behind its worker
abbrev pub kept_by : ℕ → Command → Bool → Result (Option (ℕ × Command)) LineFault
kept_by worker c again = if again then Err fault.RepeatedLabel else Ok (Some (worker, c))

abbrev pub kept : List (List ℕ) → ℕ → Result Command LineFault → Result (Option (ℕ × Command)) LineFault
kept labels worker r = r >>= λ c. kept_by worker c (repeats labels c)

-- each command
known-told : {C : Type 0} (block : Option BlockName) (next : BlockName → C) → IfErr (known block >>= λ found. Ok (next found)) IsOfLabel
known-told None next = tt
known-told (Some block) next = tt

module _ (labels : List (List ℕ)) where
  alloc_follows : Follows (wanted.Actor ∷ wanted.Arena ∷ wanted.Bytes ∷ wanted.As ∷ wanted.Label ∷ []) alloc_command
  unfolding alloc_command
  alloc_follows =
      and_then _ _ _ _ actor_reads (λ actor.
      and_then _ _ _ _ arena_reads (λ arena.
      and_then _ _ _ _ bytes_reads (λ bytes. as_follows (λ label. command.Alloc actor arena bytes label))))

  free_follows : Follows (wanted.Actor ∷ wanted.Block ∷ []) (free_command labels)
  unfolding free_command
  free_follows =
      and_then _ _ _ _ actor_reads (λ actor.
      and_then _ _ _ _ (block_reads labels) (λ block. and_end (known block >>= λ found. Ok (command.Free actor found)) (known-told block (λ found. command.Free actor found))))

  deliver_follows : Follows [] deliver_command
  unfolding deliver_command
  deliver_follows = and_end (Ok command.Deliver) tt

  take_follows : Follows (wanted.Segment ∷ []) take_command
  unfolding take_command
  take_follows = and_then _ _ _ _ segment_reads (λ segment. and_end (Ok (command.Take segment)) tt)

  collect_follows : Follows [] collect_command
  unfolding collect_command
  collect_follows = and_end (Ok command.Collect) tt

  read_follows : Follows (wanted.Actor ∷ wanted.Block ∷ wanted.Index ∷ []) (read_command labels)
  unfolding read_command
  read_follows =
      and_then _ _ _ _ actor_reads (λ actor.
      and_then _ _ _ _ (block_reads labels) (λ block.
      and_then _ _ _ _ index_reads (λ index. and_end (known block >>= λ found. Ok (command.Read actor found index)) (known-told block (λ found. command.Read actor found index)))))

  write_follows : Follows (wanted.Actor ∷ wanted.Block ∷ wanted.Index ∷ wanted.Value ∷ []) (write_command labels)
  unfolding write_command
  write_follows =
      and_then _ _ _ _ actor_reads (λ actor.
      and_then _ _ _ _ (block_reads labels) (λ block.
      and_then _ _ _ _ index_reads (λ index.
      and_then _ _ _ _ value_reads (λ value. and_end (known block >>= λ found. Ok (command.Write actor found index value)) (known-told block (λ found. command.Write actor found index value))))))

  look_follows : Follows (wanted.Actor ∷ wanted.Place ∷ []) look_command
  unfolding look_command
  look_follows = and_then _ _ _ _ actor_reads (λ actor. and_then _ _ _ _ place_reads (λ place. and_end (Ok (command.Look actor place)) tt))

  list_follows : Follows (wanted.Actor ∷ []) list_command
  unfolding list_command
  list_follows = and_then _ _ _ _ actor_reads (λ actor. and_end (Ok (command.List actor)) tt)

  abandon_follows : Follows (wanted.Segment ∷ []) abandon_command
  unfolding abandon_command
  abandon_follows = and_then _ _ _ _ segment_reads (λ segment. and_end (Ok (command.Abandon segment)) tt)

  refill_follows : Follows (wanted.Arena ∷ []) refill_command
  unfolding refill_command
  refill_follows = and_then _ _ _ _ arena_reads (λ arena. and_end (Ok (command.Refill arena)) tt)

  each_follows : OfEach labels Follows
  each_follows = record {
    alloc = alloc_follows;
    free = free_follows;
    deliver = deliver_follows;
    takes = take_follows;
    collect = collect_follows;
    read = read_follows;
    write = write_follows;
    look = look_follows;
    list = list_follows;
    abandon = abandon_follows;
    refill = refill_follows;
  }

  -- what the operands come to
  command-stops : (name : List ℕ) (words : List (List ℕ)) (o : Option (List Wanted)) (n : ℕ) → Cases Follows o (λ words. command_at labels (name ∷ words)) → n ≤ length words
      → is_some o ≡ true → ((k : ℕ) → k < n → fits (unwrap_or o []) words k ≡ true) → fits (unwrap_or o []) words n ≡ false → command_at labels (name ∷ words) ≡ Err fault.Operand
  command-stops name words None n cases within some before wrong = absurd (cc)
  command-stops name words (Some forms) n cases within some before wrong = cases.stops words n within before wrong

  command-passes : (name : List ℕ) (words : List (List ℕ)) (o : Option (List Wanted)) → Cases Follows o (λ words. command_at labels (name ∷ words)) → is_some o ≡ true → ((k : ℕ) → k ≤ length words → fits (unwrap_or o []) words k ≡ true) → IfErr (command_at labels (name ∷ words)) IsOfLabel
  command-passes name words None cases some fit = absurd (cc)
  command-passes name words (Some forms) cases some fit = cases.passes words fit

  no_command : (name : List ℕ) (words : List (List ℕ)) (o : Option (List Wanted)) → Cases Follows o (λ words. command_at labels (name ∷ words)) → is_some o ≡ false → command_at labels (name ∷ words) ≡ Err fault.Command
  no_command name words None cases none = cases words
  no_command name words (Some forms) cases none = absurd (cc)

  -- the first two words
  worker-wrong : (word : List ℕ) → is_ok (worker_of word) ≡ false → worker_of word ≡ Err fault.Command
  worker-wrong [] e = refl
  worker-wrong (b ∷ digits) e = wrong_by (b == 119) (number_below 16 digits) e
    where
      wrong_by : (mark : Bool) (o : Option ℕ) → is_ok (if mark then ok_or o fault.Command else Err fault.Command) ≡ false → (if mark then ok_or o fault.Command else Err fault.Command) ≡ Err fault.Command
      wrong_by true None e = refl
      wrong_by true (Some n) e = absurd (cc)
      wrong_by false o e = refl

  words-stops : (words : List (List ℕ)) (n : ℕ) → n ≤ length words → ((k : ℕ) → k < n → is_as_wanted (wanted_at words k) (slice_get words k) ≡ true) → is_as_wanted (wanted_at words n) (slice_get words n) ≡ false → words_at labels words ≡ Err (fault_at n)
  unfolding words_at command_at
  words-stops [] zero within before wrong = let no : true ≡ false = wrong in absurd (cc)
  words-stops [] (suc n) within before wrong = absurd (omega arith)
  words-stops (word ∷ words) zero within before wrong = rw (worker-wrong word wrong) refl
  words-stops (word ∷ []) (suc zero) within before wrong = let (worker, is) = is_read (worker_of word) (before 0 (omega arith)) in rw is refl
  words-stops (word ∷ []) (suc (suc n)) within before wrong = absurd (omega arith)
  words-stops (word ∷ name ∷ words) (suc zero) within before wrong =
      let (worker, is) = is_read (worker_of word) (before 0 (omega arith)) in
      rw (is, no_command name words (operands_of name) (command_cases labels Follows each_follows name) wrong) refl
  words-stops (word ∷ name ∷ words) (suc (suc n)) within before wrong =
      let (worker, is) = is_read (worker_of word) (before 0 (omega arith)) in
      let refused = command-stops name words (operands_of name) n (command_cases labels Follows each_follows name) (omega arith) (before 1 (omega arith)) (λ k h. before (suc (suc k)) (omega arith)) wrong in
      rw (is, refused) refl

  kept_by-told : (worker : ℕ) (c : Command) (again : Bool) → IfErr (kept_by worker c again) IsOfLabel
  kept_by-told worker c true = tt
  kept_by-told worker c false = tt

  kept-told : (worker : ℕ) (r : Result Command LineFault) → IfErr r IsOfLabel → IfErr (kept labels worker r) IsOfLabel
  kept-told worker (Ok c) e = kept_by-told worker c (repeats labels c)
  kept-told worker (Err f) e = e

  words-passes : (words : List (List ℕ)) → ((k : ℕ) → k ≤ length words → is_as_wanted (wanted_at words k) (slice_get words k) ≡ true) → IfErr (words_at labels words) IsOfLabel
  unfolding words_at
  words-passes [] fit = tt
  words-passes (word ∷ []) fit = let no : false ≡ true = fit 1 (omega arith) in absurd (cc)
  words-passes (word ∷ name ∷ words) fit =
      let (worker, is) = is_read (worker_of word) (fit 0 (omega arith)) in
      let read = command-passes name words (operands_of name) (command_cases labels Follows each_follows name) (fit 1 (omega arith)) (λ k h. fit (suc (suc k)) (omega arith)) in
      rw is (kept-told worker (command_at labels (name ∷ words)) read)

un_not : (b : Bool) → not b ≡ false → b ≡ true
un_not true e = refl
un_not false e = let no : true ≡ false = e in absurd (cc)

not_un : (b : Bool) → not b ≡ true → b ≡ false
not_un true e = let no : false ≡ true = e in absurd (cc)
not_un false e = refl

pub wrong_words_are_faults : WrongWordsAreFaults
wrong_words_are_faults labels words number e =
    let at = position-at (λ n. not (is_as_wanted (wanted_at words n) (slice_get words n))) (length words + 1) number e in
    words-stops labels words number (omega (arith, at.0)) (λ k h. un_not (is_as_wanted (wanted_at words k) (slice_get words k)) (at.2 k h)) (not_un (is_as_wanted (wanted_at words number) (slice_get words number)) at.1)

pub right_words_are_read : RightWordsAreRead
right_words_are_read labels words e =
    words-passes labels words (λ k h. un_not (is_as_wanted (wanted_at words k) (slice_get words k)) (position-fails (λ n. not (is_as_wanted (wanted_at words n) (slice_get words n))) (length words + 1) k e (omega arith)))

-- Each fault that is told of a line has a word in it, or a byte.
use Rattle.std.proofs.Common.{◌≡◌, ◌≢◌, ◌⊎◌, add-zero, ℕ, zero, suc, ◌+◌, ◌<◌, ◌^◌, ◌==◌, ◌++◌, Bool, true, false, not, ◌||◌, List, [], ◌∷◌, length, Option, Some, None, Result, Ok, Err, IfOk, refl, sym, ap, subst, ◌∙◌, inl, inr, arith, codes, bytes_eq, if◌then◌else◌}
use Rattle.std.specs.Prelude.{ok_or, unwrap_or, IsSome, IfErr, slice_get, position}
use Rattle.std.specs.Option.{option_map}
use Rattle.std.specs.List.{list_any, list_all, position_or_len}
use Rattle.std.proofs.lemmas.Bool.{cases_Bool, lt-ltb}
use Rattle.hg_place.specs.declared.geometry.TheConstants.{MAX_SEGMENTS}
use Rattle.hg_policy_text.specs.NameForm.{is_name}
use Rattle.hg_trace.specs.declared.fault.LineFault.{LineFault}
use Rattle.hg_trace.specs.declared.fault.LineFault.TheVariants as fault
use Rattle.hg_trace.specs.declared.fault.TraceFault.{TraceFault}
use Rattle.hg_trace.specs.declared.fault.TraceFault.TheVariants as trace_fault
use Rattle.hg_trace.specs.declared.line.BlockName.{BlockName}
use Rattle.hg_trace.specs.declared.line.Command.{Command}
use Rattle.hg_trace.specs.declared.line.Command.TheVariants as command
use Rattle.hg_trace.specs.declared.line.Line.{Line}
use Rattle.hg_trace.specs.declared.wanted.Wanted.{Wanted}
use Rattle.hg_trace.specs.declared.wanted.Wanted.TheVariants as wanted
use Rattle.hg_trace.specs.declared.faulty.FaultyWord.{FaultyWord}
use Rattle.hg_trace.specs.Faults.{◌>>=◌}
use Rattle.hg_trace.specs.Lines.{lines_of, before_comment, split_words, is_allowed, is_plain, ends_text, ends_line}
use Rattle.hg_trace.specs.Numbers.{number_below}
use Rattle.hg_trace.specs.Operands.{name_operand, number_operand, no_operand, label_operand}
use Rattle.hg_trace.specs.Handles.{place_of, place_operand}
use Rattle.hg_trace.specs.Blocks.{block_of, block_operand}
use Rattle.hg_trace.specs.Labels.{repeats, labels_after}
use Rattle.hg_trace.specs.Commands.{worker_of, known, alloc_command, free_command, deliver_command, take_command, collect_command, read_command, write_command, look_command, list_command, abandon_command, refill_command, command_at, words_at}
use Rattle.hg_trace.specs.Trace.{line_at, numbered, lines_from}
use Rattle.hg_trace.specs.Forms.{operands_of, is_block, is_label, wrong_word, wrong_in, given_in, new_in, wanted_at}
use Rattle.hg_trace.specs.FaultyWord.{line_of, Tells, TellsOf, TellsWord, TellsByte}
use Rattle.hg_trace.specs.FaultyWordLaws.{fault_at, IsOfLabel, FaultsAreTold}
use Rattle.hg_trace.proofs.CommandCases.{OfEach, Cases, command_cases}
use Rattle.hg_trace.proofs.WordFaults.{IsOperand, only_number, only_end, only_place, only_block, kept_by, kept, wrong_words_are_faults, right_words_are_read}

-- the fault of an operand, or that of an unknown label where an operand is a block
abbrev Allowed : Bool → LineFault → Type 0
Allowed block fault.Operand = Unit {0}
Allowed block fault.UnknownLabel = block ≡ true
Allowed block _ = ⊥

if_then : {A B : Type 0} (P : LineFault → Type 0) (r : Result A LineFault) (next : A → Result B LineFault) → IfErr r P → ((x : A) → IfErr (next x) P) → IfErr (r >>= next) P
if_then P (Ok x) next first later = later x
if_then P (Err f) next first later = first

ok_then : {A B : Type 0} (P : B → Type 0) (r : Result A LineFault) (next : A → Result B LineFault) → ((x : A) → IfOk (next x) P) → IfOk (r >>= next) P
ok_then P (Ok x) next later = later x
ok_then P (Err f) next later = tt

allowed : {A : Type 0} (block : Bool) (r : Result A LineFault) → IfErr r IsOperand → IfErr r (Allowed block)
allowed block (Ok x) only = tt
allowed block (Err f) only = rw only tt

only_name : (words : List (List ℕ)) → IfErr (name_operand words) IsOperand
only_name [] = refl
only_name (word ∷ words) = by_test (is_name word)
  where
    by_test : (b : Bool) → IfErr {T = List ℕ × List (List ℕ)} (if b then Ok (word, words) else Err fault.Operand) IsOperand
    by_test true = tt
    by_test false = refl

only_place_operand : (words : List (List ℕ)) → IfErr (place_operand words) IsOperand
unfolding place_operand
only_place_operand [] = refl
only_place_operand (word ∷ words) = if_then IsOperand (place_of word) _ (only_place word) (λ place. tt)

only_block_operand : (labels words : List (List ℕ)) → IfErr (block_operand labels words) IsOperand
unfolding block_operand
only_block_operand labels [] = refl
only_block_operand labels (word ∷ words) = if_then IsOperand (block_of labels word) _ ((only_block labels word).0) (λ block. tt)

only_label : (words : List (List ℕ)) → IfErr (label_operand words) IsOperand
unfolding label_operand
only_label [] = tt
only_label (word ∷ words) = by_test (bytes_eq word (codes "as"))
  where
    by_test : (b : Bool) → IfErr (if b then (name_operand words >>= λ label. no_operand label.1 >>= λ end. Ok (Some label.0)) else Err fault.Operand) IsOperand
    by_test true = if_then IsOperand (name_operand words) _ (only_name words) (λ label. if_then IsOperand (no_operand label.1) _ (only_end label.1) (λ end. tt))
    by_test false = refl

known-allowed : {C : Type 0} (block : Option BlockName) (next : BlockName → C) → IfErr (known block >>= λ found. Ok (next found)) (Allowed true)
known-allowed None next = refl
known-allowed (Some block) next = tt

-- no label is given
abbrev GivesNone : Command → Type 0
GivesNone c = (labels : List (List ℕ)) → repeats labels c ≡ false

known-none : (block : Option BlockName) (next : BlockName → Command) → ((found : BlockName) → GivesNone (next found)) → IfOk (known block >>= λ found. Ok (next found)) GivesNone
known-none None next none = tt
known-none (Some block) next none = none block

-- where a step is one of the readers of operands
module _ {B : Type 0} (block : Bool) where
  names : (words : List (List ℕ)) (next : List ℕ × List (List ℕ) → Result B LineFault) → ((x : List ℕ × List (List ℕ)) → IfErr (next x) (Allowed block)) → IfErr (name_operand words >>= next) (Allowed block)
  names words next later = if_then (Allowed block) (name_operand words) next (allowed block (name_operand words) (only_name words)) later

  numbers : (limit : ℕ) (words : List (List ℕ)) (next : ℕ × List (List ℕ) → Result B LineFault) → ((x : ℕ × List (List ℕ)) → IfErr (next x) (Allowed block)) → IfErr (number_operand limit words >>= next) (Allowed block)
  numbers limit words next later = if_then (Allowed block) (number_operand limit words) next (allowed block (number_operand limit words) (only_number limit words)) later

  blocks : (labels words : List (List ℕ)) (next : Option BlockName × List (List ℕ) → Result B LineFault) → ((x : Option BlockName × List (List ℕ)) → IfErr (next x) (Allowed block)) → IfErr (block_operand labels words >>= next) (Allowed block)
  blocks labels words next later = if_then (Allowed block) (block_operand labels words) next (allowed block (block_operand labels words) (only_block_operand labels words)) later

  ends : (words : List (List ℕ)) (next : Unit {0} → Result B LineFault) → ((x : Unit {0}) → IfErr (next x) (Allowed block)) → IfErr (no_operand words >>= next) (Allowed block)
  ends words next later = if_then (Allowed block) (no_operand words) next (allowed block (no_operand words) (only_end words)) later

-- a command that is read gives a label only where one of its operands is such
abbrev Gives : List Wanted → Command → Type 0
Gives forms c = (list_any is_label forms ≡ true) ⊎ GivesNone c

-- the faults of a command's operands, and which command gives a label
record Labelled (forms : List Wanted) (next : List (List ℕ) → Result Command LineFault) : Type 0 where
  faults : (words : List (List ℕ)) → IfErr (next words) (Allowed (list_any is_block forms))
  gives : (words : List (List ℕ)) → IfOk (next words) (Gives forms)

ok_any : {A : Type 0} (P : A → Type 0) (r : Result A LineFault) → ((x : A) → P x) → IfOk r P
ok_any P (Ok x) all = all x
ok_any P (Err f) all = tt

known-gives : (P : Command → Type 0) (block : Option BlockName) (next : BlockName → Command) → ((found : BlockName) → P (next found)) → IfOk (known block >>= λ found. Ok (next found)) P
known-gives P None next all = tt
known-gives P (Some block) next all = all block

module _ (labels : List (List ℕ)) where
  alloc_labelled : Labelled (wanted.Actor ∷ wanted.Arena ∷ wanted.Bytes ∷ wanted.As ∷ wanted.Label ∷ []) alloc_command
  unfolding alloc_command
  alloc_labelled = record {
    faults = λ words.
        names false words _ (λ actor. names false actor.1 _ (λ arena. numbers false (2 ^ 64) arena.1 _ (λ bytes.
        if_then (Allowed false) (label_operand bytes.1) _ (allowed false (label_operand bytes.1) (only_label bytes.1)) (λ label. tt))));
    gives = λ words. ok_any (Gives (wanted.Actor ∷ wanted.Arena ∷ wanted.Bytes ∷ wanted.As ∷ wanted.Label ∷ [])) (alloc_command words) (λ c. inl refl);
  }

  free_labelled : Labelled (wanted.Actor ∷ wanted.Block ∷ []) (free_command labels)
  unfolding free_command
  free_labelled =
      let P = Gives (wanted.Actor ∷ wanted.Block ∷ []) in
      record {
        faults = λ words. names true words _ (λ actor. blocks true labels actor.1 _ (λ block. ends true block.1 _ (λ end. known-allowed block.0 (λ found. command.Free actor.0 found))));
        gives = λ words.
            ok_then P (name_operand words) _ (λ actor. ok_then P (block_operand labels actor.1) _ (λ block. ok_then P (no_operand block.1) _ (λ end.
            known-gives P block.0 (λ found. command.Free actor.0 found) (λ found. inr (λ known. refl)))));
      }

  deliver_labelled : Labelled [] deliver_command
  unfolding deliver_command
  deliver_labelled = record {
    faults = λ words. ends false words _ (λ end. tt);
    gives = λ words. ok_then (Gives []) (no_operand words) _ (λ end. inr (λ known. refl));
  }

  take_labelled : Labelled (wanted.Segment ∷ []) take_command
  unfolding take_command
  take_labelled =
      let P = Gives (wanted.Segment ∷ []) in
      record {
        faults = λ words. numbers false MAX_SEGMENTS words _ (λ segment. ends false segment.1 _ (λ end. tt));
        gives = λ words. ok_then P (number_operand MAX_SEGMENTS words) _ (λ segment. ok_then P (no_operand segment.1) _ (λ end. inr (λ known. refl)));
      }

  collect_labelled : Labelled [] collect_command
  unfolding collect_command
  collect_labelled = record {
    faults = λ words. ends false words _ (λ end. tt);
    gives = λ words. ok_then (Gives []) (no_operand words) _ (λ end. inr (λ known. refl));
  }

  read_labelled : Labelled (wanted.Actor ∷ wanted.Block ∷ wanted.Index ∷ []) (read_command labels)
  unfolding read_command
  read_labelled =
      let P = Gives (wanted.Actor ∷ wanted.Block ∷ wanted.Index ∷ []) in
      record {
        faults = λ words.
            names true words _ (λ actor. blocks true labels actor.1 _ (λ block. numbers true (2 ^ 32) block.1 _ (λ index. ends true index.1 _ (λ end.
            known-allowed block.0 (λ found. command.Read actor.0 found index.0)))));
        gives = λ words.
            ok_then P (name_operand words) _ (λ actor. ok_then P (block_operand labels actor.1) _ (λ block. ok_then P (number_operand (2 ^ 32) block.1) _ (λ index. ok_then P (no_operand index.1) _ (λ end.
            known-gives P block.0 (λ found. command.Read actor.0 found index.0) (λ found. inr (λ known. refl))))));
      }

  write_labelled : Labelled (wanted.Actor ∷ wanted.Block ∷ wanted.Index ∷ wanted.Value ∷ []) (write_command labels)
  unfolding write_command
  write_labelled =
      let P = Gives (wanted.Actor ∷ wanted.Block ∷ wanted.Index ∷ wanted.Value ∷ []) in
      record {
        faults = λ words.
            names true words _ (λ actor. blocks true labels actor.1 _ (λ block. numbers true (2 ^ 32) block.1 _ (λ index. numbers true (2 ^ 64) index.1 _ (λ value. ends true value.1 _ (λ end.
            known-allowed block.0 (λ found. command.Write actor.0 found index.0 value.0))))));
        gives = λ words.
            ok_then P (name_operand words) _ (λ actor. ok_then P (block_operand labels actor.1) _ (λ block. ok_then P (number_operand (2 ^ 32) block.1) _ (λ index. ok_then P (number_operand (2 ^ 64) index.1) _ (λ value. ok_then P (no_operand value.1) _ (λ end.
            known-gives P block.0 (λ found. command.Write actor.0 found index.0 value.0) (λ found. inr (λ known. refl)))))));
      }

  look_labelled : Labelled (wanted.Actor ∷ wanted.Place ∷ []) look_command
  unfolding look_command
  look_labelled =
      let P = Gives (wanted.Actor ∷ wanted.Place ∷ []) in
      record {
        faults = λ words.
            names false words _ (λ actor. if_then (Allowed false) (place_operand actor.1) _ (allowed false (place_operand actor.1) (only_place_operand actor.1)) (λ place. ends false place.1 _ (λ end. tt)));
        gives = λ words. ok_then P (name_operand words) _ (λ actor. ok_then P (place_operand actor.1) _ (λ place. ok_then P (no_operand place.1) _ (λ end. inr (λ known. refl))));
      }

  list_labelled : Labelled (wanted.Actor ∷ []) list_command
  unfolding list_command
  list_labelled =
      let P = Gives (wanted.Actor ∷ []) in
      record {
        faults = λ words. names false words _ (λ actor. ends false actor.1 _ (λ end. tt));
        gives = λ words. ok_then P (name_operand words) _ (λ actor. ok_then P (no_operand actor.1) _ (λ end. inr (λ known. refl)));
      }

  abandon_labelled : Labelled (wanted.Segment ∷ []) abandon_command
  unfolding abandon_command
  abandon_labelled =
      let P = Gives (wanted.Segment ∷ []) in
      record {
        faults = λ words. numbers false MAX_SEGMENTS words _ (λ segment. ends false segment.1 _ (λ end. tt));
        gives = λ words. ok_then P (number_operand MAX_SEGMENTS words) _ (λ segment. ok_then P (no_operand segment.1) _ (λ end. inr (λ known. refl)));
      }

  refill_labelled : Labelled (wanted.Arena ∷ []) refill_command
  unfolding refill_command
  refill_labelled =
      let P = Gives (wanted.Arena ∷ []) in
      record {
        faults = λ words. names false words _ (λ arena. ends false arena.1 _ (λ end. tt));
        gives = λ words. ok_then P (name_operand words) _ (λ arena. ok_then P (no_operand arena.1) _ (λ end. inr (λ known. refl)));
      }

  each_labelled : OfEach labels Labelled
  each_labelled = record {
    alloc = alloc_labelled;
    free = free_labelled;
    deliver = deliver_labelled;
    takes = take_labelled;
    collect = collect_labelled;
    read = read_labelled;
    write = write_labelled;
    look = look_labelled;
    list = list_labelled;
    abandon = abandon_labelled;
    refill = refill_labelled;
  }

-- what one passes is found
any-within : {X : Type 0} (p : X → Bool) (xs : List X) → list_any p xs ≡ true → position_or_len p xs < length xs
any-within p [] e = absurd (cc)
any-within p (x ∷ xs) e =
    elim (cases_Bool (p x)) [
      | inl here ↦ rw here (omega arith)
      | inr other ↦ let rest : list_any p xs ≡ true = rw other at e in rw other (omega (arith, any-within p xs rest))
    ]

position-any : {X : Type 0} (p : X → Bool) (xs : List X) → list_any p xs ≡ true → IsSome (position p xs)
position-any p xs e = let within = any-within p xs e in rw (lt-ltb (position_or_len p xs) (length xs) within) refl

map-some : {A B : Type 0} (f : A → B) (o : Option A) → IsSome o → IsSome (option_map f o)
map-some f None some = absurd (cc)
map-some f (Some x) some = refl

module _ (labels : List (List ℕ)) where
  -- of a command's words, by the operands of its name
  command-unknown : (name : List ℕ) (words : List (List ℕ)) (o : Option (List Wanted)) → Cases Labelled o (λ words. command_at labels (name ∷ words)) → command_at labels (name ∷ words) ≡ Err fault.UnknownLabel → list_any is_block (unwrap_or o []) ≡ true
  command-unknown name words None cases e = let no : Err fault.Command ≡ Err fault.UnknownLabel = sym (cases words) ∙ e in absurd (cc)
  command-unknown name words (Some forms) cases e = rw e at (cases.faults words)

  command-again : (name : List ℕ) (words : List (List ℕ)) (o : Option (List Wanted)) → Cases Labelled o (λ words. command_at labels (name ∷ words)) → command_at labels (name ∷ words) ≢ Err fault.RepeatedLabel
  command-again name words None cases e = let no : Err fault.Command ≡ Err fault.RepeatedLabel = sym (cases words) ∙ e in cc
  command-again name words (Some forms) cases e = rw e at (cases.faults words)

  command-gives : (name : List ℕ) (words : List (List ℕ)) (o : Option (List Wanted)) (c : Command) → Cases Labelled o (λ words. command_at labels (name ∷ words)) → command_at labels (name ∷ words) ≡ Ok c → repeats labels c ≡ true → list_any is_label (unwrap_or o []) ≡ true
  command-gives name words None c cases e again = let no : Err fault.Command ≡ Ok c = sym (cases words) ∙ e in absurd (cc)
  command-gives name words (Some forms) c cases e again =
      let given : Gives forms c = rw e at (cases.gives words) in
      elim given [
        | inl label ↦ label
        | inr none ↦ let no : true ≡ false = sym again ∙ none labels in absurd (cc)
      ]

  -- a fault behind a worker
  kept_by-unknown : (worker : ℕ) (c : Command) (again : Bool) → kept_by worker c again ≢ Err fault.UnknownLabel
  kept_by-unknown worker c true e = cc
  kept_by-unknown worker c false e = cc

  kept-unknown : (worker : ℕ) (r : Result Command LineFault) → kept labels worker r ≡ Err fault.UnknownLabel → r ≡ Err fault.UnknownLabel
  kept-unknown worker (Ok c) e = absurd (kept_by-unknown worker c (repeats labels c) e)
  kept-unknown worker (Err f) e = let same : f ≡ fault.UnknownLabel = cc in ap (λ (g : LineFault). Err g) same

  kept_by-again : (worker : ℕ) (c : Command) (again : Bool) → kept_by worker c again ≡ Err fault.RepeatedLabel → again ≡ true
  kept_by-again worker c true e = refl
  kept_by-again worker c false e = absurd (cc)

  kept-again : (worker : ℕ) (r : Result Command LineFault) → kept labels worker r ≡ Err fault.RepeatedLabel → (r ≡ Err fault.RepeatedLabel) ⊎ ((c : Command) × (r ≡ Ok c) × (repeats labels c ≡ true))
  kept-again worker (Ok c) e = inr (c, refl, kept_by-again worker c (repeats labels c) e)
  kept-again worker (Err f) e = let same : f ≡ fault.RepeatedLabel = cc in inl (ap (λ (g : LineFault). Err g) same)

  worker-fault : (word : List ℕ) → IfErr (worker_of word) (λ f. f ≡ fault.Command)
  worker-fault [] = refl
  worker-fault (b ∷ digits) = fault_by (b == 119) (number_below 16 digits)
    where
      fault_by : (mark : Bool) (o : Option ℕ) → IfErr (if mark then ok_or o fault.Command else Err fault.Command) (λ f. f ≡ fault.Command)
      fault_by true None = refl
      fault_by true (Some n) = tt
      fault_by false o = refl

  behind_worker : {A : Type 0} (r : Result ℕ LineFault) (next : ℕ → Result A LineFault) (f : LineFault) → IfErr r (λ g. g ≡ fault.Command) → f ≢ fault.Command → (r >>= next) ≡ Err f → (worker : ℕ) × (next worker ≡ Err f)
  behind_worker (Ok worker) next f only other e = (worker, e)
  behind_worker (Err g) next f only other e = let same : g ≡ f = cc in absurd (other (sym same ∙ only))

  unknown-told : (words : List (List ℕ)) → words_at labels words ≡ Err fault.UnknownLabel → IsSome (given_in words)
  unfolding words_at command_at
  unknown-told [] e = absurd (cc)
  unknown-told (word ∷ words) e =
      let found = behind_worker (worker_of word) (λ worker. kept labels worker (command_at labels words)) fault.UnknownLabel (worker-fault word) (λ no. cc) e in
      unknown-in word words (kept-unknown found.0 (command_at labels words) found.1)
    where
      unknown-in : (word : List ℕ) (words : List (List ℕ)) → command_at labels words ≡ Err fault.UnknownLabel → IsSome (given_in (word ∷ words))
      unknown-in word [] e = absurd (cc)
      unknown-in word (name ∷ words) e =
          let block : list_any is_block (unwrap_or (operands_of name) []) ≡ true = command-unknown name words (operands_of name) (command_cases labels Labelled (each_labelled labels) name) e in
          map-some (λ (n : ℕ). (n + 2, wanted.GivenLabel)) (position is_block (unwrap_or (operands_of name) [])) (position-any is_block (unwrap_or (operands_of name) []) block)

  again-told : (words : List (List ℕ)) → words_at labels words ≡ Err fault.RepeatedLabel → IsSome (new_in words)
  unfolding words_at command_at
  again-told [] e = absurd (cc)
  again-told (word ∷ words) e =
      let found = behind_worker (worker_of word) (λ worker. kept labels worker (command_at labels words)) fault.RepeatedLabel (worker-fault word) (λ no. cc) e in
      again-in word words (kept-again found.0 (command_at labels words) found.1)
    where
      again-in : (word : List ℕ) (words : List (List ℕ)) → (command_at labels words ≡ Err fault.RepeatedLabel) ⊎ ((c : Command) × (command_at labels words ≡ Ok c) × (repeats labels c ≡ true)) → IsSome (new_in (word ∷ words))
      again-in word [] (inl e) = absurd (cc)
      again-in word [] (inr e) = let no : Err fault.Command ≡ Ok e.0 = e.1 in absurd (cc)
      again-in word (name ∷ words) (inl e) = absurd (command-again name words (operands_of name) (command_cases labels Labelled (each_labelled labels) name) e)
      again-in word (name ∷ words) (inr e) =
          let label : list_any is_label (unwrap_or (operands_of name) []) ≡ true = command-gives name words (operands_of name) e.0 (command_cases labels Labelled (each_labelled labels) name) e.1 e.2 in
          map-some (λ (n : ℕ). (n + 2, wanted.NewLabel)) (position is_label (unwrap_or (operands_of name) [])) (position-any is_label (unwrap_or (operands_of name) []) label)

  -- a fault that is of no label is that of a wrong word
  wrong-told : (words : List (List ℕ)) (f : LineFault) → (IsOfLabel f → ⊥) → words_at labels words ≡ Err f → IsSome (wrong_word words)
  wrong-told words f other e = wrong_by (wrong_word words) (right_words_are_read labels words)
    where
      wrong_by : (o : Option ℕ) → (o ≡ None → IfErr (words_at labels words) IsOfLabel) → IsSome o
      wrong_by None right = let label : IsOfLabel f = rw e at (right refl) in absurd (other label)
      wrong_by (Some n) right = refl

-- the words of a line have no fault of a byte
no_byte_at : (n : ℕ) → fault_at n ≢ fault.Byte
no_byte_at zero e = cc
no_byte_at (suc zero) e = cc
no_byte_at (suc (suc n)) e = cc

no_byte : (labels words : List (List ℕ)) → words_at labels words ≢ Err fault.Byte
no_byte labels words e = no_byte_by (wrong_word words) (right_words_are_read labels words) (wrong_words_are_faults labels words)
  where
    no_byte_by : (o : Option ℕ) → (o ≡ None → IfErr (words_at labels words) IsOfLabel) → ((n : ℕ) → o ≡ Some n → words_at labels words ≡ Err (fault_at n)) → ⊥
    no_byte_by None right wrong = rw e at (right refl)
    no_byte_by (Some n) right wrong = let same : Err (fault_at n) ≡ Err fault.Byte = sym (wrong n refl) ∙ e in let is : fault_at n ≡ fault.Byte = cc in no_byte_at n is

-- a byte that isn't allowed before the comment is found
one_more : (n : ℕ) → 1 + n ≡ suc n
one_more n = omega arith

bad-found : (line : List ℕ) → list_all is_allowed (before_comment line) ≡ false → list_any (λ b. not (is_plain b)) (before_comment line) ≡ true
bad-found [] e = absurd (cc)
bad-found (b ∷ bs) e =
    elim (cases_Bool (ends_text b)) [
      | inl ends ↦ let no : true ≡ false = rw ends at e in absurd (cc)
      | inr other ↦
          let cut : before_comment (b ∷ bs) ≡ b ∷ before_comment bs = rw (other, one_more (position_or_len ends_text bs)) refl in
          let line : ends_line b ≡ false = or_left (ends_line b) (b == 35) other in
          rw cut (bad-in b (before_comment bs) (is_allowed b) refl line (rw cut at e) (bad-found bs))
    ]
  where
    or_left : (a c : Bool) → (a || c) ≡ false → a ≡ false
    or_left true c e = e
    or_left false c e = refl

    bad-in : (b : ℕ) (text : List ℕ) (allowed : Bool) → is_allowed b ≡ allowed → ends_line b ≡ false → list_all is_allowed (b ∷ text) ≡ false → (list_all is_allowed text ≡ false → list_any (λ b. not (is_plain b)) text ≡ true) → list_any (λ b. not (is_plain b)) (b ∷ text) ≡ true
    bad-in b text true is line e rest = let later : list_all is_allowed text ≡ false = rw is at e in rw (is, rest later) (or-true' (not (true || ends_line b)))
      where
        or-true' : (x : Bool) → (x || true) ≡ true
        or-true' true = refl
        or-true' false = refl
    bad-in b text false is line e rest = rw (is, line) refl

told-word : (text : List ℕ) (o : Option (ℕ × Wanted)) (told : Option FaultyWord) → IsSome o → TellsWord text o told → IsSome told
told-word text None told some tells = absurd (cc)
told-word text (Some (number, form)) None some tells = absurd tells
told-word text (Some (number, form)) (Some word) some tells = refl

told-byte : (text : List ℕ) (o : Option ℕ) (told : Option FaultyWord) → IsSome o → TellsByte text o told → IsSome told
told-byte text None told some tells = absurd (cc)
told-byte text (Some column) None some tells = absurd tells
told-byte text (Some column) (Some word) some tells = refl

-- the fault of a line is that of its words, or of a byte
words-fault : (labels : List (List ℕ)) (line : List ℕ) (f : LineFault) → f ≢ fault.Byte → line_at labels line ≡ Err f → words_at labels (split_words (before_comment line)) ≡ Err f
unfolding line_at
words-fault labels line f other e =
    elim (cases_Bool (list_all is_allowed (before_comment line))) [
      | inl allowed ↦ rw allowed at e
      | inr bad ↦ let byte : Err fault.Byte ≡ Err f = rw bad at e in let same : fault.Byte ≡ f = cc in absurd (other (sym same))
    ]

bytes-fault : (labels : List (List ℕ)) (line : List ℕ) → line_at labels line ≡ Err fault.Byte → list_all is_allowed (before_comment line) ≡ false
unfolding line_at
bytes-fault labels line e =
    elim (cases_Bool (list_all is_allowed (before_comment line))) [
      | inl allowed ↦ let words : words_at labels (split_words (before_comment line)) ≡ Err fault.Byte = rw allowed at e in absurd (no_byte labels (split_words (before_comment line)) words)
      | inr bad ↦ bad
    ]

line-told : (labels : List (List ℕ)) (line : List ℕ) (f : LineFault) (told : Option FaultyWord) → line_at labels line ≡ Err f → TellsOf f (before_comment line) told → IsSome told
line-told labels line fault.Byte told e tells =
    told-byte (before_comment line) (position (λ b. not (is_plain b)) (before_comment line)) told (position-any (λ b. not (is_plain b)) (before_comment line) (bad-found line (bytes-fault labels line e))) tells
line-told labels line fault.Command told e tells =
    let words = split_words (before_comment line) in
    told-word (before_comment line) (wrong_in words) told (map-some (λ n. (n, wanted_at words n)) (wrong_word words) (wrong-told labels words fault.Command (λ no. no) (words-fault labels line fault.Command (λ no. cc) e))) tells
line-told labels line fault.Operand told e tells =
    let words = split_words (before_comment line) in
    told-word (before_comment line) (wrong_in words) told (map-some (λ n. (n, wanted_at words n)) (wrong_word words) (wrong-told labels words fault.Operand (λ no. no) (words-fault labels line fault.Operand (λ no. cc) e))) tells
line-told labels line fault.UnknownLabel told e tells =
    let words = split_words (before_comment line) in
    told-word (before_comment line) (given_in words) told (unknown-told labels words (words-fault labels line fault.UnknownLabel (λ no. cc) e)) tells
line-told labels line fault.RepeatedLabel told e tells =
    let words = split_words (before_comment line) in
    told-word (before_comment line) (new_in words) told (again-told labels words (words-fault labels line fault.RepeatedLabel (λ no. cc) e)) tells

-- a fault of some lines is one of them
IsFaultOf : ℕ → List (List ℕ) → ℕ → LineFault → Type 0
IsFaultOf n lines number f = (i : ℕ) × (line : List ℕ) × (labels : List (List ℕ)) × (number ≡ n + i) × (slice_get lines i ≡ Some line) × (line_at labels line ≡ Err f)

then-fault : (r : Result (List Line) TraceFault) (here : List Line) (t : TraceFault) → (r >>= λ rest. Ok (here ++ rest)) ≡ Err t → r ≡ Err t
then-fault (Ok rest) here t e = absurd (cc)
then-fault (Err u) here t e = let same : u ≡ t = cc in ap (λ (v : TraceFault). Err v) same

numbered-fault : (n : ℕ) (labels : List (List ℕ)) (line : List ℕ) (lines : List (List ℕ)) (r : Result (Option (ℕ × Command)) LineFault) (next : List Line → Result (List Line) TraceFault) (number : ℕ) (f : LineFault) → line_at labels line ≡ r
    → ((here : List Line) → next here ≡ Err (trace_fault.Line number f) → IsFaultOf (n + 1) lines number f)
    → (numbered n r >>= next) ≡ Err (trace_fault.Line number f) → IsFaultOf n (line ∷ lines) number f
unfolding IsFaultOf
numbered-fault n labels line lines (Err g) next number f is later e =
    let same : trace_fault.Line n g ≡ trace_fault.Line number f = cc in
    let at : n ≡ number = cc in
    let fault_is : g ≡ f = cc in
    (0, line, labels, sym at ∙ sym (add-zero n), refl, is ∙ ap (λ (h : LineFault). Err h) fault_is)
numbered-fault n labels line lines (Ok None) next number f is later e =
    let found = later [] e in
    (suc found.0, found.1, found.2, found.3 ∙ omega arith, found.4, found.5)
numbered-fault n labels line lines (Ok (Some (worker, command))) next number f is later e =
    let found = later (record { number = n; worker = worker; command = command } ∷ []) e in
    (suc found.0, found.1, found.2, found.3 ∙ omega arith, found.4, found.5)

lines-fault : (lines : List (List ℕ)) (n : ℕ) (labels : List (List ℕ)) (number : ℕ) (f : LineFault) → lines_from n labels lines ≡ Err (trace_fault.Line number f) → IsFaultOf n lines number f
lines-fault [] n labels number f e = absurd (cc)
lines-fault (line ∷ lines) n labels number f e =
    numbered-fault n labels line lines (line_at labels line) (λ here. lines_from (n + 1) (labels_after labels here) lines >>= λ rest. Ok (here ++ rest)) number f refl
    (λ here h. lines-fault lines (n + 1) (labels_after labels here) number f (then-fault (lines_from (n + 1) (labels_after labels here) lines) here (trace_fault.Line number f) h))
    e

pub faults_are_told : FaultsAreTold
unfolding IsFaultOf
faults_are_told bytes number f told e tells =
    let found = lines-fault (lines_of bytes) 1 [] number f e in
    let at : number ≡ suc found.0 = found.3 ∙ omega arith in
    let here : line_of bytes number ≡ Some found.1 = ap (line_of bytes) at ∙ found.4 in
    line-told found.2 found.1 f told found.5 (subst (λ (line : Option (List ℕ)). Tells f line told) here tells)

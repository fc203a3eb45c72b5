-- What a trace keeps, where a line comes behind its lines.
use Rattle.std.proofs.Common.{◌≡◌, ℕ, ◌+◌, ◌-◌, ◌≤◌, ◌<◌, suc, zero, leb, cond, Bool, true, false, List, [], ◌∷◌, ◌++◌, Option, Some, None}
use Rattle.std.proofs.Common.{length, get_or, slice_get, is_some, option_map, map, find, replicate, All, refl, sym, ap, subst, ◌∙◌, inl, inr, arith}
use Rattle.std.specs.Option.{option_or}
use Rattle.std.proofs.lemmas.Bool.Decides.{leb_tells}
use Rattle.std.proofs.lemmas.Option.{slice_get_cases, slice_get-get_or, slice_get_past}
use Rattle.std.proofs.lemmas.List.{map-append, length-append, length-replicate, get_or-replicate}
use Rattle.std.proofs.lemmas.List.Folds.{find-append}
use Rattle.std.proofs.lemmas.List.Elements.{All-append}
use Rattle.std.proofs.lemmas.List.Sums.{sum_by-append}
use Rattle.hg_trace.specs.declared.line.Command.{Command}
use Rattle.hg_trace.specs.declared.line.Command.TheVariants as command
use Rattle.hg_trace.specs.declared.line.Line.{Line}
use Rattle.hg_trace.specs.declared.stored.StoredCommand.{StoredCommand}
use Rattle.hg_trace.specs.declared.stored.StoredLine.{StoredLine}
use Rattle.hg_trace.specs.Labels.{gives_label, label_count, with_label}
use Rattle.hg_trace.specs.Workers.{first_from}
use Rattle.hg_trace.specs.Stored.{command_in, line_in, IsNumbered, IsGivenAt, Says, IsStore}
use Rattle.hg_trace.proofs.StoredNumbers.{Keeps, keeps_more, command_kept, numbered_kept, stands_behind, still}

-- the first line that comes behind others, where these had one or none
found_before : {X Y : Type 0} (f : X → Y) (one other : Option X) (y : Y) → option_map f one ≡ Some y → option_map f (option_or one other) ≡ Some y
found_before f None other y e = absurd (cc)
found_before f (Some x) other y e = e

found_behind : {X Y : Type 0} (f : X → Y) (one other : Option X) → option_map f one ≡ None → option_map f (option_or one other) ≡ option_map f other
found_behind f None other e = refl
found_behind f (Some x) other e = absurd (cc)

copies_within : (xs : List ℕ) (k y w : ℕ) → length xs ≤ w → w < length xs + k → slice_get (xs ++ replicate k y) w ≡ Some y
copies_within [] k y w past within =
    slice_get-get_or (replicate k y) w y (omega (arith, within, length-replicate k y)) ∙ ap Some (get_or-replicate k w y y (omega (arith, within)))
copies_within (x ∷ xs) k y zero past within = absurd (omega (arith, past))
copies_within (x ∷ xs) k y (suc w) past within = copies_within xs k y w (omega (arith, past)) (omega (arith, within))

copies_past : (xs : List ℕ) (k y w : ℕ) → length xs + k ≤ w → slice_get (xs ++ replicate k y) w ≡ None
copies_past xs k y w past =
    slice_get_past (xs ++ replicate k y) w (omega (arith, past, length-append xs (replicate k y), length-replicate k y))

-- each worker's first line, once a line came behind
module _ (least : List ℕ) (lines : List Line) (line : Line) (firsts : (w : ℕ) → slice_get least w ≡ first_from w lines) (w : ℕ) where
  abbrev test : Line → Bool
  test l = leb w l.worker

  abbrev number : Line → ℕ
  number l = l.number

  found_here : leb w line.worker ≡ true → option_map number (find test (line ∷ [])) ≡ Some line.number
  found_here e = rw e refl

  missed_here : leb w line.worker ≡ false → option_map number (find test (line ∷ [])) ≡ None
  missed_here e = rw e refl

  abbrev copies : ℕ
  copies = line.worker + 1 - length least

  behind_all : slice_get least w ≡ None → first_from w (lines ++ line ∷ []) ≡ option_map number (find test (line ∷ []))
  behind_all none =
      ap (option_map number) (find-append test lines (line ∷ [])) ∙ found_behind number (find test lines) (find test (line ∷ [])) (sym (firsts w) ∙ none)

  pub first_gain : slice_get (least ++ replicate copies line.number) w ≡ first_from w (lines ++ line ∷ [])
  first_gain =
      elim (slice_get_cases least w).1 [
        | inl (n, within, is, same) ↦
            still least (replicate copies line.number) w (ap is_some is) ∙ is
            ∙ sym (ap (option_map number) (find-append test lines (line ∷ []))
            ∙ found_before number (find test lines) (find test (line ∷ [])) n (sym (firsts w) ∙ is))
        | inr (past, none) ↦
            elim (leb_tells w line.worker) [
              | inl (reaches, le) ↦
                  copies_within least copies line.number w past (omega (arith, past, le)) ∙ sym (behind_all none ∙ found_here reaches)
              | inr (misses, lt) ↦
                  copies_past least copies line.number w (omega (arith, past, lt)) ∙ sym (behind_all none ∙ missed_here misses)
            ]
      ]

-- the label that a command gives comes behind the others
pub given_behind : (labels : List (List ℕ)) (c : Command) → IsGivenAt (with_label labels c) (length labels) c
given_behind labels (command.Alloc actor arena bytes None) = tt
given_behind labels (command.Alloc actor arena bytes (Some label)) = stands_behind labels label
given_behind labels (command.Free actor block) = tt
given_behind labels command.Deliver = tt
given_behind labels (command.Take segment) = tt
given_behind labels command.Collect = tt
given_behind labels (command.Read actor block index) = tt
given_behind labels (command.Write actor block index value) = tt
given_behind labels (command.Look actor place) = tt
given_behind labels (command.List actor) = tt
given_behind labels (command.Abandon segment) = tt
given_behind labels (command.Refill arena) = tt

pub label_keeps : (labels : List (List ℕ)) (c : Command) → Keeps labels (with_label labels c)
label_keeps labels (command.Alloc actor arena bytes None) n e = refl
label_keeps labels (command.Alloc actor arena bytes (Some label)) n e = keeps_more labels (label ∷ []) n e
label_keeps labels (command.Free actor block) n e = refl
label_keeps labels command.Deliver n e = refl
label_keeps labels (command.Take segment) n e = refl
label_keeps labels command.Collect n e = refl
label_keeps labels (command.Read actor block index) n e = refl
label_keeps labels (command.Write actor block index value) n e = refl
label_keeps labels (command.Look actor place) n e = refl
label_keeps labels (command.List actor) n e = refl
label_keeps labels (command.Abandon segment) n e = refl
label_keeps labels (command.Refill arena) n e = refl

pub label_gain : (labels : List (List ℕ)) (c : Command) → length (with_label labels c) ≡ length labels + cond (gives_label c) 1 0
label_gain labels (command.Alloc actor arena bytes None) = omega arith
label_gain labels (command.Alloc actor arena bytes (Some label)) = omega (arith, length-append labels (label ∷ []))
label_gain labels (command.Free actor block) = omega arith
label_gain labels command.Deliver = omega arith
label_gain labels (command.Take segment) = omega arith
label_gain labels command.Collect = omega arith
label_gain labels (command.Read actor block index) = omega arith
label_gain labels (command.Write actor block index value) = omega arith
label_gain labels (command.Look actor place) = omega arith
label_gain labels (command.List actor) = omega arith
label_gain labels (command.Abandon segment) = omega arith
label_gain labels (command.Refill arena) = omega arith

module _ (names names' labels labels' : List (List ℕ)) (named : Keeps names names') (labelled : Keeps labels labels') where
  -- the lines say what they said
  pub lines_kept : (lines : List StoredLine) → All (λ l. IsNumbered names labels l.command) lines
      → map (line_in names' labels') lines ≡ map (line_in names labels) lines
  lines_kept [] all = refl
  lines_kept (line ∷ lines) all =
      ap (λ c. record { number = line.number; worker = line.worker; command = c } ∷ map (line_in names' labels') lines)
      (command_kept names names' labels labels' named labelled line.command (all 0 line (omega arith)))
      ∙ ap (λ ls. line_in names labels line ∷ ls) (lines_kept lines (λ k d lt. all (suc k) d (omega (arith, lt))))

  numbers_kept : (lines : List StoredLine) → All (λ l. IsNumbered names labels l.command) lines → All (λ l. IsNumbered names' labels' l.command) lines
  numbers_kept lines all k d lt = numbered_kept names names' labels labels' named labelled (get_or lines k d).command (all k d lt)

  module _ (lines : List StoredLine) (least : List ℕ) (is : IsStore (record { names = names; labels = labels; lines = lines }) least) where
    -- names came
    pub store_grows : length labels' ≡ length labels → IsStore (record { names = names'; labels = labels'; lines = lines }) least
    store_grows same =
        let said = lines_kept lines is.numbered in record {
          numbered = numbers_kept lines is.numbered;
          labels = same ∙ is.labels ∙ ap label_count (sym said);
          firsts = λ w. is.firsts w ∙ ap (first_from w) (sym said);
        }

    one_numbered : (c : StoredCommand) → IsNumbered names' labels' c → (worker place : ℕ)
        → All (λ (l : StoredLine). IsNumbered names' labels' l.command) (record { number = place; worker = worker; command = c } ∷ [])
    one_numbered c is_numbered worker place zero d lt = is_numbered
    one_numbered c is_numbered worker place (suc k) d lt = absurd (omega (arith, lt))

    -- a line came that says this one
    module _ (line : Line) (number : ℕ) (c : StoredCommand) (numbered : number ≡ line.number) (says : Says names' (length labels) line.command c)
        (given : IsGivenAt labels' (length labels) line.command) where
      abbrev stored_line : StoredLine
      stored_line = record { number = number; worker = line.worker; command = c }

      pub lines_gain : map (line_in names' labels') (lines ++ stored_line ∷ []) ≡ map (line_in names labels) lines ++ line ∷ []
      lines_gain =
          map-append (line_in names' labels') lines (stored_line ∷ []) ∙ ap (λ ls. ls ++ line_in names' labels' stored_line ∷ []) (lines_kept lines is.numbered)
          ∙ ap (λ n. map (line_in names labels) lines ++ record { number = n; worker = line.worker; command = command_in names' labels' c } ∷ []) numbered
          ∙ ap (λ other. map (line_in names labels) lines ++ record { number = line.number; worker = line.worker; command = other } ∷ []) (says.said labels' given)

      pub store_gains : length labels' ≡ length labels + cond (gives_label line.command) 1 0
          → IsStore (record { names = names'; labels = labels'; lines = lines ++ stored_line ∷ [] }) (least ++ replicate (line.worker + 1 - length least) line.number)
      store_gains more =
          let before = map (line_in names labels) lines in record {
            numbered =
                All-append (λ l. IsNumbered names' labels' l.command) lines (stored_line ∷ []) (numbers_kept lines is.numbered)
                (one_numbered c (says.numbered labels' given) line.worker number);
            labels =
                more
                ∙ (ap (λ n. n + cond (gives_label line.command) 1 0) is.labels
                ∙ (omega arith
                ∙ sym (ap label_count lines_gain ∙ sum_by-append (λ l. cond (gives_label l.command) 1 0) before (line ∷ []))));
            firsts = λ w. first_gain least before line is.firsts w ∙ ap (first_from w) (sym lines_gain);
          }

-- names that came behind others
pub grown : (names names' : List (List ℕ)) → (more : List (List ℕ)) × (names' ≡ names ++ more) → Keeps names names'
grown names names' (more, is) = subst (Keeps names) (sym is) (keeps_more names more)

-- The lines of a trace that was read are plain.
use Rattle.std.proofs.Common.{◌≡◌, ℕ, ◌+◌, List, [], ◌∷◌, ◌++◌, Option, Some, None, Result, Ok, Err, refl, subst, inl, inr}
use Rattle.std.specs.List.{list_all}
use Rattle.hg_trace.specs.declared.line.Command.{Command}
use Rattle.hg_trace.specs.declared.line.Line.{Line}
use Rattle.hg_trace.specs.declared.fault.LineFault.{LineFault}
use Rattle.hg_trace.specs.declared.fault.LineFault.TheVariants as fault
use Rattle.hg_trace.specs.declared.fault.TraceFault.{TraceFault}
use Rattle.hg_trace.specs.Lines.{lines_of, before_comment, split_words, is_allowed}
use Rattle.hg_trace.specs.Labels.{with_label, labels_after}
use Rattle.hg_trace.specs.Commands.{words_at}
use Rattle.hg_trace.specs.Trace.{line_at, numbered, lines_from}
use Rattle.hg_trace.specs.Plain.{AreLabels, IsPlain, ArePlain}
use Rattle.hg_trace.specs.PlainLaws.{ReadLinesArePlain}
use Rattle.hg_trace.proofs.Binds.{bind_ok, if_ok}
use Rattle.hg_trace.proofs.PlainLines.{words_at-is}
use Rattle.hg_trace.proofs.PlainTraces.{no_labels, with_label_are}

line_at-is : (labels : List (List ℕ)) (line : List ℕ) (worker : ℕ) (c : Command) → line_at labels line ≡ Ok (Some (worker, c)) → IsPlain labels worker c
unfolding line_at
line_at-is labels line worker c h =
    elim (if_ok (list_all is_allowed (before_comment line)) (words_at labels (split_words (before_comment line))) (Err fault.Byte) (Some (worker, c)) h) [
      | inl (allowed, read) ↦ let (written, plain) = words_at-is labels (split_words (before_comment line)) worker c read in plain
      | inr (other, read) ↦ absurd (cc)
    ]

abbrev given : {A : Type 0} → A → Result A TraceFault
given x = Ok x

-- what a line adds
here_plain : (labels : List (List ℕ)) (line : List ℕ) (number : ℕ) (means : Result (Option (ℕ × Command)) LineFault) (here : List Line) → line_at labels line ≡ means
    → numbered number means ≡ Ok here → ArePlain labels here
here_plain labels line number (Err wrong) here means h = absurd (cc)
here_plain labels line number (Ok None) here means h = let none : [] ≡ here = cc in subst (ArePlain labels) none tt
here_plain labels line number (Ok (Some (worker, c))) here means h =
    let one : record { number = number; worker = worker; command = c } ∷ [] ≡ here = cc in
    subst (ArePlain labels) one (line_at-is labels line worker c means, tt)

ArePlain-append : (labels : List (List ℕ)) (here rest : List Line) → ArePlain labels here → ArePlain (labels_after labels here) rest → ArePlain labels (here ++ rest)
ArePlain-append labels [] rest plain more = more
ArePlain-append labels (line ∷ here) rest plain more = (plain.0, ArePlain-append (with_label labels line.command) here rest plain.1 more)

lines_from-is : (bytes : List (List ℕ)) (number : ℕ) (labels : List (List ℕ)) (lines : List Line) → lines_from number labels bytes ≡ Ok lines → ArePlain labels lines
lines_from-is [] number labels lines h = let none : [] ≡ lines = cc in subst (ArePlain labels) none tt
lines_from-is (line ∷ bytes) number labels lines h =
    let (here, e1, h1) = bind_ok (numbered number (line_at labels line)) _ lines h in
    let (rest, e2, is) = bind_ok (lines_from (number + 1) (labels_after labels here) bytes) _ lines h1 in
    both here rest (here_plain labels line number (line_at labels line) here refl e1) (lines_from-is bytes (number + 1) (labels_after labels here) rest e2) is
  where
    both : (here rest : List Line) → ArePlain labels here → ArePlain (labels_after labels here) rest → given (here ++ rest) ≡ Ok lines → ArePlain labels lines
    both here rest first more is =
        let all : here ++ rest ≡ lines = cc in
        subst (ArePlain labels) all (ArePlain-append labels here rest first more)

-- what they give are labels
labels_after-are : (lines : List Line) (labels : List (List ℕ)) → AreLabels labels → ArePlain labels lines → AreLabels (labels_after labels lines)
labels_after-are [] labels are plain = are
labels_after-are (line ∷ lines) labels are plain =
    labels_after-are lines (with_label labels line.command) (with_label_are labels line.command are plain.0.command_plain) plain.1

pub read_lines_are_plain : ReadLinesArePlain
read_lines_are_plain bytes lines h =
    let plain = lines_from-is (lines_of bytes) 1 [] lines h in
    (plain, labels_after-are lines [] no_labels plain)

-- The lines of a store are those that it says, with as many labels.
use Rattle.std.proofs.Common.{◌≡◌, ℕ, ◌+◌, ◌<◌, Bool, cond, true, false, List, length, get_or, take, None, refl, sym, ap, subst, ◌∙◌, inl, inr, arith}
use Rattle.std.proofs.lemmas.Bool.{cases_Bool}
use Rattle.std.proofs.lemmas.List.{get_or-map, length-map}
use Rattle.std.proofs.lemmas.List.Sums.{count_by_more_yes, count_by_more_no, sum_by-take-le}
use Rattle.std.specs.Prelude.{if◌then◌else◌}
use Rattle.hg_trace.specs.declared.line.Line.{Line}
use Rattle.hg_trace.specs.declared.stored.StoredCommand.{StoredCommand}
use Rattle.hg_trace.specs.declared.stored.StoredLine.{StoredLine}
use Rattle.hg_trace.specs.Stored.{Store, command_in, line_in, lines_in, IsNumbered, AreNumbered}
use Rattle.hg_trace.specs.Labels.{gives_label, label_count}
use Rattle.hg_replay.specs.StoredLabels.{binds}
use Rattle.hg_trace.specs.declared.stored.StoredCommand.TheVariants as stored

-- a line adds the label that it gives
pub label_count_more : (lines : List Line) (i : ℕ) (line : Line) → i < length lines → line ≡ get_or lines i line
    → label_count (take (i + 1) lines) ≡ label_count (take i lines) + (if gives_label line.command then 1 else 0)
label_count_more lines i line within here =
    elim (cases_Bool (gives_label line.command)) [
      | inl t ↦ rw t (count_by_more_yes (λ l. gives_label l.command) lines i line within (ap (λ l. gives_label l.command) (sym here) ∙ t))
      | inr f ↦
          let none : label_count (take i lines) ≡ label_count (take i lines) + 0 = omega arith in
          rw f (count_by_more_no (λ l. gives_label l.command) lines i line within (ap (λ l. gives_label l.command) (sym here) ∙ f) ∙ none)
    ]

-- where it gives one, another label has room beside those so far
pub label_within : (lines : List Line) (i : ℕ) (line : Line) → i < length lines → line ≡ get_or lines i line → gives_label line.command ≡ true
    → label_count (take i lines) < label_count lines
label_within lines i line within here gives =
    let more = count_by_more_yes (λ l. gives_label l.command) lines i line within (ap (λ l. gives_label l.command) (sym here) ∙ gives) in
    let few = sum_by-take-le (λ l. cond (gives_label l.command) 1 0) lines (i + 1) in
    omega (arith, more, few)

-- a stored command gives a label where what it says does
pub binds_said : (names labels : List (List ℕ)) (c : StoredCommand) → gives_label (command_in names labels c) ≡ binds c
binds_said names labels (stored.Alloc actor arena bytes None) = refl
binds_said names labels _ = refl

-- where no label is given none is counted
pub none_counted : (n : ℕ) (given : Bool) → (given ≡ true → ⊥) → n ≡ n + (if given then 1 else 0)
none_counted n true none = absurd (none refl)
none_counted n false none = omega arith

-- what the stored line at index i says is the line at index i
module _ (store : Store) (lines : List StoredLine) (same : lines ≡ store.lines) (i : ℕ) (line : StoredLine) (within : i < length lines)
    (here : line ≡ get_or lines i line) where
  pub said_within : i < length (lines_in store)
  said_within =
      let long : length (lines_in store) ≡ length lines = length-map store.lines (line_in store.names store.labels) ∙ ap (λ l. length l) (sym same) in
      omega (arith, long, within)

  pub said_here : line_in store.names store.labels line ≡ get_or (lines_in store) i (line_in store.names store.labels line)
  said_here =
      let there : line ≡ get_or store.lines i line = here ∙ ap (λ l. get_or l i line) same in
      let inside : i < length store.lines = subst (λ l. i < length l) same within in
      ap (line_in store.names store.labels) there ∙ sym (get_or-map (line_in store.names store.labels) store.lines i line (line_in store.names store.labels line) inside)

  pub numbered_here : AreNumbered store → IsNumbered store.names store.labels line.command
  numbered_here all =
      let there : line ≡ get_or store.lines i line = here ∙ ap (λ l. get_or l i line) same in
      subst (λ l. IsNumbered store.names store.labels l.command) (sym there) (all i line (subst (λ l. i < length l) same within))

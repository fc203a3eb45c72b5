-- The lines of a trace are answered one after another.
use Rattle.std.proofs.Common.{◌≡◌, ℕ, ◌+◌, ◌<◌, ◌≤◌, Bool, true, false, List, [], ◌∷◌, ◌++◌, length, get_or, take, Option, Some, None, refl, sym, ap, subst, ◌∙◌, arith}
use Rattle.std.proofs.lemmas.List.{take_more}
use Rattle.hg_trace.specs.declared.line.Line.{Line}
use Rattle.hg_replay.specs.Replays.{Progress, Answered}
use Rattle.hg_expect.specs.Findings.{Findings, Finds, found_at, agrees}
use Rattle.hg_expect.specs.Words.{words, last_line, is_slip}
use Rattle.hg_expect.specs.Judging.{Judges, text_of}

-- a line more
pub judges_more : (texts : List (List ℕ)) (lines : List Line) (line : Line) (from mid end : Progress) (found here next : Findings) (reply : List ℕ)
    → Judges texts from found lines mid here → Answered mid line end reply → Finds here line.number (text_of texts line.number) reply next
    → Judges texts from found (lines ++ line ∷ []) end next
judges_more texts [] line from mid end found here next reply (same, none) answered finds = (
  end,
  reply,
  next,
  subst (λ p. Answered p line end reply) same answered,
  subst (λ f. Finds f line.number (text_of texts line.number) reply next) none finds,
  (refl, refl),
)
judges_more texts (first ∷ lines) line from mid end found here next reply (later, one, then, done, was, more) answered finds =
    (later, one, then, done, was, judges_more texts lines line later mid end then here next reply more answered finds)

-- the lines up to index i, and the next one too
pub judges_next : (texts : List (List ℕ)) (lines : List Line) (i : ℕ) (line : Line) (from mid end : Progress) (found here next : Findings) (reply : List ℕ)
    → i < length lines → line ≡ get_or lines i line
    → Judges texts from found (take i lines) mid here → Answered mid line end reply → Finds here line.number (text_of texts line.number) reply next
    → Judges texts from found (take (i + 1) lines) end next
judges_next texts lines i line from mid end found here next reply within is so_far answered finds =
    let more : take (i + 1) lines ≡ take i lines ++ line ∷ [] =
    take_more lines i line within ∙ ap (λ l. take i lines ++ l ∷ []) (sym is) in
    subst (λ ls. Judges texts from found ls end next) (sym more)
    (judges_more texts (take i lines) line from mid end found here next reply so_far answered finds)

-- a line adds one to a count at most
module _ (found : Findings) (number : ℕ) (line answer : List ℕ) where
  one_stated : (mark : Option ℕ) → (found_at found number line answer mark).stated ≤ found.stated + 1
  one_stated None = by_slip (is_slip line) refl
    where
      by_slip : (slips : Bool) → is_slip line ≡ slips → (found_at found number line answer None).stated ≤ found.stated + 1
      by_slip true e = rw e (omega arith)
      by_slip false e = rw e (omega arith)
  one_stated (Some at) = by_case (agrees line (at + 4) answer) refl
    where
      by_case : (same : Bool) → agrees line (at + 4) answer ≡ same → (found_at found number line answer (Some at)).stated ≤ found.stated + 1
      by_case true e = rw e (omega arith)
      by_case false e = rw e (omega arith)

  one_differs : (mark : Option ℕ) → (found_at found number line answer mark).differ ≤ found.differ + 1
  one_differs None = by_slip (is_slip line) refl
    where
      by_slip : (slips : Bool) → is_slip line ≡ slips → (found_at found number line answer None).differ ≤ found.differ + 1
      by_slip true e = rw e (omega arith)
      by_slip false e = rw e (omega arith)
  one_differs (Some at) = by_case (agrees line (at + 4) answer) refl
    where
      by_case : (same : Bool) → agrees line (at + 4) answer ≡ same → (found_at found number line answer (Some at)).differ ≤ found.differ + 1
      by_case true e = rw e (omega arith)
      by_case false e = rw e (omega arith)

  one_slips : (mark : Option ℕ) → (found_at found number line answer mark).slips ≤ found.slips + 1
  one_slips None = by_slip (is_slip line) refl
    where
      by_slip : (slips : Bool) → is_slip line ≡ slips → (found_at found number line answer None).slips ≤ found.slips + 1
      by_slip true e = rw e (omega arith)
      by_slip false e = rw e (omega arith)
  one_slips (Some at) = by_case (agrees line (at + 4) answer) refl
    where
      by_case : (same : Bool) → agrees line (at + 4) answer ≡ same → (found_at found number line answer (Some at)).slips ≤ found.slips + 1
      by_case true e = rw e (omega arith)
      by_case false e = rw e (omega arith)

module _ (found next : Findings) (number : ℕ) (line text : List ℕ) where
  pub finds_stated : Finds found number line text next → next.stated ≤ found.stated + 1
  finds_stated (mark, first, is) =
      subst (λ f. f.stated ≤ found.stated + 1) (sym is) (one_stated found number line (words (last_line text)) mark)

  pub finds_differ : Finds found number line text next → next.differ ≤ found.differ + 1
  finds_differ (mark, first, is) =
      subst (λ f. f.differ ≤ found.differ + 1) (sym is) (one_differs found number line (words (last_line text)) mark)

  pub finds_slips : Finds found number line text next → next.slips ≤ found.slips + 1
  finds_slips (mark, first, is) =
      subst (λ f. f.slips ≤ found.slips + 1) (sym is) (one_slips found number line (words (last_line text)) mark)

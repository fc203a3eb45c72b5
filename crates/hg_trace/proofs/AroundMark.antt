-- The lines before the mark and after it, one line on.
use Rattle.std.proofs.Common.{◌≡◌, ℕ, ◌+◌, ◌≤◌, true, false, List, [], ◌∷◌, ◌++◌, length, take, drop, refl, sym, ap, ◌∙◌, arith, append_assoc, append-nil, length-drop, length-append, take-append-drop}
use Rattle.std.specs.List.{concat}
use Rattle.std.proofs.lemmas.List.{drop-drop}
use Rattle.std.proofs.Math.Seq.{take-add}
use Rattle.hg_trace.specs.Joined.{is_mark, around_mark}

drop-front : (a b : List ℕ) → drop (length a) (a ++ b) ≡ b
drop-front [] b = refl
drop-front (x ∷ a) b = drop-front a b

take-front : (a b : List ℕ) → take (length a) (a ++ b) ≡ a
take-front [] b = refl
take-front (x ∷ a) b = ap (λ l. x ∷ l) (take-front a b)

-- with lines for the lines that are left, of which line is the first
module _ (bytes line : List ℕ) (at : ℕ) (lines next : List (List ℕ)) (here : lines ≡ line ∷ next) (left : concat lines ≡ drop at bytes) where
  rest_is : drop at bytes ≡ line ++ concat next
  rest_is = sym left ∙ ap concat here

  pub left_more : concat next ≡ drop (at + length line) bytes
  left_more = sym (drop-front line (concat next)) ∙ ap (drop (length line)) (sym rest_is) ∙ drop-drop (length line) at bytes

  pub within_more : at ≤ length bytes → at + length line ≤ length bytes
  within_more within = omega (arith, length-drop at bytes, ap length rest_is, length-append line (concat next))

  pub take_more_line : take (at + length line) bytes ≡ take at bytes ++ line
  take_more_line = take-add at (length line) bytes ∙ ap (λ l. take at bytes ++ l) (ap (take (length line)) rest_is ∙ take-front line (concat next))

  -- the line is no mark
  pub policy_more : (policy : List ℕ) → false ≡ is_mark line → take at bytes ++ concat (around_mark lines).0 ≡ policy
      → take (at + length line) bytes ++ concat (around_mark next).0 ≡ policy
  policy_more policy other so_far =
      let parts : around_mark lines ≡ (line ∷ (around_mark next).0, (around_mark next).1) = ap around_mark here ∙ rw (← other) refl in
      ap (λ l. l ++ concat (around_mark next).0) take_more_line ∙ append_assoc (take at bytes) line (concat (around_mark next).0)
      ∙ ap (λ p. take at bytes ++ concat p.0) (sym parts) ∙ so_far

  pub trace_more : (trace : List ℕ) → false ≡ is_mark line → concat (around_mark lines).1 ≡ trace → concat (around_mark next).1 ≡ trace
  trace_more trace other so_far =
      let parts : around_mark lines ≡ (line ∷ (around_mark next).0, (around_mark next).1) = ap around_mark here ∙ rw (← other) refl in
      ap (λ p. concat p.1) (sym parts) ∙ so_far

  -- the line is the mark
  pub policy_marked : (policy : List ℕ) → true ≡ is_mark line → take at bytes ++ concat (around_mark lines).0 ≡ policy → take at bytes ≡ policy
  policy_marked policy mark so_far =
      let parts : around_mark lines ≡ ([], next) = ap around_mark here ∙ rw (← mark) refl in
      sym (append-nil (take at bytes)) ∙ ap (λ p. take at bytes ++ concat p.0) (sym parts) ∙ so_far

  pub trace_marked : (trace : List ℕ) → true ≡ is_mark line → concat (around_mark lines).1 ≡ trace → concat next ≡ trace
  trace_marked trace mark so_far =
      let parts : around_mark lines ≡ ([], next) = ap around_mark here ∙ rw (← mark) refl in
      ap (λ p. concat p.1) (sym parts) ∙ so_far

-- no line is left
pub policy_all : (bytes policy : List ℕ) (at : ℕ) (lines : List (List ℕ)) → lines ≡ [] → concat lines ≡ drop at bytes
    → take at bytes ++ concat (around_mark lines).0 ≡ policy → bytes ≡ policy
policy_all bytes policy at lines none left so_far =
    let empty : drop at bytes ≡ [] = sym left ∙ ap concat none in
    sym (take-append-drop at bytes) ∙ ap (λ l. take at bytes ++ l) empty ∙ ap (λ ls. take at bytes ++ concat (around_mark ls).0) (sym none) ∙ so_far

pub trace_none : (trace : List ℕ) (lines : List (List ℕ)) → lines ≡ [] → concat (around_mark lines).1 ≡ trace → [] ≡ trace
trace_none trace lines none so_far = ap (λ ls. concat (around_mark ls).1) (sym none) ∙ so_far

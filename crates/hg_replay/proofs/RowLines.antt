-- The line of a row, in the three texts that it is written as.
use Rattle.std.proofs.Common.{◌≡◌, ℕ, List, [], ◌∷◌, ◌++◌, ◌-◌, length, sym, ap, ◌∙◌, append_assoc}
use Rattle.std.specs.Prelude.{unwrap_or, replicate, codes, decimal}
use Rattle.hg_machine.specs.Policy.{Policy}
use Rattle.hg_machine.specs.declared.Row.{Row}
use Rattle.hg_machine.specs.declared.Answer.TheVariants as answer
use Rattle.hg_policy.specs.Names.{tenant_name}
use Rattle.hg_trace.specs.Printed.{handle_text}
use Rattle.hg_replay.specs.Text.{at_left, at_right, answer_line}

regroup : (f s n r d e : List ℕ) → f ++ (n ++ r) ++ s ++ d ++ e ≡ f ++ (n ++ (r ++ s ++ d ++ e))
regroup f s n r d e =
    ap (λ l. l ++ s ++ d ++ e) (sym (append_assoc f n r))
    ∙ ap (λ l. l ++ d ++ e) (append_assoc (f ++ n) r s)
    ∙ ap (λ l. l ++ e) (append_assoc (f ++ n) (r ++ s) d)
    ∙ append_assoc (f ++ n) (r ++ s ++ d) e
    ∙ append_assoc f n (r ++ s ++ d ++ e)

-- the handle and a blank, the owner's name, and the rest
pub row_line : (policy : Policy) (row : Row) (name : List ℕ) → name ≡ unwrap_or (tenant_name policy row.owner) []
    → answer_line policy (answer.Listed row)
    ≡ (at_left 21 (handle_text row.handle) ++ codes " ")
    ++ (name ++ (replicate (16 - length name) 32 ++ codes " " ++ at_right 5 (decimal row.bytes) ++ 10 ∷ []))
row_line policy row name e =
    ap (λ n. (at_left 21 (handle_text row.handle) ++ codes " " ++ at_left 16 n ++ codes " " ++ at_right 5 (decimal row.bytes)) ++ 10 ∷ []) (sym e)
    ∙ regroup (at_left 21 (handle_text row.handle) ++ codes " ") (codes " ") name (replicate (16 - length name) 32) (at_right 5 (decimal row.bytes)) (10 ∷ [])

-- A text of pieces.
use Rattle.std.proofs.Common.{◌≡◌, ℕ, List, ◌++◌, ap, ◌∙◌, append_assoc}

-- what is appended piece by piece
pub pieces : (old a d b k n t u w v : List ℕ) → t ≡ (old ++ a) ++ d → u ≡ t ++ b → w ≡ u ++ k → v ≡ w ++ n → v ≡ old ++ ((((a ++ d) ++ b) ++ k) ++ n)
pieces old a d b k n t u w v first next then last =
    last ∙ ap (λ x. x ++ n) (then ∙ ap (λ x. x ++ k) (next ∙ ap (λ x. x ++ b) first))
    ∙ ap (λ x. ((x ++ b) ++ k) ++ n) (append_assoc old a d) ∙ ap (λ x. (x ++ k) ++ n) (append_assoc old (a ++ d) b)
    ∙ ap (λ x. x ++ n) (append_assoc old ((a ++ d) ++ b) k) ∙ append_assoc old (((a ++ d) ++ b) ++ k) n

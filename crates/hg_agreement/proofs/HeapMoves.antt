-- A heap with one more, and a heap without one; and a Deliver.
use Rattle.std.proofs.Common.{◌≡◌, ℕ, ◌==◌, inl, inr, cond, not, ◌∷◌, [], List, Option, Some, None}
use Rattle.std.proofs.Common.{refl, sym, ap, ◌∙◌, find, is_none}
use Rattle.std.specs.Option.{option_or}
use Rattle.std.proofs.lemmas.Bool.{cases_Bool, eq-eqb, ne_eqb}
use Rattle.std.proofs.lemmas.List.Folds.{find-append}
use Rattle.hg_machine.specs.First.{first_of}
use Rattle.hg_machine.proofs.Serves.{served_step}
use Rattle.hg_agreement.specs.Parts.{Plain, is_of, state_of}
use Rattle.hg_agreement.specs.Pool.{without}
use Rattle.hg_agreement.specs.HeapMoves.{PushedHasCome, LeftOutIsGone, DeliverIsStep}
use Rattle.hg_agreement.proofs.Adopts.{find_without}
use Rattle.hg_machine.specs.declared.Event.TheVariants as event
use Rattle.hg_machine.specs.declared.Answer.TheVariants as answer

or_none : (o : Option Plain) → option_or o None ≡ o
or_none None = refl
or_none (Some x) = refl

pub pushed_has_come : PushedHasCome
pushed_has_come heap one none = (
  find-append (is_of one.holding.number) heap (one ∷ [])
      ∙ ap (λ o. option_or o (find (is_of one.holding.number) (one ∷ []))) none
      ∙ ap (λ b. cond b (Some one) None) (eq-eqb one.holding.number one.holding.number refl),
  λ segment ne.
      find-append (is_of segment) heap (one ∷ [])
      ∙ ap (λ b. option_or (find (is_of segment) heap) (cond b (Some one) None))
      (ne_eqb one.holding.number segment (λ e. ne (sym e)))
      ∙ or_none (find (is_of segment) heap),
)

found_gone : (xs : List Plain) (n : ℕ) → find (is_of n) (without n xs) ≡ None
found_gone [] n = refl
found_gone (x ∷ xs) n =
    elim (cases_Bool (x.holding.number == n)) [
      | inl t ↦ ap (λ b. find (is_of n) (cond (not b) (x ∷ without n xs) (without n xs))) t
          ∙ found_gone xs n
      | inr f ↦
          ap (λ b. find (is_of n) (cond (not b) (x ∷ without n xs) (without n xs))) f
          ∙ ap (λ b. cond b (Some x) (find (is_of n) (without n xs))) f
          ∙ found_gone xs n
    ]

pub left_out_is_gone : LeftOutIsGone
left_out_is_gone heap gone = (found_gone heap gone, λ segment ne. find_without gone segment heap ne)

pub deliver_is_step : DeliverIsStep
deliver_is_step parts w place remotes in_hand =
    served_step (state_of parts) w event.Deliver answer.Done _
    (ap (λ o. first_of ((is_none o, answer.NothingInHand) ∷ [])) in_hand)
    refl
    refl

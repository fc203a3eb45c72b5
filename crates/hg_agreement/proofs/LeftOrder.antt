-- The pool stays in order when one of it changes.
use Rattle.std.proofs.Common.{zero, suc, ◌≡◌, ℕ, ◌==◌, ◌∷◌, [], ◌++◌, List, set, Some, refl, sym}
use Rattle.std.proofs.Common.{ap, subst, ◌∙◌, slice_get, count_by}
use Rattle.std.proofs.lemmas.Option.{none-some, same_Some}
use Rattle.std.proofs.lemmas.List.{map-append, append_cancel_left}
use Rattle.hg_agreement.specs.Parts.{Plain, Parts}
use Rattle.hg_agreement.specs.LeftPut.{with_left, numbers, IsLeftPut}
use Rattle.hg_agreement.specs.Pool.{IsRising}
use Rattle.hg_agreement.specs.Orders.{LeftPutKeepsOrder}
use Rattle.hg_agreement.proofs.Openings.{count_numbers}
use Rattle.hg_agreement.proofs.Orders.{same_sorted}

numbers_set : (xs : List Plain) (found : ℕ) (one now : Plain) → slice_get xs found ≡ Some one
    → now.holding.number ≡ one.holding.number → numbers (set xs found now) ≡ numbers xs
numbers_set [] found one now there same = absurd (none-some one there)
numbers_set (x ∷ xs) zero one now there same =
    ap (λ k. k ∷ numbers xs) (same ∙ sym (ap (λ k. k.holding.number) (same_Some x one there)))
numbers_set (x ∷ xs) (suc found) one now there same =
    ap (λ l. x.holding.number ∷ l) (numbers_set xs found one now there same)

module _ (parts : Parts) (orphans fresh : List Plain) (found : ℕ) (one now : Plain) (at : ℕ)
    (put : IsLeftPut parts orphans fresh found one now at) where
  pub all_same : numbers (orphans ++ fresh) ≡ numbers (parts.orphans ++ parts.fresh)
  all_same = ap numbers put.now_there ∙ numbers_set (parts.orphans ++ parts.fresh) found one now
      put.there put.number

  pub fresh_same : numbers fresh ≡ numbers parts.fresh
  fresh_same =
      append_cancel_left (numbers parts.orphans) (numbers fresh) (numbers parts.fresh)
      (ap (λ l. l ++ numbers fresh) (sym put.order)
      ∙ sym (map-append (λ k. k.holding.number) orphans fresh)
      ∙ all_same
      ∙ map-append (λ k. k.holding.number) parts.orphans parts.fresh)

pub left_put_keeps_order : LeftPutKeepsOrder
left_put_keeps_order parts orphans fresh found one now at sorted pooled put = (
  same_sorted parts (with_left parts orphans fresh) refl sorted (λ segment v. refl),
  record {
    once = λ segment.
        count_numbers segment (orphans ++ fresh)
        ∙ ap (count_by (λ k. k == segment)) (all_same parts orphans fresh found one now at put)
        ∙ sym (count_numbers segment (parts.orphans ++ parts.fresh))
        ∙ pooled.once segment;
    rising = subst (IsRising 0) (sym (fresh_same parts orphans fresh found one now at put))
        pooled.rising;
  },
)

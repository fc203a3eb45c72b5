-- What the calls of a pool owe.
use Rattle.std.proofs.Common.{◌≡◌, ℕ, ◌<◌, ◌==◌, Bool, true, false, cond, List, [], ◌∷◌, ◌++◌, length}
use Rattle.std.proofs.Common.{Option, Some, None, find, slice_index_or, sym, ap, ◌∙◌, subst, ◌↔◌}
use Rattle.std.proofs.Common.{inl, inr}
use Rattle.std.proofs.lemmas.Bool.{cases_Bool, eqb-true}
use Rattle.std.specs.Prelude.{IsTrue, is_some}
use Rattle.std.proofs.lemmas.List.{get_or_read}
use Rattle.hg_segment.specs.Kept.{Kept}
use Rattle.hg_pool.specs.Pooled.{Pooled, IsPooled, IsRight, segment_of, is_numbered}
use Rattle.hg_pool.specs.Shown.{at_number, IsKept}
use Rattle.hg_pool.proofs.Keeping.{seen, segment_at, seen_right, pooled_below}

module _ {S : Type 0} (number : S → ℕ) where
  pub right_now : (segments : List (Option (Kept S))) (orphans fresh : List ℕ) (now : Pooled S) → IsKept number segments orphans fresh → seen segments orphans fresh ≡ now → IsRight number now
  right_now segments orphans fresh now h e = subst (IsRight number) e (seen_right number segments orphans fresh h)

  pub at_now : (segments : List (Option (Kept S))) (orphans fresh : List ℕ) (now : Pooled S) (n : ℕ) → IsKept number segments orphans fresh → seen segments orphans fresh ≡ now → segment_of number now n ≡ at_number segments n
  at_now segments orphans fresh now n h e = ap (λ (p : Pooled S). segment_of number p n) (sym e) ∙ segment_at number segments orphans fresh n h

  pub below_now : (segments : List (Option (Kept S))) (orphans fresh : List ℕ) (now : Pooled S) (n : ℕ) → IsKept number segments orphans fresh → seen segments orphans fresh ≡ now → IsPooled number now n → n < 64
  below_now segments orphans fresh now n h e p = pooled_below number segments orphans fresh n h (subst (λ (q : Pooled S). IsPooled number q n) (sym e) p)

  -- what was read at a number
  pub read_at : (segments : List (Option (Kept S))) (n : ℕ) (o : Option (Kept S)) → n < length segments → o ≡ slice_index_or segments n o → at_number segments n ≡ o
  read_at segments n o lt e = sym (get_or_read segments n o lt e None)

  some_iff : (now : Pooled S) (n : ℕ) (o : Option (Kept S)) (answer : Bool) → segment_of number now n ≡ o → is_some o ≡ answer → IsTrue answer ↔ IsPooled number now n
  some_iff now n None answer e is = ((λ yes. absurd (let t : false ≡ true = is ∙ yes in cc)), (λ p. absurd (let t : None ≡ Some p.0 = sym e ∙ p.1 in cc)))
  some_iff now n (Some one) answer e is = ((λ _. (one, e)), (λ _. sym is))

  pub pooled_iff : (segments : List (Option (Kept S))) (orphans fresh : List ℕ) (now : Pooled S) (n : ℕ) (o : Option (Kept S)) (answer : Bool) → IsKept number segments orphans fresh → seen segments orphans fresh ≡ now → n < length segments → o ≡ slice_index_or segments n o → is_some o ≡ answer → IsTrue answer ↔ IsPooled number now n
  pooled_iff segments orphans fresh now n o answer h e lt read is = some_iff now n o answer (at_now segments orphans fresh now n h e ∙ read_at segments n o lt read) is

  -- the segment of a number has it
  passes : (segments : List (Kept S)) (n : ℕ) (one : Kept S) → find (is_numbered number n) segments ≡ Some one → number one.slots ≡ n
  passes [] n one e = absurd (cc)
  passes (x ∷ xs) n one e = elim (cases_Bool (number x.slots == n)) as (λ _. number one.slots ≡ n) [
    | inl t ↦
        let same : Some x ≡ Some one = sym (ap (λ b. cond b (Some x) (find (is_numbered number n) xs)) t) ∙ e in
        let is : x ≡ one = cc in
        ap (λ (k : Kept S). number k.slots) (sym is) ∙ eqb-true (number x.slots) n t
    | inr f ↦ passes xs n one (sym (ap (λ b. cond b (Some x) (find (is_numbered number n) xs)) f) ∙ e)
  ]

  pub numbered_as : (now : Pooled S) (n : ℕ) (one : Kept S) → segment_of number now n ≡ Some one → number one.slots ≡ n
  numbered_as now n one e = passes (now.orphans ++ now.fresh) n one e

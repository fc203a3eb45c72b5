-- Heaps stay sorted, and the pool has the rest.
use Rattle.std.proofs.Common.{◌≡◌, ℕ, ◌+◌, ◌==◌, ◌&&◌, ◌<◌, ◌≤◌, inl, inr, Bool, true, cond, not}
use Rattle.std.proofs.Common.{◌∷◌, [], ◌++◌, List, length, filter, Option, Some, refl, sym, ap}
use Rattle.std.proofs.Common.{subst, ◌∙◌, arith, is_none, nat_lt, count_by, zero, suc, slice_get}
use Rattle.std.proofs.Common.{remove}
use Rattle.std.proofs.lemmas.Bool.{cases_eq, cases_Bool, eq-eqb, ne_eqb, eqb-true, true≢false}
use Rattle.std.proofs.lemmas.Bool.{lt-ltb}
use Rattle.hg_place.specs.Words.{bit_of}
use Rattle.hg_agreement.specs.Holdings.{has}
use Rattle.hg_agreement.specs.Parts.{Plain, Parts, is_of, heap_at, holdings, worker_of, IsSorted}
use Rattle.hg_agreement.specs.PlainPut.{with_plain}
use Rattle.hg_agreement.specs.LeftPut.{numbers}
use Rattle.hg_agreement.specs.Moves.{with_orphan}
use Rattle.hg_agreement.specs.Swept.{with_heap}
use Rattle.hg_agreement.specs.Pool.{IsRising, without, with_adopted, RemovingIsWithout}
use Rattle.std.proofs.lemmas.Option.{none-some, same_Some}
use Rattle.std.proofs.lemmas.Map.Keys.{any_passes_from_place}
use Rattle.hg_agreement.specs.Orders.{SwapKeepsOrder, SweptKeepsOrder, LetGoKeepsOrder}
use Rattle.hg_agreement.specs.Orders.{TakenUpKeepsOrder}
use Rattle.hg_agreement.proofs.Firsts.{count_cons, count_append, some_counted}
use Rattle.hg_agreement.proofs.Swapped.{swap_has, swap_worker}
use Rattle.hg_agreement.proofs.Clears.{swept_has, swept_worker}
use Rattle.hg_agreement.proofs.Leaves.{go_has, go_gone, go_had, go_worker, go_none, go_was}
use Rattle.hg_agreement.proofs.Adopts.{numbers_without, up_has, up_only, up_worker, up_now}
use Rattle.hg_agreement.proofs.Adopts.{up_inside}

unheld_bit : ℕ → ℕ → Option ℕ → ℕ
unheld_bit segments segment o = bit_of (is_none o && nat_lt segment segments)

-- the same segments in each heap
pub same_sorted : (parts after : Parts) → after.policy ≡ parts.policy → IsSorted parts
    → ((segment v : ℕ) → has (holdings (heap_at after v)) segment ≡ has (holdings (heap_at parts v))
    segment) → IsSorted after
same_sorted parts after policy sorted same = record {
  below = λ v segment t. subst (λ p. segment < length p.segments) (sym policy)
      (sorted.below v segment (sym (same segment v) ∙ t));
  one_heap = λ v other segment t u. sorted.one_heap v other segment (sym (same segment v) ∙ t)
      (sym (same segment other) ∙ u);
}

pub swap_keeps_order : SwapKeepsOrder
unfolding unheld_bit
swap_keeps_order parts w found one now sorted pooled swap = (
  same_sorted parts (with_plain parts w found now) refl sorted
      (swap_has parts w found one now sorted swap),
  record {
    once = λ segment. pooled.once segment
        ∙ sym (ap (unheld_bit (length parts.policy.segments) segment)
        (swap_worker parts w found one now sorted swap segment));
    rising = pooled.rising;
  },
)

pub swept_keeps_order : SweptKeepsOrder
unfolding unheld_bit
swept_keeps_order parts w heap sorted pooled below swept = (
  same_sorted parts (with_heap parts w heap) refl sorted
      (swept_has parts w heap sorted below swept),
  record {
    once = λ segment. pooled.once segment
        ∙ sym (ap (unheld_bit (length parts.policy.segments) segment)
        (swept_worker parts w heap sorted below swept segment));
    rising = pooled.rising;
  },
)

pub one_counted : (segment : ℕ) (one : Plain) → count_by (is_of segment) (one ∷ []) ≡ bit_of
    (one.holding.number == segment)
one_counted segment one = let c = count_cons (is_of segment) one [] in omega arith

-- one more orphan
pub count_more : (segment : ℕ) (one : Plain) (xs ys : List Plain)
    → count_by (is_of segment) ((xs ++ one ∷ []) ++ ys) ≡ count_by (is_of segment)
    (xs ++ ys) + bit_of (one.holding.number == segment)
count_more segment one xs ys =
    let a = count_append (is_of segment) (xs ++ one ∷ []) ys in
    let b = count_append (is_of segment) xs (one ∷ []) in
    let c = count_append (is_of segment) xs ys in
    let d = one_counted segment one in
    omega arith

pub let_go_keeps_order : LetGoKeepsOrder
unfolding unheld_bit
let_go_keeps_order parts w heap one sorted pooled go = (
  record {
    below = λ v segment t. sorted.below v segment
        (sym (go_has parts w heap one sorted go segment v (not_gone v segment t)) ∙ t);
    one_heap = λ v other segment t u.
        let ne = not_gone v segment t in
        sorted.one_heap v other segment (sym (go_has parts w heap one sorted go segment v ne) ∙ t)
        (sym (go_has parts w heap one sorted go segment other ne) ∙ u);
  },
  record { once = counted; rising = pooled.rising },
) where
  not_gone : (v segment : ℕ) → has (holdings (heap_at (with_orphan parts w heap one) v)) segment
      ≡ true → segment ≡ one.holding.number → ⊥
  not_gone v segment t e =
      true≢false (sym t ∙ ap (has (holdings (heap_at (with_orphan parts w heap one) v))) e
      ∙ go_gone parts w heap one sorted go v)

  counted : (segment : ℕ) → count_by (is_of segment) ((parts.orphans ++ one ∷ []) ++ parts.fresh)
      ≡ unheld_bit (length parts.policy.segments) segment
      (worker_of (with_orphan parts w heap one) segment)
  counted segment =
      elim (cases_eq segment one.holding.number) [
        | inl e ↦
            let n = one.holding.number in
            let segments = length parts.policy.segments in
            let inside = sorted.below w n (go_had parts w heap one sorted go) in
            let was : count_by (is_of segment) (parts.orphans ++ parts.fresh) ≡ 0 =
            ap (λ k. count_by (is_of k) (parts.orphans ++ parts.fresh)) e ∙ pooled.once n
            ∙ ap (unheld_bit segments n) (go_was parts w heap one sorted go) in
            let here : bit_of (one.holding.number == segment) ≡ 1 =
            ap bit_of (eq-eqb one.holding.number segment (sym e)) in
            let now : unheld_bit segments segment (worker_of (with_orphan parts w heap one) segment)
            ≡ 1 =
            ap (λ k. unheld_bit segments k (worker_of (with_orphan parts w heap one) k)) e
            ∙ ap (unheld_bit segments n) (go_none parts w heap one sorted go)
            ∙ ap bit_of (lt-ltb n segments inside) in
            count_more segment one parts.orphans parts.fresh
            ∙ ap (λ k. k + bit_of (one.holding.number == segment)) was
            ∙ ap (λ k. 0 + k) here
            ∙ sym now
        | inr ne ↦
            let segments = length parts.policy.segments in
            let here : bit_of (one.holding.number == segment) ≡ 0 =
            ap bit_of (ne_eqb one.holding.number segment (λ e. ne (sym e))) in
            let more = count_more segment one parts.orphans parts.fresh in
            let same : count_by (is_of segment) ((parts.orphans ++ one ∷ []) ++ parts.fresh)
            ≡ count_by
            (is_of segment) (parts.orphans ++ parts.fresh) = omega arith in
            same ∙ pooled.once segment
            ∙ sym (ap (unheld_bit segments segment)
            (go_worker parts w heap one sorted go segment ne))
      ]

pub none_without : (n : ℕ) (xs : List Plain) → count_by (is_of n) (without n xs) ≡ 0
none_without n [] = refl
none_without n (x ∷ xs) =
    elim (cases_Bool (x.holding.number == n)) [
      | inl t ↦ ap (λ b. count_by (is_of n) (cond (not b) (x ∷ without n xs) (without n xs))) t
          ∙ none_without n xs
      | inr f ↦
          let c = count_cons (is_of n) x (without n xs)
          ∙ ap (λ b. bit_of b + count_by (is_of n) (without n xs)) f in
          let rest = none_without n xs in
          ap (λ b. count_by (is_of n) (cond (not b) (x ∷ without n xs) (without n xs))) f
          ∙ omega arith
    ]

pub others_without : (n segment : ℕ) (xs : List Plain) → (segment ≡ n → ⊥)
    → count_by (is_of segment) (without n xs) ≡ count_by (is_of segment) xs
others_without n segment [] ne = refl
others_without n segment (x ∷ xs) ne =
    elim (cases_Bool (x.holding.number == n)) [
      | inl t ↦
          let away = ne_eqb x.holding.number segment
          (λ e. ne (sym e ∙ eqb-true x.holding.number n t))
          in
          let c = count_cons (is_of segment) x xs ∙ ap (λ b. bit_of b + count_by (is_of segment) xs)
          away in
          let rest = others_without n segment xs ne in
          ap (λ b. count_by (is_of segment) (cond (not b) (x ∷ without n xs) (without n xs))) t
          ∙ omega arith
      | inr f ↦
          ap (λ b. count_by (is_of segment) (cond (not b) (x ∷ without n xs) (without n xs))) f
          ∙ count_cons (is_of segment) x (without n xs)
          ∙ ap (λ k. bit_of (x.holding.number == segment) + k) (others_without n segment xs ne)
          ∙ sym (count_cons (is_of segment) x xs)
    ]

rising_lower : (low least : ℕ) (xs : List ℕ) → least ≤ low → IsRising low xs → IsRising least xs
rising_lower low least [] h r = tt
rising_lower low least (x ∷ xs) h r = let a = r.0 in (omega arith, r.1)

rising_filter : (p : ℕ → Bool) (low : ℕ) (xs : List ℕ) → IsRising low xs
    → IsRising low (filter p xs)
rising_filter p low [] r = tt
rising_filter p low (x ∷ xs) r =
    let rest = rising_filter p (x + 1) xs r.1 in
    let a = r.0 in
    elim (cases_Bool (p x)) [
      | inl t ↦ subst (λ b. IsRising low (cond b (x ∷ filter p xs) (filter p xs))) (sym t) (a, rest)
      | inr f ↦ subst (λ b. IsRising low (cond b (x ∷ filter p xs) (filter p xs))) (sym f)
          (rising_lower (x + 1) low (filter p xs) (omega arith) rest)
    ]

pub taken_up_keeps_order : TakenUpKeepsOrder
unfolding unheld_bit
taken_up_keeps_order parts w heap one sorted pooled up = (
  record {
    below = λ v segment t. elim (cases_eq segment one.holding.number) [
      | inl e ↦ subst (λ k. k < length parts.policy.segments) (sym e)
          (up_inside parts w heap one pooled up)
      | inr ne ↦ sorted.below v segment (sym (up_has parts w heap one pooled up segment v ne)
          ∙ t)
    ];
    one_heap = λ v other segment t u.
        elim (cases_eq segment one.holding.number) [
          | inl e ↦ only v segment e t ∙ sym (only other segment e u)
          | inr ne ↦ sorted.one_heap v other segment
              (sym (up_has parts w heap one pooled up segment v ne) ∙ t)
              (sym (up_has parts w heap one pooled up segment other ne) ∙ u)
        ];
  },
  record {
    once = counted;
    rising = subst (IsRising 0) (sym (numbers_without one.holding.number parts.fresh))
        (rising_filter (λ k. not (k == one.holding.number)) 0 (numbers parts.fresh) pooled.rising);
  },
) where
  only : (v segment : ℕ) → segment ≡ one.holding.number
      → has (holdings (heap_at (with_adopted parts w heap one.holding.number) v)) segment ≡ true
      → v ≡ w
  only v segment e t =
      up_only parts w heap one pooled up v
      (sym (ap (has (holdings (heap_at (with_adopted parts w heap one.holding.number) v))) e) ∙ t)

  counted : (segment : ℕ)
      → count_by (is_of segment) (without one.holding.number parts.orphans ++ without
      one.holding.number parts.fresh) ≡ unheld_bit (length parts.policy.segments) segment
      (worker_of (with_adopted parts w heap one.holding.number) segment)
  counted segment =
      elim (cases_eq segment one.holding.number) [
        | inl e ↦
            let n = one.holding.number in
            let segments = length parts.policy.segments in
            let a = count_append (is_of n) (without n parts.orphans) (without n parts.fresh) in
            let b = none_without n parts.orphans in
            let c = none_without n parts.fresh in
            let none : count_by (is_of n) (without n parts.orphans ++ without n parts.fresh) ≡ 0 =
            omega arith in
            ap (λ k. count_by (is_of k) (without n parts.orphans ++ without n parts.fresh)) e
            ∙ none
            ∙ sym (ap (λ k. unheld_bit segments k (worker_of (with_adopted parts w heap n) k)) e
            ∙ ap (unheld_bit segments n) (up_now parts w heap one pooled up))
        | inr ne ↦
            let n = one.holding.number in
            let a = count_append (is_of segment) (without n parts.orphans) (without n parts.fresh)
            in
            let b = others_without n segment parts.orphans ne in
            let c = others_without n segment parts.fresh ne in
            let d = count_append (is_of segment) parts.orphans parts.fresh in
            let same : count_by (is_of segment) (without n parts.orphans ++ without n parts.fresh)
            ≡ count_by (is_of segment) (parts.orphans ++ parts.fresh) = omega arith in
            same ∙ pooled.once segment
            ∙ sym (ap (unheld_bit (length parts.policy.segments) segment)
            (up_worker parts w heap one pooled up segment ne))
      ]

without_none : (xs : List Plain) (n : ℕ) → count_by (is_of n) xs ≡ 0 → without n xs ≡ xs
without_none [] n e = refl
without_none (x ∷ xs) n e =
    let c = count_cons (is_of n) x xs in
    elim (cases_Bool (x.holding.number == n)) [
      | inl t ↦ let b : bit_of (x.holding.number == n) ≡ 1 = ap bit_of t in absurd (omega arith)
      | inr f ↦
          let rest = without_none xs n (omega arith) in
          ap (λ b. cond (not b) (x ∷ without n xs) (without n xs)) f ∙ ap (λ l. x ∷ l) rest
    ]

without_once : (xs : List Plain) (n found : ℕ) (one : Plain) → slice_get xs found ≡ Some one
    → one.holding.number ≡ n → count_by (is_of n) xs ≤ 1 → without n xs ≡ remove xs found
without_once [] n found one there is e = absurd (none-some one there)
without_once (x ∷ xs) n zero one there is e =
    let same : x ≡ one = same_Some x one there in
    let t = eq-eqb x.holding.number n (ap (λ k. k.holding.number) same ∙ is) in
    let c = count_cons (is_of n) x xs in
    let b : bit_of (x.holding.number == n) ≡ 1 = ap bit_of t in
    ap (λ b. cond (not b) (x ∷ without n xs) (without n xs)) t ∙ without_none xs n (omega arith)
without_once (x ∷ xs) n (suc found) one there is e =
    let c = count_cons (is_of n) x xs in
    elim (cases_Bool (x.holding.number == n)) [
      | inl t ↦
          let b : bit_of (x.holding.number == n) ≡ 1 = ap bit_of t in
          let some = some_counted (is_of n) xs (any_passes_from_place (is_of n) xs found one there
          (eq-eqb one.holding.number n is)) in
          absurd (omega arith)
      | inr f ↦ ap (λ b. cond (not b) (x ∷ without n xs) (without n xs)) f
          ∙ ap (λ l. x ∷ l) (without_once xs n found one there is (omega arith))
    ]

pub removing_is_without : RemovingIsWithout
removing_is_without plains segment = record {
  once = λ found one there is e. without_once plains segment found one there is e;
  none = λ e. without_none plains segment e;
}

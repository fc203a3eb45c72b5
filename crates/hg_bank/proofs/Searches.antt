-- The first number of a range that passes.
use Rattle.std.proofs.Common.{◌≡◌, ℕ, ◌+◌, ◌-◌, ◌<◌, ◌≤◌, inl, inr, Bool, true, false, cond, Option}
use Rattle.std.proofs.Common.{Some}
use Rattle.std.proofs.Common.{None, find, refl, sym, ap, ◌∙◌, arith, zero, suc}
use Rattle.std.specs.List.{range_with_len}
use Rattle.std.proofs.lemmas.Bool.{cases_Bool, cases_eq, cases_lt}
use Rattle.std.specs.Option.{option_or}
use Rattle.std.proofs.lemmas.List.Folds.{find-append}
use Rattle.std.proofs.lemmas.Option.{none-some}
use Rattle.hg_bank.specs.Order.{round_from}

-- none passes
pub none_found : (p : ℕ → Bool) (first count : ℕ)
    → ((n : ℕ) → first ≤ n → n < first + count → p n ≡ false)
    → find p (range_with_len first count) ≡ None
none_found p first zero h = refl
none_found p first (suc count) h =
    ap (λ b. cond b (Some first) (find p (range_with_len (first + 1) count)))
    (h first (omega arith) (omega arith))
    ∙ none_found p (first + 1) count (λ n low high. h n (omega arith) (omega arith))

-- this one passes, and none before it
pub first_found : (p : ℕ → Bool) (first count at : ℕ) → first ≤ at → at < first + count
    → ((n : ℕ) → first ≤ n → n < at → p n ≡ false) → p at ≡ true
    → find p (range_with_len first count) ≡ Some at
first_found p first zero at low high h there = absurd (omega arith)
first_found p first (suc count) at low high h there =
    elim (cases_eq first at) as (λ _. find p (range_with_len first (suc count)) ≡ Some at) [
      | inl here ↦
          ap (λ b. cond b (Some first) (find p (range_with_len (first + 1) count)))
          (ap p here ∙ there)
          ∙ ap Some here
      | inr ne ↦
          ap (λ b. cond b (Some first) (find p (range_with_len (first + 1) count)))
          (h first (omega arith) (omega arith))
          ∙ first_found p (first + 1) count at (omega arith) (omega arith)
          (λ n l u. h n (omega arith) u) there
    ]

-- nor does one more
pub one_more : (p : ℕ → Bool) (first number : ℕ)
    → ((n : ℕ) → first ≤ n → n < number → p n ≡ false) → p number ≡ false
    → (n : ℕ) → first ≤ n → n < number + 1 → p n ≡ false
one_more p first number h last n low high =
    elim (cases_eq n number) as (λ _. p n ≡ false) [
      | inl here ↦ ap p here ∙ last
      | inr ne ↦ h n low (omega arith)
    ]

-- round and round: from the current one on, and else from the first
pub found_first : (p : ℕ → Bool) (current count core : ℕ)
    → find p (range_with_len current (count - current)) ≡ Some core
    → find p (round_from current count) ≡ Some core
found_first p current count core e =
    find-append p (range_with_len current (count - current)) (range_with_len 0 current)
    ∙ ap (λ o. option_or o (find p (range_with_len 0 current))) e

pub found_later : (p : ℕ → Bool) (current count : ℕ) (o : Option ℕ)
    → find p (range_with_len current (count - current)) ≡ None
    → find p (range_with_len 0 (current - 0)) ≡ o
    → find p (round_from current count) ≡ o
found_later p current count o e f =
    let same : current ≡ current - 0 = omega arith in
    find-append p (range_with_len current (count - current)) (range_with_len 0 current)
    ∙ ap (λ x. option_or x (find p (range_with_len 0 current))) e
    ∙ ap (λ n. find p (range_with_len 0 n)) same ∙ f

-- where none is found none passes
none_in : (p : ℕ → Bool) (first count n : ℕ) → find p (range_with_len first count) ≡ None
    → first ≤ n → n < first + count → p n ≡ false
none_in p first zero n e low high = absurd (omega arith)
none_in p first (suc count) n e low high =
    let rest = find p (range_with_len (first + 1) count) in
    elim (cases_Bool (p first)) as (λ _. p n ≡ false) [
      | inl there ↦
          absurd (none-some first (sym e ∙ ap (λ b. cond b (Some first) rest) there))
      | inr not ↦
          elim (cases_eq n first) as (λ _. p n ≡ false) [
            | inl here ↦ ap p here ∙ not
            | inr ne ↦
                none_in p (first + 1) count n
                (sym (ap (λ b. cond b (Some first) rest) not) ∙ e) (omega arith) (omega arith)
          ]
    ]

neither : (o q : Option ℕ) → option_or o q ≡ None → (o ≡ None) × (q ≡ None)
neither None q e = (refl, e)
neither (Some n) q e = absurd (none-some n (sym e))

pub none_in_round : (p : ℕ → Bool) (current count n : ℕ)
    → find p (round_from current count) ≡ None → current ≤ count → n < count → p n ≡ false
none_in_round p current count n e inside below =
    let both = neither (find p (range_with_len current (count - current)))
    (find p (range_with_len 0 current))
    (sym (find-append p (range_with_len current (count - current)) (range_with_len 0 current)) ∙ e)
    in
    elim (cases_lt n current) as (λ _. p n ≡ false) [
      | inl less ↦ none_in p 0 current n both.1 (omega arith) (omega arith)
      | inr past ↦ none_in p current (count - current) n both.0 past (omega arith)
    ]

-- Runs of marks, by one shift more.
use Rattle.std.proofs.Common.{◌≡◌, ◌<◌, ◌≤◌, ◌+◌, ◌-◌, ◌⊎◌, ◌/◌, ◌%◌, ◌^◌, ◌↔◌, ℕ, min, inl, inr, sym, ap, ◌∙◌, arith, bit_and}
use Rattle.std.specs.Int.{bit_at}
use Rattle.std.proofs.lemmas.Nat.{shr-shr}
use Rattle.std.proofs.lemmas.Bool.{cases_eq}
use Rattle.std.proofs.lemmas.Nat.Bits.{bit_at_and, bit_at-lt, bit_at_mask_inside, bit_at_mask_below, bit_at_mask_above}
use Rattle.std.proofs.Math.Pow.{pow_mono}
use Rattle.hg_mask.specs.Marks.{IsRunOf}

pub shifted : (n k i : ℕ) → bit_at (n / 2 ^ k) i ≡ bit_at n (i + k)
shifted n k i = let e : k + i ≡ i + k = omega arith in ap (λ x. x % 2) (shr-shr n k i) ∙ ap (bit_at n) e

pub one_mark : (marks page : ℕ) → (bit_at marks page ≡ 1) ↔ IsRunOf marks 1 page
one_mark marks page = (
  λ on ahead low. (let z : page + ahead ≡ page = omega arith in ap (bit_at marks) z ∙ on),
  λ run. (let z : page + 0 ≡ page = omega arith in ap (bit_at marks) (sym z) ∙ run 0 (omega arith)),
)

both : (a b : ℕ) → a < 2 → b < 2 → min a b ≡ 1 → (a ≡ 1) × (b ≡ 1)
both a b x y e = (omega (arith, x, y, e), omega (arith, x, y, e))

pub one_more : (marks starts ahead page : ℕ) → ((p : ℕ) → (bit_at starts p ≡ 1) ↔ IsRunOf marks ahead p)
    → (bit_at (bit_and starts (marks / 2 ^ ahead)) page ≡ 1) ↔ IsRunOf marks (ahead + 1) page
one_more marks starts ahead page h =
    let is = bit_at_and starts (marks / 2 ^ ahead) page
    ∙ ap (min (bit_at starts page)) (shifted marks ahead page) in (
      λ on a low. (let two = both (bit_at starts page) (bit_at marks (page + ahead)) (bit_at-lt starts page) (bit_at-lt marks (page + ahead)) (sym is ∙ on) in
          elim (cases_eq a ahead) as (λ _. bit_at marks (page + a) ≡ 1) [
            | inl e ↦ ap (λ n. bit_at marks (page + n)) e ∙ two.1
            | inr ne ↦ (h page).0 two.0 a (omega (arith, low, ne))
          ]),
      λ run. (let first = (h page).1 (λ a low. run a (omega (arith, low))) in
          let last = run ahead (omega arith) in
          is ∙ (omega (arith, first, last))),
    )

-- the marks of a run
pub run_inside : (from count run page : ℕ) → run ≡ 2 ^ (from + count) - 2 ^ from → from ≤ page → page < from + count → bit_at run page ≡ 1
run_inside from count run page e low high = ap (λ n. bit_at n page) e ∙ bit_at_mask_inside from (from + count) page low high

pub run_outside : (from count run page : ℕ) → run ≡ 2 ^ (from + count) - 2 ^ from → (page < from) ⊎ (from + count ≤ page) → bit_at run page ≡ 0
run_outside from count run page e out = ap (λ n. bit_at n page) e ∙ elim out as (λ _. bit_at (2 ^ (from + count) - 2 ^ from) page ≡ 0) [
  | inl low ↦ bit_at_mask_below from (from + count) page low
  | inr high ↦ bit_at_mask_above from (from + count) page high
]

pub run_small : (from count run : ℕ) → run ≡ 2 ^ (from + count) - 2 ^ from → from + count ≤ 16 → run < 65536
run_small from count run e within =
    let up : 2 ^ (from + count) ≤ 2 ^ 16 = pow_mono within in
    let down : 2 ^ 0 ≤ 2 ^ from = pow_mono {i = 0} {j = from} (omega arith) in
    omega (arith, e, up, down)

-- What classes give, beside what was asked for.
use Rattle.std.proofs.Common.{◌≡◌, ℕ, ◌+◌, ◌-◌, ◌*◌, ◌≤◌, Bool, true, false, cond, nat_le, List, [], ◌∷◌, Option, Some, None, find, unwrap_or, refl, sym, ap, ◌∙◌, arith, inl, inr}
use Rattle.std.proofs.lemmas.Bool.{cases_Bool, eqb-true, leb-true}
use Rattle.std.proofs.lemmas.List.Sums.{sum_by-cons}
use Rattle.std.proofs.lemmas.Option.{same_Some}
use Rattle.std.proofs.Math.Nat.{mul-add}
use Rattle.std.specs.List.{sum_by}
use Rattle.std.specs.Prelude.{if◌then◌else◌}
use Rattle.hg_machine.specs.Request.{size_of, words_for}
use Rattle.hg_size.specs.Sizes.{sizes, size_for}
use Rattle.hg_state.specs.Costs.{bytes_in, blocks_of, is_of, NoLessIsGiven}
use Rattle.hg_state.specs.declared.costs.Granted.{Granted}

some_not : (x : ℕ) → None ≡ Some x → ⊥
some_not x e = absurd (cc)

-- what is found passes
find_passes : (p : ℕ → Bool) (xs : List ℕ) (x : ℕ) → find p xs ≡ Some x → p x ≡ true
find_passes p [] x e = absurd (some_not x e)
find_passes p (y ∷ ys) x e = elim (cases_Bool (p y)) as (λ _. p x ≡ true) [
  | inl passes ↦
      let same : Some y ≡ Some x = ap (λ (b : Bool). cond b (Some y) (find p ys)) (sym passes) ∙ e in
      ap p (sym (same_Some y x same)) ∙ passes
  | inr fails ↦ find_passes p ys x (ap (λ (b : Bool). cond b (Some y) (find p ys)) (sym fails) ∙ e)
]

-- a block holds the bytes that it is asked for
found_fits : (bytes class : ℕ) (o : Option ℕ) → size_for (words_for bytes) ≡ o → unwrap_or o 0 ≡ class → 1 ≤ class → bytes ≤ 8 * class
unfolding size_for
found_fits bytes class None e is some = absurd (omega (arith, is, some))
found_fits bytes class (Some n) e is some =
    let holds : words_for bytes ≤ n = leb-true _ _ (find_passes (λ size. nat_le (words_for bytes) size) sizes n e) in
    omega (arith, holds, is)

fits : (bytes class : ℕ) → size_of bytes ≡ class → 1 ≤ class → bytes ≤ 8 * class
fits bytes class is some = found_fits bytes class (size_for (words_for bytes)) refl is some

-- one block more
one_fits : (class bytes : ℕ) (b : Bool) → (b ≡ true → bytes ≤ 8 * class) → (if b then bytes else 0) ≤ 8 * class * cond b 1 0
one_fits class bytes true fits = let one : 8 * class * 1 ≡ 8 * class = omega arith in let f = fits refl in omega (arith, one, f)
one_fits class bytes false fits = omega arith

all_fit : (class : ℕ) (blocks : List Granted) → 1 ≤ class → sum_by (bytes_in class) blocks ≤ 8 * class * blocks_of class blocks
all_fit class [] some = omega arith
all_fit class (b ∷ bs) some =
    let rest = all_fit class bs some in
    let here = one_fits class b.bytes (is_of class b) (λ e. fits b.bytes class (eqb-true (size_of b.bytes) class e) some) in
    let sum = sum_by-cons (bytes_in class) b bs in
    let count : blocks_of class (b ∷ bs) ≡ cond (is_of class b) 1 0 + blocks_of class bs = sum_by-cons (λ x. cond (is_of class x) 1 0) b bs in
    let parts : 8 * class * (cond (is_of class b) 1 0 + blocks_of class bs) ≡ 8 * class * cond (is_of class b) 1 0 + 8 * class * blocks_of class bs =
    mul-add (8 * class) (cond (is_of class b) 1 0) (blocks_of class bs) in
    let all = ap (λ n. 8 * class * n) count ∙ parts in
    omega (arith, rest, here, sum, all)

pub no_less_is_given : NoLessIsGiven
no_less_is_given class blocks some = let low = all_fit class blocks some in omega (arith, low)

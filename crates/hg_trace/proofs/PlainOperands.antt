-- Operands are read from how they are written, and from nothing else.
use Rattle.std.proofs.Common.{◌≡◌, ℕ, ◌<◌, ◌≤◌, ◌^◌, true, List, [], ◌∷◌, Some, Ok, Err, decimal, refl, ap, subst, inl, inr}
use Rattle.std.specs.Prelude.{ok_or}
use Rattle.hg_policy_text.specs.NameForm.{is_name}
use Rattle.hg_trace.specs.declared.fault.LineFault.TheVariants as fault
use Rattle.hg_trace.specs.Numbers.{number_below}
use Rattle.hg_trace.specs.Operands.{name_operand, number_operand, no_operand}
use Rattle.hg_trace.proofs.Binds.{bind_ok, ok_is, some_is, if_ok}
use Rattle.hg_trace.proofs.Decimals.{numbers_are_decimals}

pub number_operand-plain : (limit n : ℕ) (words : List (List ℕ)) → limit ≤ 2 ^ 64 → n < limit → number_operand limit (decimal n ∷ words) ≡ Ok (n, words)
number_operand-plain limit n words fits small =
    let read : number_below limit (decimal n) ≡ Some n = (numbers_are_decimals limit n (decimal n) fits).1 (refl, small) in
    rw read refl

pub number_operand-is : (limit : ℕ) (words : List (List ℕ)) (x : ℕ × List (List ℕ)) → limit ≤ 2 ^ 64 → number_operand limit words ≡ Ok x
    → (words ≡ decimal x.0 ∷ x.1) × (x.0 < limit)
number_operand-is limit [] x fits h = absurd (cc)
number_operand-is limit (word ∷ words) x fits h =
    let (n, read, is) = bind_ok (ok_or (number_below limit word) fault.Operand) (λ n. Ok (n, words)) x h in
    let (text, small) = (numbers_are_decimals limit n word fits).0 (some_is (number_below limit word) fault.Operand n read) in
    subst (λ y. (word ∷ words ≡ decimal y.0 ∷ y.1) × (y.0 < limit)) (ok_is (n, words) x is) (ap (λ w. w ∷ words) text, small)

pub name_operand-plain : (name : List ℕ) (words : List (List ℕ)) → is_name name ≡ true → name_operand (name ∷ words) ≡ Ok (name, words)
name_operand-plain name words named = rw named refl

pub name_operand-is : (words : List (List ℕ)) (x : List ℕ × List (List ℕ)) → name_operand words ≡ Ok x → (words ≡ x.0 ∷ x.1) × (is_name x.0 ≡ true)
name_operand-is [] x h = absurd (cc)
name_operand-is (word ∷ words) x h =
    elim (if_ok (is_name word) (Ok (word, words)) (Err fault.Operand) x h) [
      | inl (named, is) ↦ subst (λ y. (word ∷ words ≡ y.0 ∷ y.1) × (is_name y.0 ≡ true)) (ok_is (word, words) x is) (refl, named)
      | inr (other, is) ↦ absurd (cc)
    ]

pub no_operand-is : (words : List (List ℕ)) (x : Unit {0}) → no_operand words ≡ Ok x → words ≡ []
no_operand-is [] x h = refl
no_operand-is (word ∷ words) x h = absurd (cc)

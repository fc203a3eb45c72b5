-- What a step that went well says of the steps that it is made of.
use Rattle.std.proofs.Common.{◌≡◌, ◌≢◌, ℕ, Bool, true, false, List, Option, Some, None, Result, Ok, Err, refl, inl, inr, ◌⊎◌}
use Rattle.std.specs.Prelude.{if◌then◌else◌, ok_or}
use Rattle.std.specs.Str.{bytes_eq}
use Rattle.std.proofs.lemmas.Bool.{cases_Bool}
use Rattle.std.proofs.lemmas.Slice.Eq.{bytes_eq-Decides}
use Rattle.hg_trace.specs.declared.fault.LineFault.{LineFault}
use Rattle.hg_trace.specs.Faults.{◌>>=◌}

-- both steps went well
pub bind_ok : {A B E : Type 0} (r : Result A E) (f : A → Result B E) (y : B) → (r >>= f) ≡ Ok y → (x : A) × (r ≡ Ok x) × (f x ≡ Ok y)
bind_ok (Ok x) f y h = (x, refl, h)
bind_ok (Err e) f y h = absurd (cc)

-- what went well
abbrev pub well : {A : Type 0} → A → Result A LineFault
well x = Ok x

pub ok_is : {A : Type 0} (x y : A) → well x ≡ Ok y → x ≡ y
ok_is x y h = cc

pub some_is : {A E : Type 0} (o : Option A) (e : E) (x : A) → ok_or o e ≡ Ok x → o ≡ Some x
some_is None e x h = absurd (cc)
some_is (Some y) e x h = cc

-- one of the two branches went well
pub if_ok : {A E : Type 0} (b : Bool) (x y : Result A E) (v : A) → (if b then x else y) ≡ Ok v → ((b ≡ true) × (x ≡ Ok v)) ⊎ ((b ≡ false) × (y ≡ Ok v))
if_ok true x y v h = inl (refl, h)
if_ok false x y v h = inr (refl, h)

pub bytes_eq-true : (xs ys : List ℕ) → bytes_eq xs ys ≡ true → xs ≡ ys
bytes_eq-true xs ys h = (bytes_eq-Decides xs ys).0 h

pub bytes_eq-same : (xs ys : List ℕ) → xs ≡ ys → bytes_eq xs ys ≡ true
bytes_eq-same xs ys h = (bytes_eq-Decides xs ys).1 h

pub bytes_eq-other : (xs ys : List ℕ) → xs ≢ ys → bytes_eq xs ys ≡ false
bytes_eq-other xs ys h =
    elim (cases_Bool (bytes_eq xs ys)) [
      | inl e ↦ absurd (h (bytes_eq-true xs ys e))
      | inr e ↦ e
    ]

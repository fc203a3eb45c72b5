-- What was read before, where a whole chain was read.
use Rattle.std.proofs.Common.{◌≡◌, ℕ, ◌+◌, List, [], ◌∷◌, length, Option, Some, None, Ok, Err, refl, sym, arith, add-zero}
use Rattle.hg_policy_text.specs.Faults.{Fault, Read, ◌>>=◌, in_turn, FailsAs}

pub bind_at : {A B : Type 0} (r : Read A) (next : A → Read B) (y : B) → (r >>= next) ≡ Ok y → (x : A) × (r ≡ Ok x) × (next x ≡ Ok y)
bind_at (Ok x) next y e = (x, refl, e)
bind_at (Err f) next y e = cc

module _ {A X : Type 0} (step : A → X → Read A) where
  -- what each step keeps is kept
  pub in_turn-keeps : (P : A → Type 0) → ((done : A) (x : X) (next : A) → step done x ≡ Ok next → P done → P next) → (done : A) (xs : List X) (out : A) → in_turn step done xs ≡ Ok out → P done → P out
  unfolding in_turn
  in_turn-keeps P keeps done [] out e kept = let f : done ≡ out = cc in rw (← f) kept
  in_turn-keeps P keeps done (x ∷ xs) out e kept =
      let (next, at, rest) = bind_at (step done x) (λ next. in_turn step next xs) out e in
      in_turn-keeps P keeps next xs out rest (keeps done x next at kept)

  -- where each step counts one, there is one for each element
  pub in_turn-counts : (count : A → ℕ) → ((done : A) (x : X) (next : A) → step done x ≡ Ok next → count next ≡ count done + 1) → (done : A) (xs : List X) (out : A) → in_turn step done xs ≡ Ok out → count out ≡ count done + length xs
  unfolding in_turn
  in_turn-counts count one done [] out e = let f : done ≡ out = cc in rw (← f) (sym (add-zero (count done)))
  in_turn-counts count one done (x ∷ xs) out e =
      let (next, at, rest) = bind_at (step done x) (λ next. in_turn step next xs) out e in
      omega (arith, in_turn-counts count one next xs out rest, one done x next at)

-- a fault before what is next
pub bind-fails : {A B : Type 0} (o : Option Fault) (r : Read A) (next : A → Read B) → FailsAs o r → FailsAs o (r >>= next)
bind-fails None r next e = tt
bind-fails (Some f) r next e = rw e refl

-- what is next may be put together first
pub bind_assoc : {A B C : Type 0} (r : Read A) (f : A → Read B) (g : B → Read C) → ((r >>= f) >>= g) ≡ (r >>= λ x. f x >>= g)
bind_assoc (Ok x) f g = refl
bind_assoc (Err fault) f g = refl

pub bind_cong : {A B : Type 0} (r : Read A) (f g : A → Read B) → ((x : A) → f x ≡ g x) → (r >>= f) ≡ (r >>= g)
bind_cong (Ok x) f g same = same x
bind_cong (Err fault) f g same = refl

-- Classes and holders that the witness state tells.
use Rattle.std.proofs.Common.{◌≡◌, ℕ, Bool, true, false, not, if◌then◌else◌, Option, Some, None}
use Rattle.std.proofs.Common.{refl, subst}
use Rattle.std.proofs.lemmas.Bool.{eq-eqb}
use Rattle.std.proofs.lemmas.Option.{same_Some, none-some}
use Rattle.hg_machine.specs.State.{fresh, orphan, held}
use Rattle.hg_machine.specs.Holders.{is_held_by, is_orphan}

pub chosen_size : (b c : Bool) (k : Option ℕ) (size : ℕ) (P : ℕ → Type 0)
    → (if b then k else (if c then Some 1 else None)) ≡ Some size → P 1
    → (b ≡ true → k ≡ Some size → P size) → P size
chosen_size true c k size P e one theirs = theirs refl e
chosen_size false true k size P e one theirs = subst P (same_Some 1 size e) one
chosen_size false false k size P e one theirs = absurd (none-some size e)

pub holder_worker : (b : Bool) (w v : ℕ) → (if b then held w else orphan) ≡ held v → v ≡ w
holder_worker true w v e = let same : held w ≡ held v = e in cc
holder_worker false w v e = let same : orphan ≡ held v = e in absurd (cc)

pub fresh_unheld : (w : ℕ) → fresh ≡ held w → ⊥
fresh_unheld w e = absurd (cc)

pub holder_orphan : (b : Bool) (w : ℕ) → is_orphan (if b then held w else orphan) ≡ not b
holder_orphan true w = refl
holder_orphan false w = refl

pub holder_is : (b : Bool) (w : ℕ) → is_held_by w (if b then held w else orphan) ≡ b
holder_is true w = eq-eqb w w refl
holder_is false w = refl

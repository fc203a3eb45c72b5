-- What is told of what was found.
use Rattle.std.proofs.Common.{◌≡◌, ℕ, Bool, true, false, Option, None, Some, MatchOption, if◌then◌else◌, refl, sym, ap, ◌∙◌}
use Rattle.std.proofs.lemmas.Option.{none-some, same_Some}
use Rattle.hg_reply.specs.Replies.{no_name, valued}

-- what follows in each case
pub told_so : {X : Type 0} (No More : Type 0) (Is Then : X → Type 0) (o : Option X) → (No → More) → ((x : X) → Is x → Then x) → MatchOption o No Is → MatchOption o More Then
told_so No More Is Then None none is said = none said
told_so No More Is Then (Some x) none is said = is x said

-- a number is told only where the tenant is there
pub charge_told : (b : Bool) (sum bytes : ℕ) → Some bytes ≡ (if b then Some sum else None) → valued 4 bytes ≡ (if b then valued 4 sum else no_name)
charge_told true sum bytes is = ap (valued 4) (same_Some bytes sum is)
charge_told false sum bytes is = absurd (none-some bytes (sym is))

pub none_told : (b : Bool) (sum : ℕ) → None ≡ (if b then Some sum else None) → no_name ≡ (if b then valued 4 sum else no_name)
none_told true sum is = absurd (none-some sum is)
none_told false sum is = refl

-- Why a policy refuses a right.
use Rattle.std.specs.Prelude.{ℕ, Bool, Option, Some, None, if◌then◌else◌}
use Rattle.hg_place.specs.declared.Right.{Right}
use Rattle.hg_machine.specs.Policy.{Policy, grants, forbids}
use Rattle.hg_policy.specs.declared.granted.Refusal.{Refusal}
use Rattle.hg_policy.specs.declared.granted.Refusal.TheVariants as refusal

-- what is forbidden is refused, whatever is granted, and so is what isn't granted
abbrev pub refused : Bool → Bool → Option Refusal
refused forbidden granted =
    if forbidden then Some refusal.Forbidden else
    (if granted then None else Some refusal.NotGranted)

abbrev pub refusal_of : Policy → ℕ → ℕ → Right → Option Refusal
refusal_of policy owner actor right =
    refused (forbids policy owner actor right) (grants policy owner actor right)

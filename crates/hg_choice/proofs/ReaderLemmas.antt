-- Who may read a block is denied no read of it, and who may not is.
use Rattle.std.proofs.Common.{◌≡◌, ℕ, ◌==◌, ◌&&◌, Bool, true, false, not, is_some, is_none, Option}
use Rattle.std.proofs.Common.{Some, None, [], ◌∷◌, refl, ap, ◌∙◌}
use Rattle.std.proofs.lemmas.Bool.{eq-eqb}
use Rattle.hg_place.specs.declared.Right.TheVariants as right
use Rattle.hg_machine.specs.declared.Rule.TheVariants as rule
use Rattle.hg_machine.specs.First.{first_of}
use Rattle.hg_machine.specs.Policy.{Policy, is_tenant, arena_of, admits, grants, forbids}
use Rattle.hg_machine.specs.Denial.{is_admitted}
use Rattle.hg_choice.specs.SameBut.{may_read}
use Rattle.hg_choice.specs.Readers.{read_denial, MayReadIsVerdict}

-- the last three rules
last_three : (admitted forbidden granted : Bool)
    → (admitted && (not forbidden && granted))
    ≡ is_none
    (first_of
    ((not admitted, rule.ForeignArena)
    ∷ (forbidden, rule.Forbidden)
    ∷ (not granted, rule.NotGranted)
    ∷ []))
last_three false forbidden granted = refl
last_three true true granted = refl
last_three true false false = refl
last_three true false true = refl

-- all rules, for a live block of the handle's generation
all_rules : (policy : Policy) (actor generation : ℕ) (tenant named forbidden granted : Bool)
    (arena : Option ℕ) → named ≡ true
    → (tenant && (is_admitted policy arena actor && (not forbidden && granted)))
    ≡ is_none
    (first_of
    ((not tenant, rule.Stranger)
    ∷ (not (is_some arena), rule.Stale 0)
    ∷ (not named, rule.Stale generation)
    ∷ (false, rule.AlreadyFreed)
    ∷ (not (is_admitted policy arena actor), rule.ForeignArena)
    ∷ (forbidden, rule.Forbidden)
    ∷ (not granted, rule.NotGranted)
    ∷ []))
all_rules policy actor generation false named forbidden granted arena e = refl
all_rules policy actor generation true named forbidden granted None e = refl
all_rules policy actor generation true false forbidden granted (Some arena) e = absurd (cc)
all_rules policy actor generation true true forbidden granted (Some arena) e =
    last_three (admits policy arena actor) forbidden granted

-- there is one or none
or_none : {A : Type 0} (o : Option A) → not (is_none o) ≡ is_some o
or_none None = refl
or_none (Some x) = refl

pub may_read_is_verdict : MayReadIsVerdict
may_read_is_verdict policy actor segment owner generation =
    let readers : may_read policy actor segment owner
    ≡ is_none (read_denial policy actor segment owner generation) =
    all_rules policy actor generation (is_tenant policy actor) (generation == generation)
    (forbids policy owner actor right.Read) (grants policy owner actor right.Read)
    (arena_of policy segment)
    (eq-eqb generation generation refl) in
    (readers, ap not readers ∙ or_none (read_denial policy actor segment owner generation))

-- The worked policy is sound, so there are sound states.
use Rattle.std.proofs.Common.{◌≡◌, ℕ, zero, suc, ◌<◌, true, false, refl, arith, get_or}
use Rattle.hg_place.specs.declared.Right.{Right}
use Rattle.hg_place.specs.declared.Right.TheVariants as right
use Rattle.hg_machine.specs.Policy.{Tenant, admits, grants, has_right, no_rights}
use Rattle.hg_machine.specs.SoundPolicy.{IsSoundPolicy}
use Rattle.hg_machine.proofs.Opening.{opening_is_sound}
use Rattle.hg_rows.specs.WorkedPolicy.{worked_policy, WorkedPolicyIsSound}

admitted_p : (arena actor : ℕ) → admits (worked_policy 9) arena actor ≡ true → (arena < 2) × (actor < 2)
admitted_p zero zero e = (omega arith, omega arith)
admitted_p zero (suc zero) e = (omega arith, omega arith)
admitted_p zero (suc (suc n)) e = absurd (cc)
admitted_p (suc zero) zero e = (omega arith, omega arith)
admitted_p (suc zero) (suc zero) e = (omega arith, omega arith)
admitted_p (suc zero) (suc (suc n)) e = absurd (cc)
admitted_p (suc (suc m)) actor e = absurd (cc)

none : (r : Right) → has_right no_rights r ≡ false
none right.Read = refl
none right.Write = refl
none right.List = refl
none right.Free = refl

nothing : (r : Right) → has_right no_rights r ≡ true → ⊥
nothing right.Read e = cc
nothing right.Write e = cc
nothing right.List e = cc
nothing right.Free e = cc

granted_p : (owner actor : ℕ) (r : Right) → grants (worked_policy 9) owner actor r ≡ true → (owner < 2) × (actor < 2)
granted_p zero zero r e = (omega arith, omega arith)
granted_p zero (suc zero) r e = (omega arith, omega arith)
granted_p zero (suc (suc n)) r e = absurd (nothing r e)
granted_p (suc zero) zero r e = (omega arith, omega arith)
granted_p (suc zero) (suc zero) r e = (omega arith, omega arith)
granted_p (suc zero) (suc (suc n)) r e = absurd (nothing r e)
granted_p (suc (suc m)) actor r e = absurd (nothing r e)

own_p : (tenant : ℕ) (r : Right) → tenant < 2 → grants (worked_policy 9) tenant tenant r ≡ true
own_p zero right.Read h = refl
own_p zero right.Write h = refl
own_p zero right.List h = refl
own_p zero right.Free h = refl
own_p (suc zero) right.Read h = refl
own_p (suc zero) right.Write h = refl
own_p (suc zero) right.List h = refl
own_p (suc zero) right.Free h = refl
own_p (suc (suc n)) r h = absurd (omega arith)

limits_p : (k : ℕ) (d : Tenant) → k < 2 → (get_or (worked_policy 9).tenants k d).limit < 4294967296
limits_p zero d h = omega arith
limits_p (suc zero) d h = omega arith
limits_p (suc (suc n)) d h = absurd (omega arith)

arenas_p : (k : ℕ) (d : ℕ) → k < 3 → get_or (worked_policy 9).segments k d < 2
arenas_p zero d h = omega arith
arenas_p (suc zero) d h = omega arith
arenas_p (suc (suc zero)) d h = omega arith
arenas_p (suc (suc (suc n))) d h = absurd (omega arith)

policy_sound : IsSoundPolicy (worked_policy 9)
policy_sound = record {
  some_worker = omega arith;
  few_workers = omega arith;
  some_generation = omega arith;
  generations_fit = omega arith;
  few_tenants = omega arith;
  few_arenas = omega arith;
  few_segments = omega arith;
  limits_fit = limits_p;
  in_arenas = arenas_p;
  admitted = admitted_p;
  granted = granted_p;
  own = own_p;
  forbidden = λ owner actor r e. absurd (nothing r e);
  own_unforbidden = λ tenant r. none r;
}

pub worked_policy_is_sound : WorkedPolicyIsSound
worked_policy_is_sound = (policy_sound, opening_is_sound (worked_policy 9) policy_sound)

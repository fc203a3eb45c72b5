-- What each role has at the start.
use Rattle.std.specs.Prelude.{◌≡◌, ℕ, ◌+◌, ◌<◌, true, false, List, [], None, replicate}
use Rattle.hg_place.specs.declared.standing.Standing.TheVariants.{Home}
use Rattle.hg_machine.specs.Policy.{Policy}
use Rattle.hg_machine.specs.SoundPolicy.{IsSoundPolicy}
use Rattle.hg_agreement.specs.Views.{View}
use Rattle.hg_history.specs.Service.{Stands}
use Rattle.hg_history.specs.OneRun.{IsNew}
use Rattle.hg_roles.specs.Roles.{Pooled, Role, of_worker, of_remote, of_pool, of_segment}
use Rattle.hg_roles.specs.Roles.{name_of}
use Rattle.hg_roles.specs.Served.{running, places_of_policy}

-- a worker holds nothing, and its hand is empty
pub record IsIdle (policy : Policy) (view : View) : Type 0 where
  pub same : view.policy ≡ policy
  pub holds : (segment : ℕ) → view.holds segment ≡ false
  pub hand : view.hand ≡ None

-- all segments are fresh, without classes, and no place of them was ever given out
pub record IsFull (p : Pooled) : Type 0 where
  pub orphans : p.orphans ≡ []
  pub fresh : (segment : ℕ) → p.fresh segment ≡ true
  pub class : (page : ℕ) → p.class page ≡ None
  pub standing : (place : ℕ) → p.standing place ≡ Home 0
  pub block : (place : ℕ) → p.block place ≡ []

-- a role at the start: no call is made, and nothing is sent
abbrev pub IsFirst : Policy → Role → Type 0
IsFirst policy (of_worker view log) = IsIdle policy view × (log ≡ [])
IsFirst policy (of_remote segment sent) = sent ≡ []
IsFirst policy (of_pool pooled) = IsFull pooled
IsFirst policy (of_segment segment) = Unit {0}

-- parts of such roles, each of another name below the count
pub record AreFirst (policy : Policy) (views : List (List Role)) : Type 0 where
  pub first : (i j : ℕ) (role : Role) → Stands views i j role → IsFirst policy role
  pub one_part :
      (i j k l : ℕ) (a b : Role) → Stands views i j a → Stands views k l b
      → name_of policy a ≡ name_of policy b → (i ≡ k) × (j ≡ l)
  pub below :
      (i j : ℕ) (role : Role) → Stands views i j role
      → name_of policy role < (running policy).count

-- and words that are all 0: so the rule begins
abbrev pub OpenedIsNew : Type 0
OpenedIsNew =
    (policy : Policy) (views : List (List Role)) → IsSoundPolicy policy
    → AreFirst policy views
    → IsNew (running policy) (replicate (places_of_policy policy + 1) 0) views

-- There are parts with which a run begins: one of each name.
use Rattle.std.specs.Prelude.{◌≡◌, ℕ, ◌<◌, true, false, List, [], ◌∷◌, ◌++◌, length, map, None}
use Rattle.std.specs.List.{range_with_len}
use Rattle.hg_place.specs.declared.standing.Standing.TheVariants.{Home}
use Rattle.hg_machine.specs.Policy.{Policy}
use Rattle.hg_agreement.specs.Views.{View}
use Rattle.hg_history.specs.Service.{Stands}
use Rattle.hg_roles.specs.Roles.{Pooled, Role, of_worker, of_remote, of_pool, of_segment}
use Rattle.hg_roles.specs.Roles.{name_of}
use Rattle.hg_roles.specs.Served.{running}
use Rattle.hg_roles.specs.Beginning.{AreFirst}

-- a worker that holds nothing, and a pool that has all segments
abbrev pub idle : Policy → ℕ → View
idle policy number = record {
  policy = policy;
  worker = number;
  holds = λ segment. false;
  class = λ page. None;
  standing = λ place. Home 0;
  block = λ place. [];
  hand = None;
  hand_generation = 0;
}

abbrev pub full : Pooled
full = record {
  orphans = [];
  fresh = λ segment. true;
  class = λ page. None;
  standing = λ place. Home 0;
  block = λ place. [];
}

-- the workers of a policy, the lists of its segments, the pool, and the seats of its segments
abbrev pub first_roles : Policy → List Role
first_roles policy =
    map (λ number. of_worker (idle policy number) []) (range_with_len 0 policy.workers)
    ++ (map (λ segment. of_remote segment []) (range_with_len 0 (length policy.segments))
    ++ of_pool full ∷ map of_segment (range_with_len 0 (length policy.segments)))

abbrev pub first_views : Policy → List (List Role)
first_views policy = map (λ role. role ∷ []) (first_roles policy)

-- each in a seat of its own they are as they should be at first, and each name is of one
abbrev pub FirstPartsAreThere : Type 0
FirstPartsAreThere =
    (policy : Policy) → AreFirst policy (first_views policy)
    × ((name : ℕ) → name < (running policy).count
    → (i j : ℕ) × (role : Role) × Stands (first_views policy) i j role
    × (name_of policy role ≡ name))

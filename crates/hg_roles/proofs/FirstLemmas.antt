-- The first parts: the role at a place of their list is of the name of that place.
use Rattle.std.proofs.Common.{◌≡◌, ⊎_elim, ℕ, zero, suc, ◌+◌, ◌<◌, List, [], ◌∷◌, ◌++◌}
use Rattle.std.proofs.Common.{length, map, refl, sym, ap, subst, ◌∙◌, arith, length-append}
use Rattle.std.specs.List.{range_with_len}
use Rattle.std.proofs.lemmas.List.FromFn.{length-map-range_with_len}
use mathlib.Core.Option.{some, some-injective, some-ne-none}
use lib.ListN.{get_elem?}
use Rattle.hg_machine.specs.Policy.{Policy}
use Rattle.hg_history.specs.Service.{IsIn, Stands}
use Rattle.hg_history.proofs.Views.{at_append, at_below, at_map, map_at}
use Rattle.hg_roles.specs.Roles.{Role, of_worker, of_remote, of_pool, of_segment, name_of}
use Rattle.hg_roles.specs.Served.{running}
use Rattle.hg_roles.specs.Beginning.{IsFirst, AreFirst}
use Rattle.hg_roles.specs.FirstParts.{idle, full, first_roles, first_views, FirstPartsAreThere}

-- what stands at a place of a list of a range
ranged : (f : ℕ → Role) (first count i : ℕ) (role : Role)
    → get_elem? (map f (range_with_len first count)) i ≡ some role
    → (f (first + i) ≡ role) × (i < count)
ranged f first zero i role has = absurd (some-ne-none role (sym has))
ranged f first (suc count) zero role has =
    (ap f (omega arith) ∙ some-injective _ role has, omega arith)
ranged f first (suc count) (suc i) role has =
    let rest = ranged f (first + 1) count i role has in
    (ap f (omega arith) ∙ rest.0, (let h = rest.1 in omega arith))

-- some entry stands at each place below the length
there : {A : Type 0} (xs : List A) (i : ℕ) → i < length xs → (a : A) × (get_elem? xs i ≡ some a)
there [] i below = absurd (omega arith)
there (x ∷ xs) zero below = (x, refl)
there (x ∷ xs) (suc i) below = there xs i (omega arith)

module _ (policy : Policy) where
  abbrev segments : ℕ
  segments = length policy.segments

  abbrev workers : List Role
  workers = map (λ number. of_worker (idle policy number) []) (range_with_len 0 policy.workers)

  abbrev lists : List Role
  lists = map (λ segment. of_remote segment []) (range_with_len 0 segments)

  abbrev seats : List Role
  seats = map of_segment (range_with_len 0 segments)

  -- it is of that name, and has what it has first
  record Right (i : ℕ) (role : Role) : Type 0 where
    pub name : name_of policy role ≡ i
    pub first : IsFirst policy role

  right_worker : (i : ℕ) (role : Role) → get_elem? workers i ≡ some role → Right i role
  right_worker i role has =
      let at = ranged (λ number. of_worker (idle policy number) []) 0 policy.workers i role has in
      subst (Right i) at.0 (record {
        name = omega arith;
        first = (record { same = refl; holds = λ segment. refl; hand = refl }, refl);
      })

  right_list : (i : ℕ) (role : Role) → get_elem? lists i ≡ some role
      → Right (policy.workers + i) role
  right_list i role has =
      let at = ranged (λ segment. of_remote segment []) 0 segments i role has in
      subst (Right (policy.workers + i)) at.0 (record { name = omega arith; first = refl })

  right_behind : (i : ℕ) (role : Role) → get_elem? (of_pool full ∷ seats) i ≡ some role
      → Right (policy.workers + (segments + i)) role
  right_behind zero role has =
      subst (Right (policy.workers + (segments + 0))) (some-injective (of_pool full) role has)
      (record {
        name = omega arith;
        first = record {
          orphans = refl;
          fresh = λ segment. refl;
          class = λ page. refl;
          standing = λ place. refl;
          block = λ place. refl;
        };
      })
  right_behind (suc i) role has =
      let at = ranged of_segment 0 segments i role has in
      subst (Right (policy.workers + (segments + suc i))) at.0
      (record { name = omega arith; first = tt })

  right : (i : ℕ) (role : Role) → get_elem? (first_roles policy) i ≡ some role → Right i role
  right i role has =
      let many =
      length-map-range_with_len (λ number. of_worker (idle policy number) []) 0 policy.workers in
      let more = length-map-range_with_len (λ segment. of_remote segment []) 0 segments in
      ⊎_elim (right_worker i role)
      (λ (t : (k : ℕ) × (i ≡ length workers + k)
      × (get_elem? (lists ++ of_pool full ∷ seats) k ≡ some role)).
      let place = t.1 in
      ⊎_elim
      (λ (e : get_elem? lists t.0 ≡ some role).
      subst (λ n. Right n role) (omega arith) (right_list t.0 role e))
      (λ (u : (k : ℕ) × (t.0 ≡ length lists + k)
      × (get_elem? (of_pool full ∷ seats) k ≡ some role)).
      let behind = u.1 in
      subst (λ n. Right n role) (omega arith) (right_behind u.0 role u.2))
      (at_append lists (of_pool full ∷ seats) t.0 role t.2))
      (at_append workers (lists ++ of_pool full ∷ seats) i role has)

  all_roles : length (first_roles policy) ≡ (running policy).count
  all_roles =
      let a = length-append workers (lists ++ of_pool full ∷ seats) in
      let b = length-append lists (of_pool full ∷ seats) in
      let many =
      length-map-range_with_len (λ number. of_worker (idle policy number) []) 0 policy.workers in
      let more = length-map-range_with_len (λ segment. of_remote segment []) 0 segments in
      let last = length-map-range_with_len of_segment 0 segments in
      omega arith

  -- a part stands alone in its view, at the place of its name
  record Alone (i j : ℕ) (role : Role) : Type 0 where
    pub only : j ≡ 0
    pub right : Right i role
    pub below : i < (running policy).count

  alone_in : (one : Role) (j : ℕ) (role : Role) → IsIn (one ∷ []) j role → (j ≡ 0) × (one ≡ role)
  alone_in one zero role has = (refl, some-injective one role has)
  alone_in one (suc j) role has = absurd (some-ne-none role (sym has))

  alone : (i j : ℕ) (role : Role) → Stands (first_views policy) i j role → Alone i j role
  alone i j role has =
      let one = at_map (λ r. r ∷ []) (first_roles policy) i has.0 has.1 in
      let it = alone_in one.0 j role (subst (λ (v : List Role). IsIn v j role) (sym one.2) has.2) in
      record {
        only = it.0;
        right = subst (Right i) it.1 (right i one.0 one.1);
        below = subst (λ n. i < n) all_roles (at_below (first_roles policy) i one.0 one.1);
      }

  first_are : AreFirst policy (first_views policy)
  first_are = record {
    first = λ i j role has. (alone i j role has).right.first;
    one_part = λ i j k l a b ha hb e.
        let x = alone i j a ha in
        let y = alone k l b hb in
        (sym x.right.name ∙ e ∙ y.right.name, x.only ∙ sym y.only);
    below = λ i j role has.
        let x = alone i j role has in
        subst (λ n. n < (running policy).count) (sym x.right.name) x.below;
  }

  each_there : (name : ℕ) → name < (running policy).count
      → (i j : ℕ) × (role : Role) × Stands (first_views policy) i j role
      × (name_of policy role ≡ name)
  each_there name below =
      let it = there (first_roles policy) name (subst (λ n. name < n) (sym all_roles) below) in
      let at = map_at (λ (r : Role). r ∷ []) (first_roles policy) name it.0 it.1 in
      (name, 0, it.0, (it.0 ∷ [], at, refl), (right name it.0 it.1).name)

pub first_parts_are_there : FirstPartsAreThere
first_parts_are_there policy = (first_are policy, each_there policy)

-- The table at the start.
use Rattle.std.proofs.Common.{◌≡◌, ⊎_elim, ℕ, zero, suc, ◌+◌, ◌<◌, List, [], ◌∷◌, ◌++◌, map, get_or}
use Rattle.std.proofs.Common.{length, replicate, refl, sym, ap, subst, ◌∙◌, arith}
use Rattle.std.specs.List.{range_with_len}
use Rattle.std.proofs.lemmas.List.{length-map}
use mathlib.Core.Option.{some, some-injective, some-ne-none}
use lib.ListN.{get_elem?}
use Rattle.atomic_table.specs.Table as table
use Rattle.hg_machine.specs.Policy.{Policy}
use Rattle.hg_machine.specs.SoundPolicy.{IsSoundPolicy}
use Rattle.hg_machine.specs.State.{opening}
use Rattle.hg_history.specs.Service.{IsIn, Stands}
use Rattle.hg_history.specs.OneRun.{IsOneRun}
use Rattle.hg_history.proofs.OneRunLemmas.{opened}
use Rattle.hg_history.proofs.Views.{at_append, at_map, map_at}
use Rattle.hg_roles.specs.Beginning.{AreFirst}
use Rattle.hg_roles.specs.FirstParts.{idle, full, first_roles, first_views}
use Rattle.hg_roles.specs.Roles.{Role, of_worker, of_remote, of_pool, of_segment, RoleAgrees, name_of}
use Rattle.hg_roles.specs.Roles.{calls_in}
use Rattle.hg_roles.specs.Served.{running, places_of_policy}
use Rattle.hg_roles.proofs.BeginningLemmas.{opened_is_new}
use Rattle.hg_roles.proofs.FirstLemmas.{first_parts_are_there}
use Rattle.hg_run_table.specs.declared.part.Part.{Part}
use Rattle.hg_run_table.specs.Openings.{first_part, first_parts}
use Rattle.hg_table.proofs.Initial.{opens_table}
use Rattle.hg_run_table.specs.Rule.{first_view, KeepsBoth}
use Rattle.hg_run_table.specs.Seated.{name_in, number_of_name, IsThere, HaveRoles, seated}
use Rattle.hg_run_table.proofs.Alike.{number_is}

-- what stands in a list of a range is made of a number of the range
ranged : (P : Role → Type 0) (f : ℕ → Role) (first count : ℕ)
    → ((n : ℕ) → n < first + count → P (f n)) → (i : ℕ) (role : Role)
    → get_elem? (map f (range_with_len first count)) i ≡ some role → P role
ranged P f first zero each i role has = absurd (some-ne-none role (sym has))
ranged P f first (suc count) each zero role has =
    subst P (some-injective (f first) role has) (each first (omega arith))
ranged P f first (suc count) each (suc i) role has =
    ranged P f (first + 1) count (λ n below. each n (omega arith)) i role has

module _ (policy : Policy) where
  abbrev Named : Role → Type 0
  Named role = IsThere policy (name_in role) × (calls_in role ≡ [])

  behind_lists : (j : ℕ) (role : Role)
      → get_elem? (of_pool full ∷ map of_segment (range_with_len 0 (length policy.segments))) j
      ≡ some role
      → Named role
  behind_lists zero role at = subst Named (some-injective (of_pool full) role at) (tt, refl)
  behind_lists (suc j) role at =
      ranged Named of_segment 0 (length policy.segments) (λ n below. ((let h = below in omega arith), refl)) j role at

  -- the policy has each part of the first
  named : (j : ℕ) (role : Role) → IsIn (first_roles policy) j role → Named role
  named j role at = ⊎_elim
      (ranged Named (λ number. of_worker (idle policy number) []) 0 policy.workers
      (λ n below. ((let h = below in omega arith), refl)) j role)
      (λ (t : (k : ℕ)
      × (j
      ≡ length (map (λ number. of_worker (idle policy number) []) (range_with_len 0 policy.workers))
      + k)
      × IsIn (map (λ segment. of_remote segment []) (range_with_len 0 (length policy.segments))
      ++ of_pool full ∷ map of_segment (range_with_len 0 (length policy.segments))) k role). ⊎_elim
      (ranged Named (λ segment. of_remote segment []) 0 (length policy.segments)
      (λ n below. ((let h = below in omega arith), refl)) t.0 role)
      (λ (u : (k : ℕ)
      × (t.0
      ≡ length
      (map (λ segment. of_remote segment []) (range_with_len 0 (length policy.segments)))
      + k)
      × IsIn (of_pool full ∷ map of_segment (range_with_len 0 (length policy.segments))) k role).
      behind_lists u.0 role u.2)
      (at_append (map (λ segment. of_remote segment []) (range_with_len 0 (length policy.segments)))
      (of_pool full ∷ map of_segment (range_with_len 0 (length policy.segments))) t.0 role t.2))
      (at_append
      (map (λ number. of_worker (idle policy number) []) (range_with_len 0 policy.workers))
      (map (λ segment. of_remote segment []) (range_with_len 0 (length policy.segments))
      ++ of_pool full ∷ map of_segment (range_with_len 0 (length policy.segments))) j role at)

  are_first : AreFirst policy (first_views policy)
  are_first = (first_parts_are_there policy).0

  -- the first roles stand each in a view of its own
  alone : (j : ℕ) (role : Role) → IsIn (first_roles policy) j role
      → Stands (first_views policy) j 0 role
  alone j role at = (role ∷ [], map_at (λ r. r ∷ []) (first_roles policy) j role at, refl)

  only : (view : List Part) (i j : ℕ) (part : Part) → Stands (view ∷ []) i j part
      → (i ≡ 0) × IsIn view j part
  only view zero j part has =
      (refl, subst (λ (v : List Part). IsIn v j part) (sym (some-injective view has.0 has.1)) has.2)
  only view (suc i) j part has = absurd (some-ne-none has.0 (sym has.1))

  -- the role that a part of the first has
  role_of : (j : ℕ) (part : Part) → IsIn (first_parts policy) j part
      → (role : Role) × IsIn (first_roles policy) j role × (first_part policy role ≡ part)
  role_of j part at = at_map (first_part policy) (first_roles policy) j part at

  number_of_first : (part : Part) (role : Role) → first_part policy role ≡ part
      → name_of policy role ≡ number_of_name policy part.name
  number_of_first part role e =
      sym (number_is policy role) ∙ ap (λ (p : Part). number_of_name policy p.name) e

  module _ (good : IsSoundPolicy policy) where
    pub first_have : HaveRoles (first_parts policy) (first_roles policy)
    first_have =
        let new = opened_is_new policy (first_views policy) good are_first in record {
          count = length-map (first_roles policy) (first_part policy);
          each = λ j part role p r.
              let o = role_of j part p in
              let same : o.0 ≡ role = some-injective o.0 role (sym o.1 ∙ r) in
              let is : first_part policy role ≡ part =
              ap (first_part policy) (sym same) ∙ o.2 in record {
                named = ap (λ (p : Part). p.name) is;
                log = ap (λ (p : Part). p.log) (sym is) ∙ sym (named j role r).1;
                agrees =
                    subst (λ (p : Part). RoleAgrees role p.witness) is
                    (new.agrees j 0 role (alone j role r));
              };
        }

    run_begins : (words : List ℕ) → words ≡ replicate (places_of_policy policy + 1) 0
        → IsOneRun (seated policy) words (first_parts policy ∷ [])
    run_begins words zeros =
        let new = opened_is_new policy (first_views policy) good are_first in
        opened (seated policy) words (first_parts policy ∷ []) (record {
          shown = subst (λ (ws : List ℕ). (seated policy).Shows ws (opening policy)) (sym zeros) new.shown;
          agrees = λ i j part has.
              let o = role_of j part (only (first_parts policy) i j part has).1 in
              subst (λ (p : Part). (seated policy).Agrees p (opening policy)) o.2 (record {
                there = (named j o.0 o.1).0;
                like = λ role same with. with;
              });
          no_call = λ i j part has.
              let o = role_of j part (only (first_parts policy) i j part has).1 in
              ap (λ (p : Part). p.log) (sym o.2);
          one_part = λ i j k l a b ha hb e.
              let u = only (first_parts policy) i j a ha in
              let v = only (first_parts policy) k l b hb in
              let o = role_of j a u.1 in
              let q = role_of l b v.1 in (
                u.0 ∙ sym v.0,
                (are_first.one_part j 0 l 0 o.0 q.0 (alone j o.0 o.1) (alone l q.0 q.1)
                    (number_of_first a o.0 o.2 ∙ e ∙ sym (number_of_first b q.0 q.2))).0,
              );
          below = λ i j part has.
              let o = role_of j part (only (first_parts policy) i j part has).1 in
              subst (λ n. n < (running policy).count) (number_of_first part o.0 o.2)
              (are_first.below j 0 o.0 (alone j o.0 o.1));
        })

-- so many words that are all 0
all_zero : (words : List ℕ) (n : ℕ) → length words ≡ n → ((at : ℕ) → get_or words at 0 ≡ 0)
    → words ≡ replicate n 0
all_zero [] zero long zeros = refl
all_zero [] (suc n) long zeros = absurd (omega arith)
all_zero (w ∷ words) zero long zeros = absurd (omega arith)
all_zero (w ∷ words) (suc n) long zeros =
    (λ k. zeros 0 k ∷ all_zero words n (omega arith) (λ at. zeros (suc at)) k)

pub begins : (policy : Policy) → IsSoundPolicy policy → (words : List ℕ)
    → length words ≡ places_of_policy policy + 1 → ((at : ℕ) → get_or words at 0 ≡ 0)
    → KeepsBoth policy (table.opening words [] (first_view policy))
begins policy good words long zeros = record {
  lives = opens_table (places_of_policy policy) words long zeros;
  run = run_begins policy good words (all_zero words (places_of_policy policy + 1) long zeros);
}

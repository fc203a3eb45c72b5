-- Each step at a place keeps its rule.
use Rattle.std.proofs.Common.{◌≡◌, ℕ, zero, suc, true, false, true≢false, List, [], ◌∷◌, ◌++◌, set, Option, None, Some, is_some, sym, refl, ap, subst, ◌∙◌}
use Rattle.std.proofs.lemmas.Option.{none-some, same_Some}
use mathlib.Core.Option.{some, some-injective, some-ne-none}
use lib.ListN.{get_elem?}
use Rattle.std.specs.List.{AllByRecursion}
use Rattle.atomic_table.specs.Seated.{TableId}
use Rattle.crossbeam_queue.specs.Fifo.{Pushes, Pops, Forks}
use Rattle.hg_machine.specs.Policy.{Policy}
use Rattle.hg_worker.specs.declared.state.WorkerState.{WorkerState}
use Rattle.hg_worker.specs.States.{IsNamed}
use Rattle.hg_hosted.specs.declared.of_service.Way.{Way}
use Rattle.hg_hosted.specs.Parking.{came_to, has_parked, has_taken, AreOfOne, FitsKnown, IsUsed, KnowsName}

module _ {A : Type 0} (P : A → Type 0) where
  -- what holds of all in a list holds of the one at a place, and stays so
  all_at : (xs : List A) (i : ℕ) (a : A) → AllByRecursion P xs → get_elem? xs i ≡ some a → P a
  all_at [] i a all at = absurd (some-ne-none a (sym at))
  all_at (x ∷ xs) zero a all at = subst P (some-injective x a at) all.0
  all_at (x ∷ xs) (suc i) a all at = all_at xs i a all.1 at

  all_set :
      (xs : List A) (i : ℕ) (a : A) → P a → AllByRecursion P xs → AllByRecursion P (set xs i a)
  all_set [] i a one all = tt
  all_set (x ∷ xs) zero a one all = (one, all.1)
  all_set (x ∷ xs) (suc i) a one all = (all.0, all_set xs i a one all.1)

  all_end : (xs : List A) (a : A) → AllByRecursion P xs → P a → AllByRecursion P (xs ++ a ∷ [])
  all_end [] a all one = (one, tt)
  all_end (x ∷ xs) a all one = (all.0, all_end xs a all.1 one)

-- of one in a list: it is the one that is found there, and what stands there after it was set
alone_is : {A : Type 0} (at : ℕ) (x a : A) → get_elem? (x ∷ []) at ≡ some a → x ≡ a
alone_is zero x a found = some-injective x a found
alone_is (suc at) x a found = absurd (some-ne-none a (sym found))

alone_set :
    {A : Type 0} (P : A → Type 0) (at : ℕ) (x a b : A) → get_elem? (x ∷ []) at ≡ some a → P b
    → AllByRecursion P (set (x ∷ []) at b)
alone_set P zero x a b found one = (one, tt)
alone_set P (suc at) x a b found one = absurd (some-ne-none a (sym found))

there_is :
    (known : Option WorkerState) → is_some known ≡ true → (of : WorkerState) × (known ≡ Some of)
there_is None there = absurd (true≢false (sym there))
there_is (Some of) there = (of, refl)

module _ {T : Type 0} (of_service : WorkerState → T → Type 0) where
  pub begins : AreOfOne of_service [] (came_to None ∷ [])
  begins = (None, record { alone = refl; empty = refl })

  -- the service that the rule speaks of is the one that a caller knows
  known_one :
      (parts : List T) (ways : List (Way T)) (port : ℕ) (own : Way T) (of : WorkerState)
      → own.known ≡ Some of → AreOfOne of_service parts ways → get_elem? ways port ≡ some own
      → IsUsed of_service of parts ways
  known_one parts ways port own of knows (None, unused) at =
      let alone = subst (λ all. get_elem? all port ≡ some own) unused.alone at in
      absurd (none-some of
      (ap (λ one. one.known) (alone_is port (came_to None) own alone) ∙ knows))
  known_one parts ways port own of knows (Some one, used) at =
      let same = all_at (λ o. o.known ≡ Some one) ways port own used.callers at in
      subst (λ (o : WorkerState). IsUsed of_service o parts ways)
      (same_Some one of (sym same ∙ knows)) used

  -- the first part comes
  first_comes :
      (parts : List T) (ways : List (Way T)) (port : ℕ) (own : Way T) (of : WorkerState) (part : T)
      → own.known ≡ None → of_service of part → AreOfOne of_service parts ways
      → get_elem? ways port ≡ some own
      → IsUsed of_service of (parts ++ part ∷ [])
      (set ways port (has_parked (Some of) [] [] part))
  first_comes parts ways port own of part nothing fits (None, unused) at = record {
    callers = subst
        (λ all. AllByRecursion (λ one. one.known ≡ Some of)
        (set all port (has_parked (Some of) [] [] part))) (sym unused.alone)
        (alone_set (λ one. one.known ≡ Some of) port (came_to None) own
        (has_parked (Some of) [] [] part)
        (subst (λ all. get_elem? all port ≡ some own) unused.alone at) refl);
    parts_of = subst (λ all. AllByRecursion (of_service of) (all ++ part ∷ [])) (sym unused.empty)
        (fits, tt);
  }
  first_comes parts ways port own of part nothing fits (Some one, used) at =
      absurd (none-some one
      (sym nothing ∙ all_at (λ o. o.known ≡ Some one) ways port own used.callers at))

  pub founds :
      (room port : ℕ) (own : Way T) (part : T) (policy : Policy) (table : TableId)
      → own.known ≡ None → ((of : WorkerState) × IsNamed policy table of × of_service of part)
      → Pushes (AreOfOne of_service) room port own part
      (λ after. KnowsName policy table after.known
      × (after ≡ has_parked after.known [] [] part))
  founds room port own part policy table nothing one parts ways less held at =
      let of = one.0 in (
        has_parked (Some of) [] [] part,
        (Some of, first_comes parts ways port own of part nothing one.2 held at),
        (
          record {
            some = refl;
            named = λ it same. subst (IsNamed policy table) (same_Some of it same) one.1;
          },
          refl,
        ),
      )

  pub comes :
      (room port : ℕ) (own : Way T) (part : T) → is_some own.known ≡ true
      → FitsKnown of_service own.known part
      → Pushes (AreOfOne of_service) room port own part
      (λ after. after ≡ has_parked own.known own.taken own.parked part)
  comes room port own part there fits parts ways less held at =
      let it = there_is own.known there in
      let used = known_one parts ways port own it.0 it.1 held at in
      let next = has_parked own.known own.taken own.parked part in (
        next,
        (
          Some it.0,
          record {
            callers = all_set (λ one. one.known ≡ Some it.0) ways port next it.1 used.callers;
            parts_of = all_end (of_service it.0) parts part used.parts_of (fits it.0 it.1);
          },
        ),
        refl,
      )

  pub goes :
      (port : ℕ) (own : Way T) → is_some own.known ≡ true
      → Pops (AreOfOne of_service) port own
      (λ part after. (after ≡ has_taken own.known own.taken own.parked part)
      × FitsKnown of_service own.known part)
  goes port own there part parts ways held at =
      let it = there_is own.known there in
      let used = known_one (part ∷ parts) ways port own it.0 it.1 held at in
      let next = has_taken own.known own.taken own.parked part in (
        next,
        (
          Some it.0,
          record {
            callers = all_set (λ one. one.known ≡ Some it.0) ways port next it.1 used.callers;
            parts_of = used.parts_of.1;
          },
        ),
        (
          refl,
          λ of same. subst (λ o. of_service o part) (same_Some it.0 of (sym it.1 ∙ same))
              used.parts_of.0,
        ),
      )

  pub twins :
      (port : ℕ) (own : Way T) → is_some own.known ≡ true
      → Forks (AreOfOne of_service) port own own (came_to own.known)
  twins port own there parts ways held at =
      let it = there_is own.known there in
      let used = known_one parts ways port own it.0 it.1 held at in (
        Some it.0,
        record {
          callers = all_end (λ one. one.known ≡ Some it.0) (set ways port own)
              (came_to own.known)
              (all_set (λ one. one.known ≡ Some it.0) ways port own it.1 used.callers) it.1;
          parts_of = used.parts_of;
        },
      )

-- What a refill owes, and what the worker and the pool have behind it, and behind an Abandon.
use Rattle.std.specs.Prelude.{option_map}
use Rattle.std.proofs.Common.{◌≡◌, ◌⊎◌, ℕ, ◌<◌, not, List, [], ◌∷◌, ◌++◌, length, get_or, Option, Some, None}
use Rattle.std.proofs.Common.{Contains, IfSome, refl, sym, ap, subst, ◌∙◌, arith, inl, inr, slice_get, false}
use Rattle.std.proofs.lemmas.List.Elements.{Contains-append_cases, Contains-append_left, Contains-append_right, filter-append}
use Rattle.std.specs.Prelude.{IsPermutation}
use Rattle.std.proofs.lemmas.List.Sorted.{Contains-permutation, IsPermutation-sym}
use Rattle.std.proofs.lemmas.Option.{slice_get-get_or, slice_get_within, get_or_from_slice_get}
use Rattle.atomic_table.specs.Seated.{TableId}
use Rattle.hg_place.specs.declared.Handle.{Handle}
use Rattle.hg_machine.specs.declared.Event.TheVariants as event
use Rattle.hg_machine.specs.Policy.{Policy, arena_of}
use Rattle.hg_machine.specs.SoundPolicy.{IsSoundPolicy}
use Rattle.hg_segment.specs.Kept.{Kept}
use Rattle.hg_heap.specs.Held.{is_held}
use Rattle.hg_heap.specs.Policies.{AreOf, IsOf}
use Rattle.hg_heap.proofs.Allotting.{found_first}
use Rattle.hg_heap.proofs.Filtered.{contained_filter}
use Rattle.hg_heap.proofs.Founds.{Contains-get, found_is}
use Rattle.hg_pool.specs.Pooled.{IsRight, Pooled, is_numbered, next_in, segment_of as pooled_at}
use Rattle.hg_roles.specs.Roles.{Call, of_pool}
use Rattle.hg_run_table.specs.declared.segment.RunSegment.{RunSegment}
use Rattle.hg_run_table.specs.JoinedCalls.{IsOthers, IsTiedTogether}
use Rattle.hg_run_table.proofs.NamedSteps.{no_refill_tied, refill_tied}
use Rattle.hg_run_worker.specs.AtWork.{IsSeated, number_in, records_in, worker_view}
use Rattle.hg_run_worker.specs.declared.pool.RunPool.{RunPool}
use Rattle.hg_run_worker.specs.Pools.{IsPoolOf, left_pool, pool_part, pooled_in, refill_answer, with_orphan, with_taken}
use Rattle.hg_run_worker.proofs.DecidedLike.{tied_like}
use Rattle.hg_run_worker.proofs.NextTaken.{inside, next_is, next_there}
use Rattle.hg_run_worker.proofs.PoolParts.{left_like, taken_like}

-- what stands somewhere is there
pub at_place : {X : Type 0} (xs : List X) (x : X) (c : Contains xs x) → slice_get xs c.0 ≡ Some x
at_place xs x c = slice_get-get_or xs c.0 x c.1 ∙ ap Some c.2

-- a segment of the pool is the one of its number
pub of_number : (pool : Pooled RunSegment) (one : Kept RunSegment) → IsRight number_in pool
    → Contains (pooled_in pool) one → pooled_at number_in pool (number_in one.slots) ≡ Some one
of_number pool one right there =
    let at = at_place (pooled_in pool) one there in
    found_is number_in (pooled_in pool) (number_in one.slots) there.0 one
    (record {
      at = at;
      first =
          found_first number_in records_in (pooled_in pool) there.0 one (number_in one.slots) right.once at
          refl;
    })

module _ (policy : Policy) (number : ℕ) (hand : Option Handle) (segments : List (Kept RunSegment))
    (pool : Pooled RunSegment) (arena : ℕ) (of : AreOf number_in policy (pooled_in pool))
    (right : IsRight number_in pool) (below : number < policy.workers) (log : List Call) where
  pub refill_owes : (o : Option (Kept RunSegment)) → next_in pool arena ≡ o
      → IfSome o (λ one. is_held number_in segments (number_in one.slots) ≡ false)
      → IsTiedTogether policy (worker_view policy number hand segments) log
      (event.Refill arena, refill_answer (option_map (λ one. number_in one.slots) o))
      (worker_view policy number hand (with_taken o segments)) (of_pool (pool_part policy pool))
      (of_pool (pool_part policy (left_pool o pool)))
  refill_owes None e unheld =
      no_refill_tied policy (worker_view policy number hand segments) log below (pool_part policy pool)
      arena
      (next_is policy pool arena of right.rising ∙ ap (option_map (λ one. number_in one.slots)) e)
  refill_owes (Some one) e unheld =
      let there = next_there pool arena one e in
      tied_like
      (taken_like policy number hand segments pool one unheld (of_number pool one right there))
      (left_like policy pool (number_in one.slots) (inside policy pool arena of right.rising one there))
      (refill_tied policy (worker_view policy number hand segments) log below (pool_part policy pool)
      arena (number_in one.slots)
      (next_is policy pool arena of right.rising ∙ ap (option_map (λ one. number_in one.slots)) e))

-- what is left of a pool was there
pub left_there : (o : Option (Kept RunSegment)) (pool : Pooled RunSegment) (k : Kept RunSegment)
    → Contains (pooled_in (left_pool o pool)) k → Contains (pooled_in pool) k
left_there None pool k c = c
left_there (Some one) pool k c =
    (contained_filter (λ k. not (is_numbered number_in (number_in one.slots) k)) k (pooled_in pool)
    (subst (λ (l : List (Kept RunSegment)). Contains l k)
    (sym
    (filter-append (λ k. not (is_numbered number_in (number_in one.slots) k)) pool.orphans pool.fresh))
    c)).1

pub are_of_part : (policy : Policy) (xs ys : List (Kept RunSegment))
    → ((k : Kept RunSegment) → Contains ys k → Contains xs k) → AreOf number_in policy xs
    → AreOf number_in policy ys
are_of_part policy xs ys part of = record {
  arena = λ k c. of.arena k (part k c);
  greatest = λ k c. of.greatest k (part k c);
}

only : (x k : Kept RunSegment) → Contains (x ∷ []) k → x ≡ k
only x k c =
    let z : c.0 ≡ 0 = (let lt = c.1 in omega (arith, lt)) in
    ap (λ n. get_or (x ∷ []) n k) (sym z) ∙ c.2

-- an arena of a sound policy
pub arena_low : (policy : Policy) (segment arena : ℕ) → IsSoundPolicy policy
    → arena_of policy segment ≡ Some arena → arena < 16
arena_low policy segment arena sound is =
    let lt = slice_get_within policy.segments segment arena is in
    let low : arena < length policy.arenas =
    subst (λ a. a < length policy.arenas)
    (get_or_from_slice_get policy.segments segment arena arena is)
    (sound.in_arenas segment arena lt) in
    let few = sound.few_arenas in
    omega (arith, low, few)

-- what a worker holds then is what it held, and what it took
module _ {id : TableId} {policy : Policy} (pool : Pooled RunSegment) (segments : List (Kept RunSegment))
    (one : Kept RunSegment) (there : Contains (pooled_in pool) one)
    (seated : (k : Kept RunSegment) → Contains (pooled_in pool) k → IsSeated id k.slots)
    (of : AreOf number_in policy (pooled_in pool)) where
  pub are_of_more : AreOf number_in policy segments → AreOf number_in policy (segments ++ one ∷ [])
  are_of_more old = record {
    arena = λ k c.
        elim (Contains-append_cases segments (one ∷ []) k c) [
          | inl l ↦ old.arena k l
          | inr r ↦
              subst (λ (j : Kept RunSegment). arena_of policy (number_in j.slots) ≡ Some j.arena)
              (only one k r) (of.arena one there)
        ];
    greatest = λ k c.
        elim (Contains-append_cases segments (one ∷ []) k c) [
          | inl l ↦ old.greatest k l
          | inr r ↦
              subst (λ (j : Kept RunSegment). j.greatest ≡ policy.max_generation) (only one k r)
              (of.greatest one there)
        ];
  }

  pub more_seated : ((at : ℕ) (k : Kept RunSegment) → slice_get segments at ≡ Some k
      → IsSeated id k.slots) → (at : ℕ) (k : Kept RunSegment)
      → slice_get (segments ++ one ∷ []) at ≡ Some k → IsSeated id k.slots
  more_seated old at k e =
      elim (Contains-append_cases segments (one ∷ []) k (Contains-get (segments ++ one ∷ []) at k e)) [
        | inl l ↦ old l.0 k (at_place segments k l)
        | inr r ↦ subst (λ (j : Kept RunSegment). IsSeated id j.slots) (only one k r) (seated one there)
      ]

-- the pool is as it should be again, by its part and what is left of it
pub pool_again : {id : TableId} (policy : Policy) (o : Option (Kept RunSegment)) (old new : RunPool)
    → IsPoolOf id policy old → new.pool ≡ left_pool o old.pool → new.call.seat.table_id ≡ id
    → new.call.seat.me.0.lives ≡ []
    → IsOthers new.call (of_pool (pool_part policy (left_pool o old.pool)))
    → IsPoolOf id policy new
pool_again policy o old new was left same bare part = record {
  same = same;
  bare = bare;
  part =
      subst (λ (p : Pooled RunSegment). IsOthers new.call (of_pool (pool_part policy p))) (sym left) part;
  of =
      subst (λ (p : Pooled RunSegment). AreOf number_in policy (pooled_in p)) (sym left)
      (are_of_part policy (pooled_in old.pool) (pooled_in (left_pool o old.pool))
      (left_there o old.pool) was.of);
  seated = λ k there.
      was.seated k
      (left_there o old.pool k
      (subst (λ (p : Pooled RunSegment). Contains (pooled_in p) k) left there));
}

-- what the pool has then is what it had, or the one that came
pub put_there : (pool : Pooled RunSegment) (one k : Kept RunSegment)
    → Contains (pooled_in (with_orphan (Some one) pool)) k → Contains (pooled_in pool) k ⊎ (one ≡ k)
put_there pool one k c =
    elim (Contains-append_cases (pool.orphans ++ one ∷ []) pool.fresh k c) [
      | inl l ↦
          elim (Contains-append_cases pool.orphans (one ∷ []) k l) [
            | inl a ↦ inl (Contains-append_left pool.orphans pool.fresh k a)
            | inr b ↦ inr (only one k b)
          ]
      | inr r ↦ inl (Contains-append_right pool.orphans pool.fresh k r)
    ]

-- so it is as it should be, where that one is
pub pool_with : {id : TableId} (policy : Policy) (one : Kept RunSegment) (old new : RunPool)
    → IsPoolOf id policy old → IsOf number_in policy one → IsSeated id one.slots
    → new.pool ≡ with_orphan (Some one) old.pool → new.call.seat.table_id ≡ id
    → new.call.seat.me.0.lives ≡ []
    → IsOthers new.call (of_pool (pool_part policy (with_orphan (Some one) old.pool)))
    → IsPoolOf id policy new
pool_with {id} policy one old new was here seated now same bare part = record {
  same = same;
  bare = bare;
  part =
      subst (λ (p : Pooled RunSegment). IsOthers new.call (of_pool (pool_part policy p))) (sym now) part;
  of =
      subst (λ (p : Pooled RunSegment). AreOf number_in policy (pooled_in p)) (sym now)
      (record {
        arena = λ k c.
            elim (put_there old.pool one k c) [
              | inl l ↦ was.of.arena k l
              | inr e ↦
                  subst (λ (j : Kept RunSegment). arena_of policy (number_in j.slots) ≡ Some j.arena) e
                  here.0
            ];
        greatest = λ k c.
            elim (put_there old.pool one k c) [
              | inl l ↦ was.of.greatest k l
              | inr e ↦ subst (λ (j : Kept RunSegment). j.greatest ≡ policy.max_generation) e here.1
            ];
      });
  seated = λ k c.
      elim
      (put_there old.pool one k (subst (λ (p : Pooled RunSegment). Contains (pooled_in p) k) now c)) [
        | inl l ↦ was.seated k l
        | inr e ↦ subst (λ (j : Kept RunSegment). IsSeated id j.slots) e seated
      ];
}

-- what a worker has left it had
pub was_there : (old new : List (Kept RunSegment)) (one k : Kept RunSegment)
    → IsPermutation old (one ∷ new) → Contains new k → Contains old k
was_there old new one k p c =
    Contains-permutation (one ∷ new) old k (IsPermutation-sym old (one ∷ new) p)
    (Contains-append_right (one ∷ []) new k c)

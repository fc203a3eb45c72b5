-- In a tidy core the worker's heap doesn't hold what the pool gives, and may adopt it.
use Rattle.std.proofs.Common.{◌≡◌, ℕ, ◌<◌, ◌≤◌, false, nat_lt, List, ◌++◌, length, find, is_some}
use Rattle.std.proofs.Common.{count_by, refl, sym, ap, ◌∙◌, arith, inl, inr}
use Rattle.std.specs.Prelude.{Option, Some, None}
use Rattle.std.specs.Option.{option_map}
use Rattle.std.specs.List.{list_any}
use Rattle.std.proofs.lemmas.Bool.{cases_Bool, eq-eqb, true≢false}
use Rattle.std.proofs.lemmas.List.Elements.{recursion_from_All}
use Rattle.std.proofs.lemmas.List.Folds.{find-append}
use Rattle.hg_segment.specs.Parted.{plain_number}
use Rattle.hg_pool.specs.Pooled.{is_of_arena, next_in as next_pooled}
use Rattle.hg_heap.specs.Held.{is_of as is_held_as}
use Rattle.hg_heap.proofs.Options.{is_some_map}
use Rattle.hg_agreement.specs.Parts.{Plain, Parts, is_of, heap_at, plain_from}
use Rattle.hg_agreement.specs.Pool.{is_for}
use Rattle.hg_agreement.proofs.Firsts.{some_counted, pool_inside}
use Rattle.hg_parts.specs.Tidy.{IsTidy}
use Rattle.hg_parts.proofs.Flat.{any_is}
use Rattle.hg_parts.proofs.Sorted.{counted_apart, some_in, tidy_pooled}
use Rattle.hg_parts.proofs.Times.{bit_small}
use Rattle.hg_events.specs.Core.{Core, parts_of, heap_of}
use Rattle.hg_events.specs.Refill.{NextMayBeAdopted}
use Rattle.hg_events.proofs.PlainLists.{K, found_plain, each_such, found_such, got_such, found_any}
use Rattle.hg_events.proofs.NextPlain.{IsOwn, pool_own, next_plain}
use Rattle.hg_events.proofs.Told.{heap_told}

none_found : (o : Option Plain) → is_some o ≡ false → o ≡ None
none_found None e = refl
none_found (Some s) e = absurd (true≢false e)

-- what the pool of tidy parts has, no heap has
unheld : (parts : Parts) → IsTidy parts → (n worker : ℕ)
    → 1 ≤ count_by (is_of n) (parts.orphans ++ parts.fresh)
    → find (is_of n) (heap_at parts worker) ≡ None
unheld parts t n worker pooled =
    none_found (find (is_of n) (heap_at parts worker)) (sym (any_is n (heap_at parts worker))
    ∙ elim (cases_Bool (list_any (is_of n) (heap_at parts worker))) [
      | inl some ↦ absurd (omega (
        arith,
        pooled,
        some_counted (is_of n) (heap_at parts worker) some,
        some_in n 0 parts.heaps worker,
        counted_apart parts n,
        t.segments.once n,
        bit_small (nat_lt n (length parts.policy.segments)),
      ))
      | inr none ↦ none
    ])

module _ (core : Core) (worker arena : ℕ) (one : K) (t : IsTidy (parts_of core))
    (next : next_pooled core.pool arena ≡ Some one) where
  -- it stands in the pool of the parts
  counted : 1 ≤ count_by (is_of one.slots.segment)
      ((parts_of core).orphans ++ (parts_of core).fresh)
  counted =
      let pool : List Plain = (parts_of core).orphans ++ (parts_of core).fresh in
      some_counted (is_of one.slots.segment) pool
      (found_any (is_for core.policy arena) (is_of one.slots.segment) pool (plain_from one)
      (next_plain core arena t ∙ ap (option_map plain_from) next)
      (eq-eqb one.slots.segment one.slots.segment refl))

  -- and in no heap
  pub next_unheld : find (is_of one.slots.segment) (heap_at (parts_of core) worker) ≡ None
  next_unheld = unheld (parts_of core) t one.slots.segment worker counted

  -- and is one of the policy's
  pub next_inside : one.slots.segment < length core.policy.segments
  next_inside =
      pool_inside (parts_of core) one.slots.segment (tidy_pooled (parts_of core) t) counted

  -- its arena is the policy's
  next_own : IsOwn core.policy one
  next_own =
      found_such (IsOwn core.policy) (is_of_arena arena) (core.pool.orphans ++ core.pool.fresh) one
      (pool_own core t)
      (find-append (is_of_arena arena) core.pool.orphans core.pool.fresh ∙ next)

pub next_may_be_adopted : NextMayBeAdopted
next_may_be_adopted core worker arena one sound t below next =
    let n = one.slots.segment in
    let held : List K = (heap_of core worker).segments in
    let limit = length core.policy.arenas in (
      sym (is_some_map plain_from (find (is_held_as plain_number n) held))
          ∙ ap is_some (sym (found_plain (is_held_as plain_number n) (is_of n) held
          (each_such (λ x. is_of n (plain_from x) ≡ is_held_as plain_number n x) held
          (λ x. refl)))
          ∙ sym (ap (find (is_of n)) (heap_told core worker))
          ∙ next_unheld core worker arena one t next),
      omega (
        arith,
        sound.few_arenas,
        got_such (λ a. a < limit) core.policy.segments n one.arena
            (recursion_from_All (λ a. a < limit) core.policy.segments sound.in_arenas)
            (next_own core worker arena one t next),
      ),
    )

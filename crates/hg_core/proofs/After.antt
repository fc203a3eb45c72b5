-- What a core's stores are after a step.
use Rattle.std.proofs.Common.{◌≡◌, ℕ, ◌<◌, List, map, length, slice_index_or, slice_set, true, sym}
use Rattle.std.proofs.Common.{ap, subst, ◌∙◌, arith}
use Rattle.std.proofs.lemmas.List.{length-map, get_or_read, set-get_or}
use Rattle.hg_place.specs.declared.plain.PlainWords.{PlainWords}
use Rattle.hg_segment.specs.Parted.{plain_number}
use Rattle.hg_heap.specs.Held.{Held, is_held}
use Rattle.hg_machine.specs.declared.Event.{Event}
use Rattle.hg_machine.specs.declared.Answer.{Answer}
use Rattle.hg_machine.specs.SoundPolicy.{IsSoundPolicy}
use Rattle.hg_machine.specs.Steps.{Step}
use Rattle.hg_machine.proofs.Preserves.{steps_keep_policy}
use Rattle.hg_agreement.specs.Parts.{plain_from}
use Rattle.hg_parts.specs.Rights.{remote_from}
use Rattle.hg_parts.specs.Tidy.{IsTidy}
use Rattle.hg_parts.proofs.Sorted.{tidy_sorted}
use Rattle.hg_events.specs.Core.{Core, parts_of, heap_of, nothing_held}
use Rattle.hg_events.proofs.WordAt.{had_held}
use Rattle.hg_laws.specs.Asked.{is_refusal}
use Rattle.hg_chosen.specs.Chosen.{IsChosenBy}
use Rattle.hg_chosen.proofs.Refusals.{refused_is_chosen}
use Rattle.hg_core.specs.declared.stores.Stores.TheInside.{Inside}
use Rattle.hg_core.specs.Keeping.{state_in, IsKept}
use Rattle.hg_core.specs.Stored.{core_of, AreHolders, IsStored}
use Rattle.hg_core.proofs.HoldersKept.{MovesNone, holders_kept, holders_same}

-- a step from these stores leaves those fields
pub record IsAfter (s : Core) (b : Inside) (worker : ℕ) (event : Event) (answer : Answer)
    : Type 0 where
  pub stored : IsStored b
  pub step : Step (state_in s) worker event answer (state_in (core_of b))
  pub chosen : IsChosenBy s worker event answer (core_of b)

-- by a step to tidy parts, with the table of who holds what
pub after_moved : (a b : Inside) (s core : Core) (worker : ℕ) (event : Event) (answer : Answer)
    → core_of a ≡ s → IsStored a → core_of b ≡ core
    → Step (state_in (core_of a)) worker event answer (state_in core) × IsTidy (parts_of core)
    → length b.holders ≡ length a.holders → AreHolders b.holders (state_in core)
    → IsChosenBy (core_of a) worker event answer core → IsAfter s b worker event answer
after_moved a b s core worker event answer view stored is served all holders chosen =
    let policy : core.policy ≡ a.policy =
    steps_keep_policy (state_in (core_of a)) worker event answer (state_in core) served.0 in
    record {
      stored = record {
        kept = subst IsKept (sym is) (record {
          policy = subst IsSoundPolicy (sym policy) stored.kept.policy;
          tidy = served.1;
        });
        all = all ∙ stored.all;
        holders = subst (λ x. AreHolders b.holders (state_in x)) (sym is) holders;
      };
      step = subst (λ x. Step (state_in x) worker event answer (state_in (core_of b))) view
          (subst (λ x. Step (state_in (core_of a)) worker event answer (state_in x)) (sym is)
          served.0);
      chosen = subst (λ x. IsChosenBy x worker event answer (core_of b)) view
          (subst (λ x. IsChosenBy (core_of a) worker event answer x) (sym is) chosen);
    }

-- by one that moves no segment, the table is as it was
pub after_still : (a b : Inside) (s core : Core) (worker : ℕ) (event : Event) (answer : Answer)
    → core_of a ≡ s → IsStored a → MovesNone event → core_of b ≡ core → b.holders ≡ a.holders
    → Step (state_in (core_of a)) worker event answer (state_in core) × IsTidy (parts_of core)
    → IsChosenBy (core_of a) worker event answer core → IsAfter s b worker event answer
after_still a b s core worker event answer view stored still is same served chosen =
    after_moved a b s core worker event answer view stored is served (ap length same)
    (subst (λ hs. AreHolders hs (state_in core)) (sym same)
    (holders_same a.holders (state_in (core_of a)) (state_in core)
    (holders_kept (state_in (core_of a)) (state_in core) worker event answer still served.0)
    stored.holders)) chosen

-- by one that is refused, all is
pub after_refused : (a b : Inside) (s : Core) (worker : ℕ) (event : Event) (answer : Answer)
    → core_of a ≡ s → IsStored a → core_of b ≡ core_of a → b.holders ≡ a.holders
    → is_refusal answer ≡ true
    → Step (state_in (core_of a)) worker event answer (state_in (core_of a))
    → IsAfter s b worker event answer
after_refused a b s worker event answer view stored is same refusal step = record {
  stored = record {
    kept = subst IsKept (sym is) stored.kept;
    all = ap length same ∙ stored.all;
    holders = subst (λ x. AreHolders b.holders (state_in x)) (sym is)
        (subst (λ hs. AreHolders hs (state_in (core_of a))) (sym same) stored.holders);
  };
  step = subst (λ x. Step (state_in x) worker event answer (state_in (core_of b))) view
      (subst (λ x. Step (state_in (core_of a)) worker event answer (state_in x)) (sym is) step);
  chosen = subst (λ x. IsChosenBy x worker event answer (core_of b)) view
      (subst (λ x. IsChosenBy (core_of a) worker event answer x) (sym is)
      (refused_is_chosen (core_of a) worker event answer refusal step));
}

-- where what stood there is put back, the list is as it was
pub put_back : {X : Type 0} (xs : List X) (at : ℕ) (x y : X) → x ≡ slice_index_or xs at x → y ≡ x
    → slice_set xs at y ≡ xs
put_back xs at x y there same =
    ap (slice_set xs at) (same ∙ there) ∙ set-get_or xs at x

-- there is a heap and a hand for each worker, and a remote list for each segment
pub heaps_all : (core : Core) → IsTidy (parts_of core) → length core.heaps ≡ core.policy.workers
heaps_all core t =
    omega (arith, t.segments.heaps, length-map core.heaps (λ held. map plain_from held.segments))

-- the heap of a worker, as it is read
pub heap_read : (core : Core) (at worker : ℕ) (heap : Held PlainWords) → IsTidy (parts_of core)
    → worker < core.policy.workers → at ≡ worker → heap ≡ slice_index_or core.heaps at heap
    → heap_of core worker ≡ heap
heap_read core at worker heap t below same there =
    ap (heap_of core) (sym same)
    ∙ sym (get_or_read core.heaps at heap (omega (arith, heaps_all core t, below, same)) there
    nothing_held)

-- a worker of the policy has a heap
pub heap_below : (core : Core) (worker : ℕ) → IsTidy (parts_of core)
    → worker < core.policy.workers → worker < length core.heaps
heap_below core worker t below = omega (arith, heaps_all core t, below)

-- a segment of a heap is one of the policy's, and so it has a remote list
pub held_inside : (core : Core) (worker segment : ℕ) → IsTidy (parts_of core)
    → is_held plain_number (heap_of core worker).segments segment ≡ true
    → segment < length core.policy.segments
held_inside core worker segment t held =
    (tidy_sorted (parts_of core) t).below worker segment (had_held core worker segment ∙ held)

pub remotes_all : (core : Core) → IsTidy (parts_of core)
    → length core.remotes ≡ length core.policy.segments
remotes_all core t = omega (arith, t.segments.remotes, length-map core.remotes remote_from)

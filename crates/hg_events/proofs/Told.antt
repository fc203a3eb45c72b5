-- What the parts of a core tell of its heaps and remote lists.
use Rattle.std.proofs.Common.{◌≡◌, ℕ, zero, suc, ◌==◌, ◌≤◌, true, false, cond, List, [], ◌∷◌, map}
use Rattle.std.proofs.Common.{find, count_by, slice_index_or, refl, ap, arith, subst, Some, ⊎_elim}
use Rattle.std.specs.Option.{option_map}
use Rattle.hg_lists.specs.Repeats.{HasNoRepeats}
use Rattle.hg_lists.proofs.RepeatsLemmas.{nat_eq-same, in_cases, count_by-in}
use Rattle.hg_place.specs.declared.plain.PlainWords.{PlainWords}
use Rattle.hg_place.specs.Words.{bit_of}
use Rattle.hg_segment.specs.Kept.{Kept}
use Rattle.hg_segment.specs.Parted.{plain_number}
use Rattle.hg_remote.specs.Remote.{Remote}
use Rattle.hg_heap.specs.Held.{Held, segment_in}
use Rattle.hg_heap.proofs.Founds.{numbers as numbers_in}
use Rattle.hg_agreement.specs.LeftPut.{numbers}
use Rattle.hg_agreement.specs.Parts.{plain_from, is_of, heap_at, remote_at, no_remote}
use Rattle.hg_agreement.proofs.Firsts.{count_cons}
use Rattle.hg_agreement.proofs.Openings.{count_numbers}
use Rattle.hg_parts.specs.Rights.{list_of, remote_from}
use Rattle.hg_parts.specs.Tidy.{IsTidy}
use Rattle.hg_parts.proofs.Sorted.{heap_once}
use Rattle.hg_events.specs.Core.{Core, parts_of, heap_of, nothing_held}
use Rattle.hg_events.specs.Delivered.{remote_of, nothing_there}

-- the segment of a number
pub found_told : (n : ℕ) (xs : List (Kept PlainWords)) → find (is_of n) (map plain_from xs)
    ≡ option_map plain_from (segment_in plain_number xs n)
found_told n [] = refl
found_told n (x ∷ xs) = elim (x.slots.segment == n) as (λ b. cond b (Some (plain_from x))
    (find (is_of n) (map plain_from xs))
    ≡ option_map plain_from (cond b (Some x) (segment_in plain_number xs n))) [
      | true ↦ refl
      | false ↦ found_told n xs
    ]

-- the heap of a worker
heaps_told : (hs : List (Held PlainWords)) (w : ℕ)
    → slice_index_or (map (λ held. map plain_from held.segments) hs) w []
    ≡ map plain_from (slice_index_or hs w nothing_held).segments
heaps_told [] w = refl
heaps_told (x ∷ xs) zero = refl
heaps_told (x ∷ xs) (suc w) = heaps_told xs w

pub heap_told : (core : Core) (worker : ℕ)
    → heap_at (parts_of core) worker ≡ map plain_from (heap_of core worker).segments
heap_told core worker = heaps_told core.heaps worker

-- the remote list of a segment
remotes_told : (rs : List Remote) (n : ℕ)
    → list_of (slice_index_or (map remote_from rs) n no_remote) ≡ slice_index_or rs n nothing_there
remotes_told [] n = refl
remotes_told (x ∷ xs) zero = refl
remotes_told (x ∷ xs) (suc n) = remotes_told xs n

pub remote_told : (core : Core) (segment : ℕ)
    → list_of (remote_at (parts_of core) segment) ≡ remote_of core segment
remote_told core segment = remotes_told core.remotes segment

-- the numbers of segments
pub numbers_told : (xs : List (Kept PlainWords))
    → numbers (map plain_from xs) ≡ numbers_in plain_number xs
numbers_told [] = refl
numbers_told (x ∷ xs) = ap (λ ns. x.slots.segment ∷ ns) (numbers_told xs)

-- numbers that are there once at most
once_each : (xs : List ℕ) → ((n : ℕ) → count_by (λ k. k == n) xs ≤ 1) → HasNoRepeats xs
once_each [] h = tt
once_each (x ∷ xs) h =
    let rest = once_each xs (λ n. omega (arith, h n, count_cons (λ k. k == n) x xs)) in (
      ⊎_elim
          (λ on. absurd
          (omega (
            arith,
            h x,
            count_cons (λ k. k == x) x xs,
            count_by-in x xs rest on,
            ap bit_of (nat_eq-same x),
          ))) (λ off. off) (in_cases x xs),
      rest,
    )

-- in no heap does a segment stand twice
pub held_once : (core : Core) → IsTidy (parts_of core) → (worker : ℕ)
    → HasNoRepeats (numbers_in plain_number (heap_of core worker).segments)
held_once core t worker =
    let xs = (heap_of core worker).segments in
    subst HasNoRepeats (numbers_told xs)
    (once_each (numbers (map plain_from xs)) (λ n. omega (
      arith,
      count_numbers n (map plain_from xs),
      ap (count_by (is_of n)) (heap_told core worker),
      heap_once (parts_of core) t n worker,
    )))

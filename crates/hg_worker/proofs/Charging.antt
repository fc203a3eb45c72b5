-- What a worker is charged is little.
use Rattle.std.proofs.Common.{◌≡◌, ◌≢◌, ℕ, zero, suc, ◌+◌, ◌*◌, ◌^◌, ◌<◌, ◌≤◌, List, [], ◌∷◌}
use Rattle.std.proofs.Common.{length, map, Option, Some, None, refl, ap, arith, inl, inr, Contains}
use Rattle.std.specs.List.{AllByRecursion, sum_by}
use Rattle.std.proofs.lemmas.List.{length-map}
use Rattle.std.proofs.lemmas.List.Sums.{sum_by-le}
use Rattle.std.proofs.lemmas.List.Elements.{All-contains_itself, All-weaker}
use Rattle.hg_lists.specs.Repeats.{HasNoRepeats}
use Rattle.hg_lists.specs.Lists.{without}
use Rattle.hg_lists.proofs.RepeatsLemmas.{Each-weaker, in_cases}
use Rattle.hg_lists.proofs.Without.{without-lacks, Each-without, Apart-without, length-without}
use Rattle.hg_place.specs.declared.geometry.TheConstants.{SEGMENT_PLACES}
use Rattle.hg_segment.specs.Charges.{block_bytes, charge_of}
use Rattle.hg_segment.specs.Kept.{Kept, class_at}
use Rattle.hg_segment.proofs.Charged.{charge_small}
use Rattle.hg_heap.specs.Charges.{charge_in}
use Rattle.hg_heap.specs.Settled.{IsSettled}
use Rattle.hg_size.specs.Sizes.{sizes}
use Rattle.hg_size.proofs.Table.{size_bounds}
use Rattle.hg_table.specs.declared.segment.UnnamedSegment.{UnnamedSegment}
use Rattle.hg_worker.specs.Charged.{AreKept}
use Rattle.hg_worker.specs.Seats.{number_in, records_in}

-- as many numbers without repeats as there are below a bound
few_below : (bound : ℕ) (xs : List ℕ) → HasNoRepeats xs → AllByRecursion (λ x. x < bound) xs
    → length xs ≤ bound
few_below zero [] h below = omega arith
few_below zero (x ∷ xs) h below = absurd (omega (arith, below.0))
few_below (suc bound) xs h below =
    let less : AllByRecursion (λ x. x < bound) (without bound xs) =
    Each-weaker (λ y. (y ≢ bound) × (y < suc bound)) (λ y. y < bound) (without bound xs)
    (λ y p. omega (arith, p.0, p.1)) (Each-without (λ y. y < suc bound) bound xs below) in
    let rest = few_below bound (without bound xs) (Apart-without bound xs h) less in
    elim (in_cases bound xs) [
      | inl i ↦ omega (arith, rest, length-without bound xs h i)
      | inr l ↦ omega (arith, rest, ap length (without-lacks bound xs l))
    ]

numbers_below : (segments : List (Kept UnnamedSegment))
    → AllByRecursion (λ n. n < 64) (map (λ (k : Kept UnnamedSegment). number_in k.slots) segments)
numbers_below [] = tt
numbers_below (k ∷ segments) = (k.slots.segment_below, numbers_below segments)

-- no class has blocks of more bytes than a segment
bytes_small : (class : Option ℕ) → ((size : ℕ) → class ≡ Some size → Contains sizes size)
    → block_bytes class ≤ 65536
bytes_small None listed = omega arith
bytes_small (Some size) listed =
    let b = (size_bounds size (listed size refl)).1 in
    omega (arith, b)

segment_small : (k : Kept UnnamedSegment) (tenant : ℕ) → IsSettled records_in k
    → charge_of (records_in k.slots) k.classes tenant ≤ SEGMENT_PLACES * 65536
segment_small k tenant settled =
    let c = charge_small (records_in k.slots) k.classes tenant
    (λ page. bytes_small (class_at k.classes page) (settled.sizes page)) in
    let sized = k.slots.sized in
    omega (arith, c, sized)

-- no charge is above the bytes of all places
pub charge_few : (segments : List (Kept UnnamedSegment)) (tenant : ℕ) → AreKept segments
    → charge_in records_in segments tenant ≤ 2 ^ 35
charge_few segments tenant kept =
    let numbers = map (λ (k : Kept UnnamedSegment). number_in k.slots) segments in
    let many = few_below 64 numbers kept.once (numbers_below segments) in
    let same = length-map segments (λ (k : Kept UnnamedSegment). number_in k.slots) in
    let sum = sum_by-le (λ (k : Kept UnnamedSegment). charge_of (records_in k.slots) k.classes tenant)
    (SEGMENT_PLACES * 65536) segments
    (All-weaker (Contains segments)
    (λ (k : Kept UnnamedSegment). charge_of (records_in k.slots) k.classes tenant
    ≤ SEGMENT_PLACES * 65536)
    (λ k there. segment_small k tenant (kept.each k there)) segments
    (All-contains_itself segments)) in
    omega (arith, many, same, sum)

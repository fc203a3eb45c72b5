-- The order of turns is the one in which a bank asks its cores.
use Rattle.std.proofs.Common.{◌≡◌, ℕ, zero, suc, ◌+◌, ◌-◌, ◌<◌, [], ◌∷◌, ◌++◌, inl, inr, Bool, true, false, List, length, find}
use Rattle.std.proofs.Common.{slice_get, slice_index, None, Some, is_some, option_map, unwrap_or}
use Rattle.std.proofs.Common.{refl, ap, ◌∙◌, arith}
use Rattle.std.specs.List.{range_with_len}
use Rattle.std.proofs.lemmas.Bool.{cases_lt}
use Rattle.std.proofs.lemmas.List.FromFn.{length-range_with_len}
use Rattle.std.proofs.lemmas.Option.{slice_get_within}
use Rattle.hg_machine.specs.Request.{size_of}
use Rattle.hg_heap.specs.Choice.{chosen_place}
use Rattle.hg_worker.specs.Seats.{number_in, records_in}
use Rattle.hg_bank.specs.Order.{round_from}
use Rattle.hg_bank.proofs.Searches.{first_found, found_first, found_later, none_found}
use Rattle.hg_hosted.specs.declared.worker.HostedWorker.{HostedWorker}
use Rattle.hg_bank_service.specs.Laws.{FirstWithPlaceServes, NoRoomWhereNoneHas}
use Rattle.hg_bank_service.specs.Laws.{TurnsAreRounds, has_place_at, has_place_in}
use Rattle.hg_bank_service.specs.Order.{turn}
use Rattle.hg_bank_service.proofs.Departures.{some_of}
use Rattle.hg_bank_service.proofs.Openings.{some_at}
use Rattle.hg_bank_service.proofs.Turns.{turn_before, turn_below, turn_from}

-- the one that passes, where none before it in the order of turns does, is found first
pub found_by_turn : (p : ℕ → Bool) (current count core : ℕ) → current < count → core < count
    → p core ≡ true
    → ((other : ℕ) → other < count → turn current count other < turn current count core
    → p other ≡ false)
    → find p (round_from current count) ≡ Some core
found_by_turn p current count core inside below passes none =
    elim (cases_lt core current) as (λ _. find p (round_from current count) ≡ Some core) [
      | inl low ↦
          (let own = turn_before current count core low in
          found_later p current count (Some core)
          (none_found p current (count - current)
          (λ n from to. none n (omega (arith, to))
          (let is = turn_from current count n from in omega (arith, to, own, is))))
          (first_found p 0 (current - 0) core (omega arith) (omega arith)
          (λ n from to. none n (omega (arith, to))
          (let is = turn_before current count n (omega (arith, to, low)) in
          omega (arith, to, own, is)))
          passes))
      | inr high ↦
          (let own = turn_from current count core high in
          found_first p current count core
          (first_found p current (count - current) core high (omega arith)
          (λ n from to. none n (omega (arith, to))
          (let is = turn_from current count n from in omega (arith, to, from, own, is)))
          passes))
    ]

get_range : (first count at : ℕ) → at < count
    → slice_get (range_with_len first count) at ≡ Some (first + at)
get_range first zero at low = absurd (omega (arith, low))
get_range first (suc count) zero low = ap Some (omega arith)
get_range first (suc count) (suc at) low =
    get_range (first + 1) count at (omega (arith, low)) ∙ ap Some (omega arith)

get_first : (xs ys : List ℕ) (at : ℕ) → at < length xs → slice_get (xs ++ ys) at ≡ slice_get xs at
get_first [] ys at low = absurd (omega (arith, low))
get_first (x ∷ xs) ys zero low = refl
get_first (x ∷ xs) ys (suc at) low = get_first xs ys at (omega (arith, low))

get_second : (xs ys : List ℕ) (at : ℕ) → slice_get (xs ++ ys) (length xs + at) ≡ slice_get ys at
get_second [] ys at = ap (slice_get ys) (omega arith)
get_second (x ∷ xs) ys at =
    let next : length (x ∷ xs) + at ≡ suc (length xs + at) = omega arith in
    ap (slice_get (x ∷ xs ++ ys)) next ∙ get_second xs ys at

pub turns_are_rounds : TurnsAreRounds
turns_are_rounds current count core inside below =
    let front = range_with_len current (count - current) in
    let back = range_with_len 0 current in
    let long = length-range_with_len current (count - current) in
    elim (cases_lt core current) [
      | inl low ↦
          (let own = turn_before current count core low in
          let at : turn current count core ≡ length front + core = omega arith in
          ap (slice_get (front ++ back)) at ∙ get_second front back core
          ∙ get_range 0 current core low ∙ ap Some (omega arith))
      | inr high ↦
          (let own = turn_from current count core high in
          ap (slice_get (front ++ back)) own
          ∙ get_first front back (core - current) (omega arith)
          ∙ get_range current (count - current) (core - current) (omega arith)
          ∙ ap Some (omega arith))
    ]

place_at : (arena size : ℕ) (worker : HostedWorker) (own : _) → worker.state ≡ Some own
    → has_place_at arena size worker
    ≡ is_some (chosen_place number_in records_in own.value.heap arena size)
place_at arena size worker own is =
    ap (λ o. unwrap_or (option_map
    (λ s. is_some (chosen_place number_in records_in s.value.heap arena size)) o) false) is

place_in : (workers : List HostedWorker) (arena size core : ℕ) (worker : HostedWorker)
    → slice_get workers core ≡ Some worker
    → has_place_in workers arena size core ≡ has_place_at arena size worker
place_in workers arena size core worker there =
    ap (λ o. unwrap_or (option_map (has_place_at arena size) o) false) there

none_at : (arena size : ℕ) (worker : HostedWorker)
    → ((own : _) → worker.state ≡ Some own
    → chosen_place number_in records_in own.value.heap arena size ≡ None)
    → has_place_at arena size worker ≡ false
none_at arena size worker none =
    let own = some_of worker.state worker.there in
    place_at arena size worker own.0 own.1 ∙ ap is_some (none own.0 own.1)

pub first_with_place_serves : FirstWithPlaceServes
first_with_place_serves actor arena bytes block old new allocates =
    let is = allocates.served in
    let workers = old.workers.items in
    let current = slice_index old.currents arena in
    let size = size_of bytes in
    found_by_turn (has_place_in workers arena size) current (length workers) block.core
    (old.there arena) (slice_get_within workers block.core is.was is.there)
    (place_in workers arena size block.core is.was is.there
    ∙ place_at arena size is.was is.served.served.before is.served.served.was
    ∙ ap is_some is.served.served.does.chosen)
    (λ other below less.
    let was = some_at workers other below in
    let all = is.all in
    let next = some_at new.workers.items other (omega (arith, below, all)) in
    place_in workers arena size other was.0 was.1
    ∙ none_at arena size was.0 (is.passed other was.0 next.0 was.1 next.1 less).none)

pub no_room_where_none_has : NoRoomWhereNoneHas
no_room_where_none_has actor arena bytes core old new finds below =
    let asked = finds.asked in
    let workers = old.workers.items in
    let current = slice_index old.currents arena in
    let was = some_at workers core below in
    let all = asked.all in
    let next = some_at new.workers.items core (omega (arith, below, all)) in
    place_in workers arena (size_of bytes) core was.0 was.1
    ∙ none_at arena (size_of bytes) was.0
    (asked.passed core was.0 next.0 was.1 next.1
    (turn_below current (length workers) core below (old.there arena))).none

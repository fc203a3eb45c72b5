-- What the order of turns means.
use Rattle.std.specs.Prelude.{◌≡◌, ℕ, ◌<◌, Bool, false, List, Some, find, is_some, length, option_map}
use Rattle.std.specs.Prelude.{slice_get, slice_index, unwrap_or}
use Rattle.hg_place.specs.declared.Actor.{Actor}
use Rattle.hg_machine.specs.Request.{size_of}
use Rattle.hg_heap.specs.Choice.{chosen_place}
use Rattle.hg_worker.specs.Seats.{number_in, records_in}
use Rattle.hg_bank.specs.Order.{round_from}
use Rattle.hg_bank.specs.declared.bank.BankHandle.{BankHandle}
use Rattle.hg_hosted.specs.declared.worker.HostedWorker.{HostedWorker}
use Rattle.hg_bank_service.specs.Allocating.{AllocatesIn, FindsNoRoom}
use Rattle.hg_bank_service.specs.Order.{turn}
use Rattle.hg_bank_service.specs.declared.worker.BankWorker.{BankWorker}

-- the core that so many are asked before is the one that stands there in the order in which a bank asks
abbrev pub TurnsAreRounds : Type 0
TurnsAreRounds =
    (current count core : ℕ) → current < count → core < count
    → slice_get (round_from current count) (turn current count core) ≡ Some core

-- the heap of a worker has a place for a block of this size
abbrev pub has_place_at : ℕ → ℕ → HostedWorker → Bool
has_place_at arena size worker =
    unwrap_or
    (option_map (λ own. is_some (chosen_place number_in records_in own.value.heap arena size))
    worker.state) false

-- that of the worker of a core does, if it is there
abbrev pub has_place_in : List HostedWorker → ℕ → ℕ → ℕ → Bool
has_place_in workers arena size core =
    unwrap_or (option_map (has_place_at arena size) (slice_get workers core)) false

-- an allocation is served by the first core from the current one on, round and round, whose heap has
-- a place for it
abbrev pub FirstWithPlaceServes : Type 0
FirstWithPlaceServes =
    (actor : Actor) (arena bytes : ℕ) (block : BankHandle) (old new : BankWorker)
    → AllocatesIn actor arena bytes block old new
    → find (has_place_in old.workers.items arena (size_of bytes))
    (round_from (slice_index old.currents arena) (length old.workers.items)) ≡ Some block.core

-- no room is found only where no core's heap has one
abbrev pub NoRoomWhereNoneHas : Type 0
NoRoomWhereNoneHas =
    (actor : Actor) (arena bytes core : ℕ) (old new : BankWorker)
    → FindsNoRoom actor arena bytes old new → core < length old.workers.items
    → has_place_in old.workers.items arena (size_of bytes) core ≡ false

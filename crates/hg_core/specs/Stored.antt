-- What the stores' fields stand for, and what holds of them.
use Rattle.std.specs.Prelude.{◌≡◌, ℕ, List, length, map, option_map, Option, None}
use Rattle.std.specs.Prelude.{slice_index_or}
use Rattle.std.specs.Box.{boxed_slice_items}
use Rattle.hg_place.specs.declared.geometry.TheConstants.{MAX_SEGMENTS}
use Rattle.hg_place.specs.Places.{number_of}
use Rattle.hg_machine.specs.State.{State, holder_at}
use Rattle.hg_events.specs.Core.{Core}
use Rattle.hg_core.specs.Held.{worker_in}
use Rattle.hg_core.specs.Keeping.{state_in, IsKept}
use Rattle.hg_core.specs.declared.stores.Stores.TheInside.{Inside}

-- a place in hand goes by its number
abbrev pub core_of : Inside → Core
core_of a = record {
  policy = a.policy;
  heaps = boxed_slice_items a.heaps;
  remotes = boxed_slice_items a.remotes;
  pool = a.pool;
  hands = map (option_map number_of) (boxed_slice_items a.hands);
}

-- by segment, the worker that holds it
abbrev pub AreHolders : List (Option ℕ) → State → Type 0
AreHolders holders s =
    (segment : ℕ) → slice_index_or holders segment None ≡ worker_in (holder_at s segment)

pub record IsStored (a : Inside) : Type 0 where
  pub kept : IsKept (core_of a)
  pub all : length a.holders ≡ MAX_SEGMENTS
  pub holders : AreHolders a.holders (state_in (core_of a))

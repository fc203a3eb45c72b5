-- A listing: a Look at each place of the segments that a worker holds.
use Rattle.std.specs.Prelude.{ℕ, List, map, filter}
use Rattle.hg_place.specs.declared.Actor.{Actor}
use Rattle.hg_place.specs.Places.{place_at, segment_of}
use Rattle.hg_machine.specs.State.{State, places_in}
use Rattle.hg_machine.specs.Holders.{holds}
use Rattle.hg_machine.specs.declared.Event.{Event}
use Rattle.hg_machine.specs.declared.Event.TheVariants as event

-- those of the places whose segment the worker holds
abbrev pub held_among : State → ℕ → List ℕ → List ℕ
held_among s worker places = filter (λ place. holds s worker (segment_of place)) places

-- all places that the worker holds, rising
abbrev pub held_places : State → ℕ → List ℕ
held_places s worker = held_among s worker (places_in s)

-- a Look at each of these places
abbrev pub looks_at : ℕ → Actor → List ℕ → List (ℕ × Event)
looks_at worker actor places = map (λ place. (worker, event.Look actor (place_at place))) places

-- a Look at each place of the segments that the worker holds
abbrev pub looks : State → ℕ → Actor → List (ℕ × Event)
looks s worker actor = looks_at worker actor (held_places s worker)

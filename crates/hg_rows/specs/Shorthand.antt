-- Short names of the places and events of the worked runs.
use Rattle.std.specs.Prelude.{ℕ}
use Rattle.std.proofs.Math.Dec.{lit<}
use Rattle.hg_place.specs.declared.Place.{Place}
use Rattle.hg_place.specs.declared.Handle.{Handle}
use Rattle.hg_place.specs.declared.Actor.{Actor}
use Rattle.hg_place.specs.Places.{place_from}
use Rattle.hg_machine.specs.declared.Event.{Event}
use Rattle.hg_machine.specs.declared.Event.TheVariants as event

abbrev pub actor : ℕ → Actor
actor n = record { 0 = n }

-- the first place of segment 0 in its first, second and ninth life
abbrev pub first_place : Place
first_place = place_from 0 0 0

abbrev pub block : Handle
block = record { place = first_place; generation = 1; given_out = lit< tt }

abbrev pub second_life : Handle
second_life = record { place = first_place; generation = 2; given_out = lit< tt }

abbrev pub ninth_life : Handle
ninth_life = record { place = first_place; generation = 9; given_out = lit< tt }

-- the second place of that page, and the first ones of the next two pages
abbrev pub neighbour : Handle
neighbour = record {
  place = place_from 0 0 1;
  generation = 1;
  given_out = lit< tt;
}

abbrev pub next_page : Handle
next_page = record {
  place = place_from 0 1 0;
  generation = 1;
  given_out = lit< tt;
}

abbrev pub third_page : Handle
third_page = record {
  place = place_from 0 2 0;
  generation = 1;
  given_out = lit< tt;
}

-- a place of segment 9, which the policy lacks
abbrev pub nowhere : Handle
nowhere = record {
  place = place_from 9 0 0;
  generation = 1;
  given_out = lit< tt;
}

-- the tenants, and a number that no tenant has
abbrev pub alice : ℕ
alice = 0

abbrev pub bob : ℕ
bob = 1

abbrev pub stranger : ℕ
stranger = 255

-- a worker's events, by their actor; allocations are in the arena main
abbrev pub allocs : ℕ → ℕ → ℕ → ℕ × Event
allocs worker tenant bytes = (worker, event.Alloc (actor tenant) 0 bytes)

abbrev pub allocs_in : ℕ → ℕ → ℕ → ℕ → ℕ × Event
allocs_in worker arena tenant bytes = (worker, event.Alloc (actor tenant) arena bytes)

abbrev pub frees : ℕ → ℕ → Handle → ℕ × Event
frees worker tenant handle = (worker, event.Free (actor tenant) handle)

abbrev pub reads : ℕ → ℕ → Handle → ℕ → ℕ × Event
reads worker tenant handle index = (worker, event.Read (actor tenant) handle index)

abbrev pub writes : ℕ → ℕ → Handle → ℕ → ℕ → ℕ × Event
writes worker tenant handle index value = (worker, event.Write (actor tenant) handle index value)

abbrev pub looks : ℕ → ℕ → Handle → ℕ × Event
looks worker tenant handle = (worker, event.Look (actor tenant) handle.place)

abbrev pub refills : ℕ → ℕ → ℕ × Event
refills worker arena = (worker, event.Refill arena)

abbrev pub abandons : ℕ → ℕ → ℕ × Event
abandons worker segment = (worker, event.Abandon segment)

abbrev pub takes : ℕ → ℕ → ℕ × Event
takes worker segment = (worker, event.Take segment)

abbrev pub delivers : ℕ → ℕ × Event
delivers worker = (worker, event.Deliver)

abbrev pub collects : ℕ → ℕ × Event
collects worker = (worker, event.Collect)

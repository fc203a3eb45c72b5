-- Sides: workers and arenas are parted, and an event names what is of its worker's side.
use Rattle.std.specs.Prelude.{◌≡◌, ℕ, ◌==◌, Bool, List, All, IfSome, map, filter, zip}
use Rattle.hg_machine.specs.declared.Event.{Event}
use Rattle.hg_machine.specs.declared.Event.TheVariants as event
use Rattle.hg_machine.specs.declared.Answer.{Answer}
use Rattle.hg_machine.specs.Policy.{Policy, arena_of}

-- the side of each worker and of each arena, all by number
pub record Sides : Type 0 where
  pub of_worker : ℕ → ℕ
  pub of_arena : ℕ → ℕ

module _ (sides : Sides) where
  -- the arena of the segment, if there is such a segment, is of the side
  abbrev pub IsOf : Policy → ℕ → ℕ → Type 0
  IsOf policy side segment = IfSome (arena_of policy segment) (λ arena. sides.of_arena arena ≡ side)

  -- The handle or the place that the event names is of the side, and the arena that it refills. An
  -- Alloc, a Take and an Abandon may name any arena and any segment: they are answered by what
  -- their worker holds
  abbrev pub NamesOnly : Policy → ℕ → Event → Type 0
  NamesOnly policy side (event.Free actor handle) = IsOf policy side handle.place.segment
  NamesOnly policy side (event.Read actor handle index) = IsOf policy side handle.place.segment
  NamesOnly policy side (event.Write actor handle index value) =
      IsOf policy side handle.place.segment
  NamesOnly policy side (event.Look actor place) = IsOf policy side place.segment
  NamesOnly policy side (event.Refill arena) = sides.of_arena arena ≡ side
  NamesOnly policy side event = Unit {0}

  -- each event names only what is of its worker's side
  abbrev pub AreApart : Policy → List (ℕ × Event) → Type 0
  AreApart policy events = All (λ e. NamesOnly policy (sides.of_worker e.0) e.1) events

  -- the event is of a worker of the side
  abbrev pub is_by : ℕ → ℕ × Event → Bool
  is_by side e = sides.of_worker e.0 == side

  -- the events of the side's workers, in their order, without all others
  abbrev pub purged : ℕ → List (ℕ × Event) → List (ℕ × Event)
  purged side events = filter (is_by side) events

  -- what they are answered among the others
  abbrev pub answers_of : ℕ → List (ℕ × Event) → List Answer → List Answer
  answers_of side events answers =
      map (λ told. told.1) (filter (λ told. is_by side told.0) (zip events answers))

-- What hidden means: what the word laws hide from an actor, in whose events it may differ, and who
-- is told nothing of it.
use Rattle.std.specs.Prelude.{◌≡◌, ◌≢◌, ◌⊎◌, ℕ, Bool, true, not, List, Some, None, slice_get}
use Rattle.hg_place.specs.declared.Actor.{Actor}
use Rattle.hg_place.specs.declared.Handle.{Handle}
use Rattle.hg_place.specs.Places.{number_of}
use Rattle.hg_machine.specs.declared.Event.{Event}
use Rattle.hg_machine.specs.declared.Event.TheVariants as event
use Rattle.hg_machine.specs.declared.Answer.{Answer}
use Rattle.hg_machine.specs.Life.{owner_of}
use Rattle.hg_machine.specs.State.{State, record_at}
use Rattle.hg_machine.specs.Lists.{Kept}
use Rattle.hg_laws.specs.Asked.{actor_of}
use Rattle.hg_choice.specs.SameBut.{may_read, IsSameEvent}
use Rattle.hg_choice.specs.WordLaws.{unreadable, IsOfNoOther, AreSameTo}

-- hidden from an actor are the blocks that the policy doesn't let it read
abbrev pub HiddenIsUnreadable : Type 0
HiddenIsUnreadable =
    (k : Kept) (actor segment owner : ℕ)
    → unreadable k actor segment owner ≡ not (may_read k.state.policy actor segment owner)

-- two Writes of one index of a hidden block that differ in their value alone are the same event
abbrev pub HiddenWritesAreSame : Type 0
HiddenWritesAreSame =
    (hides : ℕ → ℕ → Bool) (s : State) (writer : Actor) (handle : Handle)
    (index value instead : ℕ)
    → hides handle.place.segment (owner_of (record_at s (number_of handle.place)).life) ≡ true
    → IsSameEvent hides s (event.Write writer handle index value)
    (event.Write writer handle index instead)

-- An event of this actor, or of none, is of no other, and one of another isn't. Where answers are
-- the same to an actor, those to its own events are, and to events of nobody
pub record OwnEventsAreTold : Type 0 where
  pub own : (actor : ℕ) (e : Event) → actor_of e ≡ Some actor → IsOfNoOther actor e
  pub nobodys : (actor : ℕ) (e : Event) → actor_of e ≡ None → IsOfNoOther actor e
  pub others :
      (actor other : ℕ) (e : Event) → actor_of e ≡ Some other → other ≢ actor
      → IsOfNoOther actor e → ⊥
  pub told :
      (actor k : ℕ) (events : List (ℕ × Event)) (answers given : List Answer) (e : ℕ × Event)
      (a b : Answer) → AreSameTo actor events answers given
      → slice_get events k ≡ Some e → slice_get answers k ≡ Some a → slice_get given k ≡ Some b
      → (actor_of e.1 ≡ Some actor) ⊎ (actor_of e.1 ≡ None) → b ≡ a

-- Calls on a worker's own heap that leave the lives of its places: each is a step of the machine.
use Rattle.std.proofs.Common.{◌≡◌, ℕ, refl}
use Rattle.std.specs.Prelude.{Result, Ok, Err}
use Rattle.hg_place.specs.declared.Actor.{Actor}
use Rattle.hg_place.specs.declared.Handle.{Handle}
use Rattle.hg_place.specs.Places.{number_of}
use Rattle.hg_heap.specs.Answers.{done_answer, refused_answer, row_answer, list_denial}
use Rattle.hg_heap.specs.declared.refused.Refused.{Refused}
use Rattle.hg_machine.specs.Changes.{write}
use Rattle.hg_machine.specs.Life.{Life, home, parted, Record, is_parted}
use Rattle.hg_machine.specs.State.{State, record_at}
use Rattle.hg_machine.specs.Steps.{successor}
use Rattle.hg_agreement.specs.Parts.{state_of}
use Rattle.hg_events.specs.Core.{parts_of}
use Rattle.hg_events.specs.Own.{ReadIsStep, WriteIsStep, LookIsStep, FreeIsDenied}
use Rattle.hg_events.proofs.ChangedAt.{IsChangedAt, same_changed, life_changed}
use Rattle.hg_events.proofs.OwnCall.{own_is_served}
use Rattle.hg_heap.specs.declared.refused.Refused.TheVariants as refused
use Rattle.hg_machine.specs.declared.Event.TheVariants as event
use Rattle.hg_machine.specs.declared.Answer.TheVariants as answer

pub read_is_step : ReadIsStep
read_is_step core worker actor handle index word result heap policy t own =
    own_is_served policy t own (same_changed (state_of (parts_of core)) handle.place) refl

pub look_is_step : LookIsStep
look_is_step core worker actor place word row heap policy t own =
    own_is_served policy t own (same_changed (state_of (parts_of core)) place) refl

pub free_is_denied : FreeIsDenied
free_is_denied core worker actor handle word rule heap policy t own =
    own_is_served policy t own (same_changed (state_of (parts_of core)) handle.place) refl

-- a block is parted after a write as before
written_parted : (l : Life) (index value : ℕ) → is_parted (write l index value) ≡ is_parted l
written_parted home index value = refl
written_parted _ index value = refl

-- a state that a write leaves: with other words at the place, or as it was, and as much parted
record IsWritten (m now : State) (handle : Handle) : Type 0 where
  entry : Record
  changed : IsChangedAt m now handle.place entry
  parted : is_parted entry.life ≡ is_parted (record_at m (number_of handle.place)).life

module _ (m : State) (worker : ℕ) (actor : Actor) (handle : Handle) (index value : ℕ) where
  kept : IsWritten m m handle
  kept = record {
    entry = record_at m (number_of handle.place);
    changed = same_changed m handle.place;
    parted = refl;
  }

  refused_written : (r : Refused)
      → IsWritten m (successor m worker (event.Write actor handle index value) (refused_answer r))
      handle
  refused_written (refused.Denied rule) = kept
  refused_written _ = kept

  written : (result : Result (Unit {0}) Refused)
      → IsWritten m (successor m worker (event.Write actor handle index value) (done_answer result))
      handle
  written (Ok done) = record {
    entry = record {
      generation = (record_at m (number_of handle.place)).generation;
      life = write (record_at m (number_of handle.place)).life index value;
    };
    changed = life_changed m handle.place
        (write (record_at m (number_of handle.place)).life index value);
    parted = written_parted (record_at m (number_of handle.place)).life index value;
  }
  written (Err refused) = refused_written refused

pub write_is_step : WriteIsStep
write_is_step core worker actor handle index value word result heap policy t own =
    let done = written (state_of (parts_of core)) worker actor handle index value result in
    own_is_served policy t own done.changed done.parted

-- A seat of which no worker is asked anything may make each step that leaves the word, and stays so by it;
-- and which seats may meet stays so by a step, a meeting, and what is lent and given back.
use Rattle.std.specs.Prelude.{◌≡◌, ℕ, Bool}
use Rattle.std.proofs.Common.{refl, sym, subst, ap, ◌∙◌}
use Rattle.hg_machine.specs.Policy.{Policy}
use Rattle.hg_run_table.specs.declared.table.RunSeat.{RunSeat}
use Rattle.hg_run_table.specs.Asked.{MayLeaveIf, HasLeftIf, is_asked}
use Rattle.hg_run_table.specs.Segments.{SeatMayLeave, IsQuiet, StepsIn, MayMeet, MeetIn, place_at}

pub rests :
    (policy : Policy) (segment : ℕ) (seat : RunSeat) (slot word : ℕ)
    → IsQuiet seat → SeatMayLeave policy segment seat slot word word
rests policy segment seat slot word quiet =
    subst (λ (b : Bool). MayLeaveIf b policy (place_at segment slot) word word seat.seat.me.0.run)
    (sym quiet) refl

pub rests_on :
    (segment slot word : ℕ) (old new : RunSeat)
    → StepsIn segment slot word word old new → IsQuiet old → IsQuiet new
rests_on segment slot word old new step quiet =
    let same : new.seat.me.0.run ≡ old.seat.me.0.run =
    subst (λ (b : Bool). HasLeftIf b (place_at segment slot) word word old.seat.me.0.run new.seat.me.0.run)
    quiet step.answered in
    ap is_asked same ∙ quiet

pub meeting_of_table :
    (old new other : RunSeat) → new.seat.table_id ≡ old.seat.table_id → MayMeet old other
    → MayMeet new other
meeting_of_table old new other same may = record {
  same = may.same ∙ sym same;
  one = may.one;
  bare = may.bare;
}

pub still_meeting :
    (segment slot found left : ℕ) (old new other : RunSeat)
    → StepsIn segment slot found left old new → MayMeet old other → MayMeet new other
still_meeting segment slot found left old new other step may =
    meeting_of_table old new other step.same may

pub meeting_again :
    (segment slot word : ℕ) (one other one' other' : RunSeat)
    → MeetIn segment slot word one other one' other' → MayMeet one other → MayMeet one' other'
meeting_again segment slot word one other one' other' met may = record {
  same = met.same_other ∙ may.same ∙ sym met.same;
  one = met.one_part;
  bare = met.bare;
}

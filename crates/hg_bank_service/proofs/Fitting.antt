-- Where the verdict by the sum is that a request fits, a core refuses it for want of a place alone.
use Rattle.std.proofs.Common.{◌≡◌, ℕ, ◌<◌, ◌≤◌, inl, inr, [], Option, None, Some, IfNone}
use Rattle.std.proofs.Common.{sym, ap, subst, ◌∙◌, arith}
use Rattle.std.proofs.lemmas.Bool.{cases_Bool}
use Rattle.std.proofs.lemmas.Option.{none-some, same_Some}
use Rattle.hg_place.specs.declared.Actor.{Actor}
use Rattle.hg_place.specs.declared.Handle.{Handle}
use Rattle.hg_machine.specs.declared.AllocVerdict.TheVariants as verdict
use Rattle.hg_machine.specs.declared.Answer.{Answer}
use Rattle.hg_machine.specs.declared.Answer.TheVariants as answer
use Rattle.hg_machine.specs.declared.Event.TheVariants as event
use Rattle.hg_machine.specs.Charge.{charge}
use Rattle.hg_machine.specs.Lists.{Kept}
use Rattle.hg_machine.specs.Policy.{Policy}
use Rattle.hg_machine.specs.Request.{alloc_verdict, words_for, size_of}
use Rattle.hg_machine.specs.State.{State}
use Rattle.hg_machine.specs.Steps.{successor}
use Rattle.hg_agreement.specs.Agreement.{Agrees}
use Rattle.hg_agreement.specs.Views.{Shown, View}
use Rattle.hg_agreement.proofs.Rooms.{same_charge}
use Rattle.hg_laws.specs.Asked.{is_refusal}
use Rattle.hg_laws.proofs.Refusals.{was_served}
use Rattle.hg_heap.specs.Choice.{chosen_place}
use Rattle.hg_heap.specs.Ties.{HeapTies, heap_view}
use Rattle.hg_heap.specs.Witnessed.{IsOwner}
use Rattle.hg_heap.proofs.ViewCharges.{view_charge}
use Rattle.hg_heap.proofs.Witnessed.{no_tie_is_empty}
use Rattle.hg_table.specs.Fitting.{fitting}
use Rattle.hg_worker.specs.Answers.{block_in}
use Rattle.hg_worker.specs.Charged.{AreKept}
use Rattle.hg_worker.specs.Seats.{number_in, records_in, part_of_seat, seat_shows}
use Rattle.hg_worker.specs.declared.state.WorkerState.{WorkerState}
use Rattle.hg_bank.specs.Choosing.{FitsIn}
use Rattle.hg_bank.proofs.AllocLemmas.{fits_below, passed_over}
use Rattle.hg_hosted.specs.declared.worker.HostedWorker.{HostedWorker}
use Rattle.hg_hosted.specs.Calls.{Allocates}
use Rattle.hg_hosted.specs.Charges.{charge_at}
use Rattle.hg_hosted.specs.Serving.{Serves}
use Rattle.hg_bank_service.specs.Allocating.{GivesBlock, RefusesBlock}
use Rattle.hg_hosted.specs.Has.{Has}
use Rattle.hg_bank_service.specs.Has.{IsNumbered}
use Rattle.hg_bank_service.proofs.Charging.{charge_by, charge_is}

by_none : {X : Type 0} (o : Option X) {P : Type 0} → o ≡ None → IfNone o P → P
by_none None is p = p
by_none (Some x) is p = absurd (none-some x (sym is))

module _ (state : WorkerState) (kept : AreKept state.heap.segments) where
  owner : IsOwner number_in records_in seat_shows state.policy state.number None 0
      state.heap.segments
  owner = record {
    policy_sound = state.sound;
    below = state.below;
    are_of = state.of;
    settled = kept.each;
    within = λ place is. absurd (none-some place is);
    unheld = λ place is. absurd (none-some place is);
    given_out = λ place is. absurd (none-some place is);
    greatest = λ place is. absurd (none-some place is);
  }

  abbrev view : View
  view = heap_view number_in records_in state.policy state.number None 0 state.heap.segments

  -- some state of the machine agrees with what it holds
  some_state : (m : State) × Agrees m view None
  some_state =
      (no_tie_is_empty number_in records_in seat_shows (λ s. s.sized) (λ s. s.sane)
      (λ s at word below is. fitting s.segment at word (part_of_seat s) (records_in s)
      s.first s.recorded s.sized below is)).unshown
      state.policy state.number None 0 state.heap.segments owner

  charge_told : (tenant : ℕ) → charge some_state.0 state.number tenant ≡ charge_by state tenant
  charge_told tenant =
      same_charge some_state.0 view None tenant some_state.1
      ∙ view_charge number_in records_in (λ s. s.sized) state.policy state.number None 0
      state.heap.segments tenant kept.once kept.each state.of

  abbrev core : Kept
  core = record {
    state = some_state.0;
    lists = record { free = []; local_free = []; thread_free = []; delayed = [] };
    queues = [];
  }

  module _ {actor : Actor} {arena bytes : ℕ} (charged : ℕ)
      (fits : alloc_verdict state.policy actor.0 arena (words_for bytes) charged
      ≡ verdict.Fits (size_of bytes)) (low : charge_by state actor.0 ≤ charged) where
    fits_there : FitsIn state.number actor arena bytes core
    fits_there =
        let agrees = some_state.1 in
        let told = charge_told actor.0 in
        record {
          sound = agrees.sound;
          worker_is = subst (λ (p : Policy). state.number < p.workers) (sym agrees.policy)
              state.below;
          fits =
              ap (λ (p : Policy). alloc_verdict p actor.0 arena (words_for bytes)
              (charge some_state.0 state.number actor.0)) agrees.policy
              ∙ fits_below state.policy actor.0 arena (words_for bytes) charged
              (charge some_state.0 state.number actor.0) (size_of bytes) (omega arith) fits;
        }

    pub only_room : (told : Answer) (new : WorkerState) → Allocates actor arena bytes told state new
        → block_in told ≡ None → told ≡ answer.NoRoom
    only_room told new does none =
        let m = some_state.0 in
        let e = event.Alloc actor arena bytes in
        let ties = by_none (block_in told) {P = (shown : Option Shown)
        → HeapTies number_in records_in state.policy shown shown e told state.heap.segments
        new.heap.segments} none does.any_hand in
        let step = (ties None state.number None 0 state.below m some_state.1).step in
        elim (cases_Bool (is_refusal told)) [
          | inl refuses ↦
              (passed_over (successor m state.number e told) fits_there told refuses step).1
          | inr plain ↦
              absurd (let served = was_served m state.number e told
              (successor m state.number e told) step plain in
              none-some served.serves.0 (sym none ∙ ap block_in served.serves.1))
        ]

-- a core that gives no block has no place for it
pub refuses_block : {actor : Actor} {arena bytes : ℕ} {told : Answer}
    {was next : HostedWorker} (policy : Policy) (number : ℕ) → Has (IsNumbered policy number) was
    → Has (λ state. AreKept state.heap.segments) was → (charged : ℕ)
    → alloc_verdict policy actor.0 arena (words_for bytes) charged ≡ verdict.Fits (size_of bytes)
    → charge_at was actor.0 ≤ charged → Serves (Allocates actor arena bytes told) was next
    → next.shared ≡ was.shared → block_in told ≡ None → RefusesBlock actor arena bytes was next
refuses_block {actor} {arena} {bytes} {told} {was} {next} policy number it kept charged fits low s
    shared none =
    let own = s.before.value in
    let its : own.policy ≡ policy = (it s.before s.was).serves in
    let own_fits = ap (λ (p : Policy). alloc_verdict p actor.0 arena (words_for bytes) charged) its
    ∙ fits in
    let is = charge_is was s.before actor.0 s.was in
    let own_low : charge_by own actor.0 ≤ charged = omega arith in
    let says = only_room own (kept s.before s.was) charged own_fits own_low told s.after.value s.does none
    in
    record {
      served = subst (λ a. Serves (Allocates actor arena bytes a) was next) says s;
      shared = shared;
      none = λ one at. subst
          (λ o. chosen_place number_in records_in o.value.heap arena (size_of bytes) ≡ None)
          (same_Some s.before one (sym s.was ∙ at)) (s.does.no_room says);
    }

-- and one that gives one says so
given_is : (told : Answer) (handle : Handle) → block_in told ≡ Some handle
    → told ≡ answer.Block handle
given_is (answer.Block block) handle e = ap answer.Block (same_Some block handle e)
given_is answer.Done handle e = absurd (none-some handle e)
given_is answer.Parted handle e = absurd (none-some handle e)
given_is (answer.Value value) handle e = absurd (none-some handle e)
given_is (answer.Taken count) handle e = absurd (none-some handle e)
given_is (answer.Pages count) handle e = absurd (none-some handle e)
given_is (answer.Refilled segment) handle e = absurd (none-some handle e)
given_is (answer.Listed row) handle e = absurd (none-some handle e)
given_is (answer.Denied rule) handle e = absurd (none-some handle e)
given_is answer.TooLarge handle e = absurd (none-some handle e)
given_is answer.NoRoom handle e = absurd (none-some handle e)
given_is answer.Elsewhere handle e = absurd (none-some handle e)
given_is answer.OutOfBlock handle e = absurd (none-some handle e)
given_is answer.Busy handle e = absurd (none-some handle e)
given_is answer.NothingInHand handle e = absurd (none-some handle e)
given_is answer.NotHeld handle e = absurd (none-some handle e)
given_is answer.NoSegment handle e = absurd (none-some handle e)

pub gives_block : {actor : Actor} {arena bytes : ℕ} {told : Answer} {was next : HostedWorker}
    (handle : Handle) → Serves (Allocates actor arena bytes told) was next
    → next.shared ≡ was.shared → Some handle ≡ block_in told
    → GivesBlock actor arena bytes (answer.Block handle) was next
gives_block {actor} {arena} {bytes} {told} {was} {next} handle s shared is = record {
  served = subst (λ a. Serves (Allocates actor arena bytes a) was next)
      (given_is told handle (sym is)) s;
  shared = shared;
}

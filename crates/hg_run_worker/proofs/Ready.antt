-- A worker is ready again behind a call.
use Rattle.std.proofs.Common.{◌≡◌, ◌==◌, ℕ, List, [], ◌∷◌, ◌++◌}
use Rattle.std.proofs.Common.{map, Option, refl, sym, ap, subst, ◌∙◌}
use Rattle.std.proofs.Common.{is_some, find}
use Rattle.std.proofs.lemmas.Simd.{map-map}
use Rattle.hg_place.specs.declared.Actor.{Actor}
use Rattle.hg_place.specs.declared.Handle.{Handle}
use Rattle.hg_place.specs.declared.Place.{Place}
use Rattle.hg_machine.specs.declared.Event.{Event}
use Rattle.hg_machine.specs.declared.Event.TheVariants as event
use Rattle.hg_machine.specs.declared.Answer.{Answer}
use Rattle.hg_segment.specs.Kept.{Kept}
use Rattle.hg_heap.specs.Held.{Held, Kind, is_held, kind_of, kinds}
use Rattle.hg_machine.specs.State.{State}
use Rattle.hg_agreement.specs.Agreement.{Agrees, Ties}
use Rattle.hg_agreement.specs.Views.{Shown, View}
use Rattle.hg_heap.specs.Ties.{shown_at}
use Rattle.hg_heap.specs.Policies.{AreOf}
use Rattle.hg_heap.proofs.PolicyKept.{kinds_keep_policy}
use Rattle.hg_heap.proofs.Founds.{held_by}
use Rattle.hg_run_table.specs.declared.segment.RunSegment.{RunSegment}
use Rattle.hg_roles.specs.Roles.{of_worker}
use Rattle.hg_run_table.specs.declared.part.Part.{Part}
use Rattle.hg_run_table.specs.Seated.{HaveRoles}
use Rattle.hg_run_table.specs.Calls.{IsWorkers, first_log, log_in}
use Rattle.hg_run_worker.specs.AtWork.{IsAtWork, number_in, worker_view}
use Rattle.hg_run_worker.specs.AtWork.{view_in, hand_after, HasCalledHere, HasCalledLeaving, HasCalledFree, HasOwn, HoldsSame, IsReady, KeepsRest, KeepsWith}
use Rattle.hg_run_worker.specs.declared.worker.RunWorker.{RunWorker}
use Rattle.hg_run_table.specs.declared.table.RunSeat.{RunSeat}
use Rattle.hg_run_table.specs.declared.table.RunTable.{RunTable}
use Rattle.std.specs.Arc.{arc_value}
use Rattle.hg_run_worker.specs.Lent.{HasComeBack, IsLent, IsTiedStep}
use Rattle.hg_run_worker.proofs.Course.{at_work, course_kinds, logged, met, tied, view_back}

pub rest_twice : (old mid new : RunWorker) → KeepsRest old mid → KeepsRest mid new → KeepsRest old new
rest_twice old mid new one two = record {
  table = two.table ∙ one.table;
  policy = two.policy ∙ one.policy;
  number = two.number ∙ one.number;
  own = two.own ∙ one.own;
  hand = two.hand ∙ one.hand;
}

-- who keeps the rest keeps what is in hand
pub kept_hand : (old new : RunWorker) → KeepsRest old new → KeepsWith old.hand old new
kept_hand old new rest =
    record { table = rest.table; policy = rest.policy; number = rest.number; now = rest.hand }

-- Who keeps table, policy and number is ready where it is at work by these, its own seat is of the table, and its
-- segments are as the policy has them
pub ready_by : {hand : Option Handle} (old new : RunWorker) (xs : List (Kept RunSegment))
    → (arc_value old.table).table.shared.key ≡ old.policy
    → HasOwn (arc_value old.table).table.shared.table_id new.own → KeepsWith hand old new
    → new.heap.segments ≡ xs → AreOf number_in old.policy xs
    → IsAtWork (arc_value old.table).table.shared.table_id old.policy old.number hand xs new.call
    → IsReady new
ready_by old new xs key own rest now of work = record {
  work =
      subst (λ (T : Type 0). T)
      (λ i.
      IsAtWork (sym rest.table i).table.shared.table_id (sym rest.policy i) (sym rest.number i)
      (sym rest.now i) (sym now i) new.call)
      work;
  own = subst (λ (t : RunTable). HasOwn t.table.shared.table_id new.own) (sym rest.table) own;
  of = subst (λ (T : Type 0). T) (λ i. AreOf number_in (sym rest.policy i) (sym now i)) of;
  key = ap (λ (t : RunTable). t.table.shared.key) rest.table ∙ key ∙ sym rest.policy;
}

-- and again where it keeps the rest
pub ready_from : (old new : RunWorker) (xs : List (Kept RunSegment)) → IsReady old → KeepsRest old new
    → new.heap.segments ≡ xs → AreOf number_in old.policy xs
    → IsAtWork (arc_value old.table).table.shared.table_id old.policy old.number old.hand xs new.call
    → IsReady new
ready_from old new xs ready rest now of work =
    ready_by old new xs ready.key
    (subst (HasOwn (arc_value old.table).table.shared.table_id) (sym rest.own) ready.own)
    (kept_hand old new rest) now of work

pub ready_again : (old new : RunWorker) → IsReady old → KeepsRest old new
    → kinds number_in new.heap.segments ≡ kinds number_in old.heap.segments
    → IsAtWork (arc_value old.table).table.shared.table_id old.policy old.number old.hand
    new.heap.segments new.call → IsReady new
ready_again old new ready rest same =
    ready_from old new new.heap.segments ready rest refl
    (kinds_keep_policy number_in old.policy old.heap.segments new.heap.segments same ready.of)

-- and where its part alone has made a call
pub still_ready : (old new : RunWorker) → IsReady old → KeepsRest old new
    → new.heap.segments ≡ old.heap.segments
    → new.call.seat.table_id ≡ old.call.seat.table_id → new.call.seat.me.0.lives ≡ []
    → IsWorkers new.call (view_in old) → IsReady new
still_ready old new ready rest now same bare worker =
    ready_from old new old.heap.segments ready rest now ready.of
    (record {
      same = same ∙ ready.work.same;
      bare = bare;
      worker = worker;
      seated = ready.work.seated;
    })

-- and has what it had, by its segments
pub view_with : {hand : Option Handle} (old new : RunWorker) → KeepsWith hand old new
    → view_in new ≡ worker_view old.policy old.number hand new.heap.segments
view_with old new rest =
    λ i. worker_view (rest.policy i) (rest.number i) (rest.now i) new.heap.segments

pub view_again : (old new : RunWorker) → KeepsRest old new
    → view_in new ≡ worker_view old.policy old.number old.hand new.heap.segments
view_again old new rest = view_with old new (kept_hand old new rest)

-- the same segments are held where kinds stay
pub held_same : (old new : List (Kept RunSegment)) → kinds number_in new ≡ kinds number_in old
    → (segment : ℕ) → is_held number_in new segment ≡ is_held number_in old segment
held_same old new same segment =
    held_by number_in new segment
    ∙ ap (λ (ns : List ℕ). is_some (find (λ n. n == segment) ns))
    (sym (map-map (λ k. k.number) (kind_of number_in) new)
    ∙ ap (map (λ (k : Kind). k.number)) same
    ∙ map-map (λ k. k.number) (kind_of number_in) old)
    ∙ sym (held_by number_in old segment)

pub holds_same : (old new : RunWorker)
    → kinds number_in new.heap.segments ≡ kinds number_in old.heap.segments → HoldsSame old new
holds_same old new = held_same old.heap.segments new.heap.segments

-- a call that is tied at a step is made
pub has_called : {asked : List (List Event)} {ys zs : List (Kept RunSegment)} {segment : ℕ}
    (old new : RunWorker)
    (l : IsLent (arc_value old.table).table.shared.table_id old.policy old.number old.hand asked segment
    old.heap.segments old.call ys) {e : Event} (is_asked : asked ≡ (e ∷ []) ∷ []) {place : Place}
    {word left : ℕ} {a : Answer} (s : IsTiedStep old.policy segment place word left e a ys zs)
    → IsReady old → KeepsRest old new → HasComeBack segment zs new.call new.heap.segments
    → HasCalledHere e a old new
has_called old new l {e} is_asked {place} {word} {left} {a} s ready rest back =
    let same = course_kinds l is_asked s old.below back in
    record {
      called = record {
        ready = ready_again old new ready rest same (at_work l is_asked s old.below back);
        log = logged l is_asked s old.below back;
        rest = rest;
      };
      holds = holds_same old new same;
      tied =
          let was = met l is_asked s old.below in
          record {
            shown = shown_at place word;
            left = shown_at place left;
            state = was.0;
            met = was.1;
            ties =
                subst (λ (v : View). Ties (view_in old) (shown_at place word) e a v (shown_at place left))
                (sym (view_again old new rest ∙ view_back l is_asked s old.below back))
                (tied l is_asked s old.below);
          };
    }

-- a call that its part alone has made, which changes nothing but the log
pub decided_here : {event : Event} {answer : Answer} {shown left : Option Shown} (old new : RunWorker)
    → IsReady old → KeepsRest old new → new.heap.segments ≡ old.heap.segments
    → new.call.seat.table_id ≡ old.call.seat.table_id → new.call.seat.me.0.lives ≡ []
    → IsWorkers new.call (view_in old) → log_in new.call ≡ log_in old.call ++ (event, answer) ∷ []
    → ((m : State) × Agrees m (view_in old) shown)
    → Ties (view_in old) shown event answer (view_in old) left → HasCalledHere event answer old new
decided_here {event} {answer} {shown} {left} old new ready rest now same bare worker log was tied = record {
  called = record { ready = still_ready old new ready rest now same bare worker; log = log; rest = rest };
  holds = holds_same old new (ap (kinds number_in) now);
  tied = record {
    shown = shown;
    left = left;
    state = was.0;
    met = was.1;
    ties =
        subst (λ (v : View). Ties (view_in old) shown event answer v left)
        (sym (view_again old new rest ∙ ap (worker_view old.policy old.number old.hand) now)) tied;
  };
}

-- the same worker, but for its own seat
pub view_beside : (old new : RunWorker) → KeepsWith old.hand old new → new.heap ≡ old.heap
    → view_in new ≡ view_in old
view_beside old new rest heap =
    view_with old new rest
    ∙ ap (λ (h : Held RunSegment). worker_view old.policy old.number old.hand h.segments) heap

-- a call that its part has made beside its own seat, which leaves this in hand
pub decided_beside : {event : Event} {answer : Answer} (old new : RunWorker)
    (hand : Option Handle) → IsReady old → KeepsWith hand old new
    → HasOwn (arc_value old.table).table.shared.table_id new.own → new.heap ≡ old.heap
    → new.call.seat.table_id ≡ old.call.seat.table_id → new.call.seat.me.0.lives ≡ []
    → IsWorkers new.call (worker_view old.policy old.number hand old.heap.segments)
    → log_in new.call ≡ log_in old.call ++ (event, answer) ∷ [] → HasCalledLeaving hand event answer old new
decided_beside old new hand ready rest own heap same bare worker log =
    let now : new.heap.segments ≡ old.heap.segments = ap (λ (h : Held RunSegment). h.segments) heap in
    record {
      ready =
          ready_by old new old.heap.segments ready.key own rest now ready.of
          (record {
            same = same ∙ ready.work.same;
            bare = bare;
            worker = worker;
            seated = ready.work.seated;
          });
      log = log;
      rest = rest;
    }

-- a Free that its part has made so
pub freed_beside : {shown left : Option Shown} {actor : Actor} {handle : Handle} {answer : Answer}
    (old new : RunWorker)
    → HasCalledLeaving (hand_after answer handle old.hand) (event.Free actor handle) answer old new
    → new.heap ≡ old.heap → ((m : State) × Agrees m (view_in old) shown)
    → Ties (view_in old) shown (event.Free actor handle) answer
    (worker_view old.policy old.number (hand_after answer handle old.hand) old.heap.segments) left
    → HasCalledFree actor handle answer old new
freed_beside {shown} {left} {actor} {handle} {answer} old new called heap was tied =
    let now : new.heap.segments ≡ old.heap.segments = ap (λ (h : Held RunSegment). h.segments) heap in
    let hand : Option Handle = hand_after answer handle old.hand in
    record {
      called = called;
      holds = holds_same old new (ap (kinds number_in) now);
      tied = record {
        shown = shown;
        left = left;
        state = was.0;
        met = was.1;
        ties =
            subst (λ (v : View). Ties (view_in old) shown (event.Free actor handle) answer v left)
            (sym
            (view_with old new called.rest
            ∙ ap (worker_view old.policy old.number hand) now)) tied;
      };
    }

-- one that moves no segment leaves what was in hand
pub freed_here : {actor : Actor} {handle : Handle} {answer : Answer} (old new : RunWorker)
    → hand_after answer handle old.hand ≡ old.hand
    → HasCalledHere (event.Free actor handle) answer old new → HasCalledFree actor handle answer old new
freed_here old new is here = record {
  called = record {
    ready = here.called.ready;
    log = here.called.log;
    rest = record {
      table = here.called.rest.table;
      policy = here.called.rest.policy;
      number = here.called.rest.number;
      now = here.called.rest.hand ∙ sym is;
    };
  };
  holds = here.holds;
  tied = here.tied;
}

-- and one that is refused, by a word or without one, which leaves what was in hand
pub refused_beside : {shown left : Option Shown} {actor : Actor} {handle : Handle} {told : Answer}
    (answer : Answer) (old new : RunWorker) → answer ≡ told → IsReady old → hand_after answer handle old.hand ≡ old.hand
    → KeepsWith old.hand old new
    → HasOwn (arc_value old.table).table.shared.table_id new.own → new.heap ≡ old.heap
    → new.call.seat.table_id ≡ old.call.seat.table_id → new.call.seat.me.0.lives ≡ []
    → IsWorkers new.call (view_in old)
    → log_in new.call ≡ log_in old.call ++ (event.Free actor handle, answer) ∷ []
    → ((m : State) × Agrees m (view_in old) shown)
    → Ties (view_in old) shown (event.Free actor handle) answer (view_in old) left
    → HasCalledFree actor handle told old new
refused_beside {shown} {left} {actor} {handle} answer old new is ready stays rest own heap same bare worker log was tied =
    let view : (hand : Option Handle) → View =
    λ hand. worker_view old.policy old.number hand old.heap.segments in
    subst (λ (a : Answer). HasCalledFree actor handle a old new) is
    (freed_beside old new
    (decided_beside old new (hand_after answer handle old.hand) ready
    (record {
      table = rest.table;
      policy = rest.policy;
      number = rest.number;
      now = rest.now ∙ sym stays;
    })
    own heap same bare
    (subst (λ (hand : Option Handle). IsWorkers new.call (view hand)) (sym stays) worker) log)
    heap was
    (subst
    (λ (hand : Option Handle).
    Ties (view_in old) shown (event.Free actor handle) answer (view hand) left)
    (sym stays) tied))

-- a part that stays in its seat has what it had
pub workers_stay : (old new : RunSeat) (view : View) → new.seat.me.0.run ≡ old.seat.me.0.run
    → IsWorkers old view → IsWorkers new view
workers_stay old new view same has =
    subst (λ (run : List Part). HaveRoles run (of_worker view (first_log run) ∷ [])) (sym same) has

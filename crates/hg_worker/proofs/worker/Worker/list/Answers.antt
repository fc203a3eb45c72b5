use Rattle.std.proofs.Common.{◌≡◌, ◌+◌, ◌<◌, ◌++◌, List, [], ◌∷◌, length, take, sym, ap, subst, ◌∙◌}
use Rattle.std.proofs.Common.{arith, true}
use Rattle.std.proofs.lemmas.List.{take_more}
use Rattle.std.proofs.lemmas.List.Elements.{All-same}
use Rattle.hg_machine.specs.declared.Row.{Row}
use Rattle.hg_place.specs.declared.Place.{Place}
use Rattle.hg_heap.specs.Held.{is_held}
use Rattle.hg_worker.specs.declared.state.WorkerState.{WorkerState}
use Rattle.hg_worker.specs.Listing.{open_places}
use Rattle.hg_worker.specs.Seats.{number_in, records_in, part_of_seat}
use Rattle.hg_worker.specs.Workers.{had, Lists}
use Rattle.hg_worker.proofs.Listings.{looks_then, open_are_held}
use Rattle.hg_worker.proofs.Records.{all_goes, all_held}
use Rattle.hg_worker.proofs.worker.Worker.list.Goals as goal

pub loop-place-preserved : goal.loop-place-preserved
loop-place-preserved g c =
    let s = c.args.self.now in
    let new = c.look_into.new.self in
    let so_far = c.loop-place.invariant in
    let places = c.deref-place-items.result.now in
    let at = c.loop-place.place-index in
    let place = c.place-item.result in
    let look = c.look_into.ensures.look in
    let inside : at < length places = omega arith in
    let one_more : take (at + 1) places ≡ take at places ++ place ∷ [] =
    take_more places at place inside
    ∙ ap (λ (p : Place). take at places ++ p ∷ []) (sym c.place-item.is) in
    let rest = c.look_into.ensures.rest in
    record {
      listed =
          subst (λ (ps : List Place). Lists c.args.actor ps c.look_into.new.rows.items s new)
          (sym one_more)
          (subst (λ (rows : List Row). Lists c.args.actor (take at places ++ place ∷ []) rows s new)
          (sym look.2)
          (looks_then number_in records_in part_of_seat c.args.actor (take at places) place
          c.loop-place.rows.items look.0 (had s) (had c.loop-place.self) (had new) so_far.listed
          look.1));
      kept = look.1.5 ∙ so_far.kept;
      queues = c.look_into.ensures.queues ∙ so_far.queues;
      rest = record {
        policy = rest.policy ∙ so_far.rest.policy;
        number = rest.number ∙ so_far.rest.number;
        hand = rest.hand ∙ so_far.rest.hand;
      };
      room = c.look_into.ensures.room ∙ so_far.room;
      few = omega arith;
    }

pub returns-clause-home : goal.returns-clause-home
returns-clause-home g c = all_goes number_in records_in _ _ c.loop-place.invariant.kept

pub look_into-requires-clause-held : goal.look_into-requires-clause-held
look_into-requires-clause-held g c =
    let s = c.args.self.now in
    let place = c.place-item.result in
    let segments = s.inner.value.heap.segments in
    let held : Place → Type 0 = λ p. is_held number_in segments p.segment ≡ true in
    all_held number_in records_in segments c.loop-place.self.inner.value.heap.segments
    c.loop-place.invariant.kept place.segment
    ∙ subst held (sym c.place-item.is)
    (All-same held c.deref-place-items.result.now (open_places number_in records_in segments)
    (c.deref-place-items.ensures.value ∙ c.in_ok-places.ensures
    ∙ ap (λ (w : WorkerState). open_places number_in records_in w.heap.segments)
    c.deref.ensures)
    (open_are_held number_in records_in segments) c.loop-place.place-index place
    c.loop-place-test.true)

use Rattle.std.proofs.Common.{◌≡◌, suc, List, [], ◌∷◌, ◌++◌, slice_get, refl, sym, ap, subst, ◌∙◌}
use Rattle.std.specs.Vec.Iter.{into_iter_items}
use Rattle.std.specs.List.{AllZip}
use Rattle.std.proofs.lemmas.List.{nil_from_length}
use Rattle.hg_roles.specs.Roles.{Role}
use Rattle.hg_run_table.specs.declared.table.RunSeat.{RunSeat}
use Rattle.hg_run_table.specs.JoinedCalls.{IsOthers}
use Rattle.hg_run_worker.specs.Ending.{HasGathered}
use Rattle.hg_run_worker.proofs.Gathered.{seats_all, seats_more}
use Rattle.hg_run_worker.proofs.ending.RunEnd.parts.Goals as goal

pub loop-seat-init : goal.loop-seat-init
loop-seat-init c =
    let gives : into_iter_items c.into_iter-seat-iterator.result ≡ c.args.seats.items =
    c.into_iter-seat-iterator.ensures.into_iter_gives.0 in
    record {
      same = refl;
      of_it = λ k seat at.
          c.requires.of_it k seat (ap (λ (ss : List RunSeat). slice_get ss k) (sym gives) ∙ at);
      gathered = λ id roles theirs has parts. (
        roles,
        theirs,
        has,
        subst (λ (ss : List RunSeat). AllZip IsOthers ss theirs) (sym gives) parts,
        refl,
      );
    }

pub part-requires-clause-of_it : goal.part-requires-clause-of_it
part-requires-clause-of_it c =
    c.loop-seat.invariant.of_it 0 c.in-Some.seat
    (ap (λ (ss : List RunSeat). slice_get ss 0) c.in-Some.ensures.steps.0)

pub loop-seat-preserved : goal.loop-seat-preserved
loop-seat-preserved c =
    let was = c.loop-seat.invariant in
    let steps = c.in-Some.ensures.steps.0 in
    record {
      same = c.part.ensures.same ∙ was.same;
      of_it = λ k seat at.
          was.of_it (suc k) seat (ap (λ (ss : List RunSeat). slice_get ss (suc k)) steps ∙ at);
      gathered = λ id roles theirs has parts.
          let before = was.gathered id roles theirs has parts in
          let more = seats_more before.0 before.1 c.in-Some.seat (into_iter_items c.next.new.self)
          (subst (λ (ss : List RunSeat). AllZip IsOthers ss before.1) steps before.3) in (
            before.0 ++ more.0 ∷ [],
            more.1,
            c.part.ensures.gathered id before.0 more.0 before.2 more.2,
            more.3,
            more.4 ∙ before.4,
          );
    }

pub returns-clause-gathered : goal.returns-clause-gathered
returns-clause-gathered c id roles theirs has parts =
    let all = c.loop-seat.invariant.gathered id roles theirs has parts in
    subst (λ (rs : List Role). HasGathered id rs c.loop-seat.self)
    (seats_all all.0 all.1
    (subst (λ (ss : List RunSeat). AllZip IsOthers ss all.1) (nil_from_length (into_iter_items c.loop-seat.seat-iterator) (sym c.loop-seat.seat-iterator.rest.ok.0 ∙ c.in-None.ensures.steps.0)) all.3)
    ∙ all.4)
    all.2

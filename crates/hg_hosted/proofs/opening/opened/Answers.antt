use Rattle.std.proofs.Common.{◌∙◌, ap, sym, subst}
use Rattle.atomic_table.specs.Seated.{TableId}
use Rattle.hg_machine.specs.Policy.{Policy}
use Rattle.hg_hosted.specs.New.{AreNewHosted}
use Rattle.hg_hosted.specs.Shared.{table_of_shared}
use Rattle.hg_hosted.specs.Places.{HaveSamePlaces}
use Rattle.hg_hosted.specs.declared.shared.Shared.{Shared}
use Rattle.hg_hosted.proofs.Coming.{none_left, none_noted}
use Rattle.hg_hosted.proofs.Named.{table_is}
use Rattle.hg_hosted.proofs.Reaching.{places_back, places_then}
use Rattle.hg_hosted.proofs.opening.opened.Goals as goal

pub made-requires-clause-left : goal.made-requires-clause-left
made-requires-clause-left g c = none_left _ c.in_ok-came.ensures.items

pub made-requires-clause-noted : goal.made-requires-clause-noted
made-requires-clause-noted g c =
    none_noted _ _ (c.hosted.ensures.taken ∙ c.in_ok-shared.ensures.taken)

pub returns : goal.returns
returns g c =
    let workers = c.in_ok-workers.workers.items in
    let table = ap table_of_shared c.made.ensures.shared ∙ table_is c.in_ok-workers.ensures.of in
    record {
      serves = c.made.ensures.policy ∙ c.in_ok-parts.ensures.policy;
      out = ap (λ v. v.items) c.made.ensures.came ∙ c.in_ok-came.ensures.items;
      new = subst
          (λ (p : Policy). AreNewHosted p (table_of_shared c.made.result.shared) workers)
          (sym c.requires.policy)
          (subst (λ (t : TableId). AreNewHosted g.N.ServiceName.policy t workers) (sym table)
          c.in_ok-workers.ensures.new);
      places = λ k worker at. subst (λ (s : Shared). HaveSamePlaces s worker.shared) (sym c.made.ensures.shared)
          (places_then (places_back c.hosted.ensures.own_places) (c.in_ok-workers.ensures.places k worker at));
    }

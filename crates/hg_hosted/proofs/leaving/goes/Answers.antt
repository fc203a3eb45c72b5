use Rattle.std.proofs.Common.{is_some, sym, ap, subst, ◌∙◌}
use Rattle.std.proofs.lemmas.Option.{none-some}
use Rattle.hg_table.specs.Named.{table_of_worker}
use Rattle.hg_hosted.specs.Parking.{KnowsName}
use Rattle.hg_hosted.specs.Shared.{AreOfService}
use Rattle.hg_hosted.proofs.leaving.goes.Goals as goal

pub made-requires-clause-of : goal.made-requires-clause-of
made-requires-clause-of c =
    let own = c.args.state in
    let of = c.requires.of in
    subst
    (λ o. AreOfService o.value.policy (table_of_worker o.value.seat) record {
      segments = c.args.shared.segments;
      lists = c.args.shared.lists;
      left = c.goes_to.new.left;
    }) (sym c.in-Some.ensures.back)
    record {
      segments = of.segments;
      segments_kept = of.segments_kept;
      left = subst (KnowsName own.value.policy (table_of_worker own.value.seat))
          (sym c.goes_to.ensures.known) of.left;
      left_kept = λ part is. absurd (none-some _ (sym c.goes_to.ensures.kept ∙ is));
      all = of.all;
    }

pub made-requires-clause-home : goal.made-requires-clause-home
made-requires-clause-home c =
    let home = c.requires.home in
    let nothing = home.left ∙ ap is_some c.requires.settled.left in
    record {
      segments = home.segments;
      left = c.goes_to.ensures.home nothing ∙ sym (ap is_some c.goes_to.ensures.kept);
      lists = home.lists;
    }

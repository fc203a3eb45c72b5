use Rattle.std.proofs.Common.{◌≡◌, ◌++◌, ◌∙◌, None, Some, option_to_list, ap, sym, subst, rules}
use Rattle.std.proofs.lemmas.Option.{none-some, same_Some}
use Rattle.crossbeam_queue.specs.Passes.{view}
use Rattle.hg_hosted.specs.Coming.{AreNoted, HaveLeft, StayCome}
use Rattle.hg_hosted.specs.Parking.{KnowsName}
use Rattle.hg_hosted.proofs.Coming.{come_then, come_with, left_with, noted_more, noted_still, there_with}
use Rattle.hg_hosted.proofs.Named.{comes_of}
use Rattle.hg_hosted.proofs.closing.gather.Goals as goal

pub returns-in_default-clause-noted : goal.returns-in_default-clause-noted
returns-in_default-clause-noted g c =
    let none : c.take.result ≡ None = search rules in
    noted_more c.take.result c.loop.left.kept _ _ c.loop.came.items c.take.ensures.taken
    (λ part own is state. absurd (none-some part (sym none ∙ is))) c.loop.invariant.noted

pub loop-preserved : goal.loop-preserved
loop-preserved g c =
    let before = c.loop.invariant in
    let one = c.in-Some.one in
    let came = c.loop.came.items in
    let all = came ++ option_to_list one.state in
    let now : c.come_in.new.came.items ≡ all = search rules in
    let there : c.take.result ≡ Some one = search rules in
    let knows =
    subst (KnowsName g.N.ServiceName.policy g.N.TableName.table) (sym before.known)
    c.requires.knows in
    record {
      known = c.take.ensures.known ∙ before.known;
      kept = λ part is. absurd (none-some part (sym c.take.ensures.kept ∙ is));
      came = subst (StayCome c.args.came.now.items) (sym now)
          (come_then _ came one.state before.came);
      left = subst (HaveLeft g.N.ServiceName.policy g.N.TableName.table) (sym now)
          (left_with came one.state before.left
          (λ own is. comes_of _ knows c.in-Some.ensures.part own is));
      noted = subst (AreNoted (view c.take.new.self.pass).taken) (sym now)
          (noted_more c.take.result c.loop.left.kept _ _ all c.take.ensures.taken
          (λ part own is state. there_with came one.state own
          (ap (λ p. p.state) (same_Some one part (sym there ∙ is)) ∙ state))
          (noted_still _ came all (come_with came one.state) before.noted));
      room = search rules;
      place = c.take.ensures.place ∙ before.place;
    }

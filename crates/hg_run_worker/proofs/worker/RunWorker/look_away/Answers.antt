use Rattle.std.proofs.Common.{Some, ap, sym, ◌∙◌}
use Rattle.hg_place.specs.Slots.{slot_in}
use Rattle.hg_agreement.specs.Seen.{refusal_in}
use Rattle.hg_run_worker.specs.AtWork.{view_in}
use Rattle.hg_run_worker.proofs.Reach.{out_of_sight}
use Rattle.hg_run_worker.proofs.worker.RunWorker.look_away.Goals as goal

pub refuse_away-requires-clause-refused : goal.refuse_away-requires-clause-refused
refuse_away-requires-clause-refused g c = λ word.
    ap (refusal_in (view_in c.args.self.now) (slot_in word)) c.requires.event
    ∙ out_of_sight c.args.self.now c.args.actor c.args.place word c.requires.away
    ∙ ap Some (sym (c.requires.refused word))

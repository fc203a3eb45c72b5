use Rattle.std.proofs.Common.{◌++◌, List, sym, ap, ◌∙◌, append-nil}
use Rattle.hg_machine.specs.declared.Row.{Row}
use Rattle.hg_worker.specs.Answers.{rows_in}
use Rattle.hg_worker.specs.Seats.{number_in, records_in, part_of_seat}
use Rattle.hg_worker.proofs.Listings.{is_look, no_rows}
use Rattle.hg_worker.proofs.worker.Worker.look_into.Goals as goal

pub returns-in_default-clause-look : goal.returns-in_default-clause-look
returns-in_default-clause-look g c = (
  c.look.result,
  is_look number_in records_in part_of_seat c.look.ensures.look
      (c.look.ensures.any_hand c.requires.held) c.look.ensures.once c.look.ensures.kept,
  sym (append-nil c.args.rows.now.items)
      ∙ ap (λ (more : List Row). c.args.rows.now.items ++ more)
      (sym (no_rows c.look.result c.in_default.not-Listed)),
)

pub returns-clause-look : goal.returns-clause-look
returns-clause-look g c = (
  c.look.result,
  is_look number_in records_in part_of_seat c.look.ensures.look
      (c.look.ensures.any_hand c.requires.held) c.look.ensures.once c.look.ensures.kept,
  c.push_reserved.ensures.items
      ∙ ap (λ (more : List Row). c.args.rows.now.items ++ more)
      (sym (ap rows_in c.in-Listed.is)),
)

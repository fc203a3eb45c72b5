use Rattle.std.proofs.Common.{Some, ap, ◌∙◌}
use Rattle.hg_bank_service_ffi.proofs.bank_part_opening.hand_bank_worker.Goals as goal

pub returns-in-Ok-worker_for : goal.returns-in-Ok-worker_for
returns-in-Ok-worker_for c =
    let told = c.plain-in-Ok-worker_for.ensures in let there = c.of-in-Ok-worker_for.ensures in let given = c.in-Ok-worker_for.ensures.given in
    record {
      held = λ is. absurd (c.in-Err.ensures.0 (ap (λ host. host.mark) c.replace.ensures.value ∙ is));
      given = λ isnt done. (given.0, told, (there.0, there.1 ∙ ap Some given.1), given.2);
      none = λ isnt other. absurd (other (ap (λ reply. reply.status) told));
    }

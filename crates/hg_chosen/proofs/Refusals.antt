-- A refusal leaves lists and queues.
use Rattle.hg_agreement.specs.Parts.{kept_of}
use Rattle.hg_choice.proofs.Refusing.{refusal_leaves}
use Rattle.hg_events.specs.Core.{parts_of}
use Rattle.hg_chosen.specs.Refused.{RefusedIsChosen}
use Rattle.std.proofs.Common.{sym}

pub refused_is_chosen : RefusedIsChosen
refused_is_chosen core worker event answer is step =
    let leaves = refusal_leaves (kept_of (parts_of core)) worker event answer is in
    record {
      step = step;
      chosen = leaves.2;
      lists = sym leaves.0;
      queues = sym leaves.1;
    }

use Rattle.std.proofs.Common.{◌≡◌, [], map}
use Rattle.clap.specs.Words.{fault_of}
use Rattle.clap.specs.Kinds.{HasKind}
use Rattle.hg_job.proofs.CommandLemmas.{at_free, refused_by}
use Rattle.hg_job.proofs.OptionLemmas.{refused_first, told_alone}
use Rattle.hg_job.proofs.matches.answered.Goals as goal

pub returns-in-Ok : goal.returns-in-Ok
returns-in-Ok c =
    let words = map (λ w. w.now) c.args.words.now in
    told_alone _ _ _
    (at_free (λ a. fault_of a words ≡ []) _ c.in_ok-command.ensures c.in-Ok.ensures.kinds)
    c.told.ensures

pub returns : goal.returns
returns c =
    let words = map (λ w. w.now) c.args.words.now in
    refused_first _ _ _
    (refused_by _ c.in-Err.error _ c.fault_in.ensures.memory c.fault_in.ensures.told
    (at_free (λ a. HasKind (fault_of a words) c.in-Err.error) _ c.in_ok-command.ensures c.in-Err.ensures.kinds))

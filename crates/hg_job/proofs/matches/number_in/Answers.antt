use Rattle.std.proofs.Common.{sym, subst, unwrap_or}
use Rattle.std.specs.Str.Parse.{ParsesUnsigned, ExplainsUnsignedError, HasUnsignedDigitsIfOk}
use Rattle.clap.proofs.WalkLemmas.{one_text-rows}
use Rattle.clap.specs.Words.{found_of}
use Rattle.hg_job.specs.Jobs.{IsNumber}
use Rattle.hg_job.proofs.NumberLemmas.{is_number}
use Rattle.hg_job.proofs.matches.number_in.Goals as goal

pub returns : goal.returns
returns c =
    let read = is_number (λ bs r. ParsesUnsigned 32 10 bs r × ExplainsUnsignedError 10 bs r × HasUnsignedDigitsIfOk bs r)
    _ c.get_one.result c.get_one.ensures.none c.get_one.ensures.value (λ t x given. given.0) in
    let rows = subst (λ o. IsNumber o (unwrap_or c.get_one.result 0)) (one_text-rows (found_of c.args.matches.now) c.args.name.now) read in
    subst (IsNumber _) (sym c.unwrap_or.ensures) rows

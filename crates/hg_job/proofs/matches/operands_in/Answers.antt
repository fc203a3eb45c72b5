use Rattle.std.proofs.Common.{◌∙◌, ap, [], map, unwrap_or}
use Rattle.std.proofs.lemmas.Result.{IfOk-weaker}
use Rattle.clap.proofs.WalkLemmas.{raw_values-rows}
use Rattle.clap.specs.Words.{found_of}
use Rattle.hg_job.proofs.matches.operands_in.Goals as goal

-- what was read, and what the rows have
pub returns-in-Some : goal.returns-in-Some
returns-in-Some c =
    let rows = ap (λ o. unwrap_or o []) (c.in-Some.ensures ∙ raw_values-rows (found_of c.args.matches.now) c.args.name.now) in
    IfOk-weaker c.copy_of.result _ _ (λ copy same. ap (map (λ value. value.now)) same ∙ rows) c.copy_of.ensures

pub returns-in-None : goal.returns-in-None
returns-in-None c =
    let rows = ap (λ o. unwrap_or o []) (c.in-None.ensures ∙ raw_values-rows (found_of c.args.matches.now) c.args.name.now) in
    ap (map (λ value. value.now)) c.new.ensures.items ∙ rows

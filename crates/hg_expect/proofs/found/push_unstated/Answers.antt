use Rattle.std.proofs.Common.{◌++◌, ◌∙◌, ap, codes, append_assoc}
use Rattle.std.proofs.lemmas.Result.{on_ok_weaker}
use Rattle.hg_expect.specs.Findings.{unstated_warning}
use Rattle.hg_expect.proofs.found.push_unstated.Goals as goal

-- the parts stand one behind another
pub returns : goal.returns
unfolding unstated_warning
returns c =
    let out = c.args.out.now.items in
    let told = c.args.told.now in
    let end = codes ": no line states an answer\n" in
    let front = codes "warning: " in
    on_ok_weaker c.push-3.result
    (λ is. is
    ∙ ap (λ xs. xs ++ end) (c.in_ok-push-2.ensures ∙ ap (λ xs. xs ++ told) c.in_ok-push.ensures)
    ∙ append_assoc (out ++ front) told end ∙ append_assoc out front (told ++ end)) c.push-3.ensures

use Rattle.std.proofs.lemmas.Result.{err_from_is_err_and}
use Rattle.toml.specs.View.{table_view}
use Rattle.hg_policy_text.specs.Faults.{fault_of}
use Rattle.hg_policy_text.specs.Document.{tables_of, heads_in}
use Rattle.hg_policy_text.proofs.Chains.{bind-fails}
use Rattle.hg_policy_text.proofs.HeadsIn.{policy_at-heads}
use Rattle.hg_policy_text.proofs.document.policy.Goals as goal

pub returns-in_err-heads : goal.returns-in_err-heads
returns-in_err-heads c =
    let p = err_from_is_err_and c.from_residual.result c.from_residual.ensures.1 in
    let document = table_view c.args.table.now in
    rw (p.1, p.2, policy_at-heads document) (bind-fails (fault_of c.in_err-heads.field-0.0) (heads_in document) tables_of c.in_err-heads.ensures.heads)

pub returns : goal.returns
returns c = rw (policy_at-heads (table_view c.args.table.now), c.in_ok-heads.ensures.heads) c.tables.ensures

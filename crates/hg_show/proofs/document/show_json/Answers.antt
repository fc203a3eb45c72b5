use Rattle.std.proofs.lemmas.Result.{err_from_is_err_and}
use Rattle.hg_policy_text.specs.Document.{document_of, policy_at, tree_of}
use Rattle.hg_policy_text.specs.Faults.{fault_of, not_toml, or_fault}
use Rattle.hg_policy_text.proofs.Chains.{bind-fails}
use Rattle.hg_show.proofs.document.show_json.Goals as goal

-- a document without a tree is no policy
pub returns-in_err-table-clause-faulty : goal.returns-in_err-table-clause-faulty
unfolding document_of
returns-in_err-table-clause-faulty c =
    let p = err_from_is_err_and c.from_residual-in_err-table.result c.from_residual-in_err-table.ensures.1 in
    rw (p.1, p.2)
    (bind-fails (fault_of c.in_err-table.field-0.0) (or_fault not_toml (tree_of c.args.text.now)) policy_at c.in_err-table.ensures)

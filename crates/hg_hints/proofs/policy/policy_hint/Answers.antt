use Rattle.toml.specs.View.{table_view}
use Rattle.hg_policy_text.specs.Faults.{fault_of}
use Rattle.hg_hints.proofs.Hinted.{fault_told, if_both, nothing_told, refusal_told, row_below, tree_read, tree_refused}
use Rattle.hg_hints.proofs.policy.policy_hint.Goals as goal

pub returns-in-Ok-read_policy : goal.returns-in-Ok-read_policy
returns-in-Ok-read_policy c =
    let t = table_view c.in-Ok.document in
    nothing_told c.args.bytes.now c.new.result.items t (tree_read c.args.bytes.now t c.in-Ok.ensures.ok.0 c.in-Ok.ensures.ok.1)
    c.in-Ok-read_policy.field-0 c.in-Ok-read_policy.ensures c.new.ensures.items

pub told-requires : goal.told-requires
told-requires c = row_below c.args.bytes.now c.in_ok-row-in-Err-read_policy.row c.in_ok-row-in-Err-read_policy.ensures

pub returns-in-Ok : goal.returns-in-Ok
returns-in-Ok c =
    let t = table_view c.in-Ok.document in
    if_both c.told.result
    (λ hint told some. fault_told c.args.bytes.now hint.items t (tree_read c.args.bytes.now t c.in-Ok.ensures.ok.0 c.in-Ok.ensures.ok.1)
    (fault_of c.in-Err-read_policy.fault) c.in_ok-row-in-Err-read_policy.row c.in_ok-row-in-Err-read_policy.ensures c.in-Err-read_policy.ensures told some) c.told.ensures.told c.told.ensures.memory

pub returns : goal.returns
returns c =
    if_both c.refused.result
    (λ hint refused known. refusal_told c.args.bytes.now hint.items (tree_refused c.args.bytes.now (c.in-Err.ensures.refused known)) refused)
    c.refused.ensures.refused c.refused.ensures.memory

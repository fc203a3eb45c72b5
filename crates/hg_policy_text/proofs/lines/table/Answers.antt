use Rattle.std.proofs.Common.{map, take, ap, ◌∙◌}
use Rattle.hg_machine.specs.Policy.{no_rights}
use Rattle.hg_policy_text.specs.ReadTables.{line_of}
use Rattle.hg_policy.specs.Rights.{rights_of, all_rights}
use Rattle.hg_policy_text.proofs.LineTable.{row_by, rows_more}
use Rattle.hg_policy_text.proofs.lines.table.Goals as goal

pub loop-owner-preserved : goal.loop-owner-preserved
loop-owner-preserved c =
    let n = c.args.tenants in
    let owner = c.loop-owner.owner in
    let table = c.loop-owner.table.items in
    let grants = map (line_of n) c.args.grants.now in
    let denies = map (line_of n) c.args.denies.now in
    record {
      granted =
          rw c.in_ok-push.ensures.items
          (rows_more n owner (λ standing. standing.granted) all_rights grants table c.beside.result c.loop-owner.invariant.granted
          (ap (λ held. map rights_of (take n held)) c.beside.ensures.granted ∙ c.row-granted.ensures ∙ ap (λ own. row_by own grants n owner) c.each.ensures));
      forbidden =
          rw c.in_ok-push.ensures.items
          (rows_more n owner (λ standing. standing.forbidden) no_rights denies table c.beside.result c.loop-owner.invariant.forbidden
          (ap (λ held. map rights_of (take n held)) c.beside.ensures.forbidden ∙ c.row-forbidden.ensures ∙ ap (λ own. row_by own denies n owner) c.none.ensures));
    }

use Rattle.std.proofs.Common.{◌++◌, codes, count_by, ap, ◌∙◌}
use Rattle.std.specs.Prelude.{decimal}
use Rattle.std.specs.List.{flat_map}
use Rattle.std.proofs.lemmas.Result.{on_ok_weaker}
use Rattle.hg_reasons.specs.Counts.{before_denials, behind_number, count_row, denials_text, is_denied, is_denied_to_none, tenant_row, tenants_in}
use Rattle.hg_reasons.proofs.Rows.{pieces}
use Rattle.hg_reasons.proofs.counts.push_denials.Goals as goal

pub returns : goal.returns
unfolding denials_text
returns c =
    let old = c.args.out.now.items in
    let form = c.args.form in
    let front = before_denials form in
    let lines = c.args.lines.now in
    let policy = c.args.policy.now in
    let none = codes "(no tenant)" in
    on_ok_weaker c.push_row.result
    (λ last. pieces old front (decimal (count_by is_denied lines)) (behind_number form) (flat_map (tenant_row form policy lines) (tenants_in policy))
    (count_row form none (count_by (is_denied_to_none policy) lines)) _ _ _ _
    (c.in_ok-push_count.ensures ∙ ap (λ n. (old ++ c.before_denials.result.now) ++ decimal n) c.denials.ensures ∙ ap (λ w. (old ++ w) ++ decimal (count_by is_denied lines)) c.before_denials.ensures)
    (c.in_ok-push.ensures ∙ ap (λ w. c.push_count.new.out.items ++ w) c.behind_number.ensures)
    c.in_ok-push_tenants.ensures
    (last ∙ ap (λ n. c.push_tenants.new.out.items ++ count_row form none n) c.denials_to_none.ensures))
    c.push_row.ensures

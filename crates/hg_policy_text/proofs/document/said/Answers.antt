use Rattle.std.proofs.Common.{◌≡◌, Ok, length, map, ap, sym, ◌∙◌, refl}
use Rattle.std.proofs.lemmas.Result.{err_from_is_err_and}
use Rattle.toml.specs.View.{table_view}
use Rattle.hg_policy_text.specs.ReadTables.{all_named_of, line_of, heads_of}
use Rattle.hg_policy_text.specs.Lines.{lines_in}
use Rattle.hg_policy_text.specs.Document.{said_in}
use Rattle.hg_policy_text.proofs.document.said.Goals as goal

pub returns-in_err-standings : goal.returns-in_err-standings
returns-in_err-standings c =
    let p = err_from_is_err_and c.from_residual-in_err-standings.result c.from_residual-in_err-standings.ensures.1 in
    rw (p.1, p.2) tt

pub returns : goal.returns
unfolding said_in
returns c =
    let heads = heads_of c.args.heads.now in
    let n = length c.args.named.now.tenants.entries in
    let names = all_named_of c.args.named.now in
    let grants_read : lines_in names.tenants names.groups heads.grants ≡ Ok (map (line_of n) c.in_ok-grants.grants.items) = ap (λ entries. lines_in names.tenants names.groups (map (λ entry. table_view entry.now) entries)) (sym c.as_slice.ensures.value) ∙ c.in_ok-grants.ensures in
    let denies_read : lines_in names.tenants names.groups heads.denies ≡ Ok (map (line_of n) c.in_ok-denies.denies.items) = ap (λ entries. lines_in names.tenants names.groups (map (λ entry. table_view entry.now) entries)) (sym c.as_slice-2.ensures.value) ∙ c.in_ok-denies.ensures in
    rw (grants_read, denies_read, c.in_ok-standings.ensures.granted, c.in_ok-standings.ensures.forbidden, c.as_slice-3.ensures.value, c.as_slice-4.ensures.value) refl

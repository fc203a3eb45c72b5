use Rattle.std.proofs.Common.{◌≡◌, Some, None, length, sym, ap, ◌∙◌}
use Rattle.std.specs.Prelude.{position, is_none}
use Rattle.toml.specs.Data.{as_table}
use Rattle.toml.specs.View.{view}
use Rattle.hg_policy_text.specs.FaultyRow.{element_in}
use Rattle.hg_policy_text.proofs.AloneRefused.{element_in-no_array, element_in-array}
use Rattle.hg_policy_text.proofs.faulty.element_row.Goals as goal

pub returns-in_err-elements : goal.returns-in_err-elements
returns-in_err-elements c =
    c.from_residual-in_err-elements.ensures
    ∙ sym (element_in-no_array c.args.table (view c.in_ok-field.field-0.now) c.in_err-elements.ensures)
    ∙ ap (element_in c.args.table) c.in_ok-field.ensures

pub returns-in_err-number : goal.returns-in_err-number
returns-in_err-number c =
    let vs = c.in_ok-elements.elements.now.items in
    let none : position (λ v. is_none (as_table (view v))) vs ≡ None = sym (rw c.as_slice.ensures.value at c.in_err-number.ensures) in
    let is = element_in-array c.args.table (view c.in_ok-field.field-0.now) vs c.in_ok-elements.ensures in
    c.from_residual-in_err-number.ensures ∙ sym (rw none at is) ∙ ap (element_in c.args.table) c.in_ok-field.ensures

pub returns : goal.returns
returns c =
    let vs = c.in_ok-elements.elements.now.items in
    let first : position (λ v. is_none (as_table (view v))) vs ≡ Some c.in_ok-number.number = sym (rw c.as_slice.ensures.value at c.in_ok-number.ensures) in
    let long : c.len.result ≡ length vs = c.len.ensures ∙ sym c.as_slice.ensures.len ∙ ap length c.as_slice.ensures.value in
    let is = element_in-array c.args.table (view c.in_ok-field.field-0.now) vs c.in_ok-elements.ensures in
    rw long (sym (rw first at is) ∙ ap (element_in c.args.table) c.in_ok-field.ensures)

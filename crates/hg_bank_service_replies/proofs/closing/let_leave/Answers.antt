use Rattle.std.proofs.Common.{Some, ap, sym, ◌∙◌, rules}
use Rattle.std.proofs.lemmas.Option.{slice_get-get_or}
use Rattle.hg_bank_service_replies.specs.Closing.{PlaceLeaves}
use Rattle.hg_service_replies.proofs.LetLeave.{each_next, rest_next}
use Rattle.hg_bank_service_replies.proofs.closing.let_leave.Goals as goal

pub loop-at-preserved : goal.loop-at-preserved
loop-at-preserved c =
    let old = c.args.workers.now.items in
    let now = c.loop-at.workers.items in
    let at = c.loop-at.at in
    let held = c.index_mut.result.now in
    let left = c.let_one_leave.new.place in
    let before = c.loop-at.invariant in
    let there = slice_get-get_or now at held (search rules) ∙ ap Some (sym c.index_mut.ensures.value) in
    record {
      all = search rules;
      each = each_next PlaceLeaves old now at held left there c.let_one_leave.ensures before.rest before.each;
      rest = rest_next PlaceLeaves old now at held left there c.let_one_leave.ensures before.rest;
    }

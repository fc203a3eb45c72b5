use Rattle.std.proofs.Common.{◌∙◌, sym, ap, arith, slice_index}
use Rattle.hg_place.specs.declared.standing.Standing.TheVariants.{Home}
use Rattle.hg_place.specs.Cells.{standing_in, word_in}
use Rattle.hg_place.specs.Standings.{slot_of}
use Rattle.hg_place.proofs.CellLists.{seen_at}
use Rattle.hg_place.proofs.plain.PlainWords.told.Goals as goal

pub returns-clause-record : goal.returns-clause-record
returns-clause-record c =
    let s = c.args.self.now in
    let page = c.args.place.page_below in
    let index = c.args.place.index_below in
    c.standing_in.ensures
    ∙ ap standing_in (c.get-cell.ensures ∙ ap (λ n. slice_index s.cells n) c.spot.ensures.value)
    ∙ sym (seen_at standing_in s.cells (slot_of c.args.place) (Home 0) (omega arith))

pub returns-clause-word : goal.returns-clause-word
returns-clause-word c =
    let s = c.args.self.now in
    let page = c.args.place.page_below in
    let index = c.args.place.index_below in
    c.word_in.ensures
    ∙ ap word_in (c.get-cell.ensures ∙ ap (λ n. slice_index s.cells n) c.spot.ensures.value)
    ∙ sym (seen_at word_in s.cells (slot_of c.args.place) 0 (omega arith))

use Rattle.std.proofs.Common.{◌∙◌, sym, ap, Some, get_or}
use Rattle.hg_segment.specs.Parted.{plain_number}
use Rattle.hg_heap.proofs.Founds.{found_of, number_is}
use Rattle.hg_heap.proofs.PartCall.{word_there}
use Rattle.hg_heap.proofs.parting.Heap+PlainWords.word.Goals as goal

pub word-requires : goal.word-requires
word-requires c =
    sym (number_is plain_number c.args.self.now.segments c.args.place.segment c.in-Some.found
    c.index.result.now
    (found_of plain_number c.args.self.now.segments c.args.place.segment c.in-Some.found
    c.index.result.now c.in-Some.ensures.some
    (c.index.ensures ∙ ap (λ h. get_or h.segments c.in-Some.found c.index.result.now)
    c.self.view_is)))

pub returns : goal.returns
returns c =
    word_there c.args.self.now.segments c.in-Some.found 0 c.args.place c.index.result.now
    c.index.result.now
    (found_of plain_number c.args.self.now.segments c.args.place.segment c.in-Some.found
    c.index.result.now c.in-Some.ensures.some
    (c.index.ensures ∙ ap (λ h. get_or h.segments c.in-Some.found c.index.result.now)
    c.self.view_is))
    ∙ ap Some (sym c.word.ensures)

use Rattle.std.proofs.Common.{◌∙◌, sym, ap, Some, get_or, slice_index}
use Rattle.hg_place.specs.declared.plain.PlainWords.{PlainWords}
use Rattle.hg_place.specs.Plain.{plain_records, plain_words}
use Rattle.hg_place.specs.Standings.{standing_at, slot_of}
use Rattle.hg_segment.specs.Kept.{Kept}
use Rattle.hg_segment.specs.Parted.{plain_number}
use Rattle.hg_heap.proofs.Founds.{found_of, number_is, told_of}
use Rattle.hg_heap.proofs.parting.Heap+PlainWords.told.Goals as goal

pub told-requires : goal.told-requires
told-requires c =
    sym (number_is plain_number c.args.self.now.segments c.args.place.segment c.in-Some.found
    c.index.result.now
    (found_of plain_number c.args.self.now.segments c.args.place.segment c.in-Some.found
    c.index.result.now c.in-Some.ensures.some
    (c.index.ensures ∙ ap (λ h. get_or h.segments c.in-Some.found c.index.result.now)
    c.self.view_is)))

pub returns-clause-record : goal.returns-clause-record
returns-clause-record c =
    told_of plain_number
    (λ (k : Kept PlainWords). standing_at (plain_records k.slots) (slot_of c.args.place))
    c.args.self.now.segments c.args.place.segment c.in-Some.found
    c.index.result.now c.in-Some.ensures.some
    (c.index.ensures ∙ ap (λ h. get_or h.segments c.in-Some.found c.index.result.now)
    c.self.view_is)
    ∙ ap Some (sym c.told.ensures.record)

pub returns-clause-word : goal.returns-clause-word
returns-clause-word c =
    told_of plain_number
    (λ (k : Kept PlainWords). slice_index (plain_words k.slots) (slot_of c.args.place))
    c.args.self.now.segments c.args.place.segment c.in-Some.found
    c.index.result.now c.in-Some.ensures.some
    (c.index.ensures ∙ ap (λ h. get_or h.segments c.in-Some.found c.index.result.now)
    c.self.view_is)
    ∙ ap Some (sym c.told.ensures.word)

use Rattle.std.proofs.Common.{ap, arith}
use Rattle.hg_place.specs.Standings.{standing_at, slot_of, is_home}
use Rattle.hg_segment.proofs.KeptBlocks.{class_there, class_read}
use Rattle.hg_segment.proofs.WentHome.{live_open, homed}
use Rattle.hg_segment.proofs.segment.Segment.close_here.Goals as goal

pub unreachable-requires : goal.unreachable-requires
unreachable-requires g c =
    let i = c.self.inside in let place = c.args.place in
    let was = live_open (standing_at (g.S.SlotWords.records i.slots) (slot_of place)) c.args.expected c.requires.live (g.met.S.SlotWords.fits i.slots (slot_of place) c.args.expected (omega (arith, place.page_below, place.index_below)) c.in-Ok.ensures.ok.0).1 in
    class_there _ _ _ _ _ _ place.page place.index c.self.invariant place.page_below place.index_below (ap is_home was) c.get.result c.get.ensures c.in_default.is

pub lower-requires-clause-left : goal.lower-requires-clause-left
lower-requires-clause-left g c =
    let i = c.self.inside in let place = c.args.place in
    let was = live_open (standing_at (g.S.SlotWords.records i.slots) (slot_of place)) c.args.expected c.requires.live (g.met.S.SlotWords.fits i.slots (slot_of place) c.args.expected (omega (arith, place.page_below, place.index_below)) c.in-Ok.ensures.ok.0).1 in
    let class = class_read _ place.page c.in-Some.class c.get.result c.get.ensures c.in-Some.is in
    (homed _ _ _ _ _ _ _ _ _ _ _ _ _ _ _ _ _ _ c.self.invariant place.page_below place.index_below (g.met.S.SlotWords.sized i.slots) class was (omega (arith, c.word_owner.ensures.value, c.word_owner.ensures.below)) c.in-Ok.ensures.ok.2
    c.index_mut-page.ensures.value c.word_generation.ensures c.put_back.ensures.linked c.put_back.ensures.returned c.put_back.ensures.others c.put_back.ensures.shape c.word_owner.ensures.value c.block_bytes.ensures).left

pub invariant_of-self-in-Ok : goal.invariant_of-self-in-Ok
invariant_of-self-in-Ok g c =
    let i = c.self.inside in let place = c.args.place in
    let was = live_open (standing_at (g.S.SlotWords.records i.slots) (slot_of place)) c.args.expected c.requires.live (g.met.S.SlotWords.fits i.slots (slot_of place) c.args.expected (omega (arith, place.page_below, place.index_below)) c.in-Ok.ensures.ok.0).1 in
    let class = class_read _ place.page c.in-Some.class c.get.result c.get.ensures c.in-Some.is in
    rw c.lower.ensures ((homed _ _ _ _ _ _ _ _ _ _ _ _ _ _ _ _ _ _ c.self.invariant place.page_below place.index_below (g.met.S.SlotWords.sized i.slots) class was (omega (arith, c.word_owner.ensures.value, c.word_owner.ensures.below)) c.in-Ok.ensures.ok.2
    c.index_mut-page.ensures.value c.word_generation.ensures c.put_back.ensures.linked c.put_back.ensures.returned c.put_back.ensures.others c.put_back.ensures.shape c.word_owner.ensures.value c.block_bytes.ensures).right)

pub returns-in-Some-clause-lists : goal.returns-in-Some-clause-lists
returns-in-Some-clause-lists g c =
    let i = c.self.inside in let place = c.args.place in
    let was = live_open (standing_at (g.S.SlotWords.records i.slots) (slot_of place)) c.args.expected c.requires.live (g.met.S.SlotWords.fits i.slots (slot_of place) c.args.expected (omega (arith, place.page_below, place.index_below)) c.in-Ok.ensures.ok.0).1 in
    let class = class_read _ place.page c.in-Some.class c.get.result c.get.ensures c.in-Some.is in
    rw (← c.self.view_is) ((homed _ _ _ _ _ _ _ _ _ _ _ _ _ _ _ _ _ _ c.self.invariant place.page_below place.index_below (g.met.S.SlotWords.sized i.slots) class was (omega (arith, c.word_owner.ensures.value, c.word_owner.ensures.below)) c.in-Ok.ensures.ok.2
    c.index_mut-page.ensures.value c.word_generation.ensures c.put_back.ensures.linked c.put_back.ensures.returned c.put_back.ensures.others c.put_back.ensures.shape c.word_owner.ensures.value c.block_bytes.ensures).lists)

pub returns-in-Some-clause-blocks : goal.returns-in-Some-clause-blocks
returns-in-Some-clause-blocks g c =
    let i = c.self.inside in let place = c.args.place in
    let was = live_open (standing_at (g.S.SlotWords.records i.slots) (slot_of place)) c.args.expected c.requires.live (g.met.S.SlotWords.fits i.slots (slot_of place) c.args.expected (omega (arith, place.page_below, place.index_below)) c.in-Ok.ensures.ok.0).1 in
    let class = class_read _ place.page c.in-Some.class c.get.result c.get.ensures c.in-Some.is in
    rw (← c.self.view_is) ((homed _ _ _ _ _ _ _ _ _ _ _ _ _ _ _ _ _ _ c.self.invariant place.page_below place.index_below (g.met.S.SlotWords.sized i.slots) class was (omega (arith, c.word_owner.ensures.value, c.word_owner.ensures.below)) c.in-Ok.ensures.ok.2
    c.index_mut-page.ensures.value c.word_generation.ensures c.put_back.ensures.linked c.put_back.ensures.returned c.put_back.ensures.others c.put_back.ensures.shape c.word_owner.ensures.value c.block_bytes.ensures).blocks)

use Rattle.hg_heap.proofs.MeetCall.{met_keeps}
use Rattle.hg_heap.proofs.laws.meeting_keeps.Goals as goal

pub returns : goal.returns
returns g c = λ place word old new other after m.
    met_keeps g.S.SlotWords.number g.S.SlotWords.records g.S.SlotWords.shows g.S.SlotWords.meets
    place word old new other after m

use Rattle.std.proofs.Common.{length}
use Rattle.hg_remote.specs.Remote.{contents}
use Rattle.hg_heap.specs.Allowed.{IsQuietIn}
use Rattle.hg_heap.proofs.TakeLoop.{AreTaken}
use Rattle.hg_heap.proofs.heap.Heap.take.Given as goal

abbrev pub invariant-loop-page : goal.invariant-loop-page
invariant-loop-page g l =
    let w = g.S.SlotWords in
    record {
      taken : AreTaken w.number w.records w.shows w.steps l.segment l.fn.remote l.remote l.fn.self
          l.self l.count;
      quiet : IsQuietIn w.number w.quiet l.segment l.self.segments;
    }

abbrev pub decreases-loop-page : goal.decreases-loop-page
decreases-loop-page g l = length (contents l.remote)

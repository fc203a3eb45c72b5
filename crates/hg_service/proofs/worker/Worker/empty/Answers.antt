use Rattle.std.proofs.Common.{sym, subst, ◌∙◌, arith}
use Rattle.hg_worker.specs.Seats.{number_in, part_of_seat}
use Rattle.hg_worker.specs.Workers.{had, had_in}
use Rattle.hg_service.specs.Behind.{Delivers}
use Rattle.hg_service.proofs.Leaving.{abandons_all, abandons_more, ends_nothing, gone_more, holds_nothing}
use Rattle.hg_service.proofs.worker.Worker.empty.Goals as goal

pub loop-segment-preserved : goal.loop-segment-preserved
loop-segment-preserved g c =
    let so_far = c.loop-segment.invariant in
    let segment = c.loop-segment.segment in
    let worker = c.loop-segment.self in
    let one = c.abandon.ensures in
    record {
      sent = subst (λ hand. Delivers c.args.self.now.own.inner.value.hand c.deliver-delivery.result hand)
          (sym one.rest.hand) so_far.sent;
      abandoned = abandons_more number_in segment c.abandon.result c.args.self.now.own.inner.value.heap
          worker.own.inner.value.heap c.abandon.new.self.own.inner.value.heap so_far.abandoned one.abandoned;
      gone = gone_more number_in segment worker.own.inner.value.heap.segments
          c.abandon.new.self.own.inner.value.heap.segments so_far.gone one.gone one.others;
      ended = one.lives.own ∙ so_far.ended;
      policy = one.rest.policy ∙ so_far.policy;
      number = one.rest.number ∙ so_far.number;
      shared = one.shared ∙ so_far.shared;
    }

pub returns-clause-abandoned : goal.returns-clause-abandoned
returns-clause-abandoned g c =
    abandons_all number_in c.loop-segment.segment c.args.self.now.own.inner.value.heap
    c.loop-segment.self.own.inner.value.heap (omega arith) c.loop-segment.invariant.abandoned

pub returns-clause-nothing : goal.returns-clause-nothing
returns-clause-nothing g c =
    let own = c.loop-segment.self.own.inner.value in
    holds_nothing number_in own.policy own.heap.segments c.loop-segment.segment
    (omega (arith, own.sound.few_segments)) own.of c.loop-segment.invariant.gone

pub returns-clause-lives : goal.returns-clause-lives
returns-clause-lives g c =
    let own = c.loop-segment.self.own.inner.value in
    let so_far = c.loop-segment.invariant in
    ends_nothing number_in part_of_seat (had c.args.self.now.own) (had_in own) so_far.ended
    (holds_nothing number_in own.policy own.heap.segments c.loop-segment.segment
    (omega (arith, own.sound.few_segments)) own.of so_far.gone)

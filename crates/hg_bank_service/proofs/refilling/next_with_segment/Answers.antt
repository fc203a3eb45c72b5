use Rattle.std.proofs.Common.{◌≡◌, length, refl, ap, ◌∙◌, arith}
use Rattle.hg_machine.specs.declared.Answer.TheVariants as answer
use Rattle.hg_bank_service.specs.Order.{turn}
use Rattle.hg_bank_service.specs.Refilling.{AnswersRefill}
use Rattle.hg_bank_service.proofs.Taking.{is_busy, is_given, sought_in_vain}
use Rattle.hg_bank_service.proofs.Searches.{none_asked}
use Rattle.hg_bank_service.proofs.refilling.next_with_segment.Goals as goal

pub loop-before-init : goal.loop-before-init
loop-before-init c = record {
  seeking = record {
    asked = none_asked (AnswersRefill c.args.arena answer.NoSegment) c.args.current
        c.args.workers.now.items;
    of = c.requires.of;
    counted = c.requires.counted;
  };
}

pub serve_there-told-requires-clause-there : goal.serve_there-told-requires-clause-there
serve_there-told-requires-clause-there c =
    omega (
      arith,
      c.core_at-core.ensures.there,
      c.len-count.ensures,
      c.loop-before.invariant.seeking.asked.all,
      c.args.workers.now.ok.0,
    )

pub serve_there-told-requires-clause-few : goal.serve_there-told-requires-clause-few
serve_there-told-requires-clause-few c =
    omega (arith, c.requires.few, c.loop-before.invariant.seeking.asked.all)

pub returns-in_default : goal.returns-in_default
returns-in_default c =
    let count : length c.args.workers.now.items ≡ c.len-count.result =
    omega (arith, c.len-count.ensures, c.args.workers.now.ok.0) in
    is_busy c.loop-before.invariant.seeking
    (omega (arith, c.requires.current, c.args.workers.now.ok.0))
    (ap (λ n. turn c.args.current n c.core_at-core.result) count ∙ c.core_at-core.ensures.turn)
    c.in_default.ensures.served c.in_default.ensures.counted refl

pub returns-in-Some-segment_of : goal.returns-in-Some-segment_of
returns-in-Some-segment_of c =
    let count : length c.args.workers.now.items ≡ c.len-count.result =
    omega (arith, c.len-count.ensures, c.args.workers.now.ok.0) in
    is_given c.loop-before.invariant.seeking
    (omega (arith, c.requires.current, c.args.workers.now.ok.0))
    (ap (λ n. turn c.args.current n c.core_at-core.result) count ∙ c.core_at-core.ensures.turn)
    c.in-Some.ensures.served c.in-Some.ensures.counted c.in-Some.answer
    c.in-Some-segment_of.segment refl c.in-Some-segment_of.ensures

pub loop-before-preserved : goal.loop-before-preserved
loop-before-preserved c =
    let count : length c.args.workers.now.items ≡ c.len-count.result =
    omega (arith, c.len-count.ensures, c.args.workers.now.ok.0) in
    record {
      seeking = sought_in_vain c.loop-before.invariant.seeking
          (omega (arith, c.requires.current, c.args.workers.now.ok.0))
          (ap (λ n. turn c.args.current n c.core_at-core.result) count
          ∙ c.core_at-core.ensures.turn) c.in-Some.ensures.served c.in-Some.ensures.counted
          c.in-Some.answer refl c.in_default-segment_of.ensures;
    }

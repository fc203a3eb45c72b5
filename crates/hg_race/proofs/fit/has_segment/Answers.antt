use Rattle.std.proofs.Common.{sym, ap, ◌∙◌, arith}
use Rattle.hg_machine.specs.Policy.{arena_of}
use Rattle.hg_race.specs.Fit.{is_first}
use Rattle.hg_race.proofs.Segments.{none_is_first, one_more, some_is_first}
use Rattle.hg_race.proofs.fit.has_segment.Goals as goal

pub loop-segment-preserved : goal.loop-segment-preserved
loop-segment-preserved c =
    one_more (λ k. is_first (arena_of c.args.policy.now k)) c.loop-segment.segment
    c.loop-segment.invariant
    (sym (ap is_first c.arena_of.ensures) ∙ (sym c.is_first.ensures ∙ c.if-is_first.false))

pub returns-then-is_first : goal.returns-then-is_first
returns-then-is_first c =
    sym (some_is_first c.args.policy.now.segments c.loop-segment.segment
    (sym (ap is_first c.arena_of.ensures) ∙ (sym c.is_first.ensures ∙ c.if-is_first.true)))

pub returns : goal.returns
returns c =
    sym (none_is_first c.args.policy.now.segments
    (λ k low. c.loop-segment.invariant k (omega (arith, low))))

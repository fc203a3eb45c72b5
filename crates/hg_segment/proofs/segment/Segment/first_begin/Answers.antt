use Rattle.std.proofs.Common.{◌≡◌, ◌<◌, ℕ, arith}
use Rattle.std.specs.Int.{bit_at}
use Rattle.hg_place.specs.Words.{bit_of}
use Rattle.hg_size.specs.Runs.{may_begin}
use Rattle.hg_segment.specs.Kept.{class_at}
use Rattle.hg_segment.proofs.FirstBegins.{all_left, found, one_less, none_left}
use Rattle.hg_segment.proofs.segment.Segment.first_begin.Goals as goal

pub loop-turn-init : goal.loop-turn-init
loop-turn-init g c =
    let told : (page : ℕ) → page < 16 → bit_at c.begins-begins.result page
    ≡ bit_of (may_begin (class_at c.args.self.now.classes) c.args.class page) =
    rw (← c.self.view_is) c.begins-begins.ensures in
    all_left _ _ _ _ told

pub returns-in_default-clause-none : goal.returns-in_default-clause-none
returns-in_default-clause-none g c =
    none_left _ _ _ _ _ c.loop-turn.invariant c.in_default.ensures.none

pub returns-then-has_vacant-clause-first : goal.returns-then-has_vacant-clause-first
returns-then-has_vacant-clause-first g c =
    found _ _ _ _ _ c.in-Some.page c.loop-turn.invariant c.in-Some.ensures.first
    (c.has_vacant.ensures.some c.if-has_vacant.true)

pub loop-turn-preserved : goal.loop-turn-preserved
loop-turn-preserved g c =
    one_less _ _ _ _ _ c.in-Some.page c.loop-turn.invariant c.in-Some.ensures.first _
    (c.has_vacant.ensures.none c.if-has_vacant.false) c.unmark-begins.ensures.inside
    c.unmark-begins.ensures.outside

pub returns-clause-none : goal.returns-clause-none
returns-clause-none g c = none_left _ _ _ _ _ c.loop-turn.invariant
    (λ page low. c.loop-turn.invariant.passed page (omega (arith, low, c.loop-turn-test.false)))

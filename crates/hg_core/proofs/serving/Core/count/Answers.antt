use Rattle.std.proofs.Common.{◌≡◌, ap, sym, ◌∙◌, arith, count_by}
use Rattle.std.specs.List.{range_with_len}
use Rattle.hg_core.specs.Kinds.{is_kind}
use Rattle.hg_core.proofs.KindsTold.{bit_low, byte_bit, next_counted}
use Rattle.hg_core.proofs.serving.Core.count.Goals as goal

pub overflow_add-count : goal.overflow_add-count
overflow_add-count c =
    omega (
      arith,
      c.loop-at.invariant.few,
      c.from-count.ensures ∙ byte_bit c.is_kind.result,
      bit_low c.is_kind.result,
    )

pub loop-at-preserved : goal.loop-at-preserved
loop-at-preserved c = record {
  counted = next_counted (is_kind c.args.self.now.state c.args.kind) c.args.first c.loop-at.at
      c.loop-at.count c.from-count.result c.is_kind.result c.loop-at.invariant.counted
      (ap (is_kind c.args.self.now.state c.args.kind) (sym c.place_at-place.ensures.number)
      ∙ sym c.is_kind.ensures)
      (c.from-count.ensures ∙ byte_bit c.is_kind.result);
  few = omega (
    arith,
    c.loop-at.invariant.few,
    c.from-count.ensures ∙ byte_bit c.is_kind.result,
    bit_low c.is_kind.result,
  );
}

pub returns : goal.returns
returns c =
    let all : c.loop-at.at ≡ c.args.many = omega arith in
    c.loop-at.invariant.counted
    ∙ ap (λ n. count_by (is_kind c.args.self.now.state c.args.kind)
    (range_with_len c.args.first n)) all

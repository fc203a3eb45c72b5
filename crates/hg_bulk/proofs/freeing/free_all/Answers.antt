use Rattle.std.proofs.Common.{◌≡◌, ◌+◌, ◌*◌, [], length, refl, sym, ap, subst, ◌∙◌, arith}
use Rattle.std.specs.List.{range_with_len}
use Rattle.hg_bulk.specs.Freeing.{FreesAmong}
use Rattle.hg_bulk.proofs.Later.{same_all, same_past, same_then}
use Rattle.hg_bulk.proofs.Frees.{frees_none, frees_more}
use Rattle.hg_bulk.proofs.freeing.free_all.Goals as goal

pub loop-segment-init : goal.loop-segment-init
loop-segment-init c = record {
  freed = frees_none c.args.core.now c.args.worker c.args.actor c.args.owner [] refl;
  later = same_all c.args.core.now.state 0;
  few = omega arith;
  kept = c.policy.ensures.kept;
}

pub loop-segment-preserved : goal.loop-segment-preserved
loop-segment-preserved c =
    let l = c.loop-segment in
    let here = c.free_segment-freed in record {
      freed =
          frees_more c.args.core.now l.core here.new.core c.args.worker c.args.actor c.args.owner 0
          (l.segment * 8192) 8192 (l.segment * 8192)
          ((l.segment + 1) * 8192) l.freed here.result (omega arith) (omega arith) l.invariant.later
          l.invariant.freed here.ensures.freed;
      later = same_past (same_then l.invariant.later here.ensures.later (omega arith))
          (omega arith);
      few = (let a = l.invariant.few in let b = here.ensures.few in omega arith);
      kept = here.ensures.kept;
    }

pub returns-clause-freed : goal.returns-clause-freed
returns-clause-freed c =
    let l = c.loop-segment in
    let s = c.args.core.now.state in
    let count : c.segments-segment-end.result ≡ length s.policy.segments =
    c.segments-segment-end.ensures.segments ∙ ap (λ p. length p.segments) c.policy.ensures.value in
    let end : l.segment * 8192 ≡ length s.records =
    (let a : l.segment ≡ c.segments-segment-end.result = omega arith in ap (λ n. n * 8192)
    (a ∙ count)) ∙ sym c.policy.ensures.kept.0.whole.records in
    subst (λ n. FreesAmong c.args.core.now c.args.worker c.args.actor c.args.owner
    (range_with_len 0 n) l.freed l.core) end l.invariant.freed

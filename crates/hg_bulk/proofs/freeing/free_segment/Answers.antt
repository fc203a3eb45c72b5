use Rattle.std.proofs.Common.{◌≡◌, ◌+◌, ◌*◌, [], refl, sym, subst, ◌∙◌, arith}
use Rattle.std.specs.List.{range_with_len}
use Rattle.hg_bulk.specs.Freeing.{FreesAmong}
use Rattle.hg_bulk.proofs.Later.{same_all, same_past, same_then}
use Rattle.hg_bulk.proofs.OwnBlockLemmas.{away_unlisted}
use Rattle.hg_bulk.proofs.Frees.{frees_none, frees_more}
use Rattle.hg_bulk.proofs.freeing.free_segment.Goals as goal

pub returns-then-not-holds : goal.returns-then-not-holds
returns-then-not-holds c = record {
  freed =
      frees_none c.args.core.now c.args.worker c.args.actor c.args.owner
      (range_with_len (c.args.segment * 8192) 8192)
      (away_unlisted c.args.core.now.state c.args.worker c.args.owner c.args.segment
      (sym c.holds.ensures ∙ c.if-not-holds.true));
  later = same_all c.args.core.now.state _;
  few = omega arith;
  kept = c.policy-policy.ensures.kept;
}

pub free_page-freed-requires-clause-held : goal.free_page-freed-requires-clause-held
free_page-freed-requires-clause-held c = rw c.loop-page.invariant.later.holders
    (sym c.holds.ensures ∙ c.if-not-holds.false)

pub loop-page-init : goal.loop-page-init
loop-page-init c = record {
  freed = frees_none c.args.core.now c.args.worker c.args.actor c.args.owner [] refl;
  later = same_all c.args.core.now.state _;
  few = omega arith;
  kept = c.policy-policy.ensures.kept;
}

pub loop-page-preserved : goal.loop-page-preserved
loop-page-preserved c =
    let l = c.loop-page in
    let first = c.args.segment * 8192 in
    let here = c.free_page-freed in record {
      freed =
          frees_more c.args.core.now l.core here.new.core c.args.worker c.args.actor c.args.owner
          first (l.page * 512) 512
          ((c.args.segment * 16 + l.page) * 512) ((l.page + 1) * 512) l.freed here.result
          (omega arith) (omega arith)
          (same_past l.invariant.later (omega arith)) l.invariant.freed here.ensures.freed;
      later = same_past (same_then l.invariant.later here.ensures.later (omega arith))
          (omega arith);
      few = (let a = l.invariant.few in let b = here.ensures.few in omega arith);
      kept = here.ensures.kept;
    }

pub returns-clause-freed : goal.returns-clause-freed
returns-clause-freed c =
    let l = c.loop-page in
    let end : l.page * 512 ≡ 8192 = omega arith in
    subst (λ n. FreesAmong c.args.core.now c.args.worker c.args.actor c.args.owner
    (range_with_len (c.args.segment * 8192) n) l.freed l.core) end l.invariant.freed

pub returns-clause-later : goal.returns-clause-later
returns-clause-later c = same_past c.loop-page.invariant.later (omega arith)

use Rattle.std.proofs.Common.{◌≡◌, ℕ, ◌+◌, ◌-◌, ◌*◌, [], ◌∷◌, refl, ap, subst, ◌∙◌, arith}
use Rattle.hg_machine.specs.State.{record_at}
use Rattle.hg_core.specs.BlockPlaces.{first_place}
use Rattle.hg_bulk.specs.Freeing.{FreesAmong}
use Rattle.hg_bulk.proofs.Later.{same_all, same_past, same_then}
use Rattle.hg_bulk.proofs.OwnBlockLemmas.{home_unlisted}
use Rattle.hg_bulk.proofs.Frees.{frees_none, frees_more, frees_past}
use Rattle.hg_bulk.proofs.freeing.free_page.Goals as goal

pub loop-index-init : goal.loop-index-init
loop-index-init c = record {
  freed = frees_none c.args.core.now c.args.worker c.args.actor c.args.owner [] refl;
  later = same_all c.args.core.now.state _;
  few = omega arith;
  kept = c.policy-policy.ensures.kept;
}

pub loop-index-preserved : goal.loop-index-preserved
loop-index-preserved c =
    let l = c.loop-index in
    let here = c.free_at-freed in
    let first = first_place c.args.segment c.args.page in
    let same : (c.from.result * 16 + c.from-2.result) * 512 + c.from-in-loop-index.result ≡ first
    + l.index =
    omega (arith, c.from.ensures, c.from-2.ensures, c.from-in-loop-index.ensures) in record {
      freed =
          frees_more c.args.core.now l.core here.new.core c.args.worker c.args.actor c.args.owner
          first l.index 1 (first + l.index)
          (l.index + 1) l.freed here.result refl refl l.invariant.later l.invariant.freed
          (subst (λ (n : ℕ). FreesAmong l.core c.args.worker c.args.actor c.args.owner (n ∷ [])
          here.result here.new.core) same here.ensures.freed);
      later = same_past (same_then l.invariant.later here.ensures.later (omega arith))
          (omega arith);
      few = (let a = l.invariant.few in let b = here.ensures.few in omega arith);
      kept = here.ensures.kept;
    }

pub returns-clause-freed : goal.returns-clause-freed
returns-clause-freed c =
    let l = c.loop-index in
    let s = c.args.core.now.state in
    let first = first_place c.args.segment c.args.page in
    let told = c.block_places-many.ensures in
    frees_past c.args.core.now l.core c.args.worker c.args.actor c.args.owner first l.index 512
    l.freed
    (let few = told.few in omega arith)
    (λ place from below.
    let there : place ≡ first + (place - first) = omega (arith, from) in
    home_unlisted s c.args.worker c.args.owner place
    (ap (λ (p : ℕ). (record_at s p).life) there
    ∙ told.home c.args.worker c.requires.held c.requires.page (place - first) (omega (arith, from))
    (omega (arith, from, below))))
    l.invariant.freed

pub returns-clause-later : goal.returns-clause-later
returns-clause-later c = same_past c.loop-index.invariant.later
    (let few = c.block_places-many.ensures.few in omega arith)

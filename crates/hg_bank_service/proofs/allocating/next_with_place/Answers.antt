use Rattle.std.proofs.Common.{◌≡◌, length, refl, ap, ◌∙◌, arith}
use Rattle.hg_bank.proofs.AllocLemmas.{size_is}
use Rattle.hg_bank_service.specs.Allocating.{RefusesBlock}
use Rattle.hg_bank_service.specs.Order.{turn}
use Rattle.hg_bank_service.specs.Sums.{charge_over}
use Rattle.hg_machine.specs.Request.{size_of}
use Rattle.hg_bank_service.proofs.Placing.{asked_in_vain, is_given}
use Rattle.hg_bank_service.proofs.Searches.{none_asked}
use Rattle.hg_bank_service.proofs.allocating.next_with_place.Goals as goal

pub loop-before-init : goal.loop-before-init
loop-before-init c = record {
  asking = record {
    asked = none_asked (RefusesBlock c.args.actor c.args.arena c.args.bytes) c.args.current
        c.args.workers.now.items;
    of = c.requires.of;
    counted = c.requires.counted;
  };
}

pub alloc_there-given-requires-clause-there : goal.alloc_there-given-requires-clause-there
alloc_there-given-requires-clause-there c =
    omega (
      arith,
      c.core_at-core.ensures.there,
      c.len-count.ensures,
      c.loop-before.invariant.asking.asked.all,
      c.args.workers.now.ok.0,
    )

pub alloc_there-given-requires-clause-few : goal.alloc_there-given-requires-clause-few
alloc_there-given-requires-clause-few c =
    omega (arith, c.requires.few, c.loop-before.invariant.asking.asked.all)

pub alloc_there-given-requires-clause-tenant : goal.alloc_there-given-requires-clause-tenant
alloc_there-given-requires-clause-tenant c =
    (size_is c.args.policy.now c.args.actor.0 c.args.arena c.args.bytes
    (charge_over c.args.workers.now.items c.args.actor.0) (size_of c.args.bytes) c.requires.fits).0

pub returns-in-Some : goal.returns-in-Some
returns-in-Some c =
    let count : length c.args.workers.now.items ≡ c.len-count.result =
    omega (arith, c.len-count.ensures, c.args.workers.now.ok.0) in
    is_given
    record {
      inside = omega (arith, c.requires.current, c.args.workers.now.ok.0);
      first = c.requires.counted;
      fits = c.requires.fits;
    }
    c.loop-before.invariant.asking
    (ap (λ n. turn c.args.current n c.core_at-core.result) count ∙ c.core_at-core.ensures.turn)
    c.in-Some.ensures.asked c.in-Some.ensures.counted _ refl refl

pub loop-before-preserved : goal.loop-before-preserved
loop-before-preserved c =
    let count : length c.args.workers.now.items ≡ c.len-count.result =
    omega (arith, c.len-count.ensures, c.args.workers.now.ok.0) in
    record {
      asking = asked_in_vain
          record {
            inside = omega (arith, c.requires.current, c.args.workers.now.ok.0);
            first = c.requires.counted;
            fits = c.requires.fits;
          }
          c.loop-before.invariant.asking
          (ap (λ n. turn c.args.current n c.core_at-core.result) count
          ∙ c.core_at-core.ensures.turn) c.in_default.ensures.asked
          c.in_default.ensures.counted refl;
    }

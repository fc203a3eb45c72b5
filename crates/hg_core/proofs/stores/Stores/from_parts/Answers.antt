use Rattle.std.proofs.Common.{refl, sym, subst, ◌≡◌}
use Rattle.hg_audit.specs.Handed.{core_in}
use Rattle.hg_core.specs.declared.stores.Stores.TheInside.{Inside}
use Rattle.hg_core.specs.Keeping.{IsKept, state_in}
use Rattle.hg_core.specs.Stored.{core_of, AreHolders}
use Rattle.hg_core.proofs.MadeOfParts.{same_core, are_holders}
use Rattle.hg_core.proofs.stores.Stores.from_parts.Goals as goal

pub invariant_of-result : goal.invariant_of-result
invariant_of-result c =
    let made : Inside = record {
      policy = c.args.parts.policy;
      heaps = c.into_boxed_slice.result;
      remotes = c.into_boxed_slice-2.result;
      pool = c.args.parts.pool;
      hands = c.into_boxed_slice-3.result;
      holders = c.holders-holders.result;
    } in
    let same : core_of made ≡ core_in c.args.parts =
    same_core made c.args.parts refl c.into_boxed_slice.ensures.items
    c.into_boxed_slice-2.ensures.items refl c.into_boxed_slice-3.ensures.items in
    record {
      kept = subst IsKept (sym same) c.requires;
      all = c.holders-holders.ensures.all;
      holders = subst (λ core. AreHolders c.holders-holders.result (state_in core)) (sym same)
          (are_holders (core_in c.args.parts) c.holders-holders.result c.requires.tidy
          c.requires.policy.few_segments c.holders-holders.ensures.all
          c.holders-holders.ensures.each);
    }

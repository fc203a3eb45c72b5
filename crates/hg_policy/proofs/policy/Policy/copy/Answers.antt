use Rattle.std.proofs.Common.{refl, ◌∙◌}
use Rattle.hg_policy.specs.declared.policy.Policy.TheInside.{Inside}
use Rattle.hg_policy.proofs.Copies.{same_policy, sound_too}
use Rattle.hg_policy.proofs.policy.Policy.copy.Goals as goal

-- what is put together
made : goal.In_ok-standings → Inside
made c = record {
  workers = c.self.inside.workers;
  max_generation = c.self.inside.max_generation;
  tenants = c.in_ok-tenants.tenants;
  arenas = c.in_ok-arenas.arenas;
  segments = c.in_ok-segments.segments;
  standings = c.in_ok-standings.standings;
}

pub invariant_of-result : goal.invariant_of-result
unfolding made
invariant_of-result c =
    sound_too c.self.inside (made c) refl refl c.in_ok-tenants.ensures c.in_ok-arenas.ensures (c.in_ok-segments.ensures.items ∙ c.as_slice.ensures.value) (c.in_ok-standings.ensures.items ∙ c.as_slice-2.ensures.value) c.self.invariant

pub returns : goal.returns
unfolding made
returns c =
    same_policy c.self.inside (made c) refl refl c.in_ok-tenants.ensures c.in_ok-arenas.ensures (c.in_ok-segments.ensures.items ∙ c.as_slice.ensures.value) (c.in_ok-standings.ensures.items ∙ c.as_slice-2.ensures.value)
    ∙ c.self.view_is

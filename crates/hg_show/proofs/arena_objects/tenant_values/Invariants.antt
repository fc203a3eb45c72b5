use Rattle.std.proofs.Common.{◌≡◌}
use Rattle.std.specs.List.{flat_map, range_with_len}
use Rattle.hg_show.specs.Json.{tenant_value}
use Rattle.hg_show.specs.Texts.{texts_in}
use Rattle.hg_show.proofs.arena_objects.tenant_values.Given as goal

-- the numbers so far are told
abbrev pub invariant-loop-tenant : goal.invariant-loop-tenant
invariant-loop-tenant l = texts_in l.values.items ≡ flat_map (tenant_value l.policy l.arena) (range_with_len 0 l.tenant)

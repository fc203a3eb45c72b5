use Rattle.std.proofs.Common.{◌≡◌, ◌++◌}
use Rattle.std.specs.List.{flat_map, range_with_len}
use Rattle.hg_show.specs.Warnings.{tenant_warnings}
use Rattle.hg_show.specs.Texts.{texts_in}
use Rattle.hg_show.proofs.warnings.warn_of_tenants.Given as goal

-- the numbers so far are told
abbrev pub invariant-loop-tenant : goal.invariant-loop-tenant
invariant-loop-tenant l = texts_in l.texts.items ≡ texts_in l.fn.texts.items ++ flat_map (tenant_warnings l.policy) (range_with_len 0 l.tenant)

use Rattle.std.proofs.Common.{◌≡◌, map}
use Rattle.std.specs.List.{range_with_len}
use Rattle.toml.specs.View.{view}
use Rattle.hg_show.specs.Rows.{names_in}
use Rattle.hg_show.specs.Json.{tenant_object}
use Rattle.hg_show.specs.Texts.{texts_in}
use Rattle.hg_show.proofs.tenant_objects.tenant_objects.Given as goal

-- the numbers so far are told
abbrev pub invariant-loop-tenant : goal.invariant-loop-tenant
invariant-loop-tenant l = texts_in l.texts.items ≡ map (tenant_object l.policy (names_in (map view l.arenas))) (range_with_len 0 l.tenant)

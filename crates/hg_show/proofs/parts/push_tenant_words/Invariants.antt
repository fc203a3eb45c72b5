use Rattle.std.proofs.Common.{◌≡◌, ◌++◌}
use Rattle.std.specs.List.{flat_map, range_with_len}
use Rattle.hg_show.specs.Parts.{tenant_word}
use Rattle.hg_show.proofs.parts.push_tenant_words.Given as goal

-- the numbers so far are told
abbrev pub invariant-loop-tenant : goal.invariant-loop-tenant
invariant-loop-tenant l = l.out.items ≡ l.fn.out.items ++ flat_map (tenant_word l.policy l.arena) (range_with_len 0 l.tenant)

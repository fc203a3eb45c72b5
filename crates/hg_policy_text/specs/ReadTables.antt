-- What the tables that are read of a document stand for.
use Rattle.std.specs.Prelude.{ℕ, List, length, map, string_bytes}
use Rattle.toml.specs.View.{table_view}
use Rattle.hg_policy.specs.Rights.{rights_of}
use Rattle.hg_policy.specs.TenantSets.{flags_of}
use Rattle.hg_policy.specs.Kept.{Named, tenants_of, names_of, admitted_of, granted_of, forbidden_of}
use Rattle.hg_policy.specs.declared.granted.Standing.{Standing}
use Rattle.hg_policy.specs.declared.tenant_set.TenantSet.{TenantSet}
use Rattle.hg_policy_text.specs.Groups as groups
use Rattle.hg_policy_text.specs.Lines as lines
use Rattle.hg_policy_text.specs.Heads as heads
use Rattle.hg_policy_text.specs.Arenas.{Arenas}
use Rattle.hg_policy_text.specs.Document.{Names, Said}
use Rattle.hg_policy_text.specs.declared.lines.Line.{Line}
use Rattle.hg_policy_text.specs.declared.heads.Heads.{Heads}
use Rattle.hg_policy_text.specs.declared.arenas.ArenaTables.{ArenaTables}
use Rattle.hg_policy_text.specs.declared.document.Named as document

abbrev pub arenas_of : ℕ → ArenaTables → Arenas
arenas_of tenants tables = record {
  names = names_of tables.named.entries;
  admitted = admitted_of tenants tables.named.entries;
  segments = tables.segments.items;
}

-- groups, by which of so many tenants are members
abbrev pub groups_of : ℕ → Named TenantSet → List groups.Group
groups_of tenants named =
    map (λ one. record { name = string_bytes one.0; members = flags_of tenants one.1 }) named

-- a line, by which of so many tenants it names
abbrev pub line_of : ℕ → Line → lines.Line
line_of tenants line = record {
  owners = flags_of tenants line.owners;
  to = flags_of tenants line.to;
  rights = rights_of line.rights;
}

-- whom and what is named
abbrev pub all_named_of : document.Named → Names
all_named_of named =
    let tenants = length named.tenants.entries in
    record {
      tenants = tenants_of named.tenants.entries;
      groups = groups_of tenants named.groups.entries;
      arenas = arenas_of tenants named.arenas;
    }

-- what is granted, and what is forbidden
abbrev pub said_of : ℕ → List (List Standing) → Said
said_of tenants table = record {
  granted = granted_of tenants table;
  forbidden = forbidden_of tenants table;
}

abbrev pub heads_of : Heads → heads.Heads
heads_of h = record {
  workers = h.workers;
  greatest = h.max_generation;
  tenants = map (λ entry. table_view entry.now) h.tenants.items;
  arenas = map (λ entry. table_view entry.now) h.arenas.items;
  groups = map (λ entry. table_view entry.now) h.groups.items;
  grants = map (λ entry. table_view entry.now) h.grants.items;
  denies = map (λ entry. table_view entry.now) h.denies.items;
}

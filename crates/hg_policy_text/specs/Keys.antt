-- The words of a document.
use Rattle.std.specs.Prelude.{ℕ, Bool, true, false, List, codes}
use Rattle.hg_policy_text.specs.declared.key.Key.{Key}
use Rattle.hg_policy_text.specs.declared.key.Key.TheVariants as key
use Rattle.hg_policy_text.specs.declared.key.Counted.{Counted}
use Rattle.hg_policy_text.specs.declared.key.Counted.TheVariants as counted

-- a key as it is written
abbrev pub key_text : Key → List ℕ
key_text key.Version = codes "version"
key_text key.Workers = codes "workers"
key_text key.MaxGeneration = codes "max_generation"
key_text key.Tenant = codes "tenant"
key_text key.Arena = codes "arena"
key_text key.Group = codes "group"
key_text key.Grant = codes "grant"
key_text key.Deny = codes "deny"
key_text key.Name = codes "name"
key_text key.Limit = codes "limit"
key_text key.Segments = codes "segments"
key_text key.Exclusive = codes "exclusive"
key_text key.Members = codes "members"
key_text key.Owner = codes "owner"
key_text key.To = codes "to"
key_text key.Rights = codes "rights"

-- the keys at which a document has tables
abbrev pub has_rows : Key → Bool
has_rows key.Tenant = true
has_rows key.Arena = true
has_rows key.Group = true
has_rows key.Grant = true
has_rows key.Deny = true
has_rows _ = false

-- the word for what is counted
abbrev pub counted_text : Counted → List ℕ
counted_text counted.Workers = codes "workers"
counted_text counted.Tenants = codes "tenant"
counted_text counted.Arenas = codes "arena"
counted_text counted.Groups = codes "group"
counted_text counted.Segments = codes "segments"

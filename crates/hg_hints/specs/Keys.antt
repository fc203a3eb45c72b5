-- What is wanted at each key of a document.
use Rattle.std.specs.Prelude.{ℕ, Bool, true, false, List, [], ◌∷◌, ◌||◌, codes}
use Rattle.std.specs.Str.{bytes_eq}
use Rattle.hg_policy_text.specs.declared.key.Key.{Key}
use Rattle.hg_policy_text.specs.declared.key.Key.TheVariants as key
use Rattle.hg_policy_text.specs.declared.key.Counted.{Counted}
use Rattle.hg_policy_text.specs.declared.key.Counted.TheVariants as counted

abbrev pub wanted : Key → List ℕ
wanted key.Version = codes "the whole number 1, or 2 for groups and denies"
wanted key.Workers = codes "a whole number from 1 to 16"
wanted key.MaxGeneration = codes "a whole number from 1 to 4294967295"
wanted key.Tenant = codes "an array of tables"
wanted key.Arena = codes "an array of tables"
wanted key.Group = codes "an array of tables"
wanted key.Grant = codes "an array of tables"
wanted key.Deny = codes "an array of tables"
wanted key.Name = codes "1 to 16 of a to z, 0 to 9, _ and -, the first a letter"
wanted key.Limit = codes "a whole number from 0 to 4294967295"
wanted key.Segments = codes "a whole number from 0 to 64"
wanted key.Exclusive = codes "an array of names of tenants and groups"
wanted key.Members = codes "an array of names of tenants"
wanted key.Owner = codes "the name of a tenant or of a group"
wanted key.To = codes "the name of a tenant or of a group"
wanted key.Rights = codes "an array of \"read\", \"write\", \"list\" and \"free\""

-- how many there may be
abbrev pub bound : Counted → List ℕ
bound counted.Workers = codes "at most 16"
bound counted.Tenants = codes "at most 64"
bound counted.Arenas = codes "at most 16"
bound counted.Groups = codes "at most 64"
bound counted.Segments = codes "at most 64, of all arenas together"

-- a number of the whole document: below the header of a table it is that table's
abbrev pub is_of_document : Key → Bool
is_of_document key.Version = true
is_of_document key.Workers = true
is_of_document _ = false

-- the keys that version 2 alone has
abbrev pub is_second : List ℕ → Bool
is_second text = bytes_eq text (codes "group") || bytes_eq text (codes "deny")

-- the keys of tables
abbrev pub is_of_table : List ℕ → Bool
is_of_table text =
    bytes_eq text (codes "name") || (bytes_eq text (codes "limit")
    || (bytes_eq text (codes "segments") || (bytes_eq text (codes "exclusive")
    || (bytes_eq text (codes "members") || (bytes_eq text (codes "owner")
    || (bytes_eq text (codes "to") || bytes_eq text (codes "rights")))))))

-- all keys: those of a document, and those of its tables
abbrev pub keys : List (List ℕ)
keys =
    codes "version" ∷ codes "workers" ∷ codes "max_generation" ∷ codes "tenant" ∷ codes "arena"
    ∷ codes "group" ∷ codes "grant" ∷ codes "deny" ∷ codes "name" ∷ codes "limit"
    ∷ codes "segments" ∷ codes "exclusive" ∷ codes "members" ∷ codes "owner" ∷ codes "to"
    ∷ codes "rights" ∷ []

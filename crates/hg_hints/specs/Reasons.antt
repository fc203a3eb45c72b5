-- What is told of a policy's fault.
use Rattle.std.specs.Prelude.{ℕ, ◌++◌, Bool, true, false, List, [], Option, Some, None, codes}
use Rattle.std.specs.Prelude.{if◌then◌else◌, unwrap_or}
use Rattle.toml.specs.Data.{Members}
use Rattle.hg_policy_text.specs.declared.key.Key.{Key}
use Rattle.hg_policy_text.specs.declared.key.Key.TheVariants as key
use Rattle.hg_policy_text.specs.declared.key.Level.TheVariants as level
use Rattle.hg_policy_text.specs.Faults.{Fault}
use Rattle.hg_policy_text.specs.Faults as fault
use Rattle.hg_policy_text.specs.Keys.{key_text}
use Rattle.hg_policy.specs.Names.{is_among}
use Rattle.hg_policy_text.specs.OneLine.{one_line}
use Rattle.hg_policy_text.specs.Values.{knows}
use Rattle.hg_show.specs.Rows.{names_in, rows_at}
use Rattle.hg_hints.specs.Keys.{bound, is_of_document, is_of_table, is_second, keys, wanted}
use Rattle.hg_hints.specs.Near.{near}

-- where a number of the whole document stands
abbrev pub if_above : Bool → List ℕ
if_above true = codes ", above the first header such as [[tenant]]"
if_above false = []

-- a key that is missing
unfoldable pub missing_text : Key → List ℕ
missing_text key =
    codes "wanted: " ++ key_text key ++ codes ", " ++ wanted key ++ if_above (is_of_document key)

-- a text that is like it, or that none is
abbrev pub like_text : List ℕ → Option (List ℕ) → List ℕ
like_text otherwise None = otherwise
like_text otherwise (Some other) = codes "like it: " ++ one_line other

-- what a key is that some document has elsewhere
abbrev pub place_text : List ℕ → Option (List ℕ)
place_text text =
    if is_second text
    then Some (codes "a key of version 2, above the first header such as [[tenant]]")
    else (if knows level.SecondTop text
    then Some (codes "a key of the whole document, above the first header such as [[tenant]]")
    else (if is_of_table text then Some (codes "a key of another table") else None))

-- a key that its table may not have
unfoldable pub unknown_text : List ℕ → List ℕ
unknown_text text =
    unwrap_or (place_text text) (like_text (codes "no table has such a key") (near keys text))

-- the names that the document gives tenants, and groups
abbrev pub tenants_of : Members → List (List ℕ)
tenants_of document = names_in (rows_at (codes "tenant") document)

abbrev pub groups_of : Members → List (List ℕ)
groups_of document = names_in (rows_at (codes "group") document)

-- a name that nobody has who is meant
unfoldable pub nobody_text : Members → List ℕ → List ℕ
nobody_text document name =
    if is_among name (groups_of document) then codes "a group, and members are tenants"
    else like_text (codes "no tenant and no group has it")
    (near (tenants_of document ++ groups_of document) name)

abbrev pub reason : Members → Fault → List ℕ
reason document fault.not_toml = []
reason document (fault.missing key) = missing_text key
reason document (fault.kind key) = codes "wanted: " ++ wanted key
reason document (fault.unknown text) = unknown_text text
reason document (fault.repeated name) =
    codes "each tenant and group has a name of its own, and so has each arena"
reason document (fault.no_such_name name) = nobody_text document name
reason document (fault.too_many counted) = bound counted
reason document fault.version = codes "wanted: " ++ wanted key.Version

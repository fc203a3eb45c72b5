-- Rows of a policy that can't be of use.
use Rattle.std.specs.Prelude.{ℕ, ◌+◌, ◌/◌, ◌==◌, ◌++◌, ◌&&◌, ◌||◌, Bool, not, List, [], ◌∷◌}
use Rattle.std.specs.Prelude.{codes, count_by, length, nat_lt, if◌then◌else◌}
use Rattle.std.specs.List.{enumerate_from, flat_map, list_any, range_with_len}
use Rattle.std.specs.Str.{bytes_eq}
use Rattle.toml.specs.Data.{Data, Members}
use Rattle.hg_machine.specs.Policy.{Policy, admits, limit_of}
use Rattle.hg_policy.specs.Names.{arena_number}
use Rattle.hg_show.specs.Lines.{actors_in, is_apart, is_to_itself, line_name, owners_in}
use Rattle.hg_show.specs.Parts.{may_be_in, name_of, segments_at, tenants_in}
use Rattle.hg_show.specs.Rows.{arena_names, is_empty_at, rows_at, text_at}
use Rattle.hg_show.specs.Standings.{may_hold}

-- what is warned of a row of this kind and name, where it is to be told
unfoldable pub warning : Bool → List ℕ → List ℕ → List ℕ → List (List ℕ)
warning warns kind name reason = if warns then (kind ++ name ++ reason) ∷ [] else []

-- some arena admits the tenant
abbrev pub is_somewhere : Policy → ℕ → Bool
is_somewhere policy tenant =
    list_any (λ arena. admits policy arena tenant) (range_with_len 0 (length policy.arenas))

-- how many segments the arenas have that admit the tenant
abbrev pub segments_for : Policy → ℕ → ℕ
segments_for policy tenant =
    count_by (may_hold policy tenant) (range_with_len 0 (length policy.segments))

-- the limit is more than these have bytes, of 65,536 each
abbrev pub is_above : Policy → ℕ → Bool
is_above policy tenant =
    nat_lt (segments_for policy tenant) ((limit_of policy tenant + 65535) / 65536)

-- what a tenant is warned of: its limit is too small, nobody admits it, its limit is too great
abbrev pub small_warning : Policy → ℕ → List (List ℕ)
small_warning policy tenant =
    warning (nat_lt (limit_of policy tenant) 8) (codes "tenant ") (name_of policy tenant)
    (codes ": its limit is below 8, so it can have no block")

abbrev pub lost_warning : Policy → ℕ → List (List ℕ)
lost_warning policy tenant =
    warning (not (is_somewhere policy tenant)) (codes "tenant ") (name_of policy tenant)
    (codes ": no arena admits it")

abbrev pub greedy_warning : Policy → ℕ → List (List ℕ)
greedy_warning policy tenant =
    warning (is_somewhere policy tenant && is_above policy tenant)
    (codes "tenant ") (name_of policy tenant)
    (codes ": its limit is above the bytes of the arenas that admit it")

unfoldable pub tenant_warnings : Policy → ℕ → List (List ℕ)
tenant_warnings policy tenant =
    small_warning policy tenant ++ lost_warning policy tenant ++ greedy_warning policy tenant

-- and an arena: it has no segment, it admits nobody
abbrev pub empty_warning : Policy → List ℕ → List (List ℕ)
empty_warning policy arena =
    warning (segments_at policy (arena_number policy arena) == 0) (codes "arena ") arena
    (codes ": it has no segment")

abbrev pub closed_warning : Policy → List ℕ → List (List ℕ)
closed_warning policy arena =
    warning (not (list_any (may_be_in policy arena) (tenants_in policy))) (codes "arena ") arena
    (codes ": it admits no tenant")

unfoldable pub arena_warnings : Policy → List ℕ → List (List ℕ)
arena_warnings policy arena = empty_warning policy arena ++ closed_warning policy arena

-- and a group: it is empty, no line has its name on either side
abbrev pub names_it : List ℕ → Data → Bool
names_it name line =
    bytes_eq (text_at (codes "owner") line) name || bytes_eq (text_at (codes "to") line) name

abbrev pub is_unnamed : List Data → List Data → List ℕ → Bool
is_unnamed grants denies name =
    not (list_any (names_it name) grants || list_any (names_it name) denies)

abbrev pub memberless_warning : Data → List (List ℕ)
memberless_warning group =
    warning (is_empty_at (codes "members") group) (codes "group ")
    (text_at (codes "name") group) (codes ": it has no member")

abbrev pub unnamed_warning : List Data → List Data → Data → List (List ℕ)
unnamed_warning grants denies group =
    warning (is_unnamed grants denies (text_at (codes "name") group)) (codes "group ")
    (text_at (codes "name") group) (codes ": no grant and no deny names it")

unfoldable pub group_warnings : List Data → List Data → Data → List (List ℕ)
group_warnings grants denies group =
    memberless_warning group ++ unnamed_warning grants denies group

-- and a line by its place: no segment is for two whom it means, it is to its owner, it has no right
abbrev pub apart_warning : Policy → List Data → ℕ → Data → List (List ℕ)
apart_warning policy groups place grant =
    warning (is_apart policy (owners_in policy groups grant) (actors_in policy groups grant))
    (codes "grant ") (line_name place grant) (codes ": no arena admits both")

abbrev pub itself_warning : Policy → List Data → List ℕ → ℕ → Data → List (List ℕ)
itself_warning policy groups kind place line =
    warning (is_to_itself (owners_in policy groups line) (actors_in policy groups line))
    kind (line_name place line) (codes ": it is to the owner itself")

abbrev pub rightless_warning : List ℕ → ℕ → Data → List (List ℕ)
rightless_warning kind place line =
    warning (is_empty_at (codes "rights") line) kind (line_name place line) (codes ": it names no right")

unfoldable pub grant_warnings : Policy → List Data → ℕ → Data → List (List ℕ)
grant_warnings policy groups place grant =
    apart_warning policy groups place grant
    ++ itself_warning policy groups (codes "grant ") place grant
    ++ rightless_warning (codes "grant ") place grant

unfoldable pub deny_warnings : Policy → List Data → ℕ → Data → List (List ℕ)
deny_warnings policy groups place deny =
    itself_warning policy groups (codes "deny ") place deny
    ++ rightless_warning (codes "deny ") place deny

-- what each line is warned of, the first of place 1
abbrev pub by_place : (ℕ → Data → List (List ℕ)) → List Data → List (List ℕ)
by_place warns lines = flat_map (λ line. warns line.0 line.1) (enumerate_from 1 lines)

-- of tenants, of arenas, of groups, of grants, and then of denies
unfoldable pub warnings : Policy → Members → List (List ℕ)
warnings policy document =
    let groups = rows_at (codes "group") document in
    let grants = rows_at (codes "grant") document in
    let denies = rows_at (codes "deny") document in
    flat_map (tenant_warnings policy) (tenants_in policy)
    ++ flat_map (arena_warnings policy) (arena_names document)
    ++ flat_map (group_warnings grants denies) groups
    ++ by_place (grant_warnings policy groups) grants
    ++ by_place (deny_warnings policy groups) denies

-- as lines
unfoldable pub warning_line : List ℕ → List ℕ
warning_line text = codes "warning: " ++ text ++ codes "\n"

abbrev pub warning_lines : List (List ℕ) → List ℕ
warning_lines texts = flat_map warning_line texts

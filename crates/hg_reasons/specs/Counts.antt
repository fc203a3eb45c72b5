-- How many lines came to what.
use Rattle.std.specs.Prelude.{◌==◌, ◌&&◌, ◌++◌, ◌∷◌, ℕ, Bool, true, false, List, [], codes, count_by, decimal}
use Rattle.std.specs.Prelude.{length, nat_le, unwrap_or, if◌then◌else◌}
use Rattle.std.specs.List.{flat_map, range_with_len}
use Rattle.std.specs.Str.{bytes_eq}
use Rattle.hg_machine.specs.Policy.{Policy}
use Rattle.hg_machine.specs.declared.Answer.{Answer}
use Rattle.hg_machine.specs.declared.Answer.TheVariants as answer
use Rattle.hg_machine.specs.declared.Event.{Event}
use Rattle.hg_machine.specs.declared.Event.TheVariants as event
use Rattle.hg_machine.specs.declared.Rule.{Rule}
use Rattle.hg_machine.specs.declared.Rule.TheVariants as rule
use Rattle.hg_policy.specs.Names.{tenant_name}
use Rattle.hg_replay.specs.declared.replaying.told.Told.{Told}
use Rattle.hg_replay.specs.declared.replaying.told.Told.TheVariants as told
use Rattle.hg_reasons.specs.declared.counts.Outcome.{Outcome}
use Rattle.hg_reasons.specs.declared.counts.Kind.{Kind}
use Rattle.hg_reasons.specs.declared.counts.Kind.TheVariants as kind
use Rattle.hg_reasons.specs.declared.form.Form.{Form}
use Rattle.hg_reasons.specs.declared.form.Form.TheVariants as form

abbrev pub rule_kind : Rule → Kind
rule_kind rule.Stranger = kind.Stranger
rule_kind (rule.Stale seen) = kind.Stale
rule_kind rule.AlreadyFreed = kind.AlreadyFreed
rule_kind rule.ForeignArena = kind.ForeignArena
rule_kind rule.Forbidden = kind.Forbidden
rule_kind rule.NotGranted = kind.NotGranted
rule_kind rule.OverLimit = kind.OverLimit

-- what serves nothing by its name, and what is served alike
abbrev pub answer_kind : Answer → Kind
answer_kind (answer.Denied why) = rule_kind why
answer_kind answer.TooLarge = kind.TooLarge
answer_kind answer.NoRoom = kind.NoRoom
answer_kind answer.Elsewhere = kind.Elsewhere
answer_kind answer.OutOfBlock = kind.OutOfBlock
answer_kind answer.Busy = kind.Busy
answer_kind answer.NothingInHand = kind.NothingInHand
answer_kind answer.NotHeld = kind.NotHeld
answer_kind answer.NoSegment = kind.NoSegment
answer_kind _ = kind.Served

-- who asks by an event, by number, and 255 where it asks for nobody
abbrev pub actor_of : Event → ℕ
actor_of (event.Alloc actor arena bytes) = actor.0
actor_of (event.Free actor handle) = actor.0
actor_of (event.Read actor handle index) = actor.0
actor_of (event.Write actor handle index value) = actor.0
actor_of (event.Look actor place) = actor.0
actor_of _ = 255

-- what a line came to, as it is counted
abbrev pub counted : Told → Outcome
counted (told.One e a) = record { kind = answer_kind a; actor = actor_of e }
counted told.Listing = record { kind = kind.Served; actor = 255 }
counted told.Unbound = record { kind = kind.Unbound; actor = 255 }

-- the kinds, in the order in which they are told, and the word of each
abbrev pub kinds : List Kind
kinds =
    kind.Served ∷ kind.Stranger ∷ kind.Stale ∷ kind.AlreadyFreed ∷ kind.ForeignArena
    ∷ kind.Forbidden ∷ kind.NotGranted ∷ kind.OverLimit ∷ kind.TooLarge ∷ kind.NoRoom
    ∷ kind.Elsewhere ∷ kind.OutOfBlock ∷ kind.Busy ∷ kind.NothingInHand ∷ kind.NotHeld
    ∷ kind.NoSegment ∷ kind.Unbound ∷ []

abbrev pub word_of : Kind → List ℕ
word_of kind.Served = codes "served"
word_of kind.Stranger = codes "denied stranger"
word_of kind.Stale = codes "denied stale"
word_of kind.AlreadyFreed = codes "denied freed"
word_of kind.ForeignArena = codes "denied arena"
word_of kind.Forbidden = codes "denied forbidden"
word_of kind.NotGranted = codes "denied grant"
word_of kind.OverLimit = codes "denied limit"
word_of kind.TooLarge = codes "large"
word_of kind.NoRoom = codes "noroom"
word_of kind.Elsewhere = codes "elsewhere"
word_of kind.OutOfBlock = codes "range"
word_of kind.Busy = codes "busy"
word_of kind.NothingInHand = codes "empty"
word_of kind.NotHeld = codes "notheld"
word_of kind.NoSegment = codes "nosegment"
word_of kind.Unbound = codes "unbound"

-- a line came to what the word of this kind tells; to a denial; and so where this tenant asked, or
-- nobody of the policy
abbrev pub is_of : Kind → Outcome → Bool
is_of what one = bytes_eq (word_of one.kind) (word_of what)

abbrev pub is_denial : Kind → Bool
is_denial kind.Stranger = true
is_denial kind.Stale = true
is_denial kind.AlreadyFreed = true
is_denial kind.ForeignArena = true
is_denial kind.Forbidden = true
is_denial kind.NotGranted = true
is_denial kind.OverLimit = true
is_denial _ = false

abbrev pub is_denied : Outcome → Bool
is_denied one = is_denial one.kind

abbrev pub is_denied_to : ℕ → Outcome → Bool
is_denied_to tenant one = is_denial one.kind && one.actor == tenant

abbrev pub is_denied_to_none : Policy → Outcome → Bool
is_denied_to_none policy one = is_denial one.kind && nat_le (length policy.tenants) one.actor

-- a word with its count: as text where there are some, as a member in any case
unfoldable pub count_row : Form → List ℕ → ℕ → List ℕ
count_row form.Text word count =
    if count == 0 then [] else codes "  " ++ word ++ codes " " ++ decimal count ++ codes "\n"
count_row form.Json word count = codes ",\"" ++ word ++ codes "\":" ++ decimal count

abbrev pub kind_row : Form → List Outcome → Kind → List ℕ
kind_row form lines what = count_row form (word_of what) (count_by (is_of what) lines)

abbrev pub tenants_in : Policy → List ℕ
tenants_in policy = range_with_len 0 (length policy.tenants)

abbrev pub tenant_row : Form → Policy → List Outcome → ℕ → List ℕ
tenant_row form policy lines tenant =
    count_row form (unwrap_or (tenant_name policy tenant) []) (count_by (is_denied_to tenant) lines)

-- what stands before each number of all, behind it, and behind the last count
abbrev pub before_answers : Form → List ℕ
before_answers form.Text = codes "\nanswers "
before_answers form.Json = codes "{\"answers\":{\"(all)\":"

abbrev pub before_denials : Form → List ℕ
before_denials form.Text = codes "denials "
before_denials form.Json = codes "},\"denials\":{\"(all)\":"

abbrev pub behind_number : Form → List ℕ
behind_number form.Text = codes "\n"
behind_number form.Json = []

abbrev pub behind_counts : Form → List ℕ
behind_counts form.Text = []
behind_counts form.Json = codes "}}\n"

-- how many lines there are, and how many came to each kind
unfoldable pub answers_text : Form → List Outcome → List ℕ
answers_text form lines =
    before_answers form ++ decimal (length lines) ++ behind_number form
    ++ flat_map (kind_row form lines) kinds

-- how much was denied, and how much of it to each tenant, and to others
unfoldable pub denials_text : Form → Policy → List Outcome → List ℕ
denials_text form policy lines =
    before_denials form ++ decimal (count_by is_denied lines) ++ behind_number form
    ++ flat_map (tenant_row form policy lines) (tenants_in policy)
    ++ count_row form (codes "(no tenant)") (count_by (is_denied_to_none policy) lines)

abbrev pub counts_text : Form → Policy → List Outcome → List ℕ
counts_text form policy lines =
    answers_text form lines ++ denials_text form policy lines ++ behind_counts form

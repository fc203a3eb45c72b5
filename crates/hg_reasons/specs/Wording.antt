-- The words of a reason.
use Rattle.std.specs.Prelude.{ℕ, ◌-◌, ◌==◌, Bool, true, false, List, [], ◌∷◌, ◌++◌, length}
use Rattle.std.specs.Prelude.{Option, Some, None, unwrap_or, codes, decimal, if◌then◌else◌}
use Rattle.std.specs.List.{range_with_len}
use Rattle.hg_place.specs.declared.Right.{Right}
use Rattle.hg_place.specs.declared.Right.TheVariants as right
use Rattle.hg_machine.specs.Policy.{Policy, admits, lets}
use Rattle.hg_machine.specs.declared.Answer.{Answer}
use Rattle.hg_machine.specs.declared.Answer.TheVariants as answer
use Rattle.hg_policy.specs.Names.{arena_name, tenant_name}
use Rattle.hg_trace.specs.declared.line.Command.{Command}
use Rattle.hg_trace.specs.declared.line.Command.TheVariants as command
use Rattle.hg_replay.specs.Text.{rule_text}
use Rattle.hg_hints.specs.PolicyNames.{near_text, near_to}
use Rattle.hg_hints.specs.declared.policy_names.Kind.TheVariants as named
use Rattle.hg_reasons.specs.declared.past.Bound.{Bound}
use Rattle.hg_reasons.specs.declared.reason.Between.{Between}
use Rattle.hg_reasons.specs.declared.reason.Charged.{Charged}
use Rattle.hg_reasons.specs.declared.reason.Held.{Held}
use Rattle.hg_reasons.specs.declared.reason.Reason.{Reason}
use Rattle.hg_reasons.specs.declared.reason.Reason.TheVariants as reason

-- the name of who asks, and of the arena, as a line says them
abbrev pub actor_said : Command → List ℕ
actor_said (command.Alloc actor arena bytes label) = actor
actor_said (command.Free actor block) = actor
actor_said (command.Read actor block index) = actor
actor_said (command.Write actor block index value) = actor
actor_said (command.Look actor place) = actor
actor_said (command.List actor) = actor
actor_said _ = []

abbrev pub arena_said : Command → List ℕ
arena_said (command.Alloc actor arena bytes label) = arena
arena_said (command.Refill arena) = arena
arena_said _ = []

-- the name of a tenant
abbrev pub tenant_text : Policy → ℕ → List ℕ
tenant_text policy tenant = unwrap_or (tenant_name policy tenant) []

-- the name of an arena
abbrev pub arena_text : Policy → ℕ → List ℕ
arena_text policy arena = unwrap_or (arena_name policy arena) []

-- what stands before one of several words, by whether it is the first
abbrev pub comma : Bool → List ℕ
comma first = if first then codes " " else codes ", "

abbrev pub conjunction : Bool → List ℕ
conjunction first = if first then codes " " else codes " and "

-- those of the tenants that the arena admits, or that it admits nobody, where others were named
-- before or not
abbrev pub admitted_from : Policy → ℕ → Bool → List ℕ → List ℕ
admitted_from policy arena first [] = if first then codes " nobody" else []
admitted_from policy arena first (tenant ∷ tenants) =
    if admits policy arena tenant
    then comma first ++ tenant_text policy tenant ++ admitted_from policy arena false tenants
    else admitted_from policy arena first tenants

abbrev pub admitted_text : Policy → ℕ → List ℕ
admitted_text policy arena =
    admitted_from policy arena true (range_with_len 0 (length policy.tenants))

abbrev pub right_text : Right → List ℕ
right_text right.Read = codes "read"
right_text right.Write = codes "write"
right_text right.List = codes "list"
right_text right.Free = codes "free"

abbrev pub all_rights : List Right
all_rights = right.Read ∷ right.Write ∷ right.List ∷ right.Free ∷ []

-- those of the rights that the owner lets the actor have, or that it has none
abbrev pub rights_from : Policy → ℕ → ℕ → Bool → List Right → List ℕ
rights_from policy owner actor first [] = if first then codes " do nothing" else []
rights_from policy owner actor first (right ∷ rights) =
    if lets policy owner actor right
    then conjunction first ++ right_text right ++ rights_from policy owner actor false rights
    else rights_from policy owner actor first rights

abbrev pub rights_text : Policy → ℕ → ℕ → List ℕ
rights_text policy owner actor = rights_from policy owner actor true all_rights

-- which worker holds a segment
abbrev pub holder_text : Option ℕ → List ℕ
holder_text None = codes "nobody"
holder_text (Some worker) = codes "worker " ++ decimal worker

-- which generation a place is in
abbrev pub generation_words : ℕ → List ℕ
generation_words generation =
    if generation == 0
    then codes "no block was given out there"
    else codes "the place is in generation "

abbrev pub generation_text : ℕ → List ℕ
generation_text generation =
    generation_words generation ++ (if generation == 0 then [] else decimal generation)

-- what an allocation was answered that wasn't served, and by which rule it was denied
abbrev pub was_text : Answer → List ℕ
was_text (answer.Denied rule) = codes " was denied "
was_text answer.TooLarge = codes " was answered large"
was_text answer.NoRoom = codes " was answered noroom"
was_text _ = codes " wasn't served"

abbrev pub by_text : Answer → List ℕ
by_text (answer.Denied rule) = rule_text rule
by_text _ = []

-- what the words of a reason are about: the policy, the worker of a line, and who asks and which arena,
-- as the line names them
pub record Said : Type 0 where
  pub policy : Policy
  pub worker : ℕ
  pub actor : List ℕ
  pub arena : List ℕ

abbrev pub said_by : Policy → ℕ → Command → Said
said_by policy worker command = record {
  policy = policy;
  worker = worker;
  actor = actor_said command;
  arena = arena_said command;
}

-- what a tenant has of its limit with the worker, and what it asks for
unfoldable pub charge_text : Said → Charged → List ℕ
charge_text said charged =
    tenant_text said.policy charged.tenant ++ codes " has " ++ decimal charged.charge
    ++ codes " of " ++ decimal charged.limit ++ codes " bytes with worker " ++ decimal said.worker

unfoldable pub asks_text : Charged → List ℕ
asks_text charged =
    codes ", and asks for " ++ decimal charged.bytes ++ codes ", a block of "
    ++ decimal charged.block

abbrev pub limit_text : Said → Charged → List ℕ
limit_text said charged = charge_text said charged ++ asks_text charged

unfoldable pub denies_text : Said → Between → List ℕ
denies_text said between =
    tenant_text said.policy between.owner ++ codes " denies "
    ++ tenant_text said.policy between.actor ++ codes " " ++ right_text between.right

unfoldable pub lets_text : Said → Between → List ℕ
lets_text said between =
    tenant_text said.policy between.owner ++ codes " lets "
    ++ tenant_text said.policy between.actor
    ++ rights_text said.policy between.owner between.actor
    ++ codes ", not " ++ right_text between.right

unfoldable pub room_text : Said → Held → List ℕ
room_text said held =
    codes "worker " ++ decimal said.worker ++ codes " holds " ++ decimal held.segments
    ++ codes " segments of " ++ arena_text said.policy held.arena
    ++ codes ", and none has room for a block of " ++ decimal held.block

unfoldable pub admits_text : Said → ℕ → List ℕ
admits_text said arena =
    arena_text said.policy arena ++ codes " admits" ++ admitted_text said.policy arena

unfoldable pub left_text : Said → ℕ → List ℕ
left_text said arena = arena_text said.policy arena ++ codes " has no segment left"

unfoldable pub holds_text : ℕ → Option ℕ → List ℕ
holds_text segment holder = holder_text holder ++ codes " holds segment " ++ decimal segment

unfoldable pub no_segment_text : ℕ → List ℕ
no_segment_text segment =
    codes "segment " ++ decimal segment ++ codes " isn't in the policy"

unfoldable pub freed_text : ℕ → List ℕ
freed_text line = codes "line " ++ decimal line ++ codes " freed the block"

unfoldable pub large_text : ℕ → List ℕ
large_text bytes =
    decimal bytes ++ codes " bytes are asked for, and a block has 65536 at most"

-- what the worker has in hand
unfoldable pub hand_text : ℕ → List ℕ → List ℕ
hand_text worker what = codes "worker " ++ decimal worker ++ codes " has " ++ what

unfoldable pub unserved_text : Bound → List ℕ
unserved_text bound =
    codes "line " ++ decimal bound.line ++ was_text bound.answer ++ by_text bound.answer

-- a name of the policy that is like the one that it lacks, where that is the reason
abbrev pub like_text : Said → Reason → List ℕ
like_text said reason.NoTenant = near_text (near_to said.policy named.Tenant said.actor)
like_text said reason.NoArena = near_text (near_to said.policy named.Arena said.arena)
like_text said _ = []

-- the words of a reason
abbrev pub reason_text : Said → Reason → List ℕ
reason_text said reason.NoTenant = codes "the policy has no tenant " ++ said.actor
reason_text said reason.NoArena = codes "the policy has no arena " ++ said.arena
reason_text said (reason.NoSegment segment) = no_segment_text segment
reason_text said (reason.Admits arena) = admits_text said arena
reason_text said (reason.Limit charged) = limit_text said charged
reason_text said (reason.Generation generation) = generation_text generation
reason_text said (reason.Freed line) = freed_text line
reason_text said (reason.Denies between) = denies_text said between
reason_text said (reason.Lets between) = lets_text said between
reason_text said (reason.Holder segment worker) = holds_text segment worker
reason_text said (reason.TooLarge bytes) = large_text bytes
reason_text said (reason.NoRoom held) = room_text said held
reason_text said (reason.NoWord index) = codes "the block has no word " ++ decimal index
reason_text said reason.InHand =
    hand_text said.worker (codes "a block in hand, which it has to deliver first")
reason_text said reason.EmptyHand = hand_text said.worker (codes "nothing in hand")
reason_text said (reason.NoneLeft arena) = left_text said arena
reason_text said (reason.Unserved bound) = unserved_text bound

-- the same, with such a name where it is told
abbrev pub words_text : Said → Bool → Reason → List ℕ
words_text said tells why = reason_text said why ++ (if tells then like_text said why else [])

-- how many reasons of a name that the policy lacks may still have one that is like it, after a line with
-- this reason, if it has one
abbrev pub left_after : ℕ → Option Reason → ℕ
left_after left (Some reason.NoTenant) = left - 1
left_after left (Some reason.NoArena) = left - 1
left_after left _ = left

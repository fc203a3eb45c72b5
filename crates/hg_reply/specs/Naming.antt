-- Which number goes by a name, and which name by a number.
use Rattle.std.specs.Prelude.{◌≡◌, ℕ, List, Option, Some, None}
use Rattle.hg_machine.specs.Policy.{Policy}
use Rattle.hg_policy.specs.Names.{tenant_number, arena_number}
use Rattle.hg_reply.specs.declared.reply.Reply.{Reply}
use Rattle.hg_reply.specs.declared.naming.Name.{Name}
use Rattle.hg_reply.specs.declared.naming.Name.TheVariants as by
use Rattle.hg_reply.specs.Replies.{no_name, valued}
use Rattle.hg_reply.specs.Telling.{IsToldIn}

-- the number of nobody and of nothing
abbrev pub nobody : ℕ
nobody = 255

-- nothing has the name
abbrev pub unnamed : Reply
unnamed = valued 68 nobody

-- the number of what has the name, or that nothing has it
abbrev pub named : Option ℕ → Reply
named (Some number) = valued 4 number
named None = unnamed

abbrev pub number_of : Name → Policy → Option ℕ
number_of (by.Tenant name) policy = tenant_number policy name.now
number_of (by.Arena name) policy = arena_number policy name.now

-- the name, if there is one, in the room for it, and how many bytes of it stand there
abbrev pub IsNamed : Option (List ℕ) → List ℕ → Reply → List ℕ → Type 0
IsNamed None old reply new = (reply ≡ no_name) × (new ≡ old)
IsNamed (Some name) old reply new =
    (reply ≡ valued 4 reply.value) × IsToldIn name old reply.value new

-- The line of each answer.
use Rattle.std.specs.Prelude.{ℕ, ◌-◌, ◌++◌, List, [], ◌∷◌, length, replicate, unwrap_or, codes}
use Rattle.std.specs.Prelude.{decimal, flat_map, filter}
use Rattle.hg_machine.specs.Policy.{Policy}
use Rattle.hg_machine.specs.declared.Row.{Row}
use Rattle.hg_machine.specs.declared.Rule.{Rule}
use Rattle.hg_machine.specs.declared.Rule.TheVariants as rule
use Rattle.hg_machine.specs.declared.Answer.{Answer}
use Rattle.hg_machine.specs.declared.Answer.TheVariants as answer
use Rattle.hg_policy.specs.Names.{tenant_name}
use Rattle.hg_replay.specs.declared.replaying.events.Meaning.{Meaning}
use Rattle.hg_replay.specs.declared.replaying.events.Meaning.TheVariants as meaning
use Rattle.hg_trace.specs.Printed.{handle_text}
use Rattle.hg_replay.specs.Rows.{is_row}

-- a text at the left, or the right, of so many places
abbrev pub at_left : ℕ → List ℕ → List ℕ
at_left places text = text ++ replicate (places - length text) 32

abbrev pub at_right : ℕ → List ℕ → List ℕ
at_right places text = replicate (places - length text) 32 ++ text

-- the handle, the owner's name and the bytes of the class
abbrev pub row_text : Policy → Row → List ℕ
row_text policy row =
    at_left 21 (handle_text row.handle) ++ codes " "
    ++ at_left 16 (unwrap_or (tenant_name policy row.owner) []) ++ codes " "
    ++ at_right 5 (decimal row.bytes)

abbrev pub rule_text : Rule → List ℕ
rule_text rule.Stranger = codes "stranger"
rule_text (rule.Stale generation) = codes "stale"
rule_text rule.AlreadyFreed = codes "freed"
rule_text rule.ForeignArena = codes "arena"
rule_text rule.Forbidden = codes "forbidden"
rule_text rule.NotGranted = codes "grant"
rule_text rule.OverLimit = codes "limit"

abbrev pub answer_text : Policy → Answer → List ℕ
answer_text policy (answer.Block handle) = codes "ok " ++ handle_text handle
answer_text policy answer.Done = codes "ok"
answer_text policy answer.Parted = codes "parted"
answer_text policy (answer.Value n) = codes "word " ++ decimal n
answer_text policy (answer.Taken n) = codes "taken " ++ decimal n
answer_text policy (answer.Pages n) = codes "pages " ++ decimal n
answer_text policy (answer.Refilled segment) = codes "segment " ++ decimal segment
answer_text policy (answer.Listed row) = row_text policy row
answer_text policy (answer.Denied rule) = codes "denied " ++ rule_text rule
answer_text policy answer.TooLarge = codes "large"
answer_text policy answer.NoRoom = codes "noroom"
answer_text policy answer.Elsewhere = codes "elsewhere"
answer_text policy answer.OutOfBlock = codes "range"
answer_text policy answer.Busy = codes "busy"
answer_text policy answer.NothingInHand = codes "empty"
answer_text policy answer.NotHeld = codes "notheld"
answer_text policy answer.NoSegment = codes "nosegment"

-- with the line's end
abbrev pub answer_line : Policy → Answer → List ℕ
answer_line policy answer = answer_text policy answer ++ 10 ∷ []

-- a line for each answer
abbrev pub answer_lines : Policy → List Answer → List ℕ
answer_lines policy answers = flat_map (answer_line policy) answers

-- how a listing of so many rows ends
abbrev pub listing_end : ℕ → List ℕ
listing_end rows = codes "rows " ++ decimal rows ++ codes "\n"

-- the rows of a listing, and their number
abbrev pub listing_text : Policy → List Answer → List ℕ
listing_text policy rows = answer_lines policy rows ++ listing_end (length rows)

-- the text of the answers to a line that means this
abbrev pub reply_text : Policy → Meaning → List Answer → List ℕ
reply_text policy (meaning.One event) answers = answer_lines policy answers
reply_text policy (meaning.Listing actor) answers = listing_text policy (filter is_row answers)
reply_text policy meaning.Unbound answers = codes "unbound\n"

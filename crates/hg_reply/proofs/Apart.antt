-- An answer is read back from its reply, but for the handle in it; and a handle's word is its own.
use Rattle.std.proofs.Common.{◌≡◌, ℕ, ◌<◌, ◌^◌, Bool, if◌then◌else◌, refl, ap, ◌∙◌, sym, subst, lit<}
use Rattle.std.specs.Prelude.{◌==◌}
use Rattle.hg_place.specs.declared.Handle.{Handle}
use Rattle.hg_place.specs.HandleWords.{handle_word}
use Rattle.hg_place.specs.Places.{place_at}
use Rattle.hg_place.proofs.WordReads.{same_word}
use Rattle.hg_machine.specs.declared.Answer.{Answer}
use Rattle.hg_machine.specs.declared.Answer.TheVariants as answer
use Rattle.hg_machine.specs.declared.Rule.{Rule}
use Rattle.hg_machine.specs.declared.Rule.TheVariants as rule
use Rattle.hg_reply.specs.declared.reply.Reply.{Reply}
use Rattle.hg_reply.specs.Replies.{reply_of}
use Rattle.hg_reply.specs.ReplyLaws.{RepliesAreApart, HasHandle}

-- the rule of a denial, and the answer of a reply, where the handle in it is this
rule_of : Reply → Rule
rule_of r =
    if r.status == 32 then rule.Stranger
    else if r.status == 33 then rule.Stale r.detail
    else if r.status == 34 then rule.AlreadyFreed
    else if r.status == 35 then rule.ForeignArena
    else if r.status == 36 then rule.NotGranted
    else if r.status == 37 then rule.OverLimit
    else rule.Forbidden

answer_of : Reply → Handle → Answer
answer_of r handle =
    if r.status == 1 then answer.Block handle
    else if r.status == 2 then answer.Done
    else if r.status == 3 then answer.Parted
    else if r.status == 4 then answer.Value r.value
    else if r.status == 5 then answer.Taken r.value
    else if r.status == 6 then answer.Pages r.value
    else if r.status == 7 then answer.Refilled r.value
    else if r.status == 8 then answer.Listed (record { handle = handle; owner = r.owner; bytes = r.detail })
    else if r.status == 16 then answer.TooLarge
    else if r.status == 17 then answer.NoRoom
    else if r.status == 18 then answer.Elsewhere
    else if r.status == 19 then answer.OutOfBlock
    else if r.status == 20 then answer.Busy
    else if r.status == 21 then answer.NothingInHand
    else if r.status == 22 then answer.NotHeld
    else if r.status == 23 then answer.NoSegment
    else answer.Denied (rule_of r)

handle_of : Answer → Handle
handle_of (answer.Block handle) = handle
handle_of (answer.Listed row) = row.handle
handle_of _ = record { place = place_at 0; generation = 1; given_out = lit< tt }

told : (a : Answer) → answer_of (reply_of a) (handle_of a) ≡ a
unfolding answer_of handle_of rule_of
told (answer.Block handle) = refl
told (answer.Listed row) = refl
told answer.Done = refl
told answer.Parted = refl
told answer.TooLarge = refl
told answer.NoRoom = refl
told answer.Elsewhere = refl
told answer.OutOfBlock = refl
told answer.Busy = refl
told answer.NothingInHand = refl
told answer.NotHeld = refl
told answer.NoSegment = refl
told (answer.Value word) = refl
told (answer.Taken places) = refl
told (answer.Pages pages) = refl
told (answer.Refilled segment) = refl
told (answer.Denied (rule.Stale generation)) = refl
told (answer.Denied rule.Stranger) = refl
told (answer.Denied rule.AlreadyFreed) = refl
told (answer.Denied rule.ForeignArena) = refl
told (answer.Denied rule.NotGranted) = refl
told (answer.Denied rule.OverLimit) = refl
told (answer.Denied rule.Forbidden) = refl

-- where the first answer's reply with the other's handle is the other
by_reply
    : (one other : Answer) → HasHandle one → HasHandle other → reply_of one ≡ reply_of other
    → answer_of (reply_of one) (handle_of other) ≡ other → one ≡ other
unfolding answer_of rule_of
by_reply (answer.Block handle) other f g e back =
    ap answer.Block
    (same_word handle (handle_of other) f (subst HasHandle (sym back) g)
    (ap (λ r. r.value) (e ∙ ap reply_of (sym back))))
    ∙ back
by_reply (answer.Listed row) other f g e back =
    ap (λ h. answer.Listed (record { handle = h; owner = row.owner; bytes = row.bytes }))
    (same_word row.handle (handle_of other) f (subst HasHandle (sym back) g)
    (ap (λ r. r.value) (e ∙ ap reply_of (sym back))))
    ∙ back
by_reply answer.Done other f g e back = back
by_reply answer.Parted other f g e back = back
by_reply answer.TooLarge other f g e back = back
by_reply answer.NoRoom other f g e back = back
by_reply answer.Elsewhere other f g e back = back
by_reply answer.OutOfBlock other f g e back = back
by_reply answer.Busy other f g e back = back
by_reply answer.NothingInHand other f g e back = back
by_reply answer.NotHeld other f g e back = back
by_reply answer.NoSegment other f g e back = back
by_reply (answer.Value word) other f g e back = back
by_reply (answer.Taken places) other f g e back = back
by_reply (answer.Pages pages) other f g e back = back
by_reply (answer.Refilled segment) other f g e back = back
by_reply (answer.Denied (rule.Stale generation)) other f g e back = back
by_reply (answer.Denied rule.Stranger) other f g e back = back
by_reply (answer.Denied rule.AlreadyFreed) other f g e back = back
by_reply (answer.Denied rule.ForeignArena) other f g e back = back
by_reply (answer.Denied rule.NotGranted) other f g e back = back
by_reply (answer.Denied rule.OverLimit) other f g e back = back
by_reply (answer.Denied rule.Forbidden) other f g e back = back

pub replies_are_apart : RepliesAreApart
replies_are_apart one other f g e =
    by_reply one other f g e
    (subst (λ r. answer_of r (handle_of other) ≡ other) (sym e) (told other))

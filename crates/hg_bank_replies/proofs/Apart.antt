-- Without the number of its core a bank's reply is a core's.
use Rattle.std.proofs.Common.{◌≡◌, ℕ, if◌then◌else◌, Some, refl, ap, ◌∙◌, sym, subst}
use Rattle.std.specs.Prelude.{◌==◌, ◌||◌}
use Rattle.hg_machine.specs.declared.Answer.{Answer}
use Rattle.hg_machine.specs.declared.Answer.TheVariants as answer
use Rattle.hg_machine.specs.declared.Rule.TheVariants as rule
use Rattle.hg_bank_replies.specs.Replies.{placed_reply}
use Rattle.hg_bank_replies.specs.ReplyLaws.{BankRepliesAreApart, IsPlaced}
use Rattle.hg_reply.specs.declared.reply.Reply.{Reply}
use Rattle.hg_reply.specs.Replies.{reply_of, valued}
use Rattle.hg_reply.proofs.Apart.{replies_are_apart}

-- a reply without the number of a core
without_core : Reply → Reply
without_core r = if r.status == 1 || r.status == 7 then valued r.status r.value else r

as_of_core : (a : Answer) (core : ℕ) → without_core (placed_reply (Some core) a) ≡ reply_of a
unfolding without_core
as_of_core (answer.Block handle) core = refl
as_of_core (answer.Refilled segment) core = refl
as_of_core (answer.Listed row) core = refl
as_of_core answer.Done core = refl
as_of_core answer.Parted core = refl
as_of_core answer.TooLarge core = refl
as_of_core answer.NoRoom core = refl
as_of_core answer.Elsewhere core = refl
as_of_core answer.OutOfBlock core = refl
as_of_core answer.Busy core = refl
as_of_core answer.NothingInHand core = refl
as_of_core answer.NotHeld core = refl
as_of_core answer.NoSegment core = refl
as_of_core (answer.Value word) core = refl
as_of_core (answer.Taken places) core = refl
as_of_core (answer.Pages pages) core = refl
as_of_core (answer.Denied (rule.Stale generation)) core = refl
as_of_core (answer.Denied rule.Stranger) core = refl
as_of_core (answer.Denied rule.AlreadyFreed) core = refl
as_of_core (answer.Denied rule.ForeignArena) core = refl
as_of_core (answer.Denied rule.NotGranted) core = refl
as_of_core (answer.Denied rule.OverLimit) core = refl
as_of_core (answer.Denied rule.Forbidden) core = refl

core_told : (a : Answer) (core : ℕ) → IsPlaced a → (placed_reply (Some core) a).detail ≡ core
core_told (answer.Block handle) core is = refl
core_told (answer.Refilled segment) core is = refl
core_told (answer.Listed row) core is = absurd is
core_told answer.Done core is = absurd is
core_told answer.Parted core is = absurd is
core_told answer.TooLarge core is = absurd is
core_told answer.NoRoom core is = absurd is
core_told answer.Elsewhere core is = absurd is
core_told answer.OutOfBlock core is = absurd is
core_told answer.Busy core is = absurd is
core_told answer.NothingInHand core is = absurd is
core_told answer.NotHeld core is = absurd is
core_told answer.NoSegment core is = absurd is
core_told (answer.Value word) core is = absurd is
core_told (answer.Taken places) core is = absurd is
core_told (answer.Pages pages) core is = absurd is
core_told (answer.Denied why) core is = absurd is

pub bank_replies_are_apart : BankRepliesAreApart
bank_replies_are_apart one other core away f g e =
    let same : one ≡ other =
    replies_are_apart one other f g
    (sym (as_of_core one core) ∙ ap without_core e ∙ as_of_core other away) in (
      same,
      λ is.
          sym (core_told one core is) ∙ ap (λ r. r.detail) e
          ∙ core_told other away (subst IsPlaced same is),
    )

-- A refusal comes with no core's number.
use Rattle.std.proofs.Common.{◌≡◌, ℕ, Option, Some, None, Result, Ok, Err, IfOk, refl, sym, ap, subst}
use Rattle.hg_machine.specs.declared.Answer.{Answer}
use Rattle.hg_machine.specs.declared.Event.{Event}
use Rattle.hg_core.specs.declared.refusals.NoSegment.{NoSegment}
use Rattle.hg_heap.specs.declared.refused.Refused.{Refused}
use Rattle.hg_heap.specs.declared.refused.Refused.TheVariants as refused
use Rattle.hg_heap.specs.Answers.{refused_answer}
use Rattle.hg_bank.specs.declared.bank.BankHandle.{BankHandle}
use Rattle.hg_bank.specs.declared.bank.BankSegment.{BankSegment}
use Rattle.hg_bank.specs.Answers.{bank_alloc_answer, bank_refill_answer}
use Rattle.hg_bank.specs.Sound.{IsSoundBank}
use Rattle.hg_bank.specs.State.{BankState}
use Rattle.hg_bank.specs.Steps.{BankStep}
use Rattle.hg_bank_replies.specs.Replies.{alloc_reply, placed_reply, refill_reply, reply_to, request_of}
use Rattle.hg_bank_replies.specs.Serving.{Steps}
use Rattle.hg_reply.specs.declared.reply.Reply.{Reply}
use Rattle.hg_reply.specs.Replies.{reply_of}

refusal : (server : Option ℕ) (r : Refused)
    → reply_of (refused_answer r) ≡ placed_reply server (refused_answer r)
refusal None r = refl
refusal (Some core) (refused.Denied rule) = refl
refusal (Some core) refused.TooLarge = refl
refusal (Some core) refused.NoRoom = refl
refusal (Some core) refused.Elsewhere = refl
refusal (Some core) refused.OutOfBlock = refl

-- the reply to an allocation, whose block is of the core that serves
pub alloc_told : (server : Option ℕ) (told : Result BankHandle Refused)
    → IfOk told (λ block. server ≡ Some block.core)
    → alloc_reply told ≡ placed_reply server (bank_alloc_answer told)
alloc_told server (Ok block) is =
    ap (λ s. placed_reply s (bank_alloc_answer (Ok block))) (sym is)
alloc_told server (Err r) is = refusal server r

no_segment : (server : Option ℕ) (none : NoSegment)
    → refill_reply (Err none) ≡ placed_reply server (bank_refill_answer (Err none))
no_segment None none = refl
no_segment (Some core) none = refl

-- and the reply to a refill
pub refill_told : (server : Option ℕ) (told : Result BankSegment NoSegment)
    → IfOk told (λ segment. server ≡ Some segment.core)
    → refill_reply told ≡ placed_reply server (bank_refill_answer told)
refill_told server (Ok segment) is =
    ap (λ s. placed_reply s (bank_refill_answer (Ok segment))) (sym is)
refill_told server (Err none) is = no_segment server none

-- a step by the event that it turned out to be
pub steps_as : (old : BankState) (worker core : ℕ) {new : BankState} {event is : Event}
    {reply : Reply} → event ≡ is → (answer : Answer) → BankStep old worker (request_of core is) answer new
    → reply ≡ reply_to old worker (request_of core is) answer → IsSoundBank new
    → Steps old worker core event reply new
steps_as old worker core {new} {event} {is} {reply} same answer step told kept =
    subst (λ e. Steps old worker core e reply new) (sym same) (answer, step, told, kept)

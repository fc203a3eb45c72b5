-- A refusal tells no value, and leaves lists and queues.
use Rattle.std.proofs.Common.{◌≡◌, ℕ, Bool, true, refl}
use Rattle.hg_machine.specs.declared.Event.{Event}
use Rattle.hg_machine.specs.declared.Event.TheVariants as event
use Rattle.hg_machine.specs.declared.Answer.{Answer}
use Rattle.hg_machine.specs.declared.Answer.TheVariants as answer
use Rattle.hg_machine.specs.Lists.{Kept}
use Rattle.hg_laws.specs.Asked.{is_refusal}
use Rattle.hg_choice.specs.ListsAfter.{lists_after}
use Rattle.hg_choice.specs.QueuesAfter.{queues_after}
use Rattle.hg_choice.specs.ChosenSteps.{IsChosen}
use Rattle.hg_choice.proofs.MaskedServes.{with_value, masked_answer}

pub value_kept : (b : Bool) (a : Answer) → is_refusal a ≡ true → with_value b a ≡ a
value_kept b (answer.Value value) is = absurd (cc)
value_kept b a is = refl

pub answer_kept : (hidden : ℕ → Bool) (e : Event) (a : Answer) → is_refusal a ≡ true
    → masked_answer hidden e a ≡ a
answer_kept hidden (event.Read actor handle index) a is = value_kept _ a is
answer_kept hidden e a is = refl

-- a refusal leaves lists and queues, and chooses nothing
pub refusal_leaves : (k : Kept) (w : ℕ) (e : Event) (a : Answer) → is_refusal a ≡ true
    → (lists_after k w e a ≡ k.lists) × (queues_after k w e a ≡ k.queues) × IsChosen k w e a
refusal_leaves k w (event.Alloc actor arena bytes) (answer.Block handle) is = absurd (cc)
refusal_leaves k w (event.Free actor handle) answer.Done is = absurd (cc)
refusal_leaves k w event.Deliver answer.Done is = absurd (cc)
refusal_leaves k w (event.Take segment) (answer.Taken n) is = absurd (cc)
refusal_leaves k w event.Collect (answer.Pages n) is = absurd (cc)
refusal_leaves k w (event.Abandon segment) answer.Done is = absurd (cc)
refusal_leaves k w (event.Refill arena) (answer.Refilled segment) is = absurd (cc)
refusal_leaves k w e a is = (refl, refl, tt)

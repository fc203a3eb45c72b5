-- Calls that are equal, field by field, are the same.
use Rattle.std.proofs.Common.{◌≡◌, ◌∙◌, ◌==◌, ◌&&◌, Bool, List, [], ◌∷◌, true, false, rules, arith, ap, refl}
use Rattle.std.proofs.lemmas.Bool.{false≢true}
use Rattle.std.specs.Cmp.Lexicographic.{pointwise}
use Rattle.hg_calls.specs.declared.call.Call.{Call}
use Rattle.hg_machine.specs.declared.Answer.{Answer}
use Rattle.hg_machine.specs.declared.Answer.TheVariants as answer
use Rattle.hg_machine.specs.declared.Rule.{Rule}
use Rattle.hg_machine.specs.declared.Rule.TheVariants as rule
use Rattle.hg_machine.specs.declared.Row.{Row}
use Rattle.hg_machine.specs.declared.Event.{Event}
use Rattle.hg_machine.specs.declared.Event.TheVariants as event
use Rattle.hg_place.specs.declared.Handle.{Handle}
use Rattle.hg_place.specs.declared.Place.{Place}
use Rattle.hg_place.proofs.PlaceNumbers.{same_place_parts, same_handle_parts}
use Rattle.hg_calls.specs.contracts.call.CallPartialEq.TheImpl as calls
use Rattle.hg_machine.specs.contracts.AnswerPartialEq.TheImpl as answers
use Rattle.hg_machine.specs.contracts.RulePartialEq.TheImpl as rule_tests
use Rattle.hg_machine.specs.contracts.RowPartialEq.TheImpl as rows
use Rattle.hg_machine.specs.contracts.EventPartialEq.TheImpl as events
use Rattle.hg_place.specs.contracts.HandlePartialEq.TheImpl as handles
use Rattle.hg_place.specs.contracts.PlacePartialEq.TheImpl as places
use Rattle.hg_place.specs.contracts.ActorPartialEq.TheImpl as actors

-- of two tests that are true together each is
both : (s t : Bool) → (s && t) ≡ true → (s ≡ true) × (t ≡ true)
both true true h = (refl, refl)
both _ _ h = absurd (false≢true h)

same_place : (a b : Place) → places.eq-value.it a b ≡ true → a ≡ b
same_place a b h = search (rules, same_place_parts)

same_handle : (a b : Handle) → handles.eq-value.it a b ≡ true → a ≡ b
same_handle a b h = search (rules, same_handle_parts, same_place)

same_row : (a b : Row) → rows.eq-value.it a b ≡ true → a ≡ b
same_row a b h =
    let parts = both (handles.eq-value.it a.handle b.handle) ((a.owner == b.owner) && (a.bytes == b.bytes)) h in
    let handle : a.handle ≡ b.handle = same_handle a.handle b.handle parts.0 in
    let rest : ((a.owner == b.owner) && (a.bytes == b.bytes)) ≡ true = parts.1 in
    search (rules, handle, rest)

same_rule : (a b : Rule) → rule_tests.eq-value.it a b ≡ true → a ≡ b
same_rule rule.Stranger rule.Stranger h = refl
same_rule (rule.Stale x) (rule.Stale y) h = ap rule.Stale (search rules)
same_rule rule.AlreadyFreed rule.AlreadyFreed h = refl
same_rule rule.ForeignArena rule.ForeignArena h = refl
same_rule rule.Forbidden rule.Forbidden h = refl
same_rule rule.NotGranted rule.NotGranted h = refl
same_rule rule.OverLimit rule.OverLimit h = refl
same_rule _ _ h = absurd (false≢true h)

same_event : (a b : Event) → events.eq-value.it a b ≡ true → a ≡ b
same_event (event.Alloc a0 a1 a2) (event.Alloc b0 b1 b2) h = search (rules, same_handle, same_place)
same_event (event.Free a0 a1) (event.Free b0 b1) h =
    let parts = both (actors.eq-value.it a0 b0) (handles.eq-value.it a1 b1) h in
    let block : a1 ≡ b1 = same_handle a1 b1 parts.1 in
    let actor : actors.eq-value.it a0 b0 ≡ true = parts.0 in
    search (rules, block, actor)
same_event event.Deliver event.Deliver h = refl
same_event (event.Take a0) (event.Take b0) h = search (rules, same_handle, same_place)
same_event event.Collect event.Collect h = refl
same_event (event.Read a0 a1 a2) (event.Read b0 b1 b2) h =
    let parts = both (actors.eq-value.it a0 b0) (handles.eq-value.it a1 b1 && (a2 == b2)) h in
    let others = both (handles.eq-value.it a1 b1) (a2 == b2) parts.1 in
    let block : a1 ≡ b1 = same_handle a1 b1 others.0 in
    let actor : actors.eq-value.it a0 b0 ≡ true = parts.0 in
    let index : (a2 == b2) ≡ true = others.1 in
    search (rules, block, actor, index)
same_event (event.Write a0 a1 a2 a3) (event.Write b0 b1 b2 b3) h =
    let parts = both (actors.eq-value.it a0 b0) (handles.eq-value.it a1 b1 && ((a2 == b2) && (a3 == b3))) h in
    let others = both (handles.eq-value.it a1 b1) ((a2 == b2) && (a3 == b3)) parts.1 in
    let block : a1 ≡ b1 = same_handle a1 b1 others.0 in
    let actor : actors.eq-value.it a0 b0 ≡ true = parts.0 in
    let rest : ((a2 == b2) && (a3 == b3)) ≡ true = others.1 in
    search (rules, block, actor, rest)
same_event (event.Look a0 a1) (event.Look b0 b1) h =
    let parts = both (actors.eq-value.it a0 b0) (places.eq-value.it a1 b1) h in
    let place : a1 ≡ b1 = same_place a1 b1 parts.1 in
    let actor : actors.eq-value.it a0 b0 ≡ true = parts.0 in
    search (rules, place, actor)
same_event (event.Abandon a0) (event.Abandon b0) h = search (rules, same_handle, same_place)
same_event (event.Refill a0) (event.Refill b0) h = search (rules, same_handle, same_place)
same_event _ _ h = absurd (false≢true h)

pub same_answer : (a b : Answer) → answers.eq-value.it a b ≡ true → a ≡ b
same_answer (answer.Block a) (answer.Block b) h = ap answer.Block (same_handle a b h)
same_answer answer.Done answer.Done h = refl
same_answer answer.Parted answer.Parted h = refl
same_answer (answer.Value a) (answer.Value b) h = ap answer.Value (search rules)
same_answer (answer.Taken a) (answer.Taken b) h = ap answer.Taken (search rules)
same_answer (answer.Pages a) (answer.Pages b) h = ap answer.Pages (search rules)
same_answer (answer.Refilled a) (answer.Refilled b) h = ap answer.Refilled (search rules)
same_answer (answer.Listed a) (answer.Listed b) h = ap answer.Listed (same_row a b h)
same_answer (answer.Denied a) (answer.Denied b) h = ap answer.Denied (same_rule a b h)
same_answer answer.TooLarge answer.TooLarge h = refl
same_answer answer.NoRoom answer.NoRoom h = refl
same_answer answer.Elsewhere answer.Elsewhere h = refl
same_answer answer.OutOfBlock answer.OutOfBlock h = refl
same_answer answer.Busy answer.Busy h = refl
same_answer answer.NothingInHand answer.NothingInHand h = refl
same_answer answer.NotHeld answer.NotHeld h = refl
same_answer answer.NoSegment answer.NoSegment h = refl
same_answer _ _ h = absurd (false≢true h)

pub same_call : (a b : Call) → calls.eq-value.it a b ≡ true → a ≡ b
same_call a b h =
    let parts = both (a.worker == b.worker) (events.eq-value.it a.event b.event && answers.eq-value.it a.answer b.answer) h in
    let others = both (events.eq-value.it a.event b.event) (answers.eq-value.it a.answer b.answer) parts.1 in
    let event : a.event ≡ b.event = same_event a.event b.event others.0 in
    let answer : a.answer ≡ b.answer = same_answer a.answer b.answer others.1 in
    let worker : (a.worker == b.worker) ≡ true = parts.0 in
    search (rules, event, answer, worker)

-- lists that are equal item by item are the same
pub same_list : {A : Type 0} (test : A → A → Bool) → ((a b : A) → test a b ≡ true → a ≡ b)
    → (xs ys : List A) → pointwise test xs ys ≡ true → xs ≡ ys
same_list test same [] [] h = refl
same_list test same [] (y ∷ ys) h = absurd (false≢true h)
same_list test same (x ∷ xs) [] h = absurd (false≢true h)
same_list test same (x ∷ xs) (y ∷ ys) h =
    let parts = both (test x y) (pointwise test xs ys) h in
    ap (λ v. v ∷ xs) (same x y parts.0) ∙ ap (λ vs. y ∷ vs) (same_list test same xs ys parts.1)

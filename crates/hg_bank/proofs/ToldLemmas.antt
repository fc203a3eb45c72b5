-- An actor is told nothing of words that it may not read.
use Rattle.std.proofs.Common.{◌≡◌, ◌⊎◌, inl, inr, ℕ, true, not, List, [], ◌∷◌, length, refl, sym}
use Rattle.std.proofs.Common.{ap, subst, ◌∙◌, All}
use Rattle.std.proofs.lemmas.Bool.{cases_lt, true≢false}
use Rattle.std.proofs.lemmas.List.{get_or_past}
use Rattle.std.proofs.lemmas.List.Elements.{All-push, All-set}
use Rattle.hg_choice.specs.SameBut.{may_read, is_unreadable}
use Rattle.hg_choice.specs.WordLaws.{IsOfNoOther}
use Rattle.hg_core.specs.Opening.{opened}
use Rattle.hg_place.specs.Places.{number_of, segment_of}
use Rattle.hg_machine.specs.declared.Answer.{Answer}
use Rattle.hg_machine.specs.Life.{owner_of}
use Rattle.hg_machine.specs.Lists.{Kept}
use Rattle.hg_machine.specs.Policy.{Policy}
use Rattle.hg_machine.specs.State.{record_at}
use Rattle.hg_machine.proofs.Preserves.{steps_keep_policy}
use Rattle.hg_bank.specs.Hidden.{IsHiddenReadIn, AreSameAnswers, AreSameTo, ActorsAreToldNothing}
use Rattle.hg_bank.specs.Histories.{Entry, grew, answered, History}
use Rattle.hg_bank.specs.Opening.{core_at, grown}
use Rattle.hg_bank.specs.Requests.{Request, event_of}
use Rattle.hg_bank.specs.State.{BankState}
use Rattle.hg_bank.specs.Steps.{BankStep}
use Rattle.hg_bank.proofs.HiddenLemmas.{words_stay_hidden}
use Rattle.hg_bank.proofs.StepCases.{step_cases, cores_after, policy_after, at_number}

-- each core is of the policy
abbrev AreOf : Policy → BankState → Type 0
AreOf policy b = (b.policy ≡ policy) × All (λ k. k.state.policy ≡ policy) b.cores

core_of : (policy : Policy) (b : BankState) (core : ℕ) → AreOf policy b
    → (core_at b core).state.policy ≡ policy
core_of policy b core of =
    elim (cases_lt core (length b.cores)) as (λ _. (core_at b core).state.policy ≡ policy) [
      | inl below ↦ of.1 core (opened b.policy) below
      | inr past ↦
          ap (λ k. k.state.policy) (get_or_past b.cores core (opened b.policy) past) ∙ of.0
    ]

step_of : (policy : Policy) (old new : BankState) (w : ℕ) (r : Request) (a : Answer)
    → AreOf policy old → BankStep old w r a new → AreOf policy new
step_of policy old new w r a of step =
    elim (step_cases old w r a new step) as (λ _. AreOf policy new) [
      | inl none ↦ subst (AreOf policy) (sym none.1.1) of
      | inr by ↦
          let is = by.2 in
          let P : Kept → Type 0 = λ k. k.state.policy ≡ policy in
          let was = at_number P old.cores by.0 is.was of.1 is.there in (
            policy_after is ∙ of.0,
            subst (All P) (sym (cores_after old w r a new by.0 is))
                (All-set P old.cores by.0 is.next
                (steps_keep_policy is.was.state w (event_of r) a is.next.state is.step.step ∙ was)
                of.1),
          )
    ]

-- who may not read isn't told a hidden word
told_itself : (policy : Policy) (actor : ℕ) (b : BankState) (request : Request) (one other : Answer)
    → AreOf policy b
    → (other ≡ one) ⊎ IsHiddenReadIn (is_unreadable policy actor) b request one other
    → IsOfNoOther actor (event_of request) → other ≡ one
told_itself policy actor b request one other of same own = elim same as (λ _. other ≡ one) [
  | inl plain ↦ plain
  | inr x ↦
      let s = (core_at b x.core).state in
      let read = x.hidden in
      let place = number_of read.handle.place in
      let owner = owner_of (record_at s place).life in
      let reader : read.reader.0 ≡ actor =
      subst (IsOfNoOther actor) (ap event_of x.asks ∙ read.read) own in
      let may : may_read policy actor (segment_of place) owner ≡ true =
      sym (ap (λ p. may_read p actor (segment_of place) owner) (core_of policy b x.core of))
      ∙ sym (ap (λ n. may_read s.policy n (segment_of place) owner) reader)
      ∙ read.permitted
      in
      absurd (true≢false (sym read.hidden ∙ ap not may))
]

told : (policy : Policy) (actor : ℕ) (old : BankState) (entries others : List Entry)
    (new : BankState) → AreOf policy old → History old entries new
    → AreSameAnswers (is_unreadable policy actor) old entries others
    → AreSameTo actor entries others
told policy actor old [] [] new of run same = tt
told policy actor old (grew ∷ later) (grew ∷ others) new of run same =
    told policy actor (grown old) later others new
    (of.0, All-push (λ k. k.state.policy ≡ policy) old.cores (opened old.policy) of.1 of.0) run.1
    same
told policy actor old (answered w r core a ∷ later) (answered v q at b ∷ others) new of run same = (
  same.0,
  told_itself policy actor old r a b of same.1,
  told policy actor run.1.0 later others new (step_of policy old run.1.0 w r a of run.1.1)
      run.1.2 (same.2 run.1.0 run.1.1),
)
told policy actor old [] (f ∷ others) new of run same = absurd same
told policy actor old (grew ∷ later) [] new of run same = absurd same
told policy actor old (grew ∷ later) (answered v q at b ∷ others) new of run same = absurd same
told policy actor old (answered w r core a ∷ later) [] new of run same = absurd same
told policy actor old (answered w r core a ∷ later) (grew ∷ others) new of run same = absurd same

pub actors_are_told_nothing : ActorsAreToldNothing
actors_are_told_nothing actor old other entries others new last alike =
    told old.policy actor old entries others new (refl, alike.policies) alike.one
    (words_stay_hidden actor old other entries others new last alike).0

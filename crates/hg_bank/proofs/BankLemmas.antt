-- The steps of a bank, and what they leave of it.
use Rattle.std.proofs.Common.{◌≡◌, inl, inr, ℕ, ◌<◌, ◌≤◌, true, ◌&&◌}
use Rattle.std.proofs.Common.{[], length, get_or, set, nat_lt, if◌then◌else◌, Option, Some, None}
use Rattle.std.proofs.Common.{MatchOption, refl, sym, ap, subst, ◌∙◌, arith}
use Rattle.std.proofs.lemmas.Bool.{lt-ltb, le-ltb}
use Rattle.std.proofs.lemmas.List.{length-set}
use Rattle.std.proofs.lemmas.Option.{slice_get-get_or}
use Rattle.hg_machine.specs.declared.Answer.{Answer}
use Rattle.hg_machine.specs.declared.Event.{Event}
use Rattle.hg_machine.specs.Lists.{Kept}
use Rattle.hg_machine.proofs.Keeps.{set_cases}
use Rattle.hg_bank.specs.Requests.{Request, named, names_core, server, unserved}
use Rattle.hg_bank.specs.Requests.{absent}
use Rattle.hg_bank.specs.Sound.{IsCoreOf, IsSoundBank}
use Rattle.hg_bank.specs.State.{BankState, current_of, with_core, with_current}
use Rattle.hg_bank.specs.Steps.{IsServedBy, BankStep}
use Rattle.hg_choice.specs.ChosenSteps.{ChosenStep}

at_some : {A : Type 0} (o : Option A) (P : Type 0) (Q : A → Type 0) (a : A) → o ≡ Some a → Q a
    → MatchOption o P Q
at_some None P Q a e q = absurd (cc)
at_some (Some b) P Q a e q = let same : a ≡ b = cc in subst Q same q

at_none : {A : Type 0} (o : Option A) (P : Type 0) (Q : A → Type 0) → o ≡ None → P
    → MatchOption o P Q
at_none None P Q e p = p
at_none (Some b) P Q e p = absurd (cc)

-- a request that a core serves, and one that none does
pub by_core : (old : BankState) (worker : ℕ) (request : Request) (answer : Answer) (new : BankState)
    (core : ℕ) → server old worker request ≡ Some core
    → IsServedBy old worker request answer new core → BankStep old worker request answer new
by_core old worker request answer new core e is =
    at_some (server old worker request) _ (IsServedBy old worker request answer new) core e is

pub by_none : (old : BankState) (worker : ℕ) (request : Request) (answer : Answer)
    → server old worker request ≡ None → answer ≡ unserved old worker request
    → BankStep old worker request answer old
by_none old worker request answer e is =
    at_none (server old worker request) _ _ e (is, refl)

-- an event that names a core which is there, or isn't
pub named_there : (b : BankState) (worker core : ℕ) (e : Event) → names_core e ≡ true
    → core < length b.cores → server b worker (named core e) ≡ Some core
named_there b worker core e names below =
    ap (λ x. if x && nat_lt core (length b.cores) then Some core else None) names
    ∙ ap (λ x. if x then Some core else None) (lt-ltb core (length b.cores) below)

pub named_away : (b : BankState) (worker core : ℕ) (e : Event) → names_core e ≡ true
    → length b.cores ≤ core → server b worker (named core e) ≡ None
named_away b worker core e names past =
    ap (λ x. if x && nat_lt core (length b.cores) then Some core else None) names
    ∙ ap (λ x. if x then Some core else None) (le-ltb core (length b.cores) past)

pub away_step : (b : BankState) (worker core : ℕ) (e : Event) (answer : Answer)
    → names_core e ≡ true → length b.cores ≤ core → answer ≡ absent b.policy e
    → BankStep b worker (named core e) answer b
away_step b worker core e answer names past is =
    by_none b worker (named core e) answer (named_away b worker core e names past) is

pub there_step : (b : BankState) (worker core : ℕ) (e : Event) (answer : Answer) (d next : Kept)
    → names_core e ≡ true → core < length b.cores
    → ChosenStep (get_or b.cores core d) worker e answer next
    → BankStep b worker (named core e) answer (with_core b core next)
there_step b worker core e answer d next names below step =
    by_core b worker (named core e) answer (with_core b core next) core
    (named_there b worker core e names below)
    (record {
      was = get_or b.cores core d;
      next = next;
      there = slice_get-get_or b.cores core d below;
      step = step;
      after = refl;
    })

-- a bank with another core of its policy at a number stays sound
pub core_sound : (b : BankState) (core : ℕ) (next : Kept) → IsSoundBank b → core < length b.cores
    → IsCoreOf b.policy next → IsSoundBank (with_core b core next)
core_sound b core next sound below good =
    let long = length-set b.cores core next in
    let some = sound.some in
    let within = sound.within in
    record {
      some = omega arith;
      within = omega arith;
      most = sound.most;
      cores = λ other d less.
          elim (set_cases b.cores core other next d) as
          (λ _. IsCoreOf b.policy (get_or (set b.cores core next) other d)) [
            | inl here ↦ subst (IsCoreOf b.policy) (sym here.1) good
            | inr away ↦
                subst (IsCoreOf b.policy) (sym away) (sound.cores other d (omega arith))
          ];
      currents = λ worker arena. let c = sound.currents worker arena in omega arith;
    }

-- a bank with another current core stays sound
pub current_sound : (b : BankState) (worker arena core : ℕ) → IsSoundBank b → core < length b.cores
    → IsSoundBank (with_current b worker arena core)
current_sound b worker arena core sound below = record {
  some = sound.some;
  within = sound.within;
  most = sound.most;
  cores = sound.cores;
  currents = λ w a.
      let row = get_or b.currents worker [] in
      let old = sound.currents in
      elim (set_cases b.currents worker w (set row arena core) []) as
      (λ _. current_of (with_current b worker arena core).currents w a < length b.cores) [
        | inl here ↦
            elim (set_cases row arena a core 0) as
            (λ _. current_of (with_current b worker arena core).currents w a < length b.cores) [
              | inl there ↦
                  let e = ap (λ r. get_or r a 0) here.1 ∙ there.1 in
                  omega arith
              | inr other ↦
                  let e = ap (λ r. get_or r a 0) here.1 ∙ other in
                  let was = old worker a in
                  omega arith
            ]
        | inr other ↦
            let e = ap (λ r. get_or r a 0) other in
            let was = old w a in
            omega arith
      ];
}

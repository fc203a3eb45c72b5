-- What hidden means.
use Rattle.std.proofs.Common.{◌≡◌, ◌≢◌, ◌⊎◌, ℕ, zero, suc, List, [], ◌∷◌, Option, Some, None}
use Rattle.std.proofs.Common.{IfSome}
use Rattle.std.proofs.Common.{refl, sym, ap, subst, ◌∙◌, inr, ⊎_elim, arith, slice_get}
use Rattle.std.proofs.lemmas.Option.{same_Some, none-some}
use Rattle.hg_place.specs.declared.Place.{Place}
use Rattle.hg_place.specs.Places.{number_of, segment_of}
use Rattle.hg_machine.specs.declared.Event.{Event}
use Rattle.hg_machine.specs.declared.Answer.{Answer}
use Rattle.hg_machine.specs.Life.{owner_of}
use Rattle.hg_machine.specs.State.{record_at}
use Rattle.hg_laws.specs.Asked.{actor_of}
use Rattle.hg_choice.specs.WordLaws.{IsOfNoOther, AreSameTo}
use Rattle.hg_choice.specs.HiddenLaws.{HiddenIsUnreadable, HiddenWritesAreSame, OwnEventsAreTold}

pub hidden_is_unreadable : HiddenIsUnreadable
hidden_is_unreadable k actor segment owner = refl

segment_is : (place : Place) → segment_of (number_of place) ≡ place.segment
segment_is place = let a = place.page_below in let b = place.index_below in omega arith

pub hidden_writes_are_same : HiddenWritesAreSame
hidden_writes_are_same hides s writer handle index value instead hidden = inr (record {
  writer = writer;
  handle = handle;
  index = index;
  value = value;
  instead = instead;
  written = refl;
  rewritten = refl;
  hidden = ap (λ n. hides n (owner_of (record_at s (number_of handle.place)).life))
      (segment_is handle.place) ∙ hidden;
})

-- of an event on behalf of this one, or of none
is_own : (o : Option ℕ) (actor : ℕ) → o ≡ Some actor → IfSome o (λ other. other ≡ actor)
is_own None actor e = tt
is_own (Some n) actor e = same_Some n actor e

is_nobodys : (o : Option ℕ) (actor : ℕ) → o ≡ None → IfSome o (λ other. other ≡ actor)
is_nobodys None actor e = tt
is_nobodys (Some n) actor e = absurd (none-some n (sym e))

not_others : (o : Option ℕ) (actor other : ℕ) → o ≡ Some other → other ≢ actor
    → IfSome o (λ n. n ≡ actor) → ⊥
not_others None actor other e not is = none-some other e
not_others (Some n) actor other e not is = not (sym (same_Some n other e) ∙ is)

of_no_other : (actor : ℕ) (e : Event) → (actor_of e ≡ Some actor) ⊎ (actor_of e ≡ None)
    → IsOfNoOther actor e
of_no_other actor e whose =
    ⊎_elim (is_own (actor_of e) actor) (is_nobodys (actor_of e) actor) whose

told : (actor k : ℕ) (events : List (ℕ × Event)) (answers given : List Answer) (e : ℕ × Event)
    (a b : Answer) → AreSameTo actor events answers given
    → slice_get events k ≡ Some e → slice_get answers k ≡ Some a → slice_get given k ≡ Some b
    → (actor_of e.1 ≡ Some actor) ⊎ (actor_of e.1 ≡ None) → b ≡ a
told actor zero (f ∷ fs) (x ∷ xs) (y ∷ ys) e a b same is one two whose =
    sym (same_Some y b two)
    ∙ same.0 (subst (λ (z : ℕ × Event). IsOfNoOther actor z.1) (sym (same_Some f e is))
    (of_no_other actor e.1 whose))
    ∙ same_Some x a one
told actor (suc k) (f ∷ fs) (x ∷ xs) (y ∷ ys) e a b same is one two whose =
    told actor k fs xs ys e a b same.1 is one two whose
told actor k [] xs ys e a b same is one two whose = absurd (none-some e is)
told actor k (f ∷ fs) [] ys e a b same is one two whose = absurd (none-some a one)
told actor k (f ∷ fs) (x ∷ xs) [] e a b same is one two whose = absurd (none-some b two)

pub own_events_are_told : OwnEventsAreTold
own_events_are_told = record {
  own = λ actor e is. is_own (actor_of e) actor is;
  nobodys = λ actor e is. is_nobodys (actor_of e) actor is;
  others = λ actor other e is not no. not_others (actor_of e) actor other is not no;
  told = told;
}

-- What a step answered is the call that is tied at its place.
use Rattle.std.proofs.Common.{◌≡◌, ◌⊎◌, ℕ, ◌+◌, ◌<◌, Bool, true, false, List, [], ◌∷◌, ◌++◌, map}
use Rattle.std.proofs.Common.{Some, None, refl, sym, ap, subst, ◌∙◌, inl, inr}
use Rattle.std.proofs.lemmas.Bool.{eq-eqb, true≢false}
use Rattle.std.proofs.lemmas.List.{length-map}
use Rattle.hg_place.proofs.PlaceNumbers.{same_handle}
use Rattle.hg_place.specs.Places.{number_of}
use Rattle.hg_machine.specs.declared.Event.{Event}
use Rattle.hg_machine.specs.declared.Event.TheVariants as event
use Rattle.hg_machine.specs.declared.Answer.{Answer}
use Rattle.hg_machine.specs.declared.Answer.TheVariants as answer
use Rattle.hg_machine.specs.Shown.{IsShownBy}
use Rattle.hg_machine.specs.State.{State, record_at}
use Rattle.hg_machine.specs.Steps.{Step, successor}
use Rattle.hg_machine.specs.Served.{IsServed}
use Rattle.hg_machine.proofs.Answered.{answer_is_determined, each_is_answered}
use Rattle.hg_machine.proofs.Answered.{state_is_determined}
use Rattle.hg_machine.specs.Policy.{Policy}
use Rattle.hg_frame.proofs.SlotWordLemmas.{words_stay}
use Rattle.hg_roles.proofs.DecidingLemmas.{seeing, unseen}
use Rattle.hg_history.specs.Service.{IsIn}
use Rattle.hg_machine.proofs.Cases.{step_cases}
use Rattle.hg_agreement.specs.Views.{View}
use Rattle.hg_agreement.specs.Agreement.{Agrees, Follows}
use Rattle.hg_frame.specs.SlotWords.{changes_word}
use Rattle.hg_history.proofs.Views.{at_map}
use Rattle.hg_roles.specs.Deciding.{IsSeatOf, called}
use Rattle.hg_roles.specs.Roles.{Call, Role, of_worker, of_segment}
use Rattle.hg_run_table.specs.declared.part.Part.{Part}
use Rattle.hg_run_table.specs.declared.part.PartName.TheVariants.{Worker, Segment}
use Rattle.hg_run_table.specs.AnswerLaws.{AsksOne, IsAnsweredBy, TiesMayAnswer, LooksMayAnswer}
use Rattle.hg_run_table.specs.AnswerLaws.{AnswersAreTheCalls}
use Rattle.hg_run_table.specs.Asked.{is_worker, answered, answered_if, AreMade, IsAsked, IsAnswered}
use Rattle.hg_run_table.specs.Seated.{name_in, IsThere, HasRole, HaveRoles, PartAgrees}
use Rattle.hg_run_table.proofs.RolesOfViews.{part_at, role_at}

-- an event has one answer, where an allocation may take one place alone
module _ (s : State) (w place : ℕ) where
  abbrev Alone : Event → Answer → Type 0
  Alone e a = (other : ℕ) → changes_word e a other ≡ true → other ≡ place

  served_alike : (e : Event) (a b : Answer) (new last : State) → Step s w e a new
      → Step s w e b last → IsServed s w e a → IsServed s w e b → Alone e a → Alone e b → a ≡ b
  served_alike (event.Alloc actor arena bytes) a b new last h k g t one other =
      let here : number_of g.0.place ≡ place =
      one (number_of g.0.place)
      (subst (λ (x : Answer). changes_word (event.Alloc actor arena bytes) x (number_of g.0.place)
      ≡ true) (sym g.1) (eq-eqb (number_of g.0.place) (number_of g.0.place) refl)) in
      let there : number_of t.0.place ≡ place =
      other (number_of t.0.place)
      (subst (λ (x : Answer). changes_word (event.Alloc actor arena bytes) x (number_of t.0.place)
      ≡ true) (sym t.1) (eq-eqb (number_of t.0.place) (number_of t.0.place) refl)) in
      let numbers : number_of g.0.place ≡ number_of t.0.place = here ∙ sym there in
      g.1
      ∙ ap answer.Block
      (same_handle g.0 t.0 numbers
      (g.2.next ∙ ap (λ n. (record_at s n).generation + 1) numbers ∙ sym t.2.next))
      ∙ sym t.1
  served_alike (event.Free actor handle) a b new last h k g t one other = g ∙ sym t
  served_alike event.Deliver a b new last h k g t one other = g ∙ sym t
  served_alike (event.Take segment) a b new last h k g t one other = g ∙ sym t
  served_alike event.Collect a b new last h k g t one other = g ∙ sym t
  served_alike (event.Read actor handle index) a b new last h k g t one other = g ∙ sym t
  served_alike (event.Write actor handle index value) a b new last h k g t one other = g ∙ sym t
  served_alike (event.Look actor at) a b new last h k g t one other =
      elim (answer_is_determined s w (event.Look actor at) a b new last h k) as (λ _. a ≡ b) [
        | inl same ↦ same
        | inr both ↦ absurd (let not : answer.Listed g.0 ≡ answer.Block both.0 = sym g.1 ∙ both.2 in cc)
      ]
  served_alike (event.Abandon segment) a b new last h k g t one other = g ∙ sym t
  served_alike (event.Refill arena) a b new last h k g t one other =
      elim (answer_is_determined s w (event.Refill arena) a b new last h k) as (λ _. a ≡ b) [
        | inl same ↦ same
        | inr both ↦ absurd (let not : answer.Refilled g.0 ≡ answer.Block both.0 = sym g.1 ∙ both.2 in cc)
      ]

  one_answer : (e : Event) (a b : Answer) (new last : State) → Step s w e a new
      → Step s w e b last → Alone e a → Alone e b → a ≡ b
  one_answer e a b new last h k one other =
      elim (answer_is_determined s w e a b new last h k) as (λ _. a ≡ b) [
        | inl same ↦ same
        | inr both ↦
            elim (step_cases s w e a new h) as (λ _. a ≡ b) [
              | inl is ↦ elim (step_cases s w e b last k) as (λ _. a ≡ b) [
                | inl too ↦ served_alike e a b new last h k is.serves too.serves one other
                | inr not ↦ absurd (let no : None ≡ Some b = sym is.none ∙ not.some in cc)
              ]
              | inr is ↦ elim (step_cases s w e b last k) as (λ _. a ≡ b) [
                | inl not ↦ absurd (let no : None ≡ Some a = sym not.none ∙ is.some in cc)
                | inr too ↦ (let both : Some a ≡ Some b = sym is.some ∙ too.some in cc)
              ]
            ]
      ]

-- calls of one event are one call
one_call : (calls : List Call) (e : Event) → map (λ (call : Call). call.0) calls ≡ e ∷ []
    → (b : Answer) × (calls ≡ (e, b) ∷ [])
one_call [] e is = absurd (cc)
one_call (call ∷ []) e is =
    let same : call.0 ≡ e = cc in
    (call.1, ap (λ (x : Event). (x, call.1) ∷ []) same)
one_call (call ∷ other ∷ more) e is = absurd (cc)

worker_is : (n w : ℕ) → Worker n ≡ Worker w → n ≡ w
worker_is n w e = cc

-- the part of a seat's worker, which is asked
module _ {run : List Part} {roles : List Role} {before : View} {log : List Call} {e : Event}
    {rest : List (List Event)} (asks : AsksOne run roles before log e rest) where
  pub who_asks : (is : IsAsked run) × ((is.worker ≡ before.worker) × (is.events ≡ e ∷ [])
      × HasRole is.part (of_worker before log))
  who_asks =
      let p = part_at run roles asks.has asks.seat.place (of_worker before log) asks.seat.there in (
        record {
          at = asks.seat.place;
          part = p.0;
          there = p.1;
          worker = before.worker;
          named = sym p.2.named;
          events = e ∷ [];
          rest = rest;
          asks = asks.asked asks.seat.place p.0 p.1
              (ap (is_worker before.worker) (sym p.2.named)
              ∙ eq-eqb before.worker before.worker refl);
        },
        (refl, refl, p.2),
      )

  its_state : (m : State) (place word : ℕ) (policy : Policy)
      → PartAgrees policy who_asks.0.part m → IsShownBy (record_at m place) word
      → Agrees m before (Some (record { place = place; word = word }))
  its_state m place word policy agrees shown =
      seeing m before place word
      (agrees.like (of_worker before log) who_asks.1.2.named who_asks.1.2.agrees) shown

pub ties_may_answer : TiesMayAnswer
unfolding who_asks
ties_may_answer policy place word left run roles log before after e a rest asks own alone ties = record {
  who = (who_asks asks).0;
  answer = λ m sound same agrees shown.
      let f = ties m (its_state asks m place word policy agrees shown) in record {
        calls = (e, a) ∷ [];
        new = successor m before.worker e a;
        events_are = refl;
        made = (
          successor m before.worker e a,
          record { own = own; step = f.step; alone = alone },
          refl,
        );
        word = f.agrees.word;
      };
}

pub looks_may_answer : LooksMayAnswer
unfolding who_asks
looks_may_answer policy place word run roles log before e rest asks own none = record {
  who = (who_asks asks).0;
  answer = λ m sound same agrees shown.
      let low : before.worker < policy.workers =
      subst (IsThere policy) (who_asks asks).0.named agrees.there in
      let it =
      each_is_answered m before.worker e sound
      (subst (λ (p : Policy). before.worker < p.workers) (sym same) low) in record {
        calls = (e, it.0) ∷ [];
        new = it.1;
        events_are = refl;
        made = (
          it.1,
          record {
            own = own;
            step = it.2;
            alone = λ other t. absurd (true≢false (sym t ∙ none it.0 other));
          },
          refl,
        );
        word = words_stay m before.worker e it.0 it.1 place word (none it.0 place) it.2 shown;
      };
}

head_is : (x y : List Event) (xs ys : List (List Event)) → x ∷ xs ≡ y ∷ ys → x ≡ y
head_is x y xs ys e = cc

tail_is : (x y : List Event) (xs ys : List (List Event)) → x ∷ xs ≡ y ∷ ys → xs ≡ ys
tail_is x y xs ys e = cc

module _ (place word left : ℕ) (old new : List Part) (roles : List Role) (log : List Call)
    (before after : View) (e : Event) (a : Answer) (rest : List (List Event))
    (asks : AsksOne old roles before log e rest) (same : after.worker ≡ before.worker)
    (is : IsAnswered place word left old new)
    (alone : (other : ℕ) → changes_word e a other ≡ true → other ≡ place)
    (ties : (m : State) → Agrees m before (Some (record { place = place; word = word }))
    → Follows m before.worker e a after (Some (record { place = place; word = left }))) where
  abbrev has : HaveRoles old roles
  has = asks.has

  abbrev seat : IsSeatOf before log roles
  seat = asks.seat

  -- the part that was asked is the worker's
  its_role : (role : Role) → HasRole is.who.part role
      → ((role ≡ of_worker before log) ⊎ ((segment : ℕ) × (role ≡ of_segment segment)))
      → role ≡ of_worker before log
  its_role role r (inl it) = it
  its_role role r (inr t) =
      absurd
      (let no : Segment t.0 ≡ Worker is.who.worker =
      sym (ap name_in t.1) ∙ r.named ∙ is.who.named in cc)

  asked_has : HasRole is.who.part (of_worker before log)
  asked_has =
      let r = role_at old roles has is.who.at is.who.part is.who.there in
      subst (HasRole is.who.part) (its_role r.0 r.2 (seat.others is.who.at r.0 r.1)) r.2

  who : before.worker ≡ is.who.worker
  who = worker_is before.worker is.who.worker (asked_has.named ∙ is.who.named)

  -- it is asked this event, and then the rest
  asked_both : is.who.events ∷ is.who.rest ≡ (e ∷ []) ∷ rest
  asked_both =
      sym is.who.asks
      ∙ asks.asked is.who.at is.who.part is.who.there
      (ap (is_worker before.worker) is.who.named ∙ eq-eqb is.who.worker before.worker (sym who))

  one : is.who.events ≡ e ∷ []
  one = head_is is.who.events (e ∷ []) is.who.rest rest asked_both

  rest_is : is.who.rest ≡ rest
  rest_is = tail_is is.who.events (e ∷ []) is.who.rest rest asked_both

  agreed : Agrees is.state before None
  agreed = is.agrees.like (of_worker before log) asked_has.named asked_has.agrees

  follows : Follows is.state before.worker e a after (Some (record { place = place; word = left }))
  follows = ties is.state (seeing is.state before place word agreed is.shown)

  call : (b : Answer) × (is.answer.calls ≡ (e, b) ∷ [])
  call = one_call is.answer.calls e (is.answer.events_are ∙ one)

  made : AreMade place is.who.worker ((e, call.0) ∷ []) is.state is.answer.new
  made =
      subst
      (λ (calls : List Call). AreMade place is.who.worker calls is.state is.answer.new)
      call.1 is.answer.made

  step : Step is.state is.who.worker e a (successor is.state is.who.worker e a)
  step =
      subst (λ n. Step is.state n e a (successor is.state n e a)) who follows.step

  answer_is : call.0 ≡ a
  answer_is =
      one_answer is.state is.who.worker place e call.0 a made.0
      (successor is.state is.who.worker e a) made.1.step step made.1.alone alone

  calls_are : is.answer.calls ≡ (e, a) ∷ []
  calls_are = call.1 ∙ ap (λ (x : Answer). (e, x) ∷ []) answer_is

  new_is : is.answer.new ≡ successor is.state before.worker e a
  new_is =
      made.2
      ∙ state_is_determined is.state is.who.worker e call.0 made.0 made.1.step
      ∙ ap (successor is.state is.who.worker e) answer_is
      ∙ ap (λ n. successor is.state n e a) (sym who)

  agrees_after : Agrees is.answer.new after None
  agrees_after =
      subst (λ (m : State). Agrees m after None) (sym new_is)
      (unseen (successor is.state before.worker e a) after _ follows.agrees)

  abbrev change : Part → Part
  change = answered is.who.worker is.answer.calls is.who.rest is.answer.new

  mine : (b : Bool) (part : Part) → b ≡ true → HasRole part (of_worker before log)
      → HasRole (answered_if b is.answer.calls is.who.rest is.answer.new part)
      (of_worker after (log ++ (e, a) ∷ []))
  mine true part so h = record {
    named = ap Worker same ∙ h.named;
    log =
        ap (λ (l : List Call). l ++ is.answer.calls) h.log
        ∙ ap (λ (l : List Call). log ++ l) calls_are;
    agrees = agrees_after;
  }
  mine false part so h = absurd (true≢false (sym so))

  others : (b : Bool) (part : Part) (segment : ℕ) → b ≡ false → HasRole part (of_segment segment)
      → HasRole (answered_if b is.answer.calls is.who.rest is.answer.new part)
      (of_segment segment)
  others true part segment so h = absurd (true≢false so)
  others false part segment so h = h

  each_has : (part : Part) (role : Role) → HasRole part role
      → ((role ≡ of_worker before log) ⊎ ((segment : ℕ) × (role ≡ of_segment segment)))
      → HasRole (change part) (called after (e, a) role)
  each_has part role h (inl it) =
      let its = subst (HasRole part) it h in
      subst (λ (r : Role). HasRole (change part) (called after (e, a) r)) (sym it)
      (mine (is_worker is.who.worker part.name) part
      (ap (is_worker is.who.worker) (sym its.named)
      ∙ eq-eqb before.worker is.who.worker who) its)
  each_has part role h (inr t) =
      let its = subst (HasRole part) t.1 h in
      subst (λ (r : Role). HasRole (change part) (called after (e, a) r)) (sym t.1)
      (others (is_worker is.who.worker part.name) part t.0
      (ap (is_worker is.who.worker) (sym its.named)) its)

  have : HaveRoles (map change old) (map (called after (e, a)) roles)
  have = record {
    count = length-map old change ∙ has.count ∙ sym (length-map roles (called after (e, a)));
    each = λ j part role p r.
        let x = at_map change old j part p in
        let y = at_map (called after (e, a)) roles j role r in
        subst (λ (part : Part). HasRole part role) x.2
        (subst (HasRole (change x.0)) y.2
        (each_has x.0 y.0 (has.each j x.0 y.0 x.1 y.1) (seat.others j y.0 y.1)));
  }

  -- what each part is asked then
  asked_if : (b : Bool) (part : Part) → b ≡ true
      → (answered_if b is.answer.calls is.who.rest is.answer.new part).asked ≡ rest
  asked_if true part so = rest_is
  asked_if false part so = absurd (true≢false (sym so))

  kept_if : (b : Bool) (part : Part) → b ≡ false
      → answered_if b is.answer.calls is.who.rest is.answer.new part ≡ part
  kept_if true part so = absurd (true≢false so)
  kept_if false part so = refl

  named_if : (b : Bool) (part : Part)
      → (answered_if b is.answer.calls is.who.rest is.answer.new part).name ≡ part.name
  named_if true part = refl
  named_if false part = refl

  -- where it was the worker's, it is
  its_name : (part : Part) (b : Bool) → is_worker before.worker (change part).name ≡ b
      → is_worker is.who.worker part.name ≡ b
  its_name part b so =
      ap (λ n. is_worker n part.name) (sym who)
      ∙ ap (is_worker before.worker)
      (sym (named_if (is_worker is.who.worker part.name) part)) ∙ so

  by_parts : IsAnsweredBy old (map change old) roles before after (e, a) rest
  by_parts = record {
    has = have;
    asked = λ j part here so.
        let x = at_map change old j part here in
        subst (λ (p : Part). p.asked ≡ rest) x.2
        (asked_if (is_worker is.who.worker x.0.name) x.0
        (its_name x.0 true (subst (λ (p : Part). is_worker before.worker p.name ≡ true) (sym x.2) so)));
    others = λ j part here so.
        let x = at_map change old j part here in
        subst (IsIn old j)
        (sym (kept_if (is_worker is.who.worker x.0.name) x.0
        (its_name x.0 false (subst (λ (p : Part). is_worker before.worker p.name ≡ false) (sym x.2) so)))
        ∙ x.2) x.1;
  }

  pub answered_by : IsAnsweredBy old new roles before after (e, a) rest
  answered_by =
      subst (λ (run : List Part). IsAnsweredBy old run roles before after (e, a) rest) (sym is.now)
      by_parts

pub answers_are_the_calls : AnswersAreTheCalls
answers_are_the_calls place word left old new roles log before after e a rest asks same is alone ties =
    answered_by place word left old new roles log before after e a rest asks same is alone ties

-- What is written shows only in permitted reads.
use Rattle.std.proofs.Common.{◌≡◌, inl, inr, ℕ, ◌&&◌, Bool, true, false, not, List, [], ◌∷◌, None}
use Rattle.std.proofs.Common.{refl, sym, ap, subst, ◌∙◌}
use Rattle.std.proofs.Math.Path.{fun_ext}
use Rattle.std.proofs.lemmas.Bool.{cases_Bool, true≢false}
use Rattle.std.proofs.lemmas.Option.{none-some}
use Rattle.hg_place.specs.declared.Right.TheVariants as right
use Rattle.hg_place.specs.declared.Actor.{Actor}
use Rattle.hg_place.specs.declared.Handle.{Handle}
use Rattle.hg_place.specs.Places.{number_of, segment_of}
use Rattle.hg_machine.specs.declared.Event.{Event}
use Rattle.hg_machine.specs.declared.Event.TheVariants as event
use Rattle.hg_machine.specs.declared.Answer.{Answer}
use Rattle.hg_machine.specs.Policy.{Policy}
use Rattle.hg_machine.specs.Life.{owner_of}
use Rattle.hg_machine.specs.State.{State, record_at}
use Rattle.hg_machine.specs.Refusal.{refusal}
use Rattle.hg_machine.specs.Served.{IsServed}
use Rattle.hg_machine.specs.Lists.{Kept}
use Rattle.hg_machine.proofs.Allowed.{no_denial}
use Rattle.hg_machine.proofs.Cases.{step_cases, refused_changes_nothing}
use Rattle.hg_machine.proofs.Answered.{state_is_determined}
use Rattle.hg_machine.proofs.Preserves.{steps_keep_policy}
use Rattle.hg_laws.proofs.MachineFacts.{permitted}
use Rattle.hg_choice.specs.ChosenSteps.{ChosenStep, Chosen}
use Rattle.hg_choice.specs.Masks.{masked, masked_kept, is_hidden}
use Rattle.hg_choice.specs.SameBut.{may_read, is_unreadable, IsSameBut, IsSameEvent, AreSameEvents}
use Rattle.hg_choice.specs.SameBut.{IsSameAnswer, AreSameAnswers}
use Rattle.hg_choice.specs.WordLaws.{unreadable, IsOfNoOther, AreSameTo, WordsStayHidden}
use Rattle.hg_choice.specs.WordLaws.{ActorsAreToldNothing}
use Rattle.hg_choice.proofs.MaskedFacts.{same_hidden}
use Rattle.hg_choice.proofs.MaskedServes.{masked_value, with_value, masked_event, masked_answer}
use Rattle.hg_choice.proofs.MaskedServes.{same_refusal}
use Rattle.hg_choice.proofs.MaskedSteps.{masked_step}
use Rattle.hg_choice.proofs.ChoiceLemmas.{same_kept, steps_agree}

both : (a b : Bool) → a ≡ true → b ≡ true → (a && b) ≡ true
both a b e f = ap (λ x. x && b) e ∙ f

module _ (hides : ℕ → ℕ → Bool) where
  pub masks_agree : (old other : Kept) → IsSameBut hides old other
      → masked_kept hides other ≡ masked_kept hides old
  masks_agree old other same =
      same_kept (masked_kept hides old) (masked_kept hides other) same.state same.lists same.queues

  hidden_agree : (s t : State) → masked hides t ≡ masked hides s
      → is_hidden hides t ≡ is_hidden hides s
  hidden_agree s t e = fun_ext λ p. sym (same_hidden hides t p) ∙ ap (λ m. is_hidden hides m p) e
      ∙ same_hidden hides s p

  events_agree : (s t : State) (e f : Event) → masked hides t ≡ masked hides s
      → IsSameEvent hides s e f
      → masked_event (is_hidden hides t) f ≡ masked_event (is_hidden hides s) e
  events_agree s t e f same alike =
      ap (λ hidden. masked_event hidden f) (hidden_agree s t same)
      ∙ elim alike as
      (λ _. masked_event (is_hidden hides s) f ≡ masked_event (is_hidden hides s) e) [
        | inl is ↦ ap (masked_event (is_hidden hides s)) is
        | inr w ↦
            ap (masked_event (is_hidden hides s)) w.rewritten
            ∙ ap (λ b. event.Write w.writer w.handle w.index (masked_value b w.instead)) w.hidden
            ∙ sym (ap (λ b. event.Write w.writer w.handle w.index (masked_value b w.value))
            w.hidden)
            ∙ sym (ap (masked_event (is_hidden hides s)) w.written)
      ]

  -- the same reason refuses both
  pub refusals_agree : (s t : State) (w : ℕ) (e f : Event) → masked hides t ≡ masked hides s
      → IsSameEvent hides s e f → refusal t w f ≡ refusal s w e
  refusals_agree s t w e f same alike =
      sym (same_refusal hides t w f)
      ∙ ap (λ m. refusal m w (masked_event (is_hidden hides t) f)) same
      ∙ ap (refusal (masked hides s) w) (events_agree s t e f same alike)
      ∙ same_refusal hides s w e

  -- a served read by one who may read
  reader_may : (s : State) (w : ℕ) (reader : Actor) (handle : Handle) (index : ℕ)
      → refusal s w (event.Read reader handle index) ≡ None
      → may_read s.policy reader.0 (segment_of (number_of handle.place))
      (owner_of (record_at s (number_of handle.place)).life) ≡ true
  reader_may s w reader handle index none =
      let may =
      permitted s reader.0 right.Read handle.place handle.generation (no_denial _ _ none).0 in
      both _ _ may.tenant (both _ _ may.admitted may.allowed)

  read_agrees : (s t : State) (w : ℕ) (reader : Actor) (handle : Handle) (index : ℕ) (a b : Answer)
      → refusal s w (event.Read reader handle index) ≡ None
      → IsServed s w (event.Read reader handle index) a
      → IsServed t w (event.Read reader handle index) b
      → with_value (is_hidden hides s (number_of handle.place)) b
      ≡ with_value (is_hidden hides s (number_of handle.place)) a
      → IsSameAnswer hides s (event.Read reader handle index) a b
  read_agrees s t w reader handle index a b none is are same =
      let p = number_of handle.place in
      elim (cases_Bool (is_hidden hides s p)) as
      (λ _. IsSameAnswer hides s (event.Read reader handle index) a b) [
        | inl there ↦ inr (record {
          reader = reader;
          handle = handle;
          index = index;
          value = _;
          instead = _;
          read = refl;
          told = is;
          retold = are;
          hidden = there;
          permitted = reader_may s w reader handle index none;
        })
        | inr plain ↦ inl (
            are
            ∙ sym (ap (with_value false) are)
            ∙ sym (ap (λ h. with_value h b) plain)
            ∙ same
            ∙ ap (λ h. with_value h a) plain
            ∙ ap (with_value false) is
            ∙ sym is
            )
      ]

  -- a served event that is the same in both
  served_agrees : (s t : State) (w : ℕ) (e : Event) (a b : Answer) → refusal s w e ≡ None
      → IsServed s w e a → IsServed t w e b
      → masked_answer (is_hidden hides s) e b ≡ masked_answer (is_hidden hides s) e a
      → IsSameAnswer hides s e a b
  served_agrees s t w (event.Alloc actor arena bytes) a b none is are same = inl same
  served_agrees s t w (event.Free actor handle) a b none is are same = inl same
  served_agrees s t w event.Deliver a b none is are same = inl same
  served_agrees s t w (event.Take segment) a b none is are same = inl same
  served_agrees s t w event.Collect a b none is are same = inl same
  served_agrees s t w (event.Read actor handle index) a b none is are same =
      read_agrees s t w actor handle index a b none is are same
  served_agrees s t w (event.Write actor handle index value) a b none is are same = inl same
  served_agrees s t w (event.Look actor place) a b none is are same = inl same
  served_agrees s t w (event.Abandon segment) a b none is are same = inl same
  served_agrees s t w (event.Refill arena) a b none is are same = inl same

  -- the second step among hidden words is the first
  steps_same : (old other : Kept) (w : ℕ) (e f : Event) (a b : Answer) (new last : Kept)
      → IsSameBut hides old other → IsSameEvent hides old.state e f
      → ChosenStep old w e a new → ChosenStep other w f b last
      → (masked_answer (is_hidden hides other.state) f b
      ≡ masked_answer (is_hidden hides old.state) e a)
      × (masked_kept hides last ≡ masked_kept hides new)
  steps_same old other w e f a b new last same alike one second =
      let moved : ChosenStep (masked_kept hides old) w (masked_event (is_hidden hides old.state) e)
      (masked_answer (is_hidden hides other.state) f b) (masked_kept hides last) =
      subst (λ k. ChosenStep k w (masked_event (is_hidden hides old.state) e)
      (masked_answer (is_hidden hides other.state) f b) (masked_kept hides last))
      (masks_agree old other same)
      (
      subst (λ g. ChosenStep (masked_kept hides other) w g
      (masked_answer (is_hidden hides other.state) f b) (masked_kept hides last))
      (events_agree old.state other.state e f same.state alike)
      (masked_step hides other w f b last second)
      )
      in
      steps_agree (masked_kept hides old) w (masked_event (is_hidden hides old.state) e)
      (masked_answer (is_hidden hides old.state) e a)
      (masked_answer (is_hidden hides other.state) f b)
      (masked_kept hides new) (masked_kept hides last) (masked_step hides old w e a new one) moved

  step_answers : (old other : Kept) (w : ℕ) (e f : Event) (a b : Answer) (new last : Kept)
      → IsSameBut hides old other → IsSameEvent hides old.state e f
      → ChosenStep old w e a new → ChosenStep other w f b last → IsSameAnswer hides old.state e a b
  step_answers old other w e f a b new last same alike one second =
      let refusals = refusals_agree old.state other.state w e f same.state alike in
      let told : masked_answer (is_hidden hides old.state) f b
      ≡ masked_answer (is_hidden hides old.state) e a =
      sym (ap (λ hidden. masked_answer hidden f b) (hidden_agree old.state other.state same.state))
      ∙ (steps_same old other w e f a b new last same alike one second).0
      in
      elim (step_cases old.state w e a new.state one.step) as
      (λ _. IsSameAnswer hides old.state e a b) [
        | inr refused ↦
            inl ((refused_changes_nothing other.state last.state w f b a (refusals ∙ refused.some)
            second.step).0)
        | inl served ↦
            elim (step_cases other.state w f b last.state second.step) as
            (λ _. IsSameAnswer hides old.state e a b) [
              | inr refused ↦ absurd (none-some b (sym served.none ∙ sym refusals ∙ refused.some))
              | inl also ↦ elim alike as (λ _. IsSameAnswer hides old.state e a b) [
                | inr w ↦ inl (
                    sym (ap (λ x. masked_answer (is_hidden hides old.state) x b) w.rewritten) ∙ told
                    ∙ ap (λ x. masked_answer (is_hidden hides old.state) x a) w.written
                    )
                | inl is ↦
                    served_agrees old.state other.state w e a b served.none served.serves
                    (subst (λ x. IsServed other.state w x b) is also.serves)
                    (sym (ap (λ x. masked_answer (is_hidden hides old.state) x b) is) ∙ told)
              ]
            ]
      ]

  pub step_keeps : (old other : Kept) (w : ℕ) (e f : Event) (a b : Answer) (new last : Kept)
      → IsSameBut hides old other → IsSameEvent hides old.state e f
      → ChosenStep old w e a new → ChosenStep other w f b last → IsSameBut hides new last
  step_keeps old other w e f a b new last same alike one second =
      let end = (steps_same old other w e f a b new last same alike one second).1 in
      record {
        state = ap (λ k. k.state) end;
        lists = ap (λ k. k.lists) end;
        queues = ap (λ k. k.queues) end;
      }

  pub runs_agree : (old other : Kept) (events others : List (ℕ × Event))
      (answers given : List Answer) (new last : Kept)
      → IsSameBut hides old other → AreSameEvents hides old.state events others answers
      → Chosen old events answers new → Chosen other others given last
      → AreSameAnswers hides old.state events answers given × IsSameBut hides new last
  runs_agree old other [] [] [] [] new last same alike one second = (
    tt,
    subst (λ k. IsSameBut hides k last) (sym one)
        (subst (IsSameBut hides old) (sym second) same),
  )
  runs_agree old other [] [] [] (b ∷ given) new last same alike one second = absurd second
  runs_agree old other [] [] (a ∷ answers) given new last same alike one second = absurd one
  runs_agree old other [] (f ∷ others) answers given new last same alike one second = absurd alike
  runs_agree old other (e ∷ events) [] answers given new last same alike one second = absurd alike
  runs_agree old other (e ∷ events) (f ∷ others) [] given new last same alike one second =
      absurd one
  runs_agree old other (e ∷ events) (f ∷ others) (a ∷ answers) [] new last same alike one second =
      absurd second
  runs_agree old other (e ∷ events) (f ∷ others) (a ∷ answers) (b ∷ given) new last same alike one
      second =
      let step = subst (λ w. ChosenStep other w f.1 b second.0) alike.0 second.1 in
      let after = state_is_determined old.state e.0 e.1 a one.0.state one.1.step in
      let later = runs_agree one.0 second.0 events others answers given new last
      (step_keeps old other e.0 e.1 f.1 a b one.0 second.0 same alike.1 one.1 step)
      (subst (λ s. AreSameEvents hides s events others answers) (sym after) alike.2)
      one.2 second.2
      in (
        (
          step_answers old other e.0 e.1 f.1 a b one.0 second.0 same alike.1 one.1 step,
          subst (λ s. AreSameAnswers hides s events answers given) after later.0,
        ),
        later.1,
      )

pub words_stay_hidden : WordsStayHidden
words_stay_hidden actor old other events others answers given new last alike =
    runs_agree (unreadable old actor) old other events others answers given new last alike.begin
    alike.same alike.one alike.second

-- who may not read isn't answered a hidden word
told_itself : (policy : Policy) (actor : ℕ) (s : State) (e : Event) (a b : Answer)
    → s.policy ≡ policy → IsSameAnswer (is_unreadable policy actor) s e a b → IsOfNoOther actor e
    → b ≡ a
told_itself policy actor s e a b is same own = elim same as (λ _. b ≡ a) [
  | inl plain ↦ plain
  | inr read ↦
      let place = number_of read.handle.place in
      let reader : read.reader.0 ≡ actor = subst (IsOfNoOther actor) read.read own in
      let may : may_read policy actor (segment_of place) (owner_of (record_at s place).life)
      ≡ true =
      sym (ap (λ p. may_read p actor (segment_of place) (owner_of (record_at s place).life)) is)
      ∙ sym (ap (λ r. may_read s.policy r (segment_of place) (owner_of (record_at s place).life))
      reader)
      ∙ read.permitted
      in
      absurd (true≢false (sym read.hidden ∙ ap not may))
]

told : (policy : Policy) (actor : ℕ) (old : Kept) (events : List (ℕ × Event))
    (answers given : List Answer) (new : Kept) → old.state.policy ≡ policy
    → Chosen old events answers new
    → AreSameAnswers (is_unreadable policy actor) old.state events answers given
    → AreSameTo actor events answers given
told policy actor old [] [] [] new is run same = tt
told policy actor old [] [] (b ∷ given) new is run same = absurd same
told policy actor old [] (a ∷ answers) given new is run same = absurd same
told policy actor old (e ∷ events) [] given new is run same = absurd same
told policy actor old (e ∷ events) (a ∷ answers) [] new is run same = absurd same
told policy actor old (e ∷ events) (a ∷ answers) (b ∷ given) new is run same =
    let after = state_is_determined old.state e.0 e.1 a run.0.state run.1.step in (
      told_itself policy actor old.state e.1 a b is same.0,
      told policy actor run.0 events answers given new
          (steps_keep_policy old.state e.0 e.1 a run.0.state run.1.step ∙ is) run.2
          (subst (λ s. AreSameAnswers (is_unreadable policy actor) s events answers given)
          (sym after) same.1),
    )

pub actors_are_told_nothing : ActorsAreToldNothing
actors_are_told_nothing actor old other events others answers given new last alike =
    told old.state.policy actor old events answers given new refl alike.one
    (words_stay_hidden actor old other events others answers given new last alike).0

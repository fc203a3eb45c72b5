-- What is written stays hidden in a bank too.
use Rattle.std.proofs.Common.{◌≡◌, ◌⊎◌, inl, inr, ℕ, ◌&&◌, Bool, true, false, List, [], ◌∷◌, ◌++◌}
use Rattle.std.proofs.Common.{length, nat_lt, Some, None, if◌then◌else◌, refl, sym, ap}
use Rattle.std.proofs.Common.{subst, ◌∙◌}
use Rattle.std.specs.Prelude.{slice_get, option_map}
use Rattle.std.proofs.lemmas.List.{map-append}
use Rattle.std.proofs.lemmas.Option.{none-some, same_Some, slice_get-map, get_or_from_slice_get}
use Rattle.hg_choice.specs.Masks.{masked_kept}
use Rattle.hg_choice.specs.SameBut.{is_unreadable, IsSameBut, IsHiddenWrite, IsHiddenRead}
use Rattle.hg_choice.specs.SameBut.{IsSameEvent}
use Rattle.hg_choice.proofs.WordLemmas.{masks_agree, runs_agree}
use Rattle.hg_core.specs.Opening.{opened}
use Rattle.hg_place.specs.declared.Actor.{Actor}
use Rattle.hg_place.specs.declared.Handle.{Handle}
use Rattle.hg_machine.specs.declared.Answer.{Answer}
use Rattle.hg_machine.specs.declared.Event.TheVariants as event
use Rattle.hg_machine.specs.Lists.{Kept}
use Rattle.hg_bank.specs.Hidden.{masked_bank, IsSameRequest, AreSameRequests}
use Rattle.hg_bank.specs.Hidden.{IsHiddenReadIn, AreSameAnswers, WordsStayHidden}
use Rattle.hg_bank.specs.Histories.{Entry, grew, answered, History}
use Rattle.hg_bank.specs.Opening.{core_at, grown}
use Rattle.hg_bank.specs.Requests.{Request, alloc, refill, named, names_core, event_of, server}
use Rattle.hg_bank.specs.Requests.{unserved}
use Rattle.hg_bank.specs.State.{BankState, with_core}
use Rattle.hg_bank.specs.Steps.{IsServedBy, BankStep, moved}
use Rattle.hg_bank.proofs.LawLemmas.{steps_are_determined}
use Rattle.hg_bank.proofs.MaskLemmas.{same_server, same_unserved, moved_masked, with_core_masked}
use Rattle.hg_bank.proofs.StepCases.{step_cases}

named_at : (b : Bool) (at core : ℕ) → (if b then Some at else None) ≡ Some core → at ≡ core
named_at true at core e = same_Some at core e
named_at false at core e = absurd (none-some core e)

-- a read is asked of the core that serves
read_named : (b : BankState) (worker core : ℕ) (request : Request) (reader : Actor)
    (handle : Handle) (index : ℕ) → event_of request ≡ event.Read reader handle index
    → server b worker request ≡ Some core → request ≡ named core (event_of request)
read_named b worker core (alloc actor arena bytes) reader handle index is e = absurd (cc)
read_named b worker core (refill arena) reader handle index is e = absurd (cc)
read_named b worker core (named at asked) reader handle index is e =
    ap (λ n. named n asked) (named_at (names_core asked && nat_lt at (length b.cores)) at core e)

module _ (hides : ℕ → ℕ → Bool) where
  -- two banks after one step each
  record EndAlike (old other : BankState) (worker : ℕ) (one two : Request) (a b : Answer)
      (new last : BankState) : Type 0 where
    pub servers : server other worker two ≡ server old worker one
    pub told : (b ≡ a) ⊎ IsHiddenReadIn hides old one a b
    pub after : masked_bank hides last ≡ masked_bank hides new

  module _ (old other : BankState) (same : masked_bank hides other ≡ masked_bank hides old)
      (worker : ℕ) {one two : Request} (alike : IsSameRequest hides old one two) where
    -- what looks at masked banks, and not at the value of a write, is the same of both
    by_mask : {A : Type 0} (of : BankState → Request → A)
        → ((b : BankState) (r : Request) → of (masked_bank hides b) r ≡ of b r)
        → ((b : BankState) (core : ℕ) (writer : Actor) (handle : Handle) (index value instead : ℕ)
        → of b (named core (event.Write writer handle index instead))
        ≡ of b (named core (event.Write writer handle index value)))
        → of other two ≡ of old one
    by_mask of keeps writes =
        let masks = sym (keeps other one) ∙ ap (λ b. of b one) same ∙ keeps old one in
        elim alike as (λ _. of other two ≡ of old one) [
          | inl is ↦ ap (of other) is ∙ masks
          | inr x ↦
              let w = x.hidden in
              ap (of other) (x.asks_other ∙ ap (named x.core) w.rewritten)
              ∙ writes other x.core w.writer w.handle w.index w.value w.instead
              ∙ sym (ap (of other) (x.asks ∙ ap (named x.core) w.written))
              ∙ masks
        ]

    pub servers : server other worker two ≡ server old worker one
    servers =
        by_mask (λ b r. server b worker r) (λ b r. same_server hides b worker r)
        (λ b core writer handle index value instead. refl)

    unserved_both : unserved other worker two ≡ unserved old worker one
    unserved_both =
        by_mask (λ b r. unserved b worker r) (λ b r. same_unserved hides b worker r)
        (λ b core writer handle index value instead. refl)

    moved_both : (core : ℕ) (b : BankState) → moved two worker core b ≡ moved one worker core b
    moved_both core b = elim alike as (λ _. moved two worker core b ≡ moved one worker core b) [
      | inl is ↦ ap (λ r. moved r worker core b) is
      | inr x ↦
          ap (λ r. moved r worker core b) x.asks_other
          ∙ sym (ap (λ r. moved r worker core b) x.asks)
    ]

    -- the core that serves, in both, and what it is asked
    module _ (core : ℕ) {k : Kept} (there : slice_get old.cores core ≡ Some k) where
      core_is : core_at old core ≡ k
      core_is = get_or_from_slice_get old.cores core k (opened old.policy) there

      pub kept_alike : (m : Kept) → slice_get other.cores core ≡ Some m → IsSameBut hides k m
      kept_alike m also =
          let mask = masked_kept hides in
          let e = same_Some (mask m) (mask k)
          (sym (slice_get-map mask other.cores core ∙ ap (option_map mask) also)
          ∙ ap (λ x. slice_get x.cores core) same
          ∙ slice_get-map mask old.cores core ∙ ap (option_map mask) there) in
          record {
            state = ap (λ x. x.state) e;
            lists = ap (λ x. x.lists) e;
            queues = ap (λ x. x.queues) e;
          }

      pub events_alike : server old worker one ≡ Some core
          → IsSameEvent hides k.state (event_of one) (event_of two)
      events_alike serves =
          elim alike as (λ _. IsSameEvent hides k.state (event_of one) (event_of two)) [
            | inl plain ↦ inl (ap event_of plain)
            | inr x ↦
                let at = named_at
                (names_core x.written && nat_lt x.core (length old.cores)) x.core core
                (sym (ap (server old worker) x.asks) ∙ serves) in
                let here = subst (λ c. IsHiddenWrite hides c.state x.written x.rewritten)
                (ap (core_at old) at ∙ core_is) x.hidden in
                inr (subst (λ e. IsHiddenWrite hides k.state e (event_of two))
                (sym (ap event_of x.asks))
                (subst (λ f. IsHiddenWrite hides k.state x.written f)
                (sym (ap event_of x.asks_other)) here))
          ]

    module _ {a b : Answer} {new last : BankState} {core : ℕ}
        (serves : server old worker one ≡ Some core)
        (is : IsServedBy old worker one a new core)
        (are : IsServedBy other worker two b last core) where
      served_alike : EndAlike old other worker one two a b new last
      served_alike =
          let ran = runs_agree hides is.was are.was ((worker, event_of one) ∷ [])
          ((worker, event_of two) ∷ []) (a ∷ []) (b ∷ []) is.next are.next
          (kept_alike core is.there are.was are.there)
          (refl, events_alike core is.there serves, tt) (is.next, is.step, refl)
          (are.next, are.step, refl) in
          let told : (b ≡ a) ⊎ IsHiddenReadIn hides old one a b =
          elim ran.0.0 as (λ _. (b ≡ a) ⊎ IsHiddenReadIn hides old one a b) [
            | inl plain ↦ inl plain
            | inr x ↦ inr (record {
              core = core;
              read = event_of one;
              asks = read_named old worker core one x.reader x.handle x.index x.read serves;
              hidden = subst (λ k. IsHiddenRead hides k.state (event_of one) a b)
                  (sym (core_is core is.there)) x;
            })
          ]
          in
          record {
            servers = servers;
            told = told;
            after =
                ap (masked_bank hides) are.after
                ∙ moved_masked hides two worker core (with_core other core are.next)
                ∙ moved_both core (masked_bank hides (with_core other core are.next))
                ∙ ap (moved one worker core)
                (with_core_masked hides other core are.next
                ∙ ap (λ x. with_core x core (masked_kept hides are.next)) same
                ∙ ap (with_core (masked_bank hides old) core)
                (masks_agree hides is.next are.next ran.1)
                ∙ sym (with_core_masked hides old core is.next))
                ∙ sym (moved_masked hides one worker core (with_core old core is.next))
                ∙ sym (ap (masked_bank hides) is.after);
          }

    step_alike : (a b : Answer) (new last : BankState) → BankStep old worker one a new
        → BankStep other worker two b last → EndAlike old other worker one two a b new last
    step_alike a b new last step also =
        elim (step_cases old worker one a new step) as
        (λ _. EndAlike old other worker one two a b new last) [
          | inl none ↦
              elim (step_cases other worker two b last also) as
              (λ _. EndAlike old other worker one two a b new last) [
                | inl neither ↦ record {
                  servers = servers;
                  told = inl (neither.1.0 ∙ unserved_both ∙ sym none.1.0);
                  after =
                      ap (masked_bank hides) neither.1.1 ∙ same
                      ∙ sym (ap (masked_bank hides) none.1.1);
                }
                | inr by ↦ absurd (none-some by.0 (sym none.0 ∙ sym servers ∙ by.1))
              ]
          | inr by ↦
              elim (step_cases other worker two b last also) as
              (λ _. EndAlike old other worker one two a b new last) [
                | inl none ↦ absurd (none-some by.0 (sym none.0 ∙ servers ∙ by.1))
                | inr beside ↦
                    let at = same_Some beside.0 by.0 (sym beside.1 ∙ servers ∙ by.1) in
                    served_alike by.1 by.2
                    (subst (IsServedBy other worker two b last) at beside.2)
              ]
        ]

  -- the masked bank with one more core
  abbrev wider : BankState → BankState
  wider b = record {
    policy = b.policy;
    room = b.room;
    cores = b.cores ++ masked_kept hides (opened b.policy) ∷ [];
    currents = b.currents;
  }

  grown_masked : (b : BankState) → masked_bank hides (grown b) ≡ wider (masked_bank hides b)
  grown_masked b =
      ap (λ xs. record {
        policy = b.policy;
        room = b.room;
        cores = xs;
        currents = b.currents;
      }) (map-append (masked_kept hides) b.cores (opened b.policy ∷ []))

  pub stay_alike : (old other : BankState) (entries others : List Entry) (new last : BankState)
      → masked_bank hides other ≡ masked_bank hides old
      → AreSameRequests hides old entries others → History old entries new
      → History other others last
      → AreSameAnswers hides old entries others
      × (masked_bank hides last ≡ masked_bank hides new)
  stay_alike old other [] [] new last same alike one second =
      (tt, ap (masked_bank hides) second ∙ same ∙ sym (ap (masked_bank hides) one))
  stay_alike old other (grew ∷ later) (grew ∷ others) new last same alike one second =
      stay_alike (grown old) (grown other) later others new last
      (grown_masked other ∙ ap wider same ∙ sym (grown_masked old)) alike one.1 second.1
  stay_alike old other (answered w r core a ∷ later) (answered v q at b ∷ others) new last same
      alike one second =
      let mid = one.1.0 in
      let step = one.1.1 in
      let also = subst (λ x. BankStep other x q b second.1.0) alike.0 second.1.1 in
      let end = step_alike old other same w alike.1 a b mid second.1.0 step also in
      let rest = stay_alike mid second.1.0 later others new last end.after (alike.2 mid step)
      one.1.2 second.1.2 in (
        (
          second.0 ∙ ap (λ x. server other x q) alike.0 ∙ end.servers ∙ sym one.0,
          end.told,
          λ m h. subst (λ x. AreSameAnswers hides x later others)
              (sym (steps_are_determined old mid m w r a a step h).1) rest.0,
        ),
        rest.1,
      )
  stay_alike old other [] (f ∷ others) new last same alike one second = absurd alike
  stay_alike old other (grew ∷ later) [] new last same alike one second = absurd alike
  stay_alike old other (grew ∷ later) (answered v q at b ∷ others) new last same alike one second =
      absurd alike
  stay_alike old other (answered w r core a ∷ later) [] new last same alike one second =
      absurd alike
  stay_alike old other (answered w r core a ∷ later) (grew ∷ others) new last same alike one
      second =
      absurd alike

pub words_stay_hidden : WordsStayHidden
words_stay_hidden actor old other entries others new last alike =
    stay_alike (is_unreadable old.policy actor) old other entries others new last alike.begin
    alike.same alike.one alike.second

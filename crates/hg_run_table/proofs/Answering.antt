-- A step that answers what a worker is asked keeps one run of all calls.
use mathlib.Core.Option.{some-injective}
use Rattle.hg_history.proofs.Views.{at_map}
use Rattle.std.proofs.Common.{◌≡◌, ◌≢◌, ℕ, zero, suc, ◌+◌, ◌<◌, ◌||◌, Bool, true, false, List, [], ◌∷◌, ◌++◌}
use Rattle.std.proofs.Common.{map, set, get_or, length, refl, sym, ap, subst, ◌∙◌, arith}
use Rattle.std.proofs.Common.{inl, inr, append-nil}
use Rattle.std.proofs.lemmas.Bool.{or_right, cases_eq, eq-eqb, ne_eqb, eqb-true, true≢false}
use Rattle.std.proofs.lemmas.Bool.{false_from_ne_true}
use Rattle.std.proofs.lemmas.Grind.{get_or-set_at}
use Rattle.std.proofs.lemmas.List.{length-set, get_or-set_other}
use Rattle.hg_machine.specs.declared.Event.{Event}
use Rattle.hg_machine.specs.Policy.{Policy}
use Rattle.hg_machine.specs.Shown.{IsShownBy}
use Rattle.hg_machine.specs.Soundness.{IsSound}
use Rattle.hg_machine.specs.State.{State, record_at}
use Rattle.hg_machine.specs.Steps.{Step}
use Rattle.hg_machine.proofs.Preserves.{steps_keep_policy, steps_keep_sound}
use Rattle.hg_frame.specs.SlotWords.{changes_word}
use Rattle.hg_frame.proofs.SlotWordLemmas.{words_stay}
use Rattle.hg_history.specs.History.{log_of, IsRun}
use Rattle.hg_history.specs.OneRun.{IsOneRun}
use Rattle.hg_history.specs.Service.{IsIn}
use Rattle.hg_history.specs.Steps.{Moves}
use Rattle.hg_history.proofs.OneRunLemmas.{moved_on}
use Rattle.hg_roles.specs.Roles.{Call, Role, RoleAgrees, name_of}
use Rattle.hg_roles.specs.Served.{places_of_policy}
use Rattle.hg_roles.proofs.RoleFrames.{own_quiet, role_stays}
use Rattle.hg_run_table.specs.declared.part.Part.{Part}
use Rattle.hg_run_table.specs.declared.part.PartName.{PartName}
use Rattle.hg_run_table.specs.declared.part.PartName.TheVariants.{Worker, Remote, Pool, Segment}
use Rattle.hg_run_table.specs.Asked.{IsWorkerAsked, MayLeave, MayLeaveIf, HasLeft, HasLeftIf}
use Rattle.hg_run_table.specs.Asked.{asking, is_asking, is_asked, is_worker, answered, answered_if, AreMade, IsAsked}
use Rattle.hg_run_table.specs.Asked.{IsAnswer, MayAnswer, IsAnswered}
use Rattle.hg_run_table.specs.Seated.{IsThere, PartAgrees, number_of_name, seated}
use Rattle.hg_run_table.proofs.Alike.{number_is}

-- who is asked this, is asked it
pub all_asked : (asked : List (List Event)) (run : List Part) (worker : ℕ)
    → IsWorkerAsked worker asked (map (asking asked) run)
all_asked asked run worker j part here its =
    let was = at_map (asking asked) run j part here in
    sym (ap (λ (p : Part). p.asked) was.2)

-- a seat of which a worker's part is asked something is asked it
is_asked_by : (run : List Part) (at : ℕ) (part : Part) (worker : ℕ) (events : List Event)
    (rest : List (List Event)) → IsIn run at part → part.name ≡ Worker worker
    → part.asked ≡ events ∷ rest → is_asked run ≡ true
is_asked_by [] at part worker events rest there named asks = absurd (cc)
is_asked_by (first ∷ more) zero part worker events rest there named asks =
    let same : first ≡ part = some-injective first part there in
    let name : first.name ≡ Worker worker = ap (λ (p : Part). p.name) same ∙ named in
    let asked : first.asked ≡ events ∷ rest = ap (λ (p : Part). p.asked) same ∙ asks in
    ap (λ n. is_asking n first.asked || is_asked more) name
    ∙ ap (λ l. is_asking (Worker worker) l || is_asked more) asked
is_asked_by (first ∷ more) (suc at) part worker events rest there named asks =
    or_right (is_asking first.name first.asked) (is_asked more)
    (is_asked_by more at part worker events rest there named asks)

pub may_leave : (policy : Policy) (place word left : ℕ) (run : List Part)
    → MayAnswer policy place word left run → MayLeave policy place word left run
may_leave policy place word left run may =
    let who = may.who in
    subst (λ b. MayLeaveIf b policy place word left run)
    (sym (is_asked_by run who.at who.part who.worker who.events who.rest who.there who.named who.asks))
    may

-- where something is asked, a step has answered it
pub has_answered : (place word left : ℕ) (old new : List Part) → IsAsked old
    → HasLeft place word left old new → IsAnswered place word left old new
has_answered place word left old new who was =
    subst (λ b. HasLeftIf b place word left old new)
    (is_asked_by old who.at who.part who.worker who.events who.rest who.there who.named who.asks)
    was

-- the worker's calls, as a history has them
abbrev calls_by : ℕ → List Call → List (ℕ × Call)
calls_by worker [] = []
calls_by worker (call ∷ calls) = (worker, call) ∷ calls_by worker calls

logged : (worker : ℕ) (calls : List Call) → log_of worker (calls_by worker calls) ≡ calls
logged worker [] = refl
logged worker (call ∷ calls) =
    rw (eq-eqb worker worker refl) (ap (λ (l : List Call). call ∷ l) (logged worker calls))

unlogged : (worker name : ℕ) (calls : List Call) → worker ≢ name
    → log_of name (calls_by worker calls) ≡ []
unlogged worker name [] differ = refl
unlogged worker name (call ∷ calls) differ =
    rw (ne_eqb worker name differ) (unlogged worker name calls differ)

-- what calls one after another leave
module _ (place w : ℕ) where
  runs : (calls : List Call) (m new : State) → AreMade place w calls m new
      → IsRun (λ old who (call : Call) later. Step old who call.0 call.1 later) m (calls_by w calls) new
  runs [] m new made = made
  runs (call ∷ calls) m new made = (made.0, made.1.step, runs calls made.0 new made.2)

  policies : (calls : List Call) (m new : State) → AreMade place w calls m new
      → new.policy ≡ m.policy
  policies [] m new made = ap (λ (s : State). s.policy) made
  policies (call ∷ calls) m new made =
      policies calls made.0 new made.2 ∙ steps_keep_policy m w call.0 call.1 made.0 made.1.step

  sounds : (calls : List Call) (m new : State) → AreMade place w calls m new → IsSound m
      → w < m.policy.workers → IsSound new
  sounds [] m new made sound low = subst IsSound (sym made) sound
  sounds (call ∷ calls) m new made sound low =
      let kept = steps_keep_policy m w call.0 call.1 made.0 made.1.step in
      sounds calls made.0 new made.2
      (steps_keep_sound m w call.0 call.1 made.0 sound low made.1.step)
      (subst (λ (p : Policy). w < p.workers) (sym kept) low)

  words : (calls : List Call) (m new : State) → AreMade place w calls m new → (q word : ℕ)
      → q ≢ place → IsShownBy (record_at m q) word → IsShownBy (record_at new q) word
  words [] m new made q word differ shown =
      subst (λ (s : State). IsShownBy (record_at s q) word) (sym made) shown
  words (call ∷ calls) m new made q word differ shown =
      words calls made.0 new made.2 q word differ
      (words_stay m w call.0 call.1 made.0 q word
      (false_from_ne_true (changes_word call.0 call.1 q) (λ t. differ (made.1.alone q t)))
      made.1.step shown)

  roles : (calls : List Call) (m new : State) → AreMade place w calls m new → IsSound m
      → w < m.policy.workers → (role : Role) → name_of m.policy role ≢ w → RoleAgrees role m
      → RoleAgrees role new
  roles [] m new made sound low role differ agreed =
      subst (RoleAgrees role) (sym made) agreed
  roles (call ∷ calls) m new made sound low role differ agreed =
      let kept = steps_keep_policy m w call.0 call.1 made.0 made.1.step in
      let later = steps_keep_sound m w call.0 call.1 made.0 sound low made.1.step in
      roles calls made.0 new made.2 later
      (subst (λ (p : Policy). w < p.workers) (sym kept) low) role
      (λ is. differ (ap (λ (p : Policy). name_of p role) (sym kept) ∙ is))
      (role_stays m w call.0 call.1 made.0 sound made.1.step role differ low later
      (own_quiet m w call.0 made.1.own role) agreed)

-- a name's number is the worker's where it is the worker's name, and else not
module _ (policy : Policy) (w : ℕ) (low : w < policy.workers) where
  its_number : (name : PartName) → is_worker w name ≡ true → number_of_name policy name ≡ w
  its_number (Worker n) is = eqb-true n w is
  its_number (Remote n) is = absurd (true≢false (sym is))
  its_number Pool is = absurd (true≢false (sym is))
  its_number (Segment n) is = absurd (true≢false (sym is))

  other_number : (name : PartName) → is_worker w name ≡ false → w ≢ number_of_name policy name
  other_number (Worker n) is = λ e. true≢false (sym (eq-eqb n w (sym e)) ∙ is)
  other_number (Remote n) is = λ e. absurd (omega arith)
  other_number Pool is = λ e. absurd (omega arith)
  other_number (Segment n) is = λ e. absurd (omega arith)

  module _ (calls : List Call) (rest : List (List Event)) (new : State) where
    named : (b : Bool) (part : Part) → (answered_if b calls rest new part).name ≡ part.name
    named true part = refl
    named false part = refl

    log_if : (b : Bool) (part : Part) → is_worker w part.name ≡ b
        → (answered_if b calls rest new part).log
        ≡ part.log ++ log_of (number_of_name policy part.name) (calls_by w calls)
    log_if true part is =
        ap (λ (l : List Call). part.log ++ l)
        (sym (logged w calls)
        ∙ ap (λ n. log_of n (calls_by w calls)) (sym (its_number part.name is)))
    log_if false part is =
        sym (append-nil part.log)
        ∙ ap (λ (l : List Call). part.log ++ l)
        (sym (unlogged w (number_of_name policy part.name) calls (other_number part.name is)))

    agrees_if : (b : Bool) (part : Part) → IsThere policy part.name
        → (b ≡ false → PartAgrees policy part new)
        → PartAgrees policy (answered_if b calls rest new part) new
    agrees_if true part there other = record { there = there; like = λ role is with. with }
    agrees_if false part there other = other refl

module _ (policy : Policy) (words' : List ℕ) (views : List (List Part)) (id : ℕ) (view : List Part)
    (r : IsOneRun (seated policy) words' views) (at : IsIn views id view) where
  abbrev mine : (j : ℕ) (part : Part) → IsIn view j part → PartAgrees policy part r.state
  mine j part here = r.agrees id j part (view, at, here)

  module _ (place left : ℕ) (inside : place < places_of_policy policy)
      (may : MayAnswer policy place (get_or words' (place + 1) 0) left view) where
    abbrev who : IsAsked view
    who = may.who

    abbrev w : ℕ
    w = who.worker

    abbrev m : State
    m = r.state

    abbrev its : PartAgrees policy who.part m
    its = mine who.at who.part who.there

    low : w < policy.workers
    low = subst (IsThere policy) who.named its.there

    abbrev answer : IsAnswer place left w who.events m
    answer =
        may.answer m r.shown.sound r.shown.same its (r.shown.each place inside)

    abbrev new : State
    new = answer.new

    abbrev made : List (ℕ × Call)
    made = calls_by w answer.calls

    abbrev change : Part → Part
    change = answered w answer.calls who.rest new

    low_there : w < m.policy.workers
    low_there = subst (λ (p : Policy). w < p.workers) (sym r.shown.same) low

    sound : IsSound new
    sound = sounds place w answer.calls m new answer.made r.shown.sound low_there

    -- what has another name agrees still
    stays : (part : Part) → number_of_name policy part.name ≢ w → PartAgrees policy part m
        → PartAgrees policy part new
    stays part differ has = record {
      there = has.there;
      like = λ role is with.
          roles place w answer.calls m new answer.made r.shown.sound low_there role
          (λ e. differ
          (ap (number_of_name policy) (sym is) ∙ number_is policy role
          ∙ ap (λ (p : Policy). name_of p role) (sym r.shown.same) ∙ e))
          (has.like role is with);
    }

    word_after : (q : ℕ) → q < places_of_policy policy
        → IsShownBy (record_at new q) (get_or (set words' (place + 1) left) (q + 1) 0)
    word_after q below =
        elim (cases_eq q place) as
        (λ _. IsShownBy (record_at new q) (get_or (set words' (place + 1) left) (q + 1) 0)) [
          | inl here ↦
              let wide : place + 1 < length words' = (let l = r.shown.all_words in omega arith) in
              let now : get_or (set words' (place + 1) left) (q + 1) 0 ≡ left =
              get_or-set_at words' (place + 1) (q + 1) left 0 (ap (λ n. n + 1) here) wide in
              subst (IsShownBy (record_at new q)) (sym now)
              (subst (λ n. IsShownBy (record_at new n) left) (sym here) answer.word)
          | inr there ↦
              let kept : get_or (set words' (place + 1) left) (q + 1) 0 ≡ get_or words' (q + 1) 0 =
              get_or-set_other words' (place + 1) (q + 1) left 0 (λ k. there (omega arith)) in
              subst (IsShownBy (record_at new q)) (sym kept)
              (words place w answer.calls m new answer.made q _ there (r.shown.each q below))
        ]

    moves : Moves (seated policy) m made (set words' (place + 1) left) view change
    moves = record {
      new = new;
      run = runs place w answer.calls m new answer.made;
      shown = record {
        sound = sound;
        same = policies place w answer.calls m new answer.made ∙ r.shown.same;
        all_words = length-set words' (place + 1) left ∙ r.shown.all_words;
        each = word_after;
      };
      agrees = λ j part here.
          agrees_if policy w low answer.calls who.rest new (is_worker w part.name) part
          (mine j part here).there
          (λ is. stays part (λ e. other_number policy w low part.name is (sym e)) (mine j part here));
      others = λ other has strange.
          stays other
          (λ e. strange who.at who.part who.there
          (ap (number_of_name policy) who.named ∙ sym e)) has;
    }

    pub keeps_answering : IsOneRun (seated policy) (set words' (place + 1) left)
        (set views id (map change view))
    keeps_answering =
        moved_on (seated policy) words' (set words' (place + 1) left) views id view made change r at
        (λ j part here. ap (number_of_name policy)
        (named policy w low answer.calls who.rest new (is_worker w part.name) part))
        (λ j part here.
        log_if policy w low answer.calls who.rest new (is_worker w part.name) part refl)
        (λ name strange. unlogged w name answer.calls
        (λ e. strange who.at who.part who.there
        (ap (number_of_name policy) who.named ∙ e)))
        moves

    pub was_answered : IsAnswered place (get_or words' (place + 1) 0) left view (map change view)
    was_answered = record {
      who = who;
      state = m;
      sound = r.shown.sound;
      agrees = subst (λ p. PartAgrees p who.part m) (sym r.shown.same) its;
      shown = r.shown.each place inside;
      answer = answer;
      now = refl;
    }

  -- asking changes no name, no log and nothing that a part has
  pub keeps_asking : (asked : List (List Event))
      → IsOneRun (seated policy) words' (set views id (map (asking asked) view))
  keeps_asking asked =
      moved_on (seated policy) words' words' views id view [] (asking asked) r at
      (λ j part here. refl) (λ j part here. sym (append-nil part.log)) (λ name strange. refl)
      (record {
        new = r.state;
        run = refl;
        shown = r.shown;
        agrees = λ j part here.
            let has = mine j part here in record { there = has.there; like = has.like };
        others = λ other has strange. has;
      })

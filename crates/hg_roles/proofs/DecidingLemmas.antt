-- A tied call decides at its step.
use Rattle.std.proofs.Common.{◌≡◌, ◌≢◌, inl, inr, ℕ, ◌+◌, ◌<◌, true, false, List, [], ◌∷◌, ◌++◌}
use Rattle.std.proofs.Common.{length, get_or, set, Option, Some, None, refl, sym, ap, subst, ◌∙◌}
use Rattle.std.proofs.Common.{arith}
use Rattle.std.proofs.Common.{eq-eqb, ne_eqb}
use Rattle.std.proofs.lemmas.Bool.{cases_eq, false_from_ne_true}
use Rattle.std.proofs.lemmas.Grind.{get_or-set_at}
use Rattle.std.proofs.lemmas.List.{length-set, get_or-set_other}
use Rattle.hg_machine.specs.declared.Event.{Event}
use Rattle.hg_machine.specs.declared.Answer.{Answer}
use Rattle.hg_machine.specs.Policy.{Policy}
use Rattle.hg_machine.specs.Shown.{IsShownBy}
use Rattle.hg_machine.specs.State.{State, record_at}
use Rattle.hg_machine.specs.Steps.{Step, successor}
use Rattle.hg_machine.specs.Refusal.{refusal}
use Rattle.hg_machine.proofs.Answered.{of_some}
use Rattle.hg_machine.proofs.Preserves.{steps_keep_policy}
use Rattle.hg_agreement.specs.Views.{View, Shown}
use Rattle.hg_agreement.specs.Agreement.{Agrees, Ties, Follows}
use Rattle.hg_frame.specs.SlotWords.{changes_word}
use Rattle.hg_frame.proofs.SlotWordLemmas.{words_stay}
use Rattle.hg_history.specs.History.{log_of}
use Rattle.hg_history.specs.Service.{IsIn}
use Rattle.hg_history.specs.Steps.{Moves, Decides}
use Rattle.hg_roles.specs.Roles.{Call, Role, of_worker, of_segment, RoleAgrees, name_of, calls_in}
use Rattle.hg_roles.specs.Served.{WordsShow, running, places_of_policy}
use Rattle.hg_roles.specs.Deciding.{called, IsSeatOf, is_own, TiesDecide, PrivateCallsDecide}
use Rattle.hg_roles.specs.Deciding.{RefusalsDecide}
use Rattle.hg_roles.proofs.RoleFrames.{own_quiet, role_stays}

pub log_one : (n : ℕ) (call : Call) → log_of n ((n, call) ∷ []) ≡ call ∷ []
log_one n call = rw (eq-eqb n n refl) refl

pub log_other : (n k : ℕ) (call : Call) → n ≢ k → log_of k ((n, call) ∷ []) ≡ []
log_other n k call differ = rw (ne_eqb n k differ) refl

-- what agrees with a word agrees without one
pub unseen : (m : State) (view : View) (shown : Option Shown) → Agrees m view shown → Agrees m view None
unseen m view shown h = record {
  sound = h.sound;
  policy = h.policy;
  holding = h.holding;
  classes = h.classes;
  standings = h.standings;
  blocks = h.blocks;
  hand = h.hand;
  word = tt;
}

pub seeing : (m : State) (view : View) (place word : ℕ) → Agrees m view None
    → IsShownBy (record_at m place) word
    → Agrees m view (Some (record { place = place; word = word }))
seeing m view place word h shows = record {
  sound = h.sound;
  policy = h.policy;
  holding = h.holding;
  classes = h.classes;
  standings = h.standings;
  blocks = h.blocks;
  hand = h.hand;
  word = shows;
}

module _ (policy : Policy) (words : List ℕ) (parts : List Role) (log : List Call)
    (before after : View) (e : Event) (a : Answer)
    (seat : IsSeatOf before log parts) (low : before.worker < policy.workers)
    (same : after.worker ≡ before.worker) where
  abbrev w : ℕ
  w = before.worker

  abbrev change : Role → Role
  change = called after (e, a)

  -- for each part of the seat: the worker's own, or a segment's
  by_part : (P : Role → Type 0) → P (of_worker before log)
      → ((number : ℕ) → P (of_segment number))
      → (j : ℕ) (part : Role) → IsIn parts j part → P part
  by_part P own other j part has = elim (seat.others j part has) as (λ _. P part) [
    | inl it ↦ subst P (sym it) own
    | inr seg ↦ subst P (sym seg.1) (other seg.0)
  ]

  apart : (number : ℕ) → w ≢ name_of policy (of_segment number)
  apart number e = absurd (omega arith)

  -- the step from each state that agrees
  record Made (m new : State) : Type 0 where
    pub step : Step m w e a new
    pub agrees : Agrees new after None

  moves_by : is_own e ≡ true → (later : List ℕ) (m : State) → WordsShow policy words m
      → (new : State) → Made m new → WordsShow policy later new
      → Moves (running policy) m ((w, (e, a)) ∷ []) later parts change
  moves_by own later m shows new made shown = record {
    new = new;
    run = (new, made.step, refl);
    shown = shown;
    agrees = by_part (λ part. RoleAgrees (change part) new) made.agrees (λ number. tt);
    others = λ other agreed strange.
        role_stays m w e a new shows.sound made.step other
        (λ it.
        strange seat.place (of_worker before log) seat.there
        (sym (ap (λ p. name_of p other) (sym shows.same) ∙ it)))
        (subst (λ p. w < p.workers) (sym shows.same) low) made.agrees.sound
        (own_quiet m w e own other) agreed;
  }

  decides_with : (later : List ℕ)
      → ((m : State) → WordsShow policy words m → Agrees m before None
      → Moves (running policy) m ((w, (e, a)) ∷ []) later parts change)
      → Decides (running policy) ((w, (e, a)) ∷ []) words later parts change
  decides_with later moves = record {
    names =
        by_part (λ part. name_of policy (change part) ≡ name_of policy part) same
        (λ number. refl);
    logs =
        by_part
        (λ part.
        calls_in (change part)
        ≡ calls_in part ++ log_of (name_of policy part) ((w, (e, a)) ∷ []))
        (ap (λ (l : List Call). log ++ l) (sym (log_one w (e, a))))
        (λ number. sym (log_other w _ (e, a) (apart number)));
    own = λ name strange.
        log_other w name (e, a) (strange seat.place (of_worker before log) seat.there);
    moves = λ m shows agrees. moves m shows (agrees seat.place (of_worker before log) seat.there);
  }

  decides_by : is_own e ≡ true → (later : List ℕ)
      → ((m : State) → WordsShow policy words m → Agrees m before None
      → (new : State) × Made m new × WordsShow policy later new)
      → Decides (running policy) ((w, (e, a)) ∷ []) words later parts change
  decides_by own later makes = decides_with later (λ m shows agreed.
      let now = makes m shows agreed in moves_by own later m shows now.0 now.1 now.2)

  -- each other word shows its place after the step
  other_words : (m new : State) (q : ℕ) → WordsShow policy words m → Step m w e a new
      → changes_word e a q ≡ false → q < places_of_policy policy
      → IsShownBy (record_at new q) (get_or words (q + 1) 0)
  other_words m new q shows step same below =
      words_stay m w e a new q _ same step (shows.each q below)

  new_policy : (m new : State) → WordsShow policy words m → Step m w e a new → new.policy ≡ policy
  new_policy m new shows step = steps_keep_policy m w e a new step ∙ shows.same

  module _ (own : is_own e ≡ true) (place left : ℕ) (inside : place < places_of_policy policy)
      (alone : (other : ℕ) → other < places_of_policy policy → changes_word e a other ≡ true
      → other ≡ place)
      (ties : Ties before
      (Some (record { place = place; word = get_or words (place + 1) 0 })) e a after
      (Some (record { place = place; word = left }))) where
    follows : (m : State) → WordsShow policy words m → Agrees m before None
        → Follows m w e a after (Some (record { place = place; word = left }))
    follows m shows agreed = ties m (seeing m before place _ agreed (shows.each place inside))

    word_after : (m : State) (shows : WordsShow policy words m) (agreed : Agrees m before None)
        (q : ℕ) → q < places_of_policy policy
        → IsShownBy (record_at (successor m w e a) q)
        (get_or (set words (place + 1) left) (q + 1) 0)
    word_after m shows agreed q below =
        let f = follows m shows agreed in
        elim (cases_eq q place) as
        (λ _.
        IsShownBy (record_at (successor m w e a) q)
        (get_or (set words (place + 1) left) (q + 1) 0)) [
          | inl here ↦
              let wide : place + 1 < length words = (let l = shows.all_words in omega arith) in
              let now : get_or (set words (place + 1) left) (q + 1) 0 ≡ left =
              get_or-set_at words (place + 1) (q + 1) left 0 (ap (λ n. n + 1) here) wide in
              subst (IsShownBy (record_at (successor m w e a) q)) (sym now)
              (subst (λ n. IsShownBy (record_at (successor m w e a) n) left)
              (sym here) f.agrees.word)
          | inr there ↦
              let kept : get_or (set words (place + 1) left) (q + 1) 0 ≡ get_or words (q + 1) 0 =
              get_or-set_other words (place + 1) (q + 1) left 0 (λ k. there (omega arith)) in
              subst (IsShownBy (record_at (successor m w e a) q)) (sym kept)
              (other_words m (successor m w e a) q shows f.step
              (false_from_ne_true _ (λ t. there (alone q below t))) below)
        ]

    at_word : Decides (running policy) ((w, (e, a)) ∷ []) words
        (set words (place + 1) left) parts change
    at_word = decides_by own (set words (place + 1) left) (λ m shows agreed.
        let f = follows m shows agreed in (
          successor m w e a,
          record { step = f.step; agrees = unseen _ _ _ f.agrees },
          record {
            sound = f.agrees.sound;
            same = new_policy m _ shows f.step;
            all_words = length-set words (place + 1) left ∙ shows.all_words;
            each = word_after m shows agreed;
          },
        ))

  module _ (own : is_own e ≡ true)
      (none : (other : ℕ) → other < places_of_policy policy → changes_word e a other ≡ false)
      (ties : Ties before None e a after None) where
    by_itself : Decides (running policy) ((w, (e, a)) ∷ []) words words parts change
    by_itself = decides_by own words (λ m shows agreed.
        let f = ties m agreed in (
          successor m w e a,
          record { step = f.step; agrees = f.agrees },
          record {
            sound = f.agrees.sound;
            same = new_policy m _ shows f.step;
            all_words = shows.all_words;
            each = λ q below. other_words m _ q shows f.step (none q below) below;
          },
        ))

-- what refuses the event in each state that agrees leaves all as it is
refused_moves : (policy : Policy) (words : List ℕ) (parts : List Role) (log : List Call)
    (before : View) (e : Event) (a : Answer)
    (seat : IsSeatOf before log parts) → before.worker < policy.workers
    → (m : State) → WordsShow policy words m → Agrees m before None
    → refusal m before.worker e ≡ Some a
    → Moves (running policy) m ((before.worker, (e, a)) ∷ []) words parts (called before (e, a))
refused_moves policy words parts log before e a seat low m shows agreed refused = record {
  new = m;
  run = (
    m,
    of_some (refusal m before.worker e) _ (λ given. (a ≡ given) × (m ≡ m)) a refused
        (refl, refl),
    refl,
  );
  shown = shows;
  agrees =
      by_part policy words parts log before before e a seat low refl
      (λ part. RoleAgrees (called before (e, a) part) m) agreed (λ number. tt);
  others = λ other agrees strange. agrees;
}

pub ties_decide : TiesDecide
ties_decide policy words parts log before after e a place left seat is inside alone ties =
    at_word policy words parts log before after e a seat is.worker is.same is.own place left inside
    alone ties

pub private_calls_decide : PrivateCallsDecide
private_calls_decide policy words parts log before after e a seat is none ties =
    by_itself policy words parts log before after e a seat is.worker is.same is.own none ties

pub refusals_decide : RefusalsDecide
refusals_decide policy words parts log before e a seat low refused =
    decides_with policy words parts log before before e a seat low refl words
    (λ m shows agreed.
    refused_moves policy words parts log before e a seat low m shows agreed (refused m agreed))

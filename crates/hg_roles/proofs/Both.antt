-- A call of two joined parts decides where it is a step that leaves both agreed.
use Rattle.std.proofs.Common.{◌≡◌, ◌≢◌, inl, inr, ℕ, ◌<◌, false, List, [], ◌∷◌, ◌++◌}
use Rattle.std.proofs.Common.{None, refl, sym, ap, subst, ◌∙◌, arith}
use Rattle.hg_machine.specs.declared.Event.{Event}
use Rattle.hg_machine.specs.declared.Answer.{Answer}
use Rattle.hg_machine.specs.Policy.{Policy}
use Rattle.hg_machine.specs.State.{State}
use Rattle.hg_machine.specs.Soundness.{IsSound}
use Rattle.hg_machine.specs.Steps.{Step, successor}
use Rattle.hg_machine.proofs.Preserves.{steps_keep_sound, steps_keep_policy}
use Rattle.hg_agreement.specs.Views.{View}
use Rattle.hg_agreement.specs.Agreement.{Agrees}
use Rattle.hg_frame.specs.SlotWords.{changes_word}
use Rattle.hg_frame.proofs.SlotWordLemmas.{words_stay}
use Rattle.hg_history.specs.History.{log_of}
use Rattle.hg_history.specs.Service.{IsIn}
use Rattle.hg_history.specs.Steps.{Moves, Decides}
use Rattle.hg_roles.specs.Roles.{Call, Role, of_worker, of_segment, RoleAgrees, name_of, calls_in}
use Rattle.hg_roles.specs.Served.{WordsShow, running}
use Rattle.hg_roles.specs.Joined.{IsSeatWith, both_called}
use Rattle.hg_roles.proofs.RoleFrames.{Quiet, role_stays}
use Rattle.hg_roles.proofs.DecidingLemmas.{log_one, log_other}

-- what the call leaves in a state: both parts agree, if it is sound
pub record Leaves (m : State) (before after : View) (left : Role) (e : Event) (a : Answer)
    : Type 0 where
  pub step : Step m before.worker e a (successor m before.worker e a)
  pub agrees :
      IsSound (successor m before.worker e a) → Agrees (successor m before.worker e a) after None
  pub leaves :
      IsSound (successor m before.worker e a) → RoleAgrees left (successor m before.worker e a)

module _ (policy : Policy) (words : List ℕ) (parts : List Role) (log : List Call)
    (before after : View) (e : Event) (a : Answer)
    (other left : Role) (seat : IsSeatWith before log other parts)
    (below : before.worker < policy.workers)
    (same : after.worker ≡ before.worker) (named : name_of policy left ≡ name_of policy other)
    (apart : before.worker ≢ name_of policy other)
    (becomes : both_called after left (e, a) other ≡ left)
    (silent : calls_in other ≡ []) (silent_then : calls_in left ≡ [])
    (unworded : (q : ℕ) → changes_word e a q ≡ false)
    (makes : (m : State) → WordsShow policy words m → Agrees m before None → RoleAgrees other m
    → Leaves m before after left e a)
    (quiet : (m : State) → WordsShow policy words m → Agrees m before None → (role : Role)
    → name_of policy role ≢ name_of policy other → Quiet m before.worker e role) where
  abbrev w : ℕ
  w = before.worker

  abbrev change : Role → Role
  change = both_called after left (e, a)

  by_part : (P : Role → Type 0) → P (of_worker before log) → P other
      → ((number : ℕ) → P (of_segment number))
      → (j : ℕ) (part : Role) → IsIn parts j part → P part
  by_part P own second others j part has = elim (seat.others j part has) as (λ _. P part) [
    | inl is ↦ subst P (sym is) own
    | inr more ↦ elim more as (λ _. P part) [
      | inl is ↦ subst P (sym is) second
      | inr seg ↦ subst P (sym seg.1) (others seg.0)
    ]
  ]

  seat_apart : (number : ℕ) → w ≢ name_of policy (of_segment number)
  seat_apart number e = absurd (omega arith)

  moves_both : (m : State) → WordsShow policy words m → Agrees m before None
      → RoleAgrees other m → Moves (running policy) m ((w, (e, a)) ∷ []) words parts change
  moves_both m shows agreed second =
      let made = makes m shows agreed second in
      let low = subst (λ p. w < p.workers) (sym shows.same) below in
      let new = successor m w e a in
      let sound : IsSound new = steps_keep_sound m w e a new shows.sound low made.step in record {
        new = new;
        run = (new, made.step, refl);
        shown = record {
          sound = sound;
          same = steps_keep_policy m w e a new made.step ∙ shows.same;
          all_words = shows.all_words;
          each = λ q inside.
              words_stay m w e a new q _ (unworded q) made.step (shows.each q inside);
        };
        agrees = by_part (λ part. RoleAgrees (change part) new) (made.agrees sound)
            (subst (λ role. RoleAgrees role new) (sym becomes) (made.leaves sound)) (λ number. tt);
        others = λ third agrees strange.
            role_stays m w e a new shows.sound made.step third
            (λ is.
            strange seat.place (of_worker before log) seat.there
            (sym (ap (λ p. name_of p third) (sym shows.same) ∙ is)))
            low sound
            (quiet m shows agreed third
            (λ is. strange seat.second other seat.joined (sym is))) agrees;
      }

  pub both_decide : Decides (running policy) ((w, (e, a)) ∷ []) words words parts change
  both_decide = record {
    names = by_part (λ part. name_of policy (change part) ≡ name_of policy part) same
        (ap (name_of policy) becomes ∙ named) (λ number. refl);
    logs =
        by_part
        (λ part.
        calls_in (change part)
        ≡ calls_in part ++ log_of (name_of policy part) ((w, (e, a)) ∷ []))
        (ap (λ (l : List Call). log ++ l) (sym (log_one w (e, a))))
        (ap calls_in becomes
        ∙ silent_then
        ∙ sym
        (ap (λ (l : List Call). l ++ log_of (name_of policy other) ((w, (e, a)) ∷ [])) silent
        ∙ log_other w _ (e, a) apart))
        (λ number. sym (log_other w _ (e, a) (seat_apart number)));
    own = λ name strange.
        log_other w name (e, a) (strange seat.place (of_worker before log) seat.there);
    moves = λ m shows agrees.
        moves_both m shows (agrees seat.place (of_worker before log) seat.there)
        (agrees seat.second other seat.joined);
  }

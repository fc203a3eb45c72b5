-- What a place that is sent leaves of a remote list.
use Rattle.std.proofs.Common.{◌≡◌, ◌≢◌, ℕ, ◌<◌, true, false, List, [], ◌∷◌, length, refl, sym, ap, ◌∙◌, arith, subst, inl, inr, ⊎_elim, get_or-set_other, get_or-set_same}
use Rattle.std.specs.Prelude.{Contains}
use Rattle.std.specs.List.{concat}
use Rattle.std.proofs.lemmas.List.{length-set, set-get_or}
use Rattle.std.proofs.lemmas.Bool.{cases_eq}
use Rattle.hg_place.specs.Places.{page_of}
use Rattle.hg_lists.specs.Inserts.{Inserts}
use Rattle.hg_lists.proofs.RepeatsLemmas.{Contains-cons_cases, lacks_contains}
use Rattle.hg_lists.proofs.InsertsLemmas.{Inserts-front, Inserts-behind, Inserts-concat, inserted_cases, HasNoRepeats-Inserts}
use Rattle.hg_remote.specs.Remote.{Remote, IsRight, contents, slot, thread_at, is_delayed}
use Rattle.hg_remote.specs.Sends.{with_thread, sent}
use Rattle.hg_remote.proofs.Delayed.{has_of-same, has_of-other, lacks_page}

-- what the list has and keeps after a call that put a place there
pub record Sent (old new : Remote) (place : ℕ) : Type 0 where
  pub added : Inserts place (contents old) (contents new)
  pub right : IsRight new

-- a place that may be sent
pub record IsNew (remote : Remote) (page index : ℕ) : Type 0 where
  pub page_below : page < 16
  pub index_below : index < 512
  pub away : ¬ Contains (contents remote) (slot page index)

pub page_of_slot : (page index : ℕ) → index < 512 → page_of (slot page index) ≡ page
page_of_slot page index lt = omega (arith, lt)

-- what all changes that put a place there share
below_sent : (old new : Remote) (page index : ℕ) → IsRight old → IsNew old page index → Inserts (slot page index) (contents old) (contents new) → (place : ℕ) → Contains (contents new) place → place < 8192
below_sent old new page index h n added place c = ⊎_elim
    (λ e. omega (arith, e, n.page_below, n.index_below))
    (λ d. h.below place d)
    (inserted_cases (slot page index) place (contents old) (contents new) added c)

pub thread_sent : (r : Remote) (page index : ℕ) → IsRight r → IsNew r page index → is_delayed r page ≡ true → Sent r (with_thread r page (slot page index ∷ thread_at r page)) (slot page index)
thread_sent r page index h n on =
    let new : Remote = with_thread r page (slot page index ∷ thread_at r page) in
    let lt : page < length r.thread_free = omega (arith, h.all, n.page_below) in
    let same : thread_at new page ≡ slot page index ∷ thread_at r page = get_or-set_same r.thread_free page (slot page index ∷ thread_at r page) [] lt in
    let other : (p : ℕ) → p ≢ page → thread_at new p ≡ thread_at r p = λ p ne. get_or-set_other r.thread_free page p (slot page index ∷ thread_at r page) [] ne in
    let added : Inserts (slot page index) (contents r) (contents new) = Inserts-behind (slot page index) r.delayed _ _ (subst (λ (lists : List (List ℕ)). Inserts (slot page index) (concat lists) (concat new.thread_free)) (set-get_or r.thread_free page []) (Inserts-concat r.thread_free page (slot page index) (thread_at r page) lt)) in record {
      added = added;
      right = record {
        all = length-set r.thread_free page (slot page index ∷ thread_at r page) ∙ h.all;
        below = below_sent r new page index h n added;
        once = HasNoRepeats-Inserts (slot page index) (contents r) (contents new) added (lacks_contains _ _ n.away) h.once;
        own = λ p place c. elim (cases_eq p page) [
          | inl e ↦ ⊎_elim
              (λ s. ap page_of s ∙ page_of_slot page index n.index_below ∙ sym e)
              (λ d. h.own page place d ∙ sym e)
              (Contains-cons_cases (slot page index) place (thread_at r page) (subst (λ (xs : List ℕ). Contains xs place) (ap (thread_at new) e ∙ same) c))
          | inr ne ↦ h.own p place (subst (λ (xs : List ℕ). Contains xs place) (other p ne) c)
        ];
        one_delayed = h.one_delayed;
        behind = λ p any. elim (cases_eq p page) [
          | inl e ↦ ap (is_delayed r) e ∙ on
          | inr ne ↦ h.behind p (λ empty. any (other p ne ∙ empty))
        ];
      };
    }

pub delayed_sent : (r : Remote) (page index : ℕ) → IsRight r → IsNew r page index → is_delayed r page ≡ false → Sent r (record r { delayed = slot page index ∷ r.delayed }) (slot page index)
delayed_sent r page index h n off =
    let new : Remote = record r { delayed = slot page index ∷ r.delayed } in
    let is : page_of (slot page index) ≡ page = page_of_slot page index n.index_below in
    let added : Inserts (slot page index) (contents r) (contents new) = Inserts-front (slot page index) (contents r) in record {
      added = added;
      right = record {
        all = h.all;
        below = below_sent r new page index h n added;
        once = HasNoRepeats-Inserts (slot page index) (contents r) (contents new) added (lacks_contains _ _ n.away) h.once;
        own = h.own;
        one_delayed = rw is (lacks_page page r.delayed off, h.one_delayed);
        behind = λ p any. elim (cases_eq page p) [
          | inl e ↦ has_of-same (slot page index) p r.delayed (is ∙ e)
          | inr ne ↦ has_of-other (slot page index) p r.delayed (λ e. ne (sym is ∙ e)) ∙ h.behind p any
        ];
      };
    }

pub sent_on : (r : Remote) (page index : ℕ) → is_delayed r page ≡ true → sent r page index ≡ with_thread r page (slot page index ∷ thread_at r page)
sent_on r page index on = rw on refl

pub sent_off : (r : Remote) (page index : ℕ) → is_delayed r page ≡ false → sent r page index ≡ record r { delayed = slot page index ∷ r.delayed }
sent_off r page index off = rw off refl

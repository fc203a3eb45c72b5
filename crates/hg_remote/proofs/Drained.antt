-- What a place that is drained leaves of a remote list.
use Rattle.std.proofs.Common.{◌≡◌, ◌≢◌, ℕ, ◌<◌, false, List, [], ◌∷◌, ◌++◌, length, map, slice_set, refl, sym, ap, ◌∙◌, arith, subst, inl, inr, get_or-set_other, get_or-set_same}
use Rattle.std.specs.Prelude.{Contains}
use Rattle.std.specs.List.{concat}
use Rattle.std.proofs.lemmas.List.{length-set, set-get_or}
use Rattle.std.proofs.lemmas.Bool.{cases_eq}
use Rattle.hg_place.specs.Places.{page_of, index_of}
use Rattle.hg_lists.specs.Inserts.{Inserts}
use Rattle.hg_lists.specs.Repeats.{HasNoRepeats}
use Rattle.hg_lists.proofs.RepeatsLemmas.{Contains-cons}
use Rattle.hg_lists.proofs.InsertsLemmas.{Inserts-behind, Inserts-concat, Contains-Inserts, Contains-inserted, no_repeats_inserted}
use Rattle.hg_remote.specs.Remote.{Remote, IsRight, contents, slot, thread_at, is_delayed}
use Rattle.hg_remote.specs.Sends.{with_thread, Drains}
use Rattle.hg_remote.proofs.Delayed.{has_of, has_of-same, has_of-other, has_of-lacks}

-- what the list has and keeps after a call that took a place out
pub record Drained (old new : Remote) (place : ℕ) : Type 0 where
  pub below : place < 8192
  pub drained : Drains old new (page_of place) (index_of place)
  pub removed : Inserts place (contents new) (contents old)
  pub right : IsRight new

pub slot_is : (place : ℕ) → slot (page_of place) (index_of place) ≡ place
slot_is place = omega arith

-- of the page of the first delayed place the front of the thread-free list
pub thread_drained : (r : Remote) (first : ℕ) (others : List ℕ) (place : ℕ) (rest : List ℕ) → IsRight r → r.delayed ≡ first ∷ others → page_of first < 16 → thread_at r (page_of first) ≡ place ∷ rest → Drained r (with_thread r (page_of first) rest) place
thread_drained r first others place rest h leads page_below e =
    let page : ℕ = page_of first in
    let new : Remote = with_thread r page rest in
    let lt : page < length r.thread_free = omega (arith, h.all, page_below) in
    let same : thread_at new page ≡ rest = get_or-set_same r.thread_free page rest [] lt in
    let other : (p : ℕ) → p ≢ page → thread_at new p ≡ thread_at r p = λ p ne. get_or-set_other r.thread_free page p rest [] ne in
    let whole : slice_set r.thread_free page (place ∷ rest) ≡ r.thread_free = ap (slice_set r.thread_free page) (sym e) ∙ set-get_or r.thread_free page [] in
    let removed : Inserts place (contents new) (contents r) = Inserts-behind place r.delayed _ _ (subst (λ (lists : List (List ℕ)). Inserts place (concat new.thread_free) (concat lists)) whole (Inserts-concat r.thread_free page place rest lt)) in
    let here : page_of place ≡ page = h.own page place (subst (λ (xs : List ℕ). Contains xs place) (sym e) (0, omega arith, refl)) in
    let keeps : (p x : ℕ) → Contains (thread_at new p) x → Contains (thread_at r p) x = λ p x c. elim (cases_eq p page) [
      | inl s ↦ subst (λ (xs : List ℕ). Contains xs x) (sym e ∙ ap (thread_at r) (sym s)) (Contains-cons place x rest (subst (λ (xs : List ℕ). Contains xs x) (ap (thread_at new) s ∙ same) c))
      | inr ne ↦ subst (λ (xs : List ℕ). Contains xs x) (other p ne) c
    ] in record {
      below = h.below place (Contains-inserted place (contents new) (contents r) removed);
      drained = record {
        first = first;
        others = others;
        delayed = leads;
        page_first = sym here;
        taken = inl (record {
          taken = rw here (e ∙ ap (λ (x : ℕ). x ∷ rest) (sym (slot_is place) ∙ ap (λ (p : ℕ). slot p (index_of place)) here) ∙ ap (λ (xs : List ℕ). slot page (index_of place) ∷ xs) (sym same));
          rest = rw here (ap (with_thread r page) (sym same));
        });
      };
      removed = removed;
      right = record {
        all = length-set r.thread_free page rest ∙ h.all;
        below = λ x c. h.below x (Contains-Inserts place x (contents new) (contents r) removed c);
        once = (no_repeats_inserted place (contents new) (contents r) removed h.once).0;
        own = λ p x c. h.own p x (keeps p x c);
        one_delayed = h.one_delayed;
        behind = λ p any. elim (cases_eq p page) [
          | inl s ↦ ap (is_delayed r) s ∙ (rw leads (has_of-same first page others refl))
          | inr ne ↦ h.behind p (λ empty. any (other p ne ∙ empty))
        ];
      };
    }

-- the first delayed place, where its page's thread-free list has none
pub delayed_drained : (r : Remote) (first : ℕ) (others : List ℕ) → IsRight r → r.delayed ≡ first ∷ others → thread_at r (page_of first) ≡ [] → Drained r (record r { delayed = others }) first
delayed_drained r first others h leads empty =
    let new : Remote = record r { delayed = others } in
    let removed : Inserts first (contents new) (contents r) = ([], contents new, refl, ap (λ (xs : List ℕ). xs ++ concat r.thread_free) leads) in
    let pages : HasNoRepeats (map page_of (first ∷ others)) = subst (λ (xs : List ℕ). HasNoRepeats (map page_of xs)) leads h.one_delayed in record {
      below = h.below first (Contains-inserted first (contents new) (contents r) removed);
      drained = record {
        first = first;
        others = others;
        delayed = leads;
        page_first = refl;
        taken = inr (record { drained = empty; taken = rw (slot_is first) leads; rest = refl });
      };
      removed = removed;
      right = record {
        all = h.all;
        below = λ x c. h.below x (Contains-Inserts first x (contents new) (contents r) removed c);
        once = (no_repeats_inserted first (contents new) (contents r) removed h.once).0;
        own = h.own;
        one_delayed = pages.1;
        behind = λ p any. elim (cases_eq (page_of first) p) [
          | inl e ↦ absurd (any (ap (thread_at r) (sym e) ∙ empty))
          | inr ne ↦ sym (has_of-other first p others ne) ∙ ap (λ (xs : List ℕ). has_of xs p) (sym leads) ∙ h.behind p any
        ];
      };
    }

-- the flag of the page of a delayed place that comes off
pub unflagged : (r : Remote) (first : ℕ) (others : List ℕ) → IsRight r → r.delayed ≡ first ∷ others → is_delayed (record r { delayed = others }) (page_of first) ≡ false
unflagged r first others h leads =
    let pages : HasNoRepeats (map page_of (first ∷ others)) = subst (λ (xs : List ℕ). HasNoRepeats (map page_of xs)) leads h.one_delayed in
    has_of-lacks (page_of first) others pages.0

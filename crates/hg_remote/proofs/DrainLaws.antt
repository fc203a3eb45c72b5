-- Laws of remote lists.
use Rattle.std.proofs.Common.{◌≡◌, ◌≢◌, ℕ, ◌<◌, Bool, true, false, List, [], ◌∷◌, refl, sym, ap, ◌∙◌, arith, subst, ◌⊎◌, inl, inr, ⊎_elim, get_or-set_same}
use Rattle.std.proofs.lemmas.List.{set-set, set-get_or}
use Rattle.hg_place.specs.Places.{page_of}
use Rattle.hg_remote.specs.Remote.{Remote, IsRight, slot, thread_at, is_delayed}
use Rattle.hg_remote.specs.Sends.{with_thread, sent, TakesThread, TakesDelayed, Drains}
use Rattle.hg_remote.specs.RemoteLaws.{DrainIsDetermined, IsForemost, LastSentIsDrained}
use Rattle.hg_remote.proofs.Sent.{sent_on, sent_off, page_of_slot}
use Rattle.hg_remote.proofs.Delayed.{has_of_any}
use Rattle.hg_remote.proofs.Kept.{none_on}

same_first : (x y : ℕ) (xs ys : List ℕ) → x ∷ xs ≡ y ∷ ys → (x ≡ y) × (xs ≡ ys)
same_first x y xs ys e = (cc, cc)

-- two takings from one page
same_taken : (old one other : Remote) (page i j : ℕ) → TakesThread old one page i ⊎ TakesDelayed old one page i → TakesThread old other page j ⊎ TakesDelayed old other page j → (i ≡ j) × (one ≡ other)
same_taken old one other page i j a b = ⊎_elim
    (λ t. ⊎_elim
    (λ u. (let s = same_first _ _ _ _ (sym t.taken ∙ u.taken) in (omega (arith, s.0), t.rest ∙ ap (with_thread old page) s.1 ∙ sym u.rest)))
    (λ u. (let e : slot page i ∷ thread_at one page ≡ [] = sym t.taken ∙ u.drained in cc)) b)
    (λ t. ⊎_elim
    (λ u. (let e : slot page j ∷ thread_at other page ≡ [] = sym u.taken ∙ t.drained in cc))
    (λ u. (let s = same_first _ _ _ _ (sym t.taken ∙ u.taken) in (omega (arith, s.0), t.rest ∙ ap (λ (xs : List ℕ). record old { delayed = xs }) s.1 ∙ sym u.rest))) b) a

pub drain_determined : DrainIsDetermined
drain_determined old one other page index page_too index_too a b =
    let firsts = same_first _ _ _ _ (sym a.delayed ∙ b.delayed) in
    let pages : page ≡ page_too = sym a.page_first ∙ ap page_of firsts.0 ∙ b.page_first in
    let rest = same_taken old one other page index index_too a.taken (subst (λ (p : ℕ). TakesThread old other p index_too ⊎ TakesDelayed old other p index_too) (sym pages) b.taken) in
    (pages, rest.0, rest.1)

some_first : (xs : List ℕ) → xs ≢ [] → (first : ℕ) × (others : List ℕ) × (xs ≡ first ∷ others)
some_first [] f = absurd (f refl)
some_first (x ∷ xs) f = (x, xs, refl)

-- a place on its page's thread-free list, and one on the delayed list
drained_thread : (r : Remote) (page index : ℕ) → IsRight r → page < 16 → IsForemost r page → is_delayed r page ≡ true → Drains (with_thread r page (slot page index ∷ thread_at r page)) r page index
drained_thread r page index h lt foremost on =
    let f = some_first r.delayed (has_of_any r.delayed page on) in record {
      first = f.0;
      others = f.1;
      delayed = f.2;
      page_first = foremost f.0 f.1 on f.2;
      taken = inl (record {
        taken = get_or-set_same r.thread_free page (slot page index ∷ thread_at r page) [] (omega (arith, h.all));
        rest = ap (λ (lists : List (List ℕ)). record r { thread_free = lists }) (sym (set-set r.thread_free page (slot page index ∷ thread_at r page) (thread_at r page) ∙ set-get_or r.thread_free page []));
      });
    }

drained_delayed : (r : Remote) (page index : ℕ) → IsRight r → index < 512 → is_delayed r page ≡ false → Drains (record r { delayed = slot page index ∷ r.delayed }) r page index
drained_delayed r page index h lt off = record {
  first = slot page index;
  others = r.delayed;
  delayed = refl;
  page_first = page_of_slot page index lt;
  taken = inr (record {
    drained = none_on (thread_at r page) (λ any. (let on : is_delayed r page ≡ true = h.behind page any in cc));
    taken = refl;
    rest = refl;
  });
}

last_drained_by : (r : Remote) (page index : ℕ) (delayed : Bool) → is_delayed r page ≡ delayed → IsRight r → page < 16 → index < 512 → IsForemost r page → Drains (sent r page index) r page index
last_drained_by r page index true e h lt below foremost = rw (sent_on r page index e) (drained_thread r page index h lt foremost e)
last_drained_by r page index false e h lt below foremost = rw (sent_off r page index e) (drained_delayed r page index h below e)

pub last_drained : LastSentIsDrained
last_drained r page index h lt below away foremost = last_drained_by r page index (is_delayed r page) refl h lt below foremost

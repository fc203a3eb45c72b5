-- A Deliver puts the place where its remote list puts it, and leaves all other lists.
use Rattle.std.proofs.Common.{◌≡◌, ◌≢◌, ℕ, ◌+◌, ◌*◌, ◌%◌, ◌==◌, ◌<◌, ◌||◌, Bool, true, false, cond}
use Rattle.std.proofs.Common.{◌∷◌, [], List, length, map, set, inl, inr, sym, refl, ap, subst, ◌∙◌}
use Rattle.std.proofs.Common.{arith, slice_set, slice_index_or, None}
use Rattle.std.specs.List.{list_any, range_with_len}
use Rattle.std.proofs.lemmas.Bool.{cases_eq, eq-eqb, ne_eqb}
use Rattle.std.proofs.lemmas.Grind.{get_or-set_at}
use Rattle.std.proofs.lemmas.List.{length-map, get_or-set_other, set-get_or}
use Rattle.hg_place.specs.declared.Place.{Place}
use Rattle.hg_place.specs.Places.{number_of, segment_of, page_of, index_of, segment_of_page}
use Rattle.hg_remote.specs.Remote.{Remote, IsRight, slot, is_delayed, thread_at as thread_in}
use Rattle.hg_remote.specs.Sends.{sent, with_thread}
use Rattle.hg_machine.specs.Lists.{Lists, list_at}
use Rattle.hg_agreement.specs.Parts.{Parts, remote_at, thread_at, thread_of, delayed_of, lists_of}
use Rattle.hg_agreement.specs.Parts.{places_from}
use Rattle.hg_agreement.proofs.Lookups.{map_set}
use Rattle.hg_agreement.proofs.Told.{remotes_are_told}
use Rattle.hg_parts.specs.Rights.{list_of, remote_from}
use Rattle.hg_parts.specs.Tidy.{IsTidy}
use Rattle.hg_choice.specs.ListsAfter.{delivered as delivered_to, remote_of as remote_in}
use Rattle.hg_events.specs.Core.{Core, parts_of}
use Rattle.hg_events.specs.Delivered.{IsInHand, delivered, remote_of, nothing_there}
use Rattle.hg_events.proofs.Delivered.{hand_is_unsent, deliver_is_served}
use Rattle.hg_events.proofs.Told.{remote_told}
use Rattle.hg_chosen.specs.Delivered.{DeliverIsChosen, IsSent}

-- a place of a page stands among those of a segment where its number stands on the segment's list
any_moved : (segment page : ℕ) (xs : List ℕ)
    → list_any (λ place. page_of place == segment * 16 + page) (places_from (segment * 8192) xs)
    ≡ list_any (λ place. page_of place == page) xs
any_moved segment page [] = refl
any_moved segment page (x ∷ xs) =
    let far = page_of (segment * 8192 + x) in
    let p = segment * 16 + page in
    let here : (far == p) ≡ (page_of x == page) =
    elim (cases_eq (page_of x) page) [
      | inl e ↦ eq-eqb far p (omega (arith, e)) ∙ sym (eq-eqb (page_of x) page e)
      | inr ne ↦ ne_eqb far p (λ e. ne (omega (arith, e))) ∙ sym (ne_eqb (page_of x) page ne)
    ] in
    ap (λ b. b || list_any (λ place. page_of place == p) (places_from (segment * 8192) xs)) here
    ∙ ap (λ b. (page_of x == page) || b) (any_moved segment page xs)

-- a page's list, or the delayed list, is another one: what the two ways of sending leave
abbrev put_by : Bool → Remote → ℕ → List ℕ → List ℕ → Remote
put_by b r page v w = cond b (with_thread r page v) (record r { delayed = w })

thread_kept : (b : Bool) (r : Remote) (page i : ℕ) (v w : List ℕ) → i ≢ page
    → thread_in (put_by b r page v w) i ≡ thread_in r i
thread_kept true r page i v w ne = get_or-set_other r.thread_free page i v [] ne
thread_kept false r page i v w ne = refl

thread_put : (b : Bool) (r : Remote) (page : ℕ) (v w : List ℕ) → page < length r.thread_free
    → thread_in (put_by b r page v w) page ≡ cond b v (thread_in r page)
thread_put true r page v w inside = get_or-set_at r.thread_free page page v [] refl inside
thread_put false r page v w inside = refl

delayed_put : (b : Bool) (r : Remote) (page : ℕ) (v w : List ℕ)
    → (put_by b r page v w).delayed ≡ cond b r.delayed w
delayed_put true r page v w = refl
delayed_put false r page v w = refl

all_put : (b : Bool) (r : Remote) (page : ℕ) (v w : List ℕ)
    → set r.thread_free page (cond b v (thread_in r page)) ≡ (put_by b r page v w).thread_free
all_put true r page v w = refl
all_put false r page v w = set-get_or r.thread_free page []

-- lists of places that have one more, or haven't
more : (b : Bool) (first x y : ℕ) (xs : List ℕ) → first + x ≡ y
    → places_from first (cond b (x ∷ xs) xs)
    ≡ cond b (y ∷ places_from first xs) (places_from first xs)
more true first x y xs e = ap (λ k. k ∷ places_from first xs) e
more false first x y xs e = refl

fewer : (b : Bool) (first x y : ℕ) (xs : List ℕ) → first + x ≡ y
    → places_from first (cond b xs (x ∷ xs))
    ≡ cond b (places_from first xs) (y ∷ places_from first xs)
fewer true first x y xs e = refl
fewer false first x y xs e = ap (λ k. k ∷ places_from first xs) e

module _ (core : Core) (worker : ℕ) (place : Place) (remote : Remote) (t : IsTidy (parts_of core))
    (in_hand : IsInHand core worker place) (is : IsSent core place remote) where
  abbrev parts : Parts
  parts = parts_of core

  abbrev after : Core
  after = delivered core worker place remote

  abbrev new : Parts
  new = parts_of after

  abbrev l : Lists
  l = lists_of parts

  abbrev n : ℕ
  n = place.segment

  abbrev page : ℕ
  page = place.page

  -- the page over all segments, and the place
  abbrev p : ℕ
  p = n * 16 + page

  abbrev q : ℕ
  q = number_of place

  abbrev at : ℕ
  at = slot page place.index

  abbrev count : ℕ
  count = length core.policy.segments

  abbrev old : Remote
  old = remote_of core n

  abbrev b : Bool
  b = is_delayed old page

  below_remotes : n < length core.remotes
  below_remotes = (hand_is_unsent core worker place t in_hand).inside

  inside : n < count
  inside =
      let all = t.segments.remotes in
      let long = length-map core.remotes remote_from in
      let lt = below_remotes in
      omega (arith, all, long, lt)

  low : page < 16
  low = place.page_below

  right : IsRight old
  right = subst IsRight (remote_told core n) (t.remotes n inside)

  -- the remote lists afterwards
  remote_now : list_of (remote_at new n) ≡ remote
  remote_now =
      remote_told after n
      ∙ get_or-set_at core.remotes n n remote nothing_there refl below_remotes

  remote_other : (k : ℕ) → k ≢ n → list_of (remote_at new k) ≡ list_of (remote_at parts k)
  remote_other k ne =
      remote_told after k
      ∙ get_or-set_other core.remotes n k remote nothing_there ne
      ∙ sym (remote_told core k)

  -- what is told of the segment's remote list
  delayed_told : list_at l.delayed n ≡ places_from (n * 8192) old.delayed
  delayed_told =
      (remotes_are_told parts n inside).delayed
      ∙ ap (λ (r : Remote). places_from (n * 8192) r.delayed) (remote_told core n)

  thread_told : list_at l.thread_free p ≡ places_from (n * 8192) (thread_in old page)
  thread_told =
      (remotes_are_told parts n inside).thread_free page low
      ∙ ap (λ (r : Remote). places_from (n * 8192) (thread_in r page)) (remote_told core n)

  abbrev more_delayed : List ℕ
  more_delayed = at ∷ old.delayed

  abbrev more_thread : List ℕ
  more_thread = at ∷ thread_in old page

  -- the place, by its number
  abbrev number : ℕ
  number = slot p place.index

  abbrev delayed_more : List ℕ
  delayed_more = number ∷ list_at l.delayed n

  abbrev thread_more : List ℕ
  thread_more = number ∷ list_at l.thread_free p

  same_place : n * 8192 + at ≡ number
  same_place = omega arith

  -- the lists of the segment and of the page afterwards
  delayed_now : delayed_of new n ≡ cond b (list_at l.delayed n) delayed_more
  delayed_now =
      ap (λ (r : Remote). places_from (n * 8192) r.delayed) (remote_now ∙ is.sent)
      ∙ ap (places_from (n * 8192)) (delayed_put b old page more_thread more_delayed)
      ∙ fewer b (n * 8192) at number old.delayed same_place
      ∙ sym (ap (λ xs. cond b xs (number ∷ xs)) delayed_told)

  thread_at_page : (some : Parts) (k : ℕ) → segment_of_page k ≡ n
      → thread_of some k ≡ places_from (n * 8192) (thread_at (remote_at some n) (k % 16))
  thread_at_page some k e =
      ap (λ (m : ℕ). places_from (m * 8192) (thread_at (remote_at some m) (k % 16))) e

  own_page : segment_of_page p ≡ n
  own_page = let h = low in omega (arith, h)

  in_page : p % 16 ≡ page
  in_page = let h = low in omega (arith, h)

  thread_now : thread_of new p ≡ cond b thread_more (list_at l.thread_free p)
  thread_now =
      let long = right.all in
      let h = low in
      thread_at_page new p own_page
      ∙ ap (λ (i : ℕ). places_from (n * 8192) (thread_at (remote_at new n) i)) in_page
      ∙ ap (λ (r : Remote). places_from (n * 8192) (thread_in r page)) (remote_now ∙ is.sent)
      ∙ ap (places_from (n * 8192))
      (thread_put b old page more_thread more_delayed (omega (arith, long, h)))
      ∙ more b (n * 8192) at number (thread_in old page) same_place
      ∙ sym (ap (λ xs. cond b (number ∷ xs) xs) thread_told)

  thread_other : (k : ℕ) → k ≢ p → thread_of new k ≡ thread_of parts k
  thread_other k ne =
      elim (cases_eq (segment_of_page k) n) [
        | inl e ↦
            thread_at_page new k e
            ∙ ap (λ (r : Remote). places_from (n * 8192) (thread_in r (k % 16)))
            (remote_now ∙ is.sent)
            ∙ ap (places_from (n * 8192))
            (thread_kept b old page (k % 16) more_thread more_delayed
            (λ f. ne (omega (arith, e, f))))
            ∙ sym (ap (λ (r : Remote). places_from (n * 8192) (thread_in r (k % 16)))
            (remote_told core n))
            ∙ sym (thread_at_page parts k e)
        | inr away ↦
            ap (λ (r : Remote). places_from (segment_of_page k * 8192) (thread_in r (k % 16)))
            (remote_other (segment_of_page k) away)
      ]

  -- what a run with its choices leaves
  abbrev seen : Remote
  seen = remote_in l n

  abbrev sent_seen : Bool → Remote
  sent_seen c = put_by c seen p thread_more delayed_more

  delayed_seen : is_delayed seen p ≡ b
  delayed_seen =
      ap (list_any (λ x. page_of x == p)) delayed_told ∙ any_moved n page old.delayed

  threads_are : map (thread_of new) (range_with_len 0 (count * 16)) ≡ (sent_seen b).thread_free
  threads_are =
      let h = low in
      let k = inside in
      map_set (thread_of parts) (thread_of new) (count * 16) p [] (omega (arith, h, k)) thread_other
      ∙ ap (set l.thread_free p) thread_now
      ∙ all_put b seen p thread_more delayed_more

  delayed_are : map (delayed_of new) (range_with_len 0 count)
      ≡ slice_set l.delayed n (sent_seen b).delayed
  delayed_are =
      map_set (delayed_of parts) (delayed_of new) count n [] inside
      (λ k ne. ap (λ (r : Remote). places_from (k * 8192) r.delayed) (remote_other k ne))
      ∙ ap (set l.delayed n)
      (delayed_now ∙ sym (delayed_put b seen p thread_more delayed_more))

  own : segment_of q ≡ n
  own = let a = place.page_below in let c = place.index_below in omega (arith, a, c)

  its_page : page_of q ≡ p
  its_page = let c = place.index_below in omega (arith, c)

  its_index : index_of q ≡ place.index
  its_index = let c = place.index_below in omega (arith, c)

  abbrev left_by : ℕ → ℕ → ℕ → Lists
  left_by m k i =
      let r = sent (remote_in l m) k i in
      record l { thread_free = r.thread_free; delayed = slice_set l.delayed m r.delayed }

  lists_are : lists_of new ≡ delivered_to l (slice_index_or core.hands worker None)
  lists_are =
      ap (λ ts. record l {
        thread_free = ts;
        delayed = map (delayed_of new) (range_with_len 0 count);
      }) threads_are
      ∙ ap (λ ds. record l { thread_free = (sent_seen b).thread_free; delayed = ds }) delayed_are
      ∙ ap (λ c. record l {
        thread_free = (sent_seen c).thread_free;
        delayed = slice_set l.delayed n (sent_seen c).delayed;
      }) (sym delayed_seen)
      ∙ sym (ap (λ m. left_by m (page_of q) (index_of q)) own
      ∙ ap (λ k. left_by n k (index_of q)) its_page
      ∙ ap (λ i. left_by n p i) its_index)
      ∙ ap (delivered_to l) (sym in_hand)

pub deliver_is_chosen : DeliverIsChosen
deliver_is_chosen core worker place remote t in_hand is = record {
  step = (deliver_is_served core worker place remote t in_hand is.added is.right).0;
  chosen = tt;
  lists = lists_are core worker place remote t in_hand is;
  queues = refl;
}

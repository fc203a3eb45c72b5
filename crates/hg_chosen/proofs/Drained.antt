-- The order in which the places of a remote list come off, by their numbers over all segments.
use Rattle.std.proofs.Common.{◌≡◌, ℕ, ◌+◌, ◌*◌, ◌<◌, List, [], ◌∷◌, ◌++◌, map, length, refl, sym}
use Rattle.std.proofs.Common.{ap, ◌∙◌, arith, inl, inr, subst}
use Rattle.std.specs.List.{concat}
use Rattle.std.proofs.lemmas.List.{map-append, get_or-map, length-map}
use Rattle.hg_lists.specs.Repeats.{IsIn}
use Rattle.hg_lists.proofs.RepeatsLemmas.{Contains-in}
use Rattle.hg_place.specs.Places.{page_of}
use Rattle.hg_remote.specs.Remote.{Remote, IsRight, contents, thread_at, nothing_sent}
use Rattle.hg_remote.specs.Order.{with_those_before, drained}
use Rattle.hg_remote.specs.RemoteLaws.{IsOrderOf}
use Rattle.hg_remote.proofs.OrderLemmas.{order_all}
use Rattle.hg_agreement.specs.Parts.{Parts, places_from, lists_of, remote_at, no_remote}
use Rattle.hg_agreement.specs.TakenIn.{remote_places}
use Rattle.hg_agreement.proofs.Told.{remotes_are_told}
use Rattle.hg_parts.specs.Rights.{list_of, remote_from}
use Rattle.hg_parts.specs.Tidy.{IsTidy}
use Rattle.hg_parts.proofs.Sent.{places_are}
use Rattle.hg_choice.specs.ListsAfter.{remote_of}
use Rattle.hg_events.specs.Core.{Core, parts_of}
use Rattle.hg_events.specs.Take.{remote_of as remote_in}

-- a list of places of a segment, each with those before it
drained_by : (one own : Remote) (first : ℕ)
    → ((x : ℕ) → x < 8192
    → thread_at one (page_of (first + x)) ≡ places_from first (thread_at own (page_of x)))
    → (xs : List ℕ) → ((x : ℕ) → IsIn x xs → x < 8192)
    → concat (map (with_those_before one) (places_from first xs))
    ≡ places_from first (concat (map (with_those_before own) xs))
drained_by one own first threads [] below = refl
drained_by one own first threads (x ∷ xs) below =
    let f : ℕ → ℕ = λ n. first + n in
    let rest = concat (map (with_those_before one) (places_from first xs)) in
    let thread = thread_at own (page_of x) in
    ap (λ ys. (ys ++ (first + x) ∷ []) ++ rest) (threads x (below x (inl refl)))
    ∙ ap (λ ys. ys ++ rest) (sym (map-append f thread (x ∷ [])))
    ∙ ap (λ ys. map f (thread ++ x ∷ []) ++ ys)
    (drained_by one own first threads xs (λ y on. below y (inr on)))
    ∙ sym
    (map-append f (thread ++ x ∷ []) (concat (map (with_those_before own) xs)))

-- the remote list of a segment of the policy
module _ (core : Core) (n : ℕ) (t : IsTidy (parts_of core))
    (low : n < length core.policy.segments) where
  abbrev parts : Parts
  parts = parts_of core

  abbrev list : Remote
  list = remote_in core n

  pub sent_below : n < length core.remotes
  sent_below =
      let long : length parts.remotes ≡ length core.policy.segments = t.segments.remotes in
      let mapped : length parts.remotes ≡ length core.remotes =
      length-map core.remotes remote_from in
      omega (arith, low, long, mapped)

  pub remote_is : remote_at parts n ≡ remote_from list
  remote_is = get_or-map remote_from core.remotes n nothing_sent no_remote sent_below

  pub list_right : IsRight list
  list_right = subst (λ r. IsRight (list_of r)) remote_is (t.remotes n low)

  pub order : IsOrderOf list
  order = order_all list list_right

  pub drained_below : (x : ℕ) → IsIn x (drained list) → x < 8192
  drained_below x on = list_right.below x ((order.same x).0 (Contains-in x (drained list) on))

  -- each place comes off once
  pub drained_length : length (drained list) ≡ length (remote_places (remote_at parts n))
  drained_length =
      order.as_many
      ∙ sym
      (ap length
      (places_are (remote_at parts n) (t.remotes n low)
      ∙ ap (λ r. contents (list_of r)) remote_is))

  delayed_below : (x : ℕ) → IsIn x list.delayed → x < 8192
  delayed_below x on =
      list_right.below x
      (Contains-in x (contents list) (in_left x list.delayed (concat list.thread_free) on))
    where
      in_left : (x : ℕ) (xs ys : List ℕ) → IsIn x xs → IsIn x (xs ++ ys)
      in_left x [] ys on = absurd on
      in_left x (y ∷ xs) ys (inl e) = inl e
      in_left x (y ∷ xs) ys (inr on) = inr (in_left x xs ys on)

  threads : (x : ℕ) → x < 8192
      → thread_at (remote_of (lists_of parts) n) (page_of (n * 8192 + x))
      ≡ places_from (n * 8192) (thread_at list (page_of x))
  threads x small =
      let page : page_of (n * 8192 + x) ≡ n * 16 + page_of x = omega (arith, small) in
      ap (thread_at (remote_of (lists_of parts) n)) page
      ∙ (remotes_are_told parts n low).thread_free (page_of x) (omega (arith, small))
      ∙ ap (λ r. places_from (n * 8192) (thread_at (list_of r) (page_of x))) remote_is

  pub drained_told : drained (remote_of (lists_of parts) n)
      ≡ places_from (n * 8192) (drained list)
  drained_told =
      ap (λ xs. concat (map (with_those_before (remote_of (lists_of parts) n)) xs))
      ((remotes_are_told parts n low).delayed
      ∙ ap (λ r. places_from (n * 8192) (list_of r).delayed) remote_is)
      ∙ drained_by (remote_of (lists_of parts) n) list (n * 8192) threads list.delayed
      delayed_below

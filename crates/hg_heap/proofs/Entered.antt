-- Queues that the pages of a segment enter, one after the other.
use Rattle.std.proofs.Common.{◌≡◌, ℕ, zero, suc, ◌+◌, ◌*◌, ◌%◌, ◌<◌, ◌≤◌, ◌==◌, ◌&&◌, inl, inr}
use Rattle.std.proofs.Common.{⊎_elim, Bool, true, false, cond, ◌∷◌, [], ◌++◌, List, length, reverse}
use Rattle.std.proofs.Common.{Option, Some, None, refl, sym, ap, subst, ◌∙◌, arith, slice_set}
use Rattle.std.proofs.Common.{Contains, filter, get_or-set_other, get_or-set_same}
use Rattle.std.specs.List.{range_with_len}
use Rattle.std.proofs.lemmas.Bool.{cases_eq, eq-eqb, ne_eqb, and_from}
use Rattle.std.proofs.lemmas.List.{map-id, append-nil, reverse-append, reverse-reverse}
use Rattle.std.proofs.lemmas.List.FromFn.{filter_of_map_range_with_len_more}
use Rattle.std.proofs.lemmas.List.Elements.{Contains-append_left, Contains-append_right}
use Rattle.std.proofs.lemmas.List.Elements.{Contains-append_cases}
use Rattle.hg_lists.proofs.RepeatsLemmas.{Contains-cons, Contains-cons_cases}
use Rattle.hg_size.specs.Sizes.{number_of_size}
use Rattle.hg_size.specs.SizeLaws.{key_of}
use Rattle.hg_queue.specs.Queues.{queue_of, IsQueued, AreQueues}
use Rattle.hg_segment.specs.Kept.{Kept, class_at, lists_at}
use Rattle.hg_heap.specs.Held.{has_place}
use Rattle.hg_heap.specs.Entering.{is_key_of, pages_of_key}
use Rattle.hg_heap.proofs.Chosen.{in_range}

-- a filtered range, and one number more
filter_more : (p : ℕ → Bool) (from n : ℕ) → filter p (range_with_len from (n + 1)) ≡ filter p
    (range_with_len from n) ++ cond (p (from + n)) ((from + n) ∷ []) []
filter_more p from n =
    ap (filter p) (sym (map-id (range_with_len from (n + 1))))
    ∙ filter_of_map_range_with_len_more p (λ x. x) from n (from + n) refl
    ∙ ap (λ (xs : List ℕ). filter p xs ++ cond (p (from + n)) ((from + n) ∷ []) [])
    (map-id (range_with_len from n))

more_no : (p : ℕ → Bool) (from n : ℕ) → p (from + n) ≡ false
    → filter p (range_with_len from (n + 1)) ≡ filter p (range_with_len from n)
more_no p from n e =
    filter_more p from n
    ∙ ap (λ (b : Bool). filter p (range_with_len from n) ++ cond b ((from + n) ∷ []) []) e
    ∙ append-nil (filter p (range_with_len from n))

more_yes : (p : ℕ → Bool) (from n : ℕ) → p (from + n) ≡ true
    → reverse (filter p (range_with_len from (n + 1))) ≡ (from + n) ∷ reverse
    (filter p (range_with_len from n))
more_yes p from n e =
    ap reverse (filter_more p from n
    ∙ ap (λ (b : Bool). filter p (range_with_len from n) ++ cond b ((from + n) ∷ []) []) e)
    ∙ reverse-append (filter p (range_with_len from n)) ((from + n) ∷ [])

pub Contains-range : (p : ℕ → Bool) (from count x : ℕ) → p x ≡ true → from ≤ x → x < from + count
    → Contains (filter p (range_with_len from count)) x
Contains-range p from zero x e low high = absurd (omega (arith, low, high))
Contains-range p from (suc n) x e low high = elim (cases_eq x from) [
  | inl s ↦ subst
      (λ (b : Bool). Contains (cond b (from ∷ filter p (range_with_len (from + 1) n))
      (filter p (range_with_len (from + 1) n))) x) (sym (ap p (sym s) ∙ e))
      (0, omega arith, sym s)
  | inr ne ↦ (
      let rest = Contains-range p (from + 1) n x e (omega (arith, low, ne)) (omega (arith, high)) in
      after (p from) rest)
]
  where
    after : (b : Bool) → Contains (filter p (range_with_len (from + 1) n)) x
        → Contains (cond b (from ∷ filter p (range_with_len (from + 1) n))
        (filter p (range_with_len (from + 1) n))) x
    after true c = Contains-cons from x (filter p (range_with_len (from + 1) n)) c
    after false c = c

pub Contains-reverse : (xs : List ℕ) (x : ℕ) → Contains xs x → Contains (reverse xs) x
Contains-reverse [] x c = c
Contains-reverse (y ∷ ys) x c =
    subst (λ (zs : List ℕ). Contains zs x) (sym (reverse-append (y ∷ []) ys))
    (⊎_elim (λ s. Contains-append_right (reverse ys) (y ∷ []) x (0, omega arith, sym s))
    (λ r. Contains-append_left (reverse ys) (y ∷ []) x (Contains-reverse ys x r))
    (Contains-cons_cases y x ys c))

pub contained_reverse : (xs : List ℕ) (x : ℕ) → Contains (reverse xs) x → Contains xs x
contained_reverse xs x c =
    subst (λ (zs : List ℕ). Contains zs x) (reverse-reverse xs) (Contains-reverse (reverse xs) x c)

module _ {S : Type 0} (k : Kept S) (first : ℕ) where
  -- the page is of the key, and has a place
  abbrev pub is_entering : ℕ → ℕ → Bool
  is_entering key page =
      is_key_of k.arena (class_at k.classes (page % 16)) key && has_place
      (lists_at k.lists (page % 16))

  -- of so many pages
  abbrev pub entering : ℕ → ℕ → List ℕ
  entering key n = filter (is_entering key) (range_with_len first n)

  -- so many pages have entered
  pub record AreEntered (n : ℕ) (old new : List (List ℕ)) : Type 0 where
    pub queues : AreQueues new
    pub each : (key : ℕ) → queue_of new key ≡ reverse (entering key n) ++ queue_of old key

  module _ (n : ℕ) (old new : List (List ℕ)) (e : AreEntered n old new) (low : n < 16)
      (even : first % 16 ≡ 0) where
    page_is : (first + n) % 16 ≡ n
    page_is = omega (arith, low, even)

    stays : ((key : ℕ) → is_entering key (first + n) ≡ false) → AreEntered (n + 1) old new
    stays off = record {
      queues = e.queues;
      each = λ key. e.each key
          ∙ ap (λ (xs : List ℕ). reverse xs ++ queue_of old key)
          (sym (more_no (is_entering key) first n (off key)));
    }

    and_no : (a b : Bool) → b ≡ false → (a && b) ≡ false
    and_no true b s = s
    and_no false b s = refl

    -- a page without a class, or without a place, enters no queue
    pub classless_stays : class_at k.classes n ≡ None → AreEntered (n + 1) old new
    classless_stays none =
        stays (λ key. ap (λ (m : ℕ). is_key_of k.arena (class_at k.classes m) key && has_place
        (lists_at k.lists m)) page_is
        ∙ ap (λ (o : Option ℕ). is_key_of k.arena o key && has_place (lists_at k.lists n)) none)

    pub full_stays : has_place (lists_at k.lists n) ≡ false → AreEntered (n + 1) old new
    full_stays full =
        stays (λ key. ap (λ (m : ℕ). is_key_of k.arena (class_at k.classes m) key && has_place
        (lists_at k.lists m)) page_is ∙ and_no (is_key_of k.arena (class_at k.classes n) key)
        (has_place (lists_at k.lists n)) full)

    -- another goes to the front of its key's
    pub one_enters : (size : ℕ) (now : List (List ℕ)) → class_at k.classes n ≡ Some size
        → has_place (lists_at k.lists n) ≡ true → AreQueues now
        → key_of k.arena (number_of_size size) < length new
        → now ≡ slice_set new (key_of k.arena (number_of_size size))
        ((first + n) ∷ queue_of new (key_of k.arena (number_of_size size)))
        → AreEntered (n + 1) old now
    one_enters size now class has are inside is = record { queues = are; each = each }
      where
        is_its : (key : ℕ) → is_entering key (first + n)
            ≡ ((key_of k.arena (number_of_size size) == key) && has_place (lists_at k.lists n))
        is_its key = ap (λ (m : ℕ). is_key_of k.arena (class_at k.classes m) key && has_place
            (lists_at k.lists m)) page_is
            ∙ ap (λ (o : Option ℕ). is_key_of k.arena o key && has_place (lists_at k.lists n)) class

        each : (key : ℕ) → queue_of now key ≡ reverse (entering key (n + 1)) ++ queue_of old key
        each key = elim (cases_eq key (key_of k.arena (number_of_size size))) [
          | inl s ↦ (
              let own = key_of k.arena (number_of_size size) in
              let yes : is_entering key (first + n) ≡ true =
              is_its key ∙ and_from _ _ (eq-eqb own key (sym s)) has in
              ap (λ (qs : List (List ℕ)). queue_of qs key) is
              ∙ ap (queue_of (slice_set new own ((first + n) ∷ queue_of new own))) s
              ∙ get_or-set_same new own ((first + n) ∷ queue_of new own) [] inside
              ∙ ap (λ (m : ℕ). (first + n) ∷ queue_of new m) (sym s)
              ∙ ap (λ (xs : List ℕ). (first + n) ∷ xs) (e.each key)
              ∙ ap (λ (xs : List ℕ). xs ++ queue_of old key)
              (sym (more_yes (is_entering key) first n yes)))
          | inr ne ↦ (
              let own = key_of k.arena (number_of_size size) in
              let off : is_entering key (first + n) ≡ false =
              is_its key ∙ ap (λ (b : Bool). b && has_place (lists_at k.lists n))
              (ne_eqb own key (λ s. ne (sym s))) in
              ap (λ (qs : List (List ℕ)). queue_of qs key) is
              ∙ get_or-set_other new own key ((first + n) ∷ queue_of new own) [] ne
              ∙ e.each key
              ∙ ap (λ (xs : List ℕ). reverse xs ++ queue_of old key)
              (sym (more_no (is_entering key) first n off)))
        ]

    -- the next page stands in none yet
    pub next_nowhere : ¬ IsQueued old (first + n) → ¬ IsQueued new (first + n)
    next_nowhere away on = ⊎_elim
        (λ there. let r = in_range (is_entering on.0) first n (first + n)
        (contained_reverse (entering on.0 n) (first + n) there) in let b = r.1 in omega (arith, b))
        (λ was. away (on.0, was))
        (Contains-append_cases (reverse (entering on.0 n)) (queue_of old on.0) (first + n)
        (subst (λ (xs : List ℕ). Contains xs (first + n)) (e.each on.0) on.1))

-- all pages of the segment
pub pages_are : {S : Type 0} (number : S → ℕ) (k : Kept S) (key n first : ℕ) → n ≡ 16
    → first ≡ number k.slots * 16 → pages_of_key number k key ≡ entering k first key n
unfolding pages_of_key
pages_are number k key n first e f =
    ap (λ (m : ℕ). filter (is_entering k first key) (range_with_len (number k.slots * 16) m))
    (sym e)
    ∙ ap (λ (a : ℕ). filter (is_entering k first key) (range_with_len a n)) (sym f)

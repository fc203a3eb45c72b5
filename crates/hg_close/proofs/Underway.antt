-- Segments come over one by one, from a pool of the policy's segments to another.
use Rattle.std.proofs.Common.{◌≡◌, ◌≢◌, ◌⊎◌, ℕ, ◌<◌, not, cond, List, [], ◌∷◌, ◌++◌, length}
use Rattle.std.proofs.Common.{Option, Some, None, slice_get, slice_set, refl, sym, ap}
use Rattle.std.proofs.Common.{subst, ◌∙◌, inl, inr, ⊎_elim, get_or-set_other}
use Rattle.std.specs.Prelude.{Contains}
use Rattle.std.specs.Option.{option_map}
use Rattle.std.proofs.lemmas.Bool.{cases_eq, eq-eqb}
use Rattle.std.proofs.lemmas.List.{append-nil, append_assoc, map-append}
use Rattle.std.proofs.lemmas.Option.{same_Some, slice_get_within}
use Rattle.hg_lists.specs.Inserts.{Inserts}
use Rattle.hg_lists.specs.Repeats.{Lacks, HasNoRepeats}
use Rattle.hg_lists.proofs.InsertsLemmas.{Inserts-behind}
use Rattle.hg_place.specs.declared.plain.PlainWords.{PlainWords}
use Rattle.hg_place.specs.declared.standing.Standing.{Standing}
use Rattle.hg_machine.specs.Policy.{Policy, arena_of}
use Rattle.hg_segment.specs.Kept.{Kept}
use Rattle.hg_segment.specs.Parted.{plain_number}
use Rattle.hg_heap.specs.Policies.{AreOf, IsOf}
use Rattle.hg_pool.specs.Pooled.{Pooled, IsPooled, IsRight, IsRising, first_in, numbers}
use Rattle.hg_pool.specs.Pooled.{without_number}
use Rattle.hg_worker.specs.Missing.{HasAll}
use Rattle.hg_close.specs.Moved.{IsPlainOf, HasMoved, AreOver}
use Rattle.hg_close.specs.Rooms.{HasWords}
use Rattle.hg_close.proofs.First.{begins, begins_none}
use Rattle.hg_close.proofs.Founds.{all_in, at_front, in_inserted, in_none, inserted, one_less}
use Rattle.hg_close.proofs.Founds.{pooled, standing, stays_there, still_inserted, was_there}
use Rattle.hg_close.proofs.Founds.{without_lacks, mapped_some}

empty_or : {X : Type 0} (xs : List X) → (xs ≡ []) ⊎ (xs ≢ [])
empty_or [] = inl refl
empty_or (x ∷ xs) = inr (λ e. absurd (cc))

lacks_front : (n : ℕ) (ns ms : List ℕ) → Lacks n (ns ++ ms) → Lacks n ns
lacks_front n [] ms l = tt
lacks_front n (k ∷ ns) ms l = (l.0, lacks_front n ns ms l.1)

-- other slot words stay ready
still_waits : (words : List (Option PlainWords)) (k n : ℕ) → k ≢ n → HasWords words k
    → HasWords (slice_set words n None) k
still_waits words k n ne has =
    (has.0, get_or-set_other words n k None None ne ∙ has.1, has.2)

module _ {S : Type 0} (number : S → ℕ) (records : S → List Standing)
    (shows : S → ℕ → ℕ → Type 0) (steps : S → ℕ → ℕ → ℕ → S → Type 0) (policy : Policy)
    (start : Pooled S) where
  -- some segments of the start are in the pool still, with slot words ready, and the others are in
  -- the other pool, over plain words; each is as the policy has it
  pub record AreUnderway (pool : Pooled S) (words : List (Option PlainWords))
      (to : Pooled PlainWords) : Type 0 where
    pub from : (k : Kept S) → Contains (all_in number pool) k → Contains (all_in number start) k
    pub waiting :
        (k : Kept S) → Contains (all_in number pool) k → HasWords words (number k.slots)
    pub apart :
        (k : Kept S) → Contains (all_in number pool) k → ¬ IsPooled plain_number to (number k.slots)
    pub there :
        (k : Kept S) → Contains (all_in number start) k
        → Contains (all_in number pool) k ⊎ IsPooled plain_number to (number k.slots)
    pub over :
        (m : Kept PlainWords) → Contains (all_in plain_number to) m
        → (k : Kept S) × Contains (all_in number start) k × IsPlainOf number records shows steps k m
    pub order :
        numbers plain_number to.orphans ++ numbers number pool.orphans
        ≡ numbers number start.orphans
    pub of : AreOf plain_number policy (to.orphans ++ to.fresh)
    pub right : IsRight plain_number to

  module _ (pool : Pooled S) (words : List (Option PlainWords)) (to : Pooled PlainWords)
      (under : AreUnderway pool words to) where
    -- the segment that stands first has its words ready, and isn't over yet
    pub first_waits : (n : ℕ)
        → option_map (λ (one : Kept S). number one.slots) (first_in pool) ≡ Some n
        → HasWords words n × (¬ IsPooled plain_number to n)
    first_waits n first =
        let m = mapped_some (λ (one : Kept S). number one.slots) (first_in pool) n first in
        let b = begins (all_in number pool) m.0 m.1 in
        let c : Contains (all_in number pool) m.0 =
        subst (λ ks. Contains ks m.0) (sym b.1) (at_front m.0 b.0) in
        subst (λ k. HasWords words k × (¬ IsPooled plain_number to k)) m.2
        (under.waiting m.0 c, under.apart m.0 c)

    -- at the end all are over
    pub all_over : first_in pool ≡ None → AreOver number records shows steps start to
    all_over none =
        let empty : all_in number pool ≡ [] = begins_none (all_in number pool) none in
        record {
          each = under.over;
          there = λ k c. ⊎_elim
              (λ (l : Contains (all_in number pool) k).
              absurd (in_none k (subst (λ ks. Contains ks k) empty l)))
              (λ (r : IsPooled plain_number to (number k.slots)). r)
              (under.there k c);
          orphans = sym (append-nil (numbers plain_number to.orphans))
              ∙ ap (λ ns. numbers plain_number to.orphans ++ ns)
              (sym (ap (numbers number) (no_orphans pool.orphans pool.fresh empty)))
              ∙ under.order;
          right = under.right;
        }
      where
        no_orphans : (xs ys : List (Kept S)) → xs ++ ys ≡ [] → xs ≡ []
        no_orphans [] ys e = refl
        no_orphans (x ∷ xs) ys e = absurd (cc)

  -- each segment of the policy then is there
  pub all_there : (to : Pooled PlainWords) (count : ℕ) → HasAll number start count
      → AreOver number records shows steps start to → (n : ℕ) → n < count → IsPooled plain_number to n
  all_there to count has over n lt =
      let s = standing number start n (has n lt) in
      subst (λ k. IsPooled plain_number to k) s.1 (over.there (has n lt).0 s.0)

  -- at the start none is over
  pub begun : (words : List (Option PlainWords)) (to : Pooled PlainWords)
      → AreOf number policy (start.orphans ++ start.fresh)
      → ((n : ℕ) → n < length policy.segments → HasWords words n)
      → to.orphans ≡ [] → to.fresh ≡ [] → AreUnderway start words to
  begun words to given ready orphans fresh =
      let empty : all_in plain_number to ≡ [] = ap (λ ks. ks ++ to.fresh) orphans ∙ fresh in
      let none : (m : Kept PlainWords) → Contains (all_in plain_number to) m → ⊥ =
      λ m c. in_none m (subst (λ ks. Contains ks m) empty c) in
      record {
        from = λ k c. c;
        waiting = λ k c. ready (number k.slots)
            (slice_get_within policy.segments (number k.slots) k.arena (given.arena k c));
        apart = λ k c there. none there.0 (standing plain_number to (number k.slots) there).0;
        there = λ k c. inl c;
        over = λ m c. absurd (none m c);
        order = ap (λ ks. numbers plain_number ks ++ numbers number start.orphans) orphans;
        of = record { arena = λ m c. absurd (none m c); greatest = λ m c. absurd (none m c) };
        right = record {
          once = subst (λ ks. HasNoRepeats (numbers plain_number ks)) (sym empty) tt;
          rising = subst (λ ks. IsRising (numbers plain_number ks)) (sym fresh) tt;
        };
      }

  -- one more comes over
  module _ (n : ℕ) (pool new : Pooled S) (words words' : List (Option PlainWords))
      (to to' : Pooled PlainWords) (under : AreUnderway pool words to)
      (given : AreOf number policy (start.orphans ++ start.fresh))
      (moved : HasMoved number records shows steps n pool new to to')
      (right : IsRight plain_number to') (taken : words' ≡ slice_set words n None) where
    -- it stood first
    begun_at : (rest : List (Kept S)) × (all_in number pool ≡ moved.one ∷ rest)
    begun_at = begins (all_in number pool) moved.one moved.first

    one_there : Contains (all_in number pool) moved.one
    one_there =
        subst (λ ks. Contains ks moved.one) (sym begun_at.1) (at_front moved.one begun_at.0)

    -- and is gone, where others stay
    stood : (k : Kept S) → Contains (all_in number new) k
        → Contains (all_in number pool) k × (number k.slots ≢ n)
    stood k c =
        was_there number pool n k (subst (λ p. Contains (all_in number p) k) moved.left c)

    stands : (k : Kept S) → Contains (all_in number pool) k → number k.slots ≢ n
        → Contains (all_in number new) k
    stands k c ne =
        subst (λ p. Contains (all_in number p) k) (sym moved.left) (stays_there number pool n k c ne)

    -- it stands among the others in the other pool now
    now_numbered : plain_number moved.now.slots ≡ n
    now_numbered = moved.plain.number_is ∙ moved.numbered

    put : Inserts moved.now (all_in plain_number to) (all_in plain_number to')
    put = ⊎_elim
        (λ (none : pool.orphans ≡ []).
        let f = moved.fresh none in
        subst (λ os. Inserts moved.now (all_in plain_number to) (os ++ to'.fresh)) (sym f.1)
        (Inserts-behind moved.now to.orphans to.fresh to'.fresh f.0))
        (λ (some : pool.orphans ≢ []).
        let o = moved.orphan some in (
          to.orphans,
          to.fresh,
          refl,
          ap (λ os. os ++ to'.fresh) o.0
              ∙ ap (λ fs. (to.orphans ++ moved.now ∷ []) ++ fs) o.1
              ∙ append_assoc to.orphans (moved.now ∷ []) to.fresh,
        ))
        (empty_or pool.orphans)

    still : (k : ℕ) → IsPooled plain_number to k → IsPooled plain_number to' k
    still k there =
        let s = standing plain_number to k there in
        pooled plain_number to' there.0 k
        (still_inserted moved.now there.0 (all_in plain_number to) (all_in plain_number to') put s.0)
        s.1

    over_before : (k : ℕ) → IsPooled plain_number to' k → (n ≡ k) ⊎ IsPooled plain_number to k
    over_before k there =
        let s = standing plain_number to' k there in
        ⊎_elim
        (λ (e : moved.now ≡ there.0).
        inl (sym now_numbered ∙ ap (λ (m : Kept PlainWords). plain_number m.slots) e ∙ s.1))
        (λ (c : Contains (all_in plain_number to) there.0). inr (pooled plain_number to there.0 k c s.1))
        (inserted moved.now there.0 (all_in plain_number to) (all_in plain_number to') put s.0)

    -- as the policy has it
    now_of : IsOf plain_number policy moved.now
    now_of =
        let c = under.from moved.one one_there in (
          ap (arena_of policy) moved.plain.number_is ∙ given.arena moved.one c
              ∙ ap Some (sym moved.plain.rest.arena),
          moved.plain.rest.greatest ∙ given.greatest moved.one c,
        )

    of_now : AreOf plain_number policy (to'.orphans ++ to'.fresh)
    of_now = record {
      arena = λ m c. ⊎_elim
          (λ (e : moved.now ≡ m).
          subst (λ (j : Kept PlainWords). arena_of policy (plain_number j.slots) ≡ Some j.arena) e
          now_of.0)
          (λ (d : Contains (all_in plain_number to) m). under.of.arena m d)
          (inserted moved.now m (all_in plain_number to) (all_in plain_number to') put c);
      greatest = λ m c. ⊎_elim
          (λ (e : moved.now ≡ m).
          subst (λ (j : Kept PlainWords). j.greatest ≡ policy.max_generation) e now_of.1)
          (λ (d : Contains (all_in plain_number to) m). under.of.greatest m d)
          (inserted moved.now m (all_in plain_number to) (all_in plain_number to') put c);
    }

    -- orphans keep their order
    numbers_of : numbers plain_number (moved.now ∷ []) ≡ n ∷ []
    numbers_of = ap (λ k. k ∷ []) now_numbered

    order_by : (os : List (Kept S)) → pool.orphans ≡ os
        → numbers plain_number to'.orphans ++ numbers number new.orphans
        ≡ numbers plain_number to.orphans ++ numbers number pool.orphans
    order_by [] e =
        ap (λ ks. numbers plain_number ks ++ numbers number new.orphans) (moved.fresh e).1
        ∙ ap (λ (p : Pooled S). numbers plain_number to.orphans ++ numbers number p.orphans)
        moved.left
        ∙ ap (λ ks. numbers plain_number to.orphans ++ numbers number (without_number number n ks)) e
        ∙ sym (ap (λ ks. numbers plain_number to.orphans ++ numbers number ks) e)
    order_by (x ∷ xs) e =
        let some : pool.orphans ≢ [] = λ none. (let bad : x ∷ xs ≡ [] = sym e ∙ none in cc) in
        let o = moved.orphan some in
        let same : x ≡ moved.one =
        same_Some x moved.one (sym (ap (λ os. slice_get (os ++ pool.fresh) 0) e) ∙ moved.first) in
        let is : number x.slots ≡ n = ap (λ (k : Kept S). number k.slots) same ∙ moved.numbered in
        let once : HasNoRepeats (numbers number (x ∷ (xs ++ pool.fresh))) =
        subst (λ os. HasNoRepeats (numbers number (os ++ pool.fresh))) e moved.right.once in
        let lacks : Lacks n (numbers number xs) =
        lacks_front n (numbers number xs) (numbers number pool.fresh)
        (subst (Lacks n) (map-append (λ (k : Kept S). number k.slots) xs pool.fresh)
        (subst (λ k. Lacks k (numbers number (xs ++ pool.fresh))) is once.0)) in
        let left : new.orphans ≡ xs =
        ap (λ (p : Pooled S). p.orphans) moved.left ∙ ap (without_number number n) e
        ∙ ap (λ b. cond (not b) (x ∷ without_number number n xs) (without_number number n xs))
        (eq-eqb (number x.slots) n is)
        ∙ without_lacks number xs n lacks in
        ap (λ ks. numbers plain_number ks ++ numbers number new.orphans) o.0
        ∙ ap (λ ks. ks ++ numbers number new.orphans)
        (map-append (λ (m : Kept PlainWords). plain_number m.slots) to.orphans (moved.now ∷ [])
        ∙ ap (λ ns. numbers plain_number to.orphans ++ ns) numbers_of)
        ∙ append_assoc (numbers plain_number to.orphans) (n ∷ []) (numbers number new.orphans)
        ∙ ap (λ ks. numbers plain_number to.orphans ++ n ∷ numbers number ks) left
        ∙ ap (λ k. numbers plain_number to.orphans ++ k ∷ numbers number xs) (sym is)
        ∙ sym (ap (λ ks. numbers plain_number to.orphans ++ numbers number ks) e)

    pub one_over : AreUnderway new words' to'
    one_over = record {
      from = λ k c. under.from k (stood k c).0;
      waiting = λ k c. (let s = stood k c in
          subst (λ ws. HasWords ws (number k.slots)) (sym taken)
          (still_waits words (number k.slots) n s.1 (under.waiting k s.0)));
      apart = λ k c there. (let s = stood k c in ⊎_elim
          (λ (e : n ≡ number k.slots). s.1 (sym e))
          (λ (old : IsPooled plain_number to (number k.slots)). under.apart k s.0 old)
          (over_before (number k.slots) there));
      there = λ k c. ⊎_elim
          (λ (l : Contains (all_in number pool) k). elim (cases_eq (number k.slots) n) [
            | inl e ↦ inr (pooled plain_number to' moved.now (number k.slots)
                (in_inserted moved.now (all_in plain_number to) (all_in plain_number to') put)
                (now_numbered ∙ sym e))
            | inr ne ↦ inl (stands k l ne)
          ])
          (λ (r : IsPooled plain_number to (number k.slots)). inr (still (number k.slots) r))
          (under.there k c);
      over = λ m c. ⊎_elim
          (λ (e : moved.now ≡ m). (
            moved.one,
            under.from moved.one one_there,
            subst (λ (j : Kept PlainWords). IsPlainOf number records shows steps moved.one j) e moved.plain,
          ))
          (λ (d : Contains (all_in plain_number to) m). under.over m d)
          (inserted moved.now m (all_in plain_number to) (all_in plain_number to') put c);
      order = order_by pool.orphans refl ∙ under.order;
      of = of_now;
      right = right;
    }

    -- and fewer are left
    pub one_fewer : length (all_in number new) < length (all_in number pool)
    one_fewer =
        subst (λ p. length (all_in number p) < length (all_in number pool)) (sym moved.left)
        (one_less number pool n moved.one begun_at.0 begun_at.1 moved.numbered)

-- A Refill by the joined seats of worker and pool.
use Rattle.std.proofs.Common.{◌≡◌, ◌≢◌, ◌⊎◌, ℕ, ◌==◌, ◌&&◌, ◌||◌, ◌<◌, ◌≤◌, inl, inr, Bool, true}
use Rattle.std.proofs.Common.{false, not, cond, is_none}
use Rattle.std.proofs.Common.{if◌then◌else◌, List, [], ◌∷◌, filter, length, Option, Some, None}
use Rattle.std.proofs.Common.{refl, sym, ap, subst, ◌∙◌, arith}
use Rattle.std.specs.List.{find, list_any, range_with_len}
use Rattle.std.specs.Option.{option_or}
use Rattle.std.proofs.lemmas.Bool.{cases_Bool, cases_eq, eq-eqb, ne_eqb, true≢false, and_parts}
use Rattle.std.proofs.lemmas.Option.{none-some, same_Some, slice_get_within}
use Rattle.hg_place.specs.Places.{segment_of, segment_of_page}
use Rattle.hg_machine.specs.declared.Event.TheVariants as event
use Rattle.hg_machine.specs.declared.Answer.TheVariants as answer
use Rattle.hg_machine.specs.First.{first_of}
use Rattle.hg_machine.specs.Life.{contents_of}
use Rattle.hg_machine.specs.State.{State, Holder, fresh, orphan, held, record_at, class_at}
use Rattle.hg_machine.specs.State.{holder_at}
use Rattle.hg_machine.specs.Holders.{holds, is_held_by, is_fresh, is_orphan, is_number, is_in_arena}
use Rattle.hg_machine.specs.Holders.{next_of}
use Rattle.hg_machine.specs.Policy.{Policy, arena_of}
use Rattle.hg_machine.specs.Changes.{adopted}
use Rattle.hg_machine.specs.Refusal.{refusal}
use Rattle.hg_machine.specs.Soundness.{IsSound}
use Rattle.hg_machine.proofs.Answered.{of_some}
use Rattle.hg_machine.proofs.Listed.{bit_true}
use Rattle.hg_machine.proofs.Serves.{served_step}
use Rattle.hg_agreement.specs.Views.{View}
use Rattle.hg_agreement.specs.Agreement.{Agrees, standing_of}
use Rattle.hg_agreement.proofs.Firsts.{some_counted}
use Rattle.hg_frame.specs.Pool.{is_pooled}
use Rattle.hg_roles.specs.Roles.{Pooled, Role, of_worker, of_remote, of_pool, of_segment}
use Rattle.hg_roles.specs.Roles.{PoolAgrees, name_of}
use Rattle.hg_roles.specs.Pooling.{next_in, taken_up, without, RefillsDecide, EmptyRefillsDecide}
use Rattle.hg_roles.proofs.RoleFrames.{Quiet}
use Rattle.hg_roles.proofs.Both.{Leaves, both_decide}
use Rattle.hg_roles.proofs.AbandonLemmas.{changed_holder, other_holder, chosen, unchosen}

find_same : (f h : ℕ → Bool) (xs : List ℕ) → ((n : ℕ) → f n ≡ h n) → find f xs ≡ find h xs
find_same f h [] same = refl
find_same f h (x ∷ xs) same =
    ap (λ b. cond b (Some x) (find f xs)) (same x)
    ∙ ap (λ o. cond (h x) (Some x) o) (find_same f h xs same)

-- the pool knows which segment comes next
next_known : (m : State) (policy : Policy) (p : Pooled) (arena : ℕ) → IsSound m → m.policy ≡ policy
    → PoolAgrees m p → next_of m arena ≡ next_in policy arena p
next_known m policy p arena sound same pooled =
    let by : (n : ℕ) → is_in_arena m arena n ≡ is_number arena (arena_of policy n) =
    λ n. ap (λ q. is_number arena (arena_of q n)) same in
    ap
    (λ o.
    option_or o
    (find (λ n. is_in_arena m arena n && is_fresh (holder_at m n))
    (range_with_len 0 (length m.holders))))
    (find_same (is_in_arena m arena) (λ n. is_number arena (arena_of policy n)) m.orphans by
    ∙ ap (find (λ n. is_number arena (arena_of policy n))) pooled.orphans)
    ∙ ap (option_or (find (λ n. is_number arena (arena_of policy n)) p.orphans))
    (find_same (λ n. is_in_arena m arena n && is_fresh (holder_at m n))
    (λ n. is_number arena (arena_of policy n) && p.fresh n) (range_with_len 0 (length m.holders))
    (λ n.
    ap (λ b. b && is_fresh (holder_at m n)) (by n)
    ∙ ap (λ b. is_number arena (arena_of policy n) && b) (pooled.fresh n))
    ∙ ap (λ k. find (λ n. is_number arena (arena_of policy n) && p.fresh n) (range_with_len 0 k))
    (sound.whole.holders ∙ ap (λ q. length q.segments) same))

or_true : (b : Bool) → (b || true) ≡ true
or_true true = refl
or_true false = refl

-- what is found passes, and is in the list
found_in : (f : ℕ → Bool) (xs : List ℕ) (n : ℕ) → find f xs ≡ Some n
    → (f n ≡ true) × (list_any (λ k. k == n) xs ≡ true)
found_in f [] n e = absurd (none-some n e)
found_in f (x ∷ xs) n e =
    elim (cases_Bool (f x)) as (λ _. (f n ≡ true) × (list_any (λ k. k == n) (x ∷ xs) ≡ true)) [
      | inl t ↦
          let same : x ≡ n = same_Some _ _ (sym (ap (λ b. cond b (Some x) (find f xs)) t) ∙ e) in
          (ap f (sym same) ∙ t, ap (λ b. b || list_any (λ k. k == n) xs) (eq-eqb x n same))
      | inr miss ↦
          let rest = found_in f xs n (sym (ap (λ b. cond b (Some x) (find f xs)) miss) ∙ e) in
          (rest.0, ap (λ b. (x == n) || b) rest.1 ∙ or_true (x == n))
    ]

either : (o q : Option ℕ) (n : ℕ) → option_or o q ≡ Some n → (o ≡ Some n) ⊎ (q ≡ Some n)
either None q n e = inr e
either (Some k) q n e = inl e

orphan_pooled : (h : Holder) → is_orphan h ≡ true → is_pooled h ≡ true
orphan_pooled fresh e = refl
orphan_pooled orphan e = refl
orphan_pooled (held v) e = absurd (true≢false (sym e))

fresh_pooled : (h : Holder) → is_fresh h ≡ true → is_pooled h ≡ true
fresh_pooled fresh e = refl
fresh_pooled orphan e = refl
fresh_pooled (held v) e = absurd (true≢false (sym e))

numbered : (arena : ℕ) (o : Option ℕ) → is_number arena o ≡ true → (n : ℕ) × (o ≡ Some n)
numbered arena None e = absurd (true≢false (sym e))
numbered arena (Some n) e = (n, refl)

module _ (m : State) (sound : IsSound m) (arena g : ℕ) (next : next_of m arena ≡ Some g) where
  -- what comes next is a segment of the policy, which nobody holds
  taken : (is_in_arena m arena g ≡ true) × (is_pooled (holder_at m g) ≡ true)
  taken =
      elim (either (find (is_in_arena m arena) m.orphans) _ g next) as
      (λ _. (is_in_arena m arena g ≡ true) × (is_pooled (holder_at m g) ≡ true)) [
        | inl old ↦
            let it = found_in (is_in_arena m arena) m.orphans g old in
            let counted = some_counted (λ k. k == g) m.orphans it.1 in
            let is = bit_true _ (subst (λ k. 1 ≤ k) (sound.orphans g) counted) in
            (it.0, orphan_pooled (holder_at m g) is)
        | inr new ↦
            let it =
            and_parts (is_in_arena m arena g) _
            (found_in (λ n. is_in_arena m arena n && is_fresh (holder_at m n)) _ g new).0 in
            (it.0, fresh_pooled (holder_at m g) it.1)
      ]

  low : g < length m.holders
  low =
      let it = numbered arena (arena_of m.policy g) taken.0 in
      subst (λ k. g < k) (sym sound.whole.holders) (slice_get_within m.policy.segments g it.0 it.1)

  module _ (before : View) (p : Pooled) (agreed : Agrees m before None)
      (pooled : PoolAgrees m p) where
    abbrev w : ℕ
    w = before.worker

    abbrev after : State
    after = adopted m w g

    now_holds : (s : ℕ) → holds after w s ≡ (taken_up before p g).holds s
    now_holds s = elim (cases_eq s g) as (λ _. holds after w s ≡ (taken_up before p g).holds s) [
      | inl e ↦
          ap (is_held_by w) (changed_holder m g s (held w) low e) ∙ eq-eqb w w refl
          ∙ sym (ap (λ b. b || before.holds s) (eq-eqb s g e))
      | inr ne ↦
          ap (is_held_by w) (other_holder m g s (held w) ne) ∙ agreed.holding s
          ∙ sym (ap (λ b. b || before.holds s) (ne_eqb s g ne))
    ]

    now_fresh : (s : ℕ) → is_fresh (holder_at after s) ≡ (without p g).fresh s
    now_fresh s =
        elim (cases_eq s g) as (λ _. is_fresh (holder_at after s) ≡ (without p g).fresh s) [
          | inl e ↦
              ap is_fresh (changed_holder m g s (held w) low e)
              ∙ sym (ap (λ b. not b && p.fresh s) (eq-eqb s g e))
          | inr ne ↦
              ap is_fresh (other_holder m g s (held w) ne) ∙ pooled.fresh s
              ∙ sym (ap (λ b. not b && p.fresh s) (ne_eqb s g ne))
        ]

    -- what the worker has of a segment: of this one what the pool had
    has : {A : Type 0} (s : ℕ) (real own theirs : A) → (taken_up before p g).holds s ≡ true
        → (before.holds s ≡ true → real ≡ own) → (is_pooled (holder_at m s) ≡ true → real ≡ theirs)
        → real ≡ (if s == g then theirs else own)
    has s real own theirs here was_own was_theirs =
        elim (cases_eq s g) as (λ _. real ≡ (if s == g then theirs else own)) [
          | inl e ↦
              was_theirs (ap (λ n. is_pooled (holder_at m n)) e ∙ taken.1)
              ∙ sym (chosen s g theirs own e)
          | inr ne ↦
              was_own (sym (ap (λ b. b || before.holds s) (ne_eqb s g ne)) ∙ here)
              ∙ sym (unchosen s g theirs own ne)
        ]

    -- nobody holds it after the step, so it is another one
    left_pooled : (s : ℕ) → is_pooled (holder_at after s) ≡ true → is_pooled (holder_at m s) ≡ true
    left_pooled s free = elim (cases_eq s g) as (λ _. is_pooled (holder_at m s) ≡ true) [
      | inl e ↦ absurd (true≢false (sym free ∙ ap is_pooled (changed_holder m g s (held w) low e)))
      | inr ne ↦ ap is_pooled (sym (other_holder m g s (held w) ne)) ∙ free
    ]

    refill_leaves : Leaves m before (taken_up before p g) (of_pool (without p g))
        (event.Refill arena) (answer.Refilled g)
    refill_leaves = record {
      step =
          served_step m w (event.Refill arena) (answer.Refilled g) _
          (ap (λ o. first_of ((is_none o, answer.NoSegment) ∷ [])) next) (g, refl, next) refl;
      agrees = λ later. record {
        sound = later;
        policy = agreed.policy;
        holding = now_holds;
        classes = λ page here.
            has (segment_of_page page) (class_at m page) (before.class page) (p.class page) here
            (agreed.classes page) (pooled.classes page);
        standings = λ place here.
            has (segment_of place) (standing_of (record_at m place)) (before.standing place)
            (p.standing place) here (agreed.standings place) (pooled.standings place);
        blocks = λ place here.
            has (segment_of place) (contents_of (record_at m place).life) (before.block place)
            (p.block place) here (agreed.blocks place) (pooled.blocks place);
        hand = agreed.hand;
        word = tt;
      };
      leaves = λ later. record {
        orphans = ap (filter (λ other. not (other == g))) pooled.orphans;
        fresh = now_fresh;
        classes = λ page free. pooled.classes page (left_pooled _ free);
        standings = λ place free. pooled.standings place (left_pooled _ free);
        blocks = λ place free. pooled.blocks place (left_pooled _ free);
      };
    }

empty_leaves : (m : State) (before : View) (p : Pooled) (arena : ℕ) → next_of m arena ≡ None
    → Agrees m before None → PoolAgrees m p
    → Leaves m before before (of_pool p) (event.Refill arena) answer.NoSegment
empty_leaves m before p arena none agreed pooled = record {
  step =
      of_some (refusal m before.worker (event.Refill arena)) _
      (λ refused. (answer.NoSegment ≡ refused) × (m ≡ m)) answer.NoSegment
      (ap (λ o. first_of ((is_none o, answer.NoSegment) ∷ [])) none) (refl, refl);
  agrees = λ later. agreed;
  leaves = λ later. pooled;
}

refill_quiet : (m : State) (w arena : ℕ) (policy : Policy) (p : Pooled) (role : Role)
    → name_of policy role ≢ name_of policy (of_pool p) → Quiet m w (event.Refill arena) role
refill_quiet m w arena policy p (of_worker view log) differ = tt
refill_quiet m w arena policy p (of_remote h others) differ = refl
refill_quiet m w arena policy p (of_pool other) differ = absurd (differ refl)
refill_quiet m w arena policy p (of_segment h) differ = tt

pub refills_decide : RefillsDecide
refills_decide policy words parts log before p arena g seat below next =
    both_decide policy words parts log before (taken_up before p g) (event.Refill arena)
    (answer.Refilled g)
    (of_pool p) (of_pool (without p g)) seat below refl refl
    (λ e. absurd (omega arith)) refl refl refl
    (λ q. refl)
    (λ m shows agreed pooled.
    refill_leaves m shows.sound arena g
    (next_known m policy p arena shows.sound shows.same pooled ∙ next) before p agreed pooled)
    (λ m shows agreed role differ. refill_quiet m before.worker arena policy p role differ)

pub empty_refills_decide : EmptyRefillsDecide
empty_refills_decide policy words parts log before p arena seat below none =
    both_decide policy words parts log before before (event.Refill arena) answer.NoSegment
    (of_pool p) (of_pool p) seat below refl refl
    (λ e. absurd (omega arith)) refl refl refl
    (λ q. refl)
    (λ m shows agreed pooled.
    empty_leaves m before p arena
    (next_known m policy p arena shows.sound shows.same pooled ∙ none) agreed pooled)
    (λ m shows agreed role differ. refill_quiet m before.worker arena policy p role differ)

-- What the pool's part has and what a worker has, as a segment goes to the pool.
use Rattle.std.specs.Prelude.{find, option_map, is_some}
use Rattle.std.specs.Option.{option_or}
use Rattle.std.proofs.Common.{◌≡◌, ◌≢◌, ℕ, ◌%◌, ◌==◌, ◌&&◌, Bool, true, false, cond, not, List, [], ◌∷◌, ◌++◌}
use Rattle.std.proofs.Common.{map, Option, Some, None, refl, sym, ap, ◌∙◌, inl, inr, if◌then◌else◌}
use Rattle.std.proofs.lemmas.Bool.{cases_eq, eq-eqb, ne_eqb, true≢false}
use Rattle.std.proofs.lemmas.List.{map-append}
use Rattle.std.proofs.lemmas.List.Folds.{find-append}
use Rattle.hg_place.specs.declared.Handle.{Handle}
use Rattle.hg_place.specs.Places.{segment_of, segment_of_page}
use Rattle.hg_machine.specs.Policy.{Policy}
use Rattle.hg_segment.specs.Kept.{Kept}
use Rattle.hg_pool.specs.Pooled.{Pooled, segment_of as pooled_at}
use Rattle.hg_agreement.specs.Changed.{IsLike}
use Rattle.hg_agreement.specs.Holdings.{Holding, block_told, class_told, has, holding_of, standing_told}
use Rattle.hg_heap.specs.Held.{is_held, segment_in}
use Rattle.hg_heap.specs.Ties.{holding}
use Rattle.hg_heap.proofs.ViewRoom.{holding_in, view_holds}
use Rattle.hg_roles.specs.Pooling.{let_go, put_back}
use Rattle.hg_run_table.specs.declared.segment.RunSegment.{RunSegment}
use Rattle.hg_run_worker.specs.AtWork.{number_in, records_in, worker_view}
use Rattle.hg_run_worker.specs.Pools.{holdings_in, pool_part, pooled_in, with_orphan}
use Rattle.hg_run_worker.proofs.DecidedLike.{IsLeftLike}

-- a worker holds a segment no more
module _ (policy : Policy) (number : ℕ) (hand : Option Handle) (segments left : List (Kept RunSegment))
    (segment : ℕ) (gone : is_held number_in left segment ≡ false)
    (others : (other : ℕ) → other ≢ segment
    → segment_in number_in left other ≡ segment_in number_in segments other) where
  abbrev has_now : List Holding
  has_now = map (holding number_in records_in) left

  abbrev had : List Holding
  had = map (holding number_in records_in) segments

  same : (other : ℕ) → other ≢ segment → holding_of has_now other ≡ holding_of had other
  same other ne =
      holding_in number_in records_in left other
      ∙ ap (option_map (holding number_in records_in)) (others other ne)
      ∙ sym (holding_in number_in records_in segments other)

  not_it : (other : ℕ) → (not (other == segment) && has had other) ≡ true → other ≢ segment
  not_it other is e =
      true≢false
      (sym is ∙ ap (λ (b : Bool). not b && has had other) (eq-eqb other segment e))

  pub let_go_like :
      IsLike (let_go (worker_view policy number hand segments) segment)
      (worker_view policy number hand left)
  let_go_like = record {
    policy = refl;
    worker = refl;
    holding = λ other.
        elim (cases_eq other segment) [
          | inl e ↦
              view_holds number_in records_in left other ∙ ap (is_held number_in left) e ∙ gone
              ∙ sym (ap (λ (b : Bool). not b && has had other) (eq-eqb other segment e))
          | inr ne ↦
              ap is_some (same other ne)
              ∙ sym (ap (λ (b : Bool). not b && has had other) (ne_eqb other segment ne))
        ];
    classes = λ page is.
        ap (λ (o : Option Holding). class_told o (page % 16))
        (same (segment_of_page page) (not_it (segment_of_page page) is));
    standings = λ place is.
        ap (λ (o : Option Holding). standing_told o (place % 8192))
        (same (segment_of place) (not_it (segment_of place) is));
    blocks = λ place is.
        ap (λ (o : Option Holding). block_told o (place % 8192))
        (same (segment_of place) (not_it (segment_of place) is));
    hand = refl;
  }

-- and the pool has it, as its last orphan
module _ (policy : Policy) (number : ℕ) (hand : Option Handle) (segments : List (Kept RunSegment))
    (pool : Pooled RunSegment) (segment : ℕ) (one : Kept RunSegment)
    (there : segment_in number_in segments segment ≡ Some one) (numbered : number_in one.slots ≡ segment)
    (nowhere : pooled_at number_in pool segment ≡ None) where
  -- among all that it has then, the segment of a number is the one that came, or one that was there
  found : (other : ℕ)
      → segment_in number_in (pooled_in (with_orphan (Some one) pool)) other
      ≡ (if other == segment then Some one else pooled_at number_in pool other)
  found other =
      find-append (λ k. number_in k.slots == other) (pool.orphans ++ one ∷ []) pool.fresh
      ∙ ap (λ (o : Option (Kept RunSegment)). option_or o (find (λ k. number_in k.slots == other) pool.fresh))
      (find-append (λ k. number_in k.slots == other) pool.orphans (one ∷ []))
      ∙ (elim (cases_eq other segment) [
        | inl e ↦
            ap (λ (o : Option (Kept RunSegment)). option_or (option_or o (cond (number_in one.slots == other) (Some one) None)) (find (λ k. number_in k.slots == other) pool.fresh))
            (none_first (find (λ k. number_in k.slots == other) pool.orphans) (find (λ k. number_in k.slots == other) pool.fresh)
            (sym (find-append (λ k. number_in k.slots == other) pool.orphans pool.fresh)
            ∙ ap (pooled_at number_in pool) e ∙ nowhere))
            ∙ ap (λ (b : Bool). option_or (cond b (Some one) None) (find (λ k. number_in k.slots == other) pool.fresh))
            (eq-eqb (number_in one.slots) other (numbered ∙ sym e))
            ∙ sym (ap (λ (b : Bool). cond b (Some one) (pooled_at number_in pool other)) (eq-eqb other segment e))
        | inr ne ↦
            ap (λ (b : Bool). option_or (option_or (find (λ k. number_in k.slots == other) pool.orphans) (cond b (Some one) None)) (find (λ k. number_in k.slots == other) pool.fresh))
            (ne_eqb (number_in one.slots) other (λ e. ne (sym e ∙ numbered)))
            ∙ ap (λ (o : Option (Kept RunSegment)). option_or o (find (λ k. number_in k.slots == other) pool.fresh))
            (or_none (find (λ k. number_in k.slots == other) pool.orphans))
            ∙ sym (find-append (λ k. number_in k.slots == other) pool.orphans pool.fresh)
            ∙ sym (ap (λ (b : Bool). cond b (Some one) (pooled_at number_in pool other)) (ne_eqb other segment ne))
      ])
    where
      none_first : (o q : Option (Kept RunSegment)) → option_or o q ≡ None → o ≡ None
      none_first None q e = refl
      none_first (Some k) q e = absurd (cc)

      or_none : (o : Option (Kept RunSegment)) → option_or o None ≡ o
      or_none None = refl
      or_none (Some k) = refl

  told : {X : Type 0} (f : Option Holding → X) (other : ℕ)
      → (if other == segment
      then f (holding_of (map (holding number_in records_in) segments) other)
      else f (holding_of (holdings_in pool) other))
      ≡ f (holding_of (holdings_in (with_orphan (Some one) pool)) other)
  told f other =
      (elim (cases_eq other segment) [
        | inl e ↦
            ap
            (λ (b : Bool).
            cond b (f (holding_of (map (holding number_in records_in) segments) other))
            (f (holding_of (holdings_in pool) other)))
            (eq-eqb other segment e)
            ∙ ap f
            (holding_in number_in records_in segments other
            ∙ ap (option_map (holding number_in records_in)) (ap (segment_in number_in segments) e ∙ there)
            ∙ sym
            (ap (option_map (holding number_in records_in))
            (found other
            ∙ ap (λ (b : Bool). cond b (Some one) (pooled_at number_in pool other)) (eq-eqb other segment e))))
        | inr ne ↦
            ap
            (λ (b : Bool).
            cond b (f (holding_of (map (holding number_in records_in) segments) other))
            (f (holding_of (holdings_in pool) other)))
            (ne_eqb other segment ne)
            ∙ ap f
            (holding_in number_in records_in (pooled_in pool) other
            ∙ sym
            (ap (option_map (holding number_in records_in))
            (found other
            ∙ ap (λ (b : Bool). cond b (Some one) (pooled_at number_in pool other)) (ne_eqb other segment ne))))
      ])
      ∙ ap f (sym (holding_in number_in records_in (pooled_in (with_orphan (Some one) pool)) other))

  pub put_back_like :
      IsLeftLike (put_back (pool_part policy pool) (worker_view policy number hand segments) segment)
      (pool_part policy (with_orphan (Some one) pool))
  put_back_like m sound a = record {
    orphans =
        a.orphans
        ∙ sym
        (map-append (λ k. number_in k.slots) pool.orphans (one ∷ [])
        ∙ ap (λ n. map (λ k. number_in k.slots) pool.orphans ++ n ∷ []) numbered);
    fresh = a.fresh;
    classes = λ page free.
        a.classes page free ∙ told (λ o. class_told o (page % 16)) (segment_of_page page);
    standings = λ place free.
        a.standings place free ∙ told (λ o. standing_told o (place % 8192)) (segment_of place);
    blocks = λ place free.
        a.blocks place free ∙ told (λ o. block_told o (place % 8192)) (segment_of place);
  }

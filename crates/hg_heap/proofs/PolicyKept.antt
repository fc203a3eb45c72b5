-- A step leaves segments as a policy has them.
use Rattle.std.proofs.Common.{◌≡◌, ◌<◌, ℕ, inl, inr, List, length, get_or, Some, sym, ap, subst}
use Rattle.std.proofs.Common.{◌∙◌, arith, Contains}
use Rattle.std.proofs.lemmas.List.{length-map, get_or-map}
use Rattle.std.proofs.lemmas.Option.{slice_get-get_or}
use Rattle.hg_machine.specs.Policy.{arena_of}
use Rattle.hg_segment.specs.Kept.{Kept}
use Rattle.hg_heap.specs.Held.{Kind, kind_of, kinds}
use Rattle.hg_heap.specs.HeapLaws.{StepsKeepPolicy, KindsKeepPolicy}
use Rattle.hg_heap.proofs.Founds.{contained_set, Contains-get}

module _ {S : Type 0} (number : S → ℕ) (shows : S → ℕ → ℕ → Type 0)
    (steps : S → ℕ → ℕ → ℕ → S → Type 0) where
  pub steps_keep_policy : StepsKeepPolicy number shows steps
  steps_keep_policy policy place word left old new s of = record {
    arena = λ k c. elim (contained_set old s.found s.after k
        (subst (λ (xs : List (Kept S)). Contains xs k) s.now c)) [
          | inl e ↦
              let before = of.arena s.before (Contains-get old s.found s.before s.at) in
              ap (λ (j : Kept S). arena_of policy (number j.slots)) e
              ∙ ap (λ k. arena_of policy k.number) s.kind ∙ before
              ∙ ap (λ k. Some k.arena) (sym s.kind) ∙ ap (λ (j : Kept S). Some j.arena) (sym e)
          | inr there ↦ of.arena k there
        ];
    greatest = λ k c. elim (contained_set old s.found s.after k
        (subst (λ (xs : List (Kept S)). Contains xs k) s.now c)) [
          | inl e ↦
              ap (λ (j : Kept S). j.greatest) e ∙ ap (λ k. k.greatest) s.kind
              ∙ of.greatest s.before (Contains-get old s.found s.before s.at)
          | inr there ↦ of.greatest k there
        ];
  }

module _ {S : Type 0} (number : S → ℕ) where
  -- a segment is of the kind of one that was there
  kind_there : (old new : List (Kept S)) → kinds number new ≡ kinds number old → (k : Kept S)
      → Contains new k → (j : Kept S) × Contains old j × (kind_of number k ≡ kind_of number j)
  kind_there old new same k c =
      let f = kind_of number in
      let inside : c.0 < length old =
      omega (arith, c.1, length-map new f, length-map old f, ap length same) in
      let j = get_or old c.0 k in (
        j,
        Contains-get old c.0 j (slice_get-get_or old c.0 k inside),
        ap f (sym c.2) ∙ sym (get_or-map f new c.0 k (f k) c.1)
            ∙ ap (λ (ks : List Kind). get_or ks c.0 (f k)) same
            ∙ get_or-map f old c.0 k (f k) inside,
      )

  pub kinds_keep_policy : KindsKeepPolicy number
  kinds_keep_policy policy old new same of = record {
    arena = λ k c. let t = kind_there old new same k c in
        ap (λ (d : Kind). arena_of policy d.number) t.2 ∙ of.arena t.0 t.1
        ∙ ap (λ (d : Kind). Some d.arena) (sym t.2);
    greatest = λ k c. let t = kind_there old new same k c in
        ap (λ (d : Kind). d.greatest) t.2 ∙ of.greatest t.0 t.1;
  }

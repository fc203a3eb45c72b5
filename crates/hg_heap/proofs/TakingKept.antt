-- What the taking in of places leaves.
use Rattle.std.proofs.Common.{◌≡◌, ◌≢◌, ◌⊎◌, ℕ, ◌≤◌, List, [], ◌∷◌, length, map}
use Rattle.std.proofs.Common.{refl, sym, ap, subst, ◌∙◌, arith, ⊎_elim, inl, inr}
use Rattle.hg_place.specs.declared.standing.Standing.{Standing}
use Rattle.hg_place.specs.Places.{page_of, index_of}
use Rattle.hg_segment.specs.Kept.{Kept}
use Rattle.hg_heap.specs.Held.{Held, kind_of, kinds, segment_in}
use Rattle.hg_heap.specs.Taking.{IsAnother, IsTaken, IsPassed, Takes}
use Rattle.hg_heap.proofs.Founds.{map_same}
use Rattle.hg_heap.proofs.PageChanged.{kind_same, other_found}

module _ {S : Type 0} (number : S → ℕ) where
  pub record Keeps (segment : ℕ) (old new : List (Kept S)) : Type 0 where
    pub kinds : kinds number new ≡ kinds number old
    pub classes : map (λ k. k.classes) new ≡ map (λ k. k.classes) old
    pub others : (other : ℕ) → other ≢ segment
        → segment_in number new other ≡ segment_in number old other

  keeps_by : (segment : ℕ) (old new : List (Kept S)) (a : IsAnother number segment old new)
      → a.after.arena ≡ a.before.arena → a.after.greatest ≡ a.before.greatest
      → a.after.classes ≡ a.before.classes → Keeps segment old new
  keeps_by segment old new a arena greatest classes =
      let same : number a.after.slots ≡ number a.before.slots = a.number_kept ∙ sym a.number_is in
      record {
        kinds = ap (kinds number) a.now
            ∙ map_same (kind_of number) old a.found a.before a.after a.at
            (kind_same number a.before a.after same arena greatest);
        classes = ap (map (λ (k : Kept S). k.classes)) a.now
            ∙ map_same (λ (k : Kept S). k.classes) old a.found a.before a.after a.at classes;
        others = λ other ne. ap (λ (ks : List (Kept S)). segment_in number ks other) a.now
            ∙ other_found number old a.found other a.before a.after a.at same
            (λ e. ne (e ∙ a.number_is));
      }

module _ {S : Type 0} (number : S → ℕ) (records : S → List Standing) (shows : S → ℕ → ℕ → Type 0)
    (steps : S → ℕ → ℕ → ℕ → S → Type 0) where
  keeps_one : (segment page index : ℕ) (old new : Held S)
      → IsTaken number records shows steps segment page index old new
      ⊎ IsPassed number records shows steps segment page index old new
      → Keeps number segment old.segments new.segments
  keeps_one segment page index old new either = ⊎_elim
      (λ t. (let f = t.home.fixed in keeps_by number segment old.segments new.segments t.another
      f.arena f.greatest f.classes))
      (λ p. (let r = p.away.rest in keeps_by number segment old.segments new.segments p.another
      (ap (λ (k : Kept S). k.arena) r) (ap (λ (k : Kept S). k.greatest) r)
      (ap (λ (k : Kept S). k.classes) r))) either

  pub taking_keeps : (segment count : ℕ) (places : List ℕ) (old new : Held S)
      → Takes number records shows steps segment places old new count
      → Keeps number segment old.segments new.segments
  taking_keeps segment count [] old new t =
      subst (λ (h : Held S). Keeps number segment old.segments h.segments) (sym t.0)
      (record { kinds = refl; classes = refl; others = λ other ne. refl })
  taking_keeps segment count (place ∷ places) old new t =
      let one = keeps_one segment (page_of place) (index_of place) old t.0
      (⊎_elim (λ taken. inl taken.0) (λ passed. inr passed.0) t.3) in
      let rest = taking_keeps segment t.1 places t.0 new t.2 in
      record {
        kinds = rest.kinds ∙ one.kinds;
        classes = rest.classes ∙ one.classes;
        others = λ other ne. rest.others other ne ∙ one.others other ne;
      }

  pub counts_places : (segment count : ℕ) (places : List ℕ) (old new : Held S)
      → Takes number records shows steps segment places old new count → count ≤ length places
  counts_places segment count [] old new t = (let e = t.1 in omega (arith, e))
  counts_places segment count (place ∷ places) old new t =
      let rest = counts_places segment t.1 places t.0 new t.2 in
      ⊎_elim (λ taken. (let e = taken.1 in omega (arith, rest, e)))
      (λ passed. (let e = passed.1 in omega (arith, rest, e))) t.3

  pub none_keeps_queues : (segment count : ℕ) (places : List ℕ) (old new : Held S)
      → Takes number records shows steps segment places old new count → count ≡ 0
      → new.queues ≡ old.queues
  none_keeps_queues segment count [] old new t none = ap (λ (h : Held S). h.queues) t.0
  none_keeps_queues segment count (place ∷ places) old new t none = ⊎_elim
      (λ taken. absurd (let e = taken.1 in omega (arith, none, e)))
      (λ passed.
      none_keeps_queues segment t.1 places t.0 new t.2 (sym passed.1 ∙ none)
      ∙ passed.0.queues) t.3

-- Segments that come to a worker and leave it: what its seats know then.
use Rattle.std.proofs.Common.{◌≡◌, ◌≢◌, ℕ, ◌==◌, inl, inr, Bool, true, false, cond, List, [], ◌∷◌}
use Rattle.std.proofs.Common.{◌++◌, length, Some, None, refl, sym, ap, subst, ◌∙◌}
use Rattle.std.specs.Prelude.{Option, option_map}
use Rattle.std.proofs.lemmas.Bool.{cases_Bool, cases_eq}
use Rattle.std.proofs.lemmas.Option.{same_Some, none-some}
use mathlib.Core.Option.{some}
use lib.ListN.{get_elem?}
use Rattle.atomic_table.proofs.Lists.{at_last}
use Rattle.hg_place.specs.declared.Handle.{Handle}
use Rattle.hg_place.specs.declared.standing.Standing.{Standing}
use Rattle.hg_segment.specs.Kept.{Kept}
use Rattle.hg_heap.specs.Held.{is_held, segment_in}
use Rattle.hg_heap.proofs.Options.{none_is}
use Rattle.hg_table.specs.declared.view.Part.{Part}
use Rattle.hg_table.specs.Seats.{HaveMet}
use Rattle.hg_table.specs.Told.{IsShown}
use Rattle.hg_table.proofs.Knowing.{over_after}
use Rattle.hg_table.proofs.Told.{not_ended}
use Rattle.hg_worker.specs.Had.{Had}
use Rattle.hg_worker.specs.Hands.{SawEnd, KnowsHand}
use Rattle.hg_worker.specs.Met.{ComesTo}
use Rattle.hg_worker.specs.Seen.{word_of, EndsNothing}
use Rattle.hg_worker.proofs.Hands.{SawMore, the_same, some_left, knows_still, knows_more}

-- who meets one that has seen the end of a life has seen it too
saw_met : (handle : Handle) (word : ℕ) (old new theirs : Part) → SawEnd handle theirs
    → IsShown (word_of handle.place) word theirs
    → new.seen ≡ old.seen ++ (word_of handle.place, word) ∷ [] → SawEnd handle new
saw_met handle word old new theirs saw shown seen = record {
  past = λ later after.
      over_after handle.generation word later
      (after (length old.seen) word
      (subst (λ (s : List (ℕ × ℕ)).
      get_elem? s (length old.seen) ≡ some (word_of handle.place, word)) (sym seen)
      (at_last old.seen (word_of handle.place, word) (length old.seen) refl)))
      (saw.past word shown.seen);
}

module _ {S : Type 0} (number : S → ℕ) (records : S → List Standing) (part : S → Part) where
  -- a worker's seat has met that of a segment that comes, or is as it was
  comes : {G : Type 0} (hand : Option Handle) (one one' : Kept S) (own own' : Part)
      → ComesTo number records part hand one one' own own'
      → ((handle : Handle) (word : ℕ) → hand ≡ Some handle
      → HaveMet (word_of handle.place) word (part one.slots) own (part one'.slots) own' → G)
      → (own' ≡ own → G) → G
  comes None one one' own own' c met same =
      same (c.apart (λ handle e is. none-some handle e)).1
  comes (Some handle) one one' own own' c met same =
      elim (cases_eq handle.place.segment (number one.slots)) [
        | inl e ↦ (let m = c.met handle refl e in met handle m.0 refl m.1)
        | inr ne ↦
            same (c.apart (λ h is e. ne (ap (λ (x : Handle). x.place.segment)
            (same_Some handle h is) ∙ e))).1
      ]

  module _ (hand : Option Handle) (one one' : Kept S) (own own' : Part)
      (c : ComesTo number records part hand one one' own own') where
    pub comes_more : SawMore own own'
    comes_more =
        comes {G = SawMore own own'} hand one one' own own' c
        (λ handle word e m. record {
          more = (word_of handle.place, word) ∷ [];
          seen = m.step_other.1;
        })
        (λ e. subst (SawMore own) (sym e) (the_same own))

    pub comes_ends : own'.ended ≡ own.ended
    comes_ends =
        comes {G = own'.ended ≡ own.ended} hand one one' own own' c
        (λ handle word e m.
        m.step_other.2 ∙ not_ended (word_of handle.place) word word own.ended (λ x. x))
        (λ e. ap (λ (p : Part). p.ended) e)

    -- what it knew of the life in hand it knows still, and the segment's seat as much
    pub comes_knows : (segments : List (Kept S)) → KnowsHand number part hand own segments
        → KnowsHand number part hand own' (segments ++ one' ∷ [])
    comes_knows segments knows =
        knows_more number part one'
        (knows_still number part comes_more (some_left number part (λ k there. there)) knows)
        (λ handle e is.
        let m = c.met handle e (sym is ∙ ap (λ r. r.number) c.rest) in
        saw_met handle m.0 (part one.slots) (part one'.slots) own (knows.by_own handle e)
        m.1.shown_other m.1.step.1)

  told_first : (b : Bool) (x : Kept S) (o : Option (Kept S)) (p : Option Part) → b ≡ true
      → option_map (λ (k : Kept S). part k.slots) (cond b (Some x) o) ≡ p
      → Some (part x.slots) ≡ p
  told_first b x o p t e =
      sym (ap (λ c. option_map (λ (k : Kept S). part k.slots) (cond c (Some x) o)) t) ∙ e

  told_later : (b : Bool) (x : Kept S) (o : Option (Kept S)) (p : Option Part) → b ≡ false
      → option_map (λ (k : Kept S). part k.slots) (cond b (Some x) o) ≡ p
      → option_map (λ (k : Kept S). part k.slots) o ≡ p
  told_later b x o p t e =
      sym (ap (λ c. option_map (λ (k : Kept S). part k.slots) (cond c (Some x) o)) t) ∙ e

  -- behind more segments that of a number is the same
  told_before : (xs ys : List (Kept S)) (segment : ℕ) (a b : Part)
      → option_map (λ (k : Kept S). part k.slots) (segment_in number xs segment) ≡ Some a
      → option_map (λ (k : Kept S). part k.slots) (segment_in number (xs ++ ys) segment) ≡ Some b
      → b ≡ a
  told_before [] ys segment a b e f = absurd (none-some a e)
  told_before (x ∷ xs) ys segment a b e f = elim (cases_Bool (number x.slots == segment)) [
    | inl t ↦
        sym (same_Some (part x.slots) b (told_first (number x.slots == segment) x
        (segment_in number (xs ++ ys) segment) (Some b) t f))
        ∙ same_Some (part x.slots) a (told_first (number x.slots == segment) x
        (segment_in number xs segment) (Some a) t e)
    | inr u ↦
        told_before xs ys segment a b
        (told_later (number x.slots == segment) x (segment_in number xs segment) (Some a) u e)
        (told_later (number x.slots == segment) x (segment_in number (xs ++ ys) segment) (Some b)
        u f)
  ]

  -- a segment has come
  pub lives_come : (old new : Had S) (one : Kept S) → new.own.ended ≡ old.own.ended
      → new.heap.segments ≡ old.heap.segments ++ one ∷ [] → EndsNothing number part old new
  lives_come old new one own is = record {
    own = own;
    segments = λ segment a b e f.
        ap (λ (p : Part). p.ended)
        (told_before old.heap.segments (one ∷ []) segment a b e
        (subst (λ (xs : List (Kept S)).
        option_map (λ (k : Kept S). part k.slots) (segment_in number xs segment) ≡ Some b) is f));
  }

  -- a segment has gone
  pub lives_go : (old new : Had S) (segment : ℕ) → new.own ≡ old.own
      → is_held number new.heap.segments segment ≡ false
      → ((other : ℕ) → other ≢ segment
      → segment_in number new.heap.segments other ≡ segment_in number old.heap.segments other)
      → EndsNothing number part old new
  lives_go old new segment own gone others = record {
    own = ap (λ (p : Part). p.ended) own;
    segments = λ other a b e f. elim (cases_eq other segment) [
      | inl same ↦
          absurd (none-some b
          (sym (ap (option_map (λ (k : Kept S). part k.slots))
          (ap (segment_in number new.heap.segments) same
          ∙ none_is (segment_in number new.heap.segments segment) gone)) ∙ f))
      | inr ne ↦
          ap (λ (p : Part). p.ended)
          (same_Some b a
          (sym f ∙ ap (option_map (λ (k : Kept S). part k.slots)) (others other ne) ∙ e))
    ];
  }

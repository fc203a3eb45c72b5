-- Laws of workers.
use Rattle.std.proofs.Common.{◌≡◌, ◌⊎◌, ℕ, suc, zero, inl, inr, false, cond, List}
use Rattle.std.proofs.Common.{[], ◌∷◌, ◌++◌, map, length, Some, None, is_some, refl, sym, ap}
use Rattle.std.proofs.Common.{subst, ◌∙◌, arith, append_assoc, eq-eqb, ⊎_elim}
use Rattle.std.specs.Prelude.{Option, option_map, Contains}
use Rattle.std.specs.Option.{option_or}
use Rattle.std.proofs.lemmas.Bool.{cases_eq}
use Rattle.std.proofs.lemmas.List.{append-nil}
use Rattle.std.proofs.lemmas.List.Elements.{Contains-append_right}
use Rattle.std.proofs.lemmas.List.Folds.{find-append}
use Rattle.std.proofs.lemmas.Option.{none-some, same_Some}
use mathlib.Core.Option.{some, some-injective, some-ne-none}
use lib.ListN.{get_elem?}
use Rattle.atomic_table.proofs.Lists.{at_last, at_longer, at_snoc}
use Rattle.hg_place.specs.declared.Handle.{Handle}
use Rattle.hg_place.specs.declared.Place.{Place}
use Rattle.hg_place.specs.declared.standing.Standing.{Standing}
use Rattle.hg_segment.specs.Kept.{Kept}
use Rattle.hg_heap.specs.Held.{is_of, segment_in}
use Rattle.hg_heap.specs.Keeping.{Rest}
use Rattle.hg_table.specs.declared.view.Part.{Part}
use Rattle.hg_table.specs.KnownLaws.{HasSeen}
use Rattle.hg_table.proofs.Told.{not_ended}
use Rattle.hg_worker.specs.CallerLocked.{IsAbandoned}
use Rattle.hg_worker.specs.Had.{Had}
use Rattle.hg_worker.specs.Met.{ComesTo}
use Rattle.hg_worker.specs.Seen.{word_of, part_by, part_for, Decided}
use Rattle.hg_worker.specs.Seen.{EndsNothing}
use Rattle.hg_worker.specs.WorkerLaws.{OneWordIsLeft, FreesEndTheirs, TheirLivesAreApart}
use Rattle.hg_worker.specs.WorkerLaws.{ViewsChangeAtSteps, LooksEndNothing, SeatsGoAlong}
use Rattle.hg_worker.proofs.Records.{all_held}

-- the last of a list, or this where there is none
abbrev final : {X : Type 0} → X → List X → X
final x [] = x
final x (y ∷ ys) = final y ys

final_of : {X : Type 0} (x a : X) (xs : List X) → final x (xs ++ a ∷ []) ≡ a
final_of x a [] = refl
final_of x a (y ∷ ys) = final_of y a ys

same_end : {X : Type 0} (a b : X) (xs ys : List X) → xs ++ a ∷ [] ≡ ys ++ b ∷ [] → a ≡ b
same_end a b xs ys e = sym (final_of a a xs) ∙ ap (final a) e ∙ final_of a b ys

same_rest : {X : Type 0} (xs ys zs : List X) → xs ++ ys ≡ xs ++ zs → ys ≡ zs
same_rest [] ys zs e = e
same_rest (x ∷ xs) ys zs e = same_rest xs ys zs (cc)

-- what stands in a list and then in another
at_either : {X : Type 0} (l m : List X) (k : ℕ) (a : X) → get_elem? (l ++ m) k ≡ some a
    → (get_elem? l k ≡ some a) ⊎ ((j : ℕ) × (get_elem? m j ≡ some a))
at_either [] m k a e = inr (k, e)
at_either (x ∷ xs) m zero a e = inl e
at_either (x ∷ xs) m (suc k) a e = at_either xs m k a e

at_word : (at left : ℕ) (words : List ℕ) (j place word : ℕ)
    → get_elem? {A = ℕ × ℕ} (map (λ w. (at, w)) words ++ (at, left) ∷ []) j ≡ some (place, word)
    → place ≡ at
at_word at left [] zero place word e =
    let same : ◌≡◌ {A = ℕ × ℕ} (at, left) (place, word) = some-injective (at, left) (place, word) e
    in
    sym (ap (λ (p : ℕ × ℕ). p.0) same)
at_word at left [] (suc j) place word e = absurd (some-ne-none (place, word) (sym e))
at_word at left (w ∷ ws) zero place word e =
    let same : ◌≡◌ {A = ℕ × ℕ} (at, w) (place, word) = some-injective (at, w) (place, word) e in
    sym (ap (λ (p : ℕ × ℕ). p.0) same)
at_word at left (w ∷ ws) (suc j) place word e = at_word at left ws j place word e

module _ {S : Type 0} (number : S → ℕ) (part : S → Part) where
  pub one_word_is_left : OneWordIsLeft number part
  one_word_is_left place found left found' left' lives lives' old new d d' =
      let at = word_of place in
      let before = (part_for number part old place).seen in
      let words : List ℕ → List (ℕ × ℕ) = map (λ w. (at, w)) in
      let same : (before ++ words d.looked_at) ++ (at, left) ∷ []
      ≡ (before ++ words d'.looked_at) ++ (at, left') ∷ [] =
      append_assoc before (words d.looked_at) ((at, left) ∷ []) ∙ sym d.seen ∙ d'.seen
      ∙ sym (append_assoc before (words d'.looked_at) ((at, left') ∷ [])) in (
        ap (λ (p : ℕ × ℕ). p.1)
            (same_end (at, left) (at, left') (before ++ words d.looked_at)
            (before ++ words d'.looked_at) same),
        same_rest (part_for number part old place).ended lives lives' (sym d.ended ∙ d'.ended),
      )

  pub frees_end_theirs : FreesEndTheirs number part
  frees_end_theirs = record {
    ended = λ policy actor handle word old new f.
        let at = word_of handle.place in
        let es = (part_for number part old handle.place).ended in (
          length es,
          ap (λ (l : List (ℕ × ℕ)). get_elem? l (length es)) f.1.ended
              ∙ at_last es (at, _) (length es) refl
              ∙ ap (λ (g : ℕ). some (at, g)) (f.2.generation refl),
        );
    only = λ policy actor handle word old new f at generation has.
        let es = (part_for number part old handle.place).ended in
        ⊎_elim (λ (l : get_elem? es has.0 ≡ some (at, generation)). inl (has.0, l))
        (λ (r : ◌≡◌ {A = ℕ × ℕ} (word_of handle.place, _) (at, generation)).
        inr (
          sym (ap (λ (p : ℕ × ℕ). p.0) r),
          sym (ap (λ (p : ℕ × ℕ). p.1) r) ∙ f.2.generation refl,
        ))
        (at_snoc es (word_of handle.place, _) (at, generation) has.0
        (sym (ap (λ (l : List (ℕ × ℕ)). get_elem? l has.0) f.1.ended) ∙ has.1));
    still = λ policy actor handle word old new f at generation has. (
      has.0,
      ap (λ (l : List (ℕ × ℕ)). get_elem? l has.0) f.1.ended
          ∙ at_longer (part_for number part old handle.place).ended _ has.0 (at, generation) has.1,
    );
  }

  -- without lives a seat has ended what it had
  ended_before : (place : Place) (found left : ℕ) (old new : Had S)
      → Decided number part place found left [] old new
      → (part_for number part new place).ended ≡ (part_for number part old place).ended
  ended_before place found left old new d =
      d.ended ∙ append-nil (part_for number part old place).ended

  pub their_lives_are_apart : TheirLivesAreApart number part
  their_lives_are_apart place word generation one other one' other' m a b =
      m.apart a.0 b.0 generation
      (sym (ap (λ (l : List (ℕ × ℕ)). get_elem? l a.0) (ended_before place word word one one' m.step))
      ∙ a.1)
      (sym (ap (λ (l : List (ℕ × ℕ)). get_elem? l b.0)
      (ended_before place word word other other' m.step_other)) ∙ b.1)

  by_told : (o q : Option (Kept S)) (own own' : Part) → own' ≡ own
      → option_map (λ (k : Kept S). part k.slots) q ≡ option_map (λ (k : Kept S). part k.slots) o
      → part_by number part q own' ≡ part_by number part o own
  by_told None None own own' e f = e
  by_told None (Some k) own own' e f = absurd (cc)
  by_told (Some k) None own own' e f = absurd (cc)
  by_told (Some k) (Some j) own own' e f = same_Some (part j.slots) (part k.slots) f

  pub views_change_at_steps : ViewsChangeAtSteps number part
  views_change_at_steps = record {
    unseen = λ old new keeps place.
        by_told (segment_in number old.heap.segments place.segment)
        (segment_in number new.heap.segments place.segment) old.own new.own keeps.own
        (keeps.segments place.segment);
    elsewhere = λ place found left lives old new d at word has.
        ⊎_elim
        (λ (l : get_elem? (part_for number part old place).seen has.0 ≡ some (at, word)).
        inl (has.0, l))
        (λ r. inr (at_word (word_of place) left d.looked_at r.0 at word r.1))
        (at_either (part_for number part old place).seen
        (map (λ w. (word_of place, w)) d.looked_at ++ (word_of place, left) ∷ []) has.0 (at, word)
        (sym (ap (λ (l : List (ℕ × ℕ)). get_elem? l has.0) d.seen) ∙ has.1));
    still = λ place found left lives old new d at word has. (
      has.0,
      ap (λ (l : List (ℕ × ℕ)). get_elem? l has.0) d.seen
          ∙ at_longer (part_for number part old place).seen
          (map (λ w. (word_of place, w)) d.looked_at ++ (word_of place, left) ∷ []) has.0 (at, word)
          has.1,
    );
  }

  module _ (records : S → List Standing) where
    -- by the segment of the place, before and after
    ends_by : (place : Place) (found left : ℕ) (old new : Had S) (o q : Option (Kept S))
        → segment_in number old.heap.segments place.segment ≡ o
        → segment_in number new.heap.segments place.segment ≡ q → is_some q ≡ is_some o
        → Decided number part place found left [] old new → EndsNothing number part old new
    ends_by place found left old new None (Some j) is is' e d = absurd (cc)
    ends_by place found left old new (Some k) None is is' e d = absurd (cc)
    ends_by place found left old new None None is is' e d = record {
      own = sym (ap (λ (p : Part). p.ended) (ap (λ r. part_by number part r new.own) is'))
          ∙ ended_before place found left old new d
          ∙ ap (λ (p : Part). p.ended) (ap (λ r. part_by number part r old.own) is);
      segments = λ segment a b f g. elim (cases_eq segment place.segment) [
        | inl same ↦
            absurd (none-some a
            (sym (ap (option_map (λ (k : Kept S). part k.slots))
            (ap (segment_in number old.heap.segments) same ∙ is)) ∙ f))
        | inr other ↦
            ap (λ (p : Part). p.ended) (same_Some b a (sym g ∙ d.others segment other ∙ f))
      ];
    }
    ends_by place found left old new (Some k) (Some j) is is' e d = record {
      own = ap (λ (p : Part). p.ended) (d.own (ap is_some is));
      segments = λ segment a b f g. elim (cases_eq segment place.segment) [
        | inl same ↦
            let then : a ≡ part k.slots =
            same_Some a (part k.slots)
            (sym f ∙ ap (option_map (λ (x : Kept S). part x.slots))
            (ap (segment_in number old.heap.segments) same ∙ is)) in
            let now : b ≡ part j.slots =
            same_Some b (part j.slots)
            (sym g ∙ ap (option_map (λ (x : Kept S). part x.slots))
            (ap (segment_in number new.heap.segments) same ∙ is')) in
            ap (λ (p : Part). p.ended) now
            ∙ sym (ap (λ (p : Part). p.ended) (ap (λ r. part_by number part r new.own) is'))
            ∙ ended_before place found left old new d
            ∙ ap (λ (p : Part). p.ended) (ap (λ r. part_by number part r old.own) is)
            ∙ sym (ap (λ (p : Part). p.ended) then)
        | inr other ↦
            ap (λ (p : Part). p.ended) (same_Some b a (sym g ∙ d.others segment other ∙ f))
      ];
    }

    pub looks_end_nothing : LooksEndNothing number part records
    looks_end_nothing place None old new looked kept = record {
      own = ap (λ (p : Part). p.ended) looked.1.own;
      segments = λ segment a b f g.
          ap (λ (p : Part). p.ended) (same_Some b a (sym g ∙ looked.1.segments segment ∙ f));
    }
    looks_end_nothing place (Some shown) old new looked kept =
        ends_by place shown.word shown.word old new
        (segment_in number old.heap.segments place.segment)
        (segment_in number new.heap.segments place.segment) refl refl
        (all_held number records old.heap.segments new.heap.segments kept place.segment) looked.2

    first_of : (o : Option (Kept S)) (one : Kept S) → is_some o ≡ false
        → option_or o (Some one) ≡ Some one
    first_of None one e = refl
    first_of (Some x) one e = absurd (cc)

    -- a segment that comes knows what it knew
    AsMuch : Kept S → Kept S → Type 0
    AsMuch one one' =
        ((part one'.slots).ended ≡ (part one.slots).ended)
        × ((at word : ℕ) → HasSeen (part one.slots) at word → HasSeen (part one'.slots) at word)

    comes_with : (hand : Option Handle) (one one' : Kept S) (own own' : Part)
        → ComesTo number records part hand one one' own own' → AsMuch one one'
    unfolding AsMuch
    comes_with None one one' own own' c =
        let same = (c.apart (λ handle e is. none-some handle e)).0 in (
          ap (λ (k : Kept S). (part k.slots).ended) same,
          λ at word has. subst (λ (k : Kept S). HasSeen (part k.slots) at word) (sym same) has,
        )
    comes_with (Some handle) one one' own own' c =
        elim (cases_eq handle.place.segment (number one.slots)) [
          | inl e ↦
              let m = c.met handle refl e in (
                m.1.step.2
                    ∙ not_ended (word_of handle.place) m.0 m.0 (part one.slots).ended (λ x. x),
                λ at word has. (
                  has.0,
                  ap (λ (l : List (ℕ × ℕ)). get_elem? l has.0) m.1.step.1
                      ∙ at_longer (part one.slots).seen ((word_of handle.place, m.0) ∷ []) has.0
                      (at, word) has.1,
                ),
              )
          | inr ne ↦
              let same = (c.apart (λ h is e.
              ne (ap (λ (x : Handle). x.place.segment) (same_Some handle h is) ∙ e))).0 in (
                ap (λ (k : Kept S). (part k.slots).ended) same,
                λ at word has.
                    subst (λ (k : Kept S). HasSeen (part k.slots) at word) (sym same) has,
              )
        ]

    pub seats_go_along : SeatsGoAlong number part records
    unfolding AsMuch
    seats_go_along = record {
      gone = λ segment one answer pool pool' heap heap' is abandoned.
          let a = subst (λ o. IsAbandoned number segment o answer pool pool' heap heap') is abandoned
          in
          subst (λ (l : List (Kept S)). Contains l one) (sym a.1)
          (Contains-append_right pool.orphans (one ∷ []) one (0, omega arith, refl));
      come = λ one answer pool pool' old new refilled away.
          let one' = refilled.2 in
          let c = refilled.3 in
          let same : number one'.slots ≡ number one.slots = ap (λ (r : Rest). r.number) c.rest in
          let n = number one.slots in
          let there : segment_in number new.heap.segments n ≡ Some one' =
          ap (λ (l : List (Kept S)). segment_in number l n) refilled.4
          ∙ find-append (is_of number n) old.heap.segments (one' ∷ [])
          ∙ ap (λ b. option_or (segment_in number old.heap.segments n) (cond b (Some one') None))
          (eq-eqb (number one'.slots) n same)
          ∙ first_of (segment_in number old.heap.segments n) one' away in
          let much = comes_with old.hand one one' old.own new.own c in (
            part one'.slots,
            ap (option_map (λ (k : Kept S). part k.slots)) there,
            much.0,
            much.1,
          );
    }

-- All places that a heap takes in come home, where each is parted.
use Rattle.std.proofs.Common.{◌≡◌, ◌≢◌, ℕ, ◌==◌, ◌<◌, Bool, true, false, ◌||◌, List, [], ◌∷◌}
use Rattle.std.proofs.Common.{length, slice_get, slice_set, Some, refl, sym, ap, ◌∙◌, arith, inl}
use Rattle.std.proofs.Common.{inr, subst, ⊎_elim, set}
use Rattle.std.specs.List.{list_any}
use Rattle.std.proofs.lemmas.Bool.{ne_eqb}
use Rattle.std.proofs.lemmas.List.{set-set, set-get_or}
use Rattle.std.proofs.lemmas.Option.{same_Some, get_or_from_slice_get}
use Rattle.hg_lists.specs.Repeats.{Lacks, IsIn, HasNoRepeats}
use Rattle.hg_lists.proofs.RepeatsLemmas.{Lacks-not}
use Rattle.hg_place.specs.declared.plain.PlainWords.{PlainWords}
use Rattle.hg_place.specs.Plain.{plain_records}
use Rattle.hg_place.specs.Places.{page_of, index_of}
use Rattle.hg_segment.specs.Kept.{Kept, slot}
use Rattle.hg_segment.specs.Parted.{plain_number}
use Rattle.hg_heap.specs.Held.{Held}
use Rattle.hg_heap.specs.Taking.{WentHome, StayedAway, IsAnother, Takes}
use Rattle.hg_machine.specs.Life.{Record, is_parted}
use Rattle.hg_agreement.specs.Parts.{plain_from, record_by}
use Rattle.hg_agreement.specs.TakenIn.{taken_in}
use Rattle.hg_events.specs.Take.{plain_shows, plain_steps}
use Rattle.hg_events.proofs.TakenHome.{AreHome, IsPartedAt, not_away, came_home}
use Rattle.hg_events.proofs.StandsAlone.{StandsAlone, still_alone}

-- what a heap has where these places of one of its segments have come home
pub record HaveCome (places : List ℕ) (found : ℕ) (one : Kept PlainWords)
    (old new : Held PlainWords) (count : ℕ) : Type 0 where
  pub now : Kept PlainWords
  pub swap : new.segments ≡ slice_set old.segments found now
  pub home : AreHome places one now
  pub all : count ≡ length places

twice_in : (a b : Bool) (r : Record) → taken_in b (taken_in (a || false) r) ≡ taken_in (a || b) r
twice_in true true r = refl
twice_in true false r = refl
twice_in false b r = refl

none_come : (found : ℕ) (one : Kept PlainWords) (old new : Held PlainWords) (count : ℕ)
    → StandsAlone old.segments found one → new ≡ old → count ≡ 0
    → HaveCome [] found one old new count
none_come found one old new count s same none = record {
  now = one;
  swap = ap (λ (h : Held PlainWords). h.segments) same ∙ sym
      (ap (set old.segments found) (sym (get_or_from_slice_get old.segments found one one s.there))
      ∙ set-get_or old.segments found one);
  home = record {
    number = refl;
    fixed = record { arena = refl; greatest = refl; classes = refl };
    records = λ at low. refl;
  };
  all = none;
}

-- the first place has come home, and the others after it
module _ (place : ℕ) (places : List ℕ) (found : ℕ) (one mid now : Kept PlainWords)
    (first : AreHome (place ∷ []) one mid) where
  still_parted : Lacks place places → (at : ℕ) → at < 8192 → IsIn at places → IsPartedAt one at
      → IsPartedAt mid at
  still_parted lacks at low on parted =
      let ne : place ≢ at =
      λ e. Lacks-not place places lacks (subst (λ k. IsIn k places) (sym e) on) in
      ap (λ r. is_parted r.life) (first.records at low
      ∙ ap (λ b. taken_in (b || false) (record_by (Some (plain_from one)) at))
      (ne_eqb place at ne)) ∙ parted

  both_home : AreHome places mid now → AreHome (place ∷ places) one now
  both_home rest = record {
    number = rest.number ∙ first.number;
    fixed = record {
      arena = rest.fixed.arena ∙ first.fixed.arena;
      greatest = rest.fixed.greatest ∙ first.fixed.greatest;
      classes = rest.fixed.classes ∙ first.fixed.classes;
    };
    records = λ at low. rest.records at low
        ∙ ap (taken_in (list_any (λ n. n == at) places)) (first.records at low)
        ∙ twice_in (place == at) (list_any (λ n. n == at) places)
        (record_by (Some (plain_from one)) at);
  }

-- the segment that another is of is the one that stands alone
module _ (segment found : ℕ) (one : Kept PlainWords) (old new : Held PlainWords)
    (s : StandsAlone old.segments found one) (is : plain_number one.slots ≡ segment)
    (a : IsAnother plain_number segment old.segments new.segments) where
  where_found : a.found ≡ found
  where_found = s.alone a.found a.before a.at (a.number_is ∙ sym is)

  pub before_is : a.before ≡ one
  before_is = same_Some a.before one (sym a.at ∙ ap (slice_get old.segments) where_found ∙ s.there)

  pub another_swap : new.segments ≡ slice_set old.segments found a.after
  another_swap = a.now ∙ ap (λ k. slice_set old.segments k a.after) where_found

pub all_come : (segment found count : ℕ) (places : List ℕ) (one : Kept PlainWords)
    (old new : Held PlainWords) → StandsAlone old.segments found one
    → plain_number one.slots ≡ segment → HasNoRepeats places
    → ((at : ℕ) → IsIn at places → (at < 8192) × IsPartedAt one at)
    → Takes plain_number plain_records plain_shows plain_steps segment places old new count
    → HaveCome places found one old new count
all_come segment found count [] one old new s is once parted t =
    none_come found one old new count s t.0 t.1
all_come segment found count (place ∷ places) one old new s is once parted t =
    let mid = t.0 in
    let first = parted place (inl refl) in
    let slot_is : slot (page_of place) (index_of place) ≡ place = omega arith in
    let low : slot (page_of place) (index_of place) < 8192 =
    subst (λ k. k < 8192) (sym slot_is) first.0 in
    ⊎_elim
    (λ taken.
    let another = taken.0.another in
    let number : plain_number another.after.slots ≡ plain_number one.slots =
    another.number_kept ∙ sym is in
    let went : WentHome plain_records plain_shows plain_steps (page_of place) (index_of place) one
    another.after =
    subst (λ k. WentHome plain_records plain_shows plain_steps (page_of place) (index_of place) k
    another.after) (before_is segment found one old mid s is another) taken.0.home in
    let home : AreHome (place ∷ []) one another.after =
    subst (λ k. AreHome (k ∷ []) one another.after) slot_is
    (came_home one another.after (page_of place) (index_of place) low went number) in
    let swap = another_swap segment found one old mid s is another in
    let alone : StandsAlone mid.segments found another.after =
    subst (λ ks. StandsAlone ks found another.after) (sym swap)
    (still_alone old.segments found one another.after s number) in
    let rest = all_come segment found t.1 places another.after mid new alone
    (number ∙ is) once.1
    (λ at on. (
      (parted at (inr on)).0,
      still_parted place places found one another.after
          another.after home once.0 at (parted at (inr on)).0 on (parted at (inr on)).1,
    ))
    t.2 in
    record {
      now = rest.now;
      swap = rest.swap
          ∙ ap (λ ks. slice_set ks found rest.now) swap
          ∙ set-set old.segments found another.after rest.now;
      home = both_home place places found one another.after rest.now home rest.home;
      all = (let e = taken.1 in let l = rest.all in omega (arith, e, l));
    })
    (λ passed. absurd
    (let another = passed.0.another in
    not_away one another.after (page_of place) (index_of place) low
    (subst (IsPartedAt one) (sym slot_is) first.1)
    (subst (λ k. StayedAway plain_records plain_shows plain_steps (page_of place) (index_of place) k
    another.after) (before_is segment found one old mid s is another) passed.0.away)))
    t.3

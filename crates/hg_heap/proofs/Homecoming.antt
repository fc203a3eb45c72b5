-- Which places of a segment come home, where its places are taken in one after the other.
use Rattle.std.proofs.Common.{◌≡◌, ◌≢◌, ℕ, zero, suc, ◌+◌, ◌==◌, ◌<◌, Bool, true, false, cond}
use Rattle.std.proofs.Common.{List, [], ◌∷◌, length, find, Option, Some, refl, sym}
use Rattle.std.proofs.Common.{ap, subst, ◌∙◌, arith, ⊎_elim, inl, inr, slice_get, slice_set}
use Rattle.std.specs.Prelude.{Contains}
use Rattle.std.proofs.lemmas.Bool.{true≢false, cases_lt}
use Rattle.std.proofs.lemmas.Grind.{get_or-set_at}
use Rattle.std.proofs.lemmas.List.{get_or-set_other, get_or_past, length-set}
use Rattle.std.proofs.lemmas.Option.{slice_get-get_or}
use Rattle.hg_place.specs.declared.standing.Standing.{Standing}
use Rattle.hg_place.specs.declared.standing.Standing.TheVariants.{Home}
use Rattle.hg_place.specs.Places.{page_of, index_of}
use Rattle.hg_place.specs.Standings.{standing_at, is_home, standing_generation}
use Rattle.hg_lists.specs.Repeats.{HasNoRepeats}
use Rattle.hg_lists.proofs.RepeatsLemmas.{nat_eq-same, nat_eq-other, Contains-cons}
use Rattle.hg_lists.proofs.RepeatsLemmas.{Contains-cons_cases, Contains-lacks, lacks_contains}
use Rattle.hg_lists.proofs.RepeatsLemmas.{Contains-in}
use Rattle.hg_segment.specs.Kept.{Kept, slot}
use Rattle.hg_segment.specs.Blocks.{KeepsBlocks, block_at}
use Rattle.hg_heap.specs.Held.{Held, segment_in, is_of, is_held}
use Rattle.hg_heap.specs.Homecoming.{IsHomeAgain, AreHomeAgain, HaveComeHome}
use Rattle.hg_heap.specs.Taking.{WentHome, StayedAway, IsAnother, Takes}
use Rattle.hg_heap.proofs.Founds.{Contains-get, get-map, inside_of, numbers, numbers_same}
use Rattle.hg_heap.proofs.TakingKept.{taking_keeps}
use Rattle.hg_heap.proofs.Options.{some_of}

-- a place that isn't home has a record
recorded : (rs : List Standing) (at : ℕ) → is_home (standing_at rs at) ≡ false → at < length rs
recorded rs at away = elim (cases_lt at (length rs)) [
  | inl lt ↦ lt
  | inr ge ↦ absurd (true≢false (sym (ap is_home (get_or_past rs at (Home 0) ge)) ∙ away))
]

module _ {S : Type 0} (records : S → List Standing) where
  none_home : (one : Kept S) → AreHomeAgain records [] 0 one one
  none_home one = record {
    came = [];
    once = tt;
    many = refl;
    each = λ place c. absurd (let lt = c.1 in omega (arith, lt));
    others = λ place out. refl;
    fixed = record { arena = refl; greatest = refl; classes = refl };
    blocks = λ other at low small away. refl;
  }

  -- more may have been sent
  pub of_more : (sent more : List ℕ) (count : ℕ) (old new : Kept S)
      → ((place : ℕ) → Contains sent place → Contains more place)
      → AreHomeAgain records sent count old new → AreHomeAgain records more count old new
  of_more sent more count old new within h = record {
    came = h.came;
    once = h.once;
    many = h.many;
    each = λ place c. let e = h.each place c in record {
      was_sent = within place e.was_sent;
      was_open = e.was_open;
      home = e.home;
    };
    others = h.others;
    fixed = h.fixed;
    blocks = h.blocks;
  }

module _ {S : Type 0} (records : S → List Standing) (shows : S → ℕ → ℕ → Type 0)
    (steps : S → ℕ → ℕ → ℕ → S → Type 0) (page index count : ℕ) (sent : List ℕ)
    (old mid new : Kept S) (h : AreHomeAgain records sent count mid new) where
  -- one is passed over, and then so many come home
  one_stayed : StayedAway records shows steps page index old mid
      → AreHomeAgain records sent count old new
  one_stayed s =
      let same : records mid.slots ≡ records old.slots =
      ⊎_elim (λ home. ap records home.1) (λ lives. lives.4) s.passed in
      let classes : mid.classes ≡ old.classes = ap (λ (k : Kept S). k.classes) s.rest in
      let words : mid.words ≡ old.words = ap (λ (k : Kept S). k.words) s.rest in
      record {
        came = h.came;
        once = h.once;
        many = h.many;
        each = λ place c. let e = h.each place c in record {
          was_sent = e.was_sent;
          was_open = sym (ap (λ (rs : List Standing). is_home (standing_at rs place)) same)
              ∙ e.was_open;
          home = e.home ∙ ap (λ (rs : List Standing). Home
              (standing_generation (standing_at rs place))) same;
        };
        others = λ place out. h.others place out
            ∙ ap (λ (rs : List Standing). standing_at rs place) same;
        fixed = record {
          arena = h.fixed.arena ∙ ap (λ (k : Kept S). k.arena) s.rest;
          greatest = h.fixed.greatest ∙ ap (λ (k : Kept S). k.greatest) s.rest;
          classes = h.fixed.classes ∙ classes;
        };
        blocks = subst (λ (ws : List ℕ). KeepsBlocks (records new.slots) old.classes ws new.words)
            words (subst (λ (cs : List (Option ℕ)). KeepsBlocks (records new.slots) cs mid.words
            new.words) classes h.blocks);
      }

  -- one comes home, and then so many more
  module _ (w : WentHome records shows steps page index old mid) where
    home_mid : standing_at (records mid.slots) (slot page index) ≡ Home
        (standing_generation (standing_at (records old.slots) (slot page index)))
    home_mid = ap (λ (rs : List Standing). standing_at rs (slot page index)) w.took.home
        ∙ get_or-set_at (records old.slots) (slot page index) (slot page index) _ (Home 0) refl
        (recorded (records old.slots) (slot page index) w.took.was)

    other_mid : (place : ℕ) → place ≢ slot page index
        → standing_at (records mid.slots) place ≡ standing_at (records old.slots) place
    other_mid place ne = ap (λ (rs : List Standing). standing_at rs place) w.took.home
        ∙ get_or-set_other (records old.slots) (slot page index) place _ (Home 0) ne

    apart : Contains h.came (slot page index) → ⊥
    apart c = true≢false (sym (ap is_home home_mid) ∙ (h.each (slot page index) c).was_open)

    still_open : (place : ℕ) → is_home (standing_at (records new.slots) place) ≡ false
        → is_home (standing_at (records mid.slots) place) ≡ false
    still_open place away = sym (ap is_home (h.others place (λ c. true≢false
        (sym (ap is_home (h.each place c).home) ∙ away)))) ∙ away

    this_home : IsHomeAgain records (slot page index ∷ sent) old new (slot page index)
    this_home = record {
      was_sent = Contains-in (slot page index) (slot page index ∷ sent) (inl refl);
      was_open = w.took.was;
      home = h.others (slot page index) apart ∙ home_mid;
    }

    that_home : (place : ℕ) → Contains h.came place
        → IsHomeAgain records (slot page index ∷ sent) old new place
    that_home place c =
        let e = h.each place c in
        let same = other_mid place (λ is. apart (subst (Contains h.came) is c)) in
        record {
          was_sent = Contains-cons (slot page index) place sent e.was_sent;
          was_open = sym (ap is_home same) ∙ e.was_open;
          home = e.home ∙ ap (λ (s : Standing). Home (standing_generation s)) same;
        }

    one_came : AreHomeAgain records (slot page index ∷ sent) (count + 1) old new
    one_came = record {
      came = slot page index ∷ h.came;
      once = (lacks_contains (slot page index) h.came apart, h.once);
      many = (let many = h.many in omega (arith, many));
      each = λ place c. ⊎_elim
          (λ is. subst (IsHomeAgain records (slot page index ∷ sent) old new) (sym is) this_home)
          (λ more. that_home place more)
          (Contains-cons_cases (slot page index) place h.came c);
      others = λ place out.
          h.others place (λ c. out (Contains-cons (slot page index) place h.came c))
          ∙ other_mid place (λ is. out (Contains-in place (slot page index ∷ h.came) (inl is)));
      fixed = record {
        arena = h.fixed.arena ∙ w.fixed.arena;
        greatest = h.fixed.greatest ∙ w.fixed.greatest;
        classes = h.fixed.classes ∙ w.fixed.classes;
      };
      blocks = λ other i low small away.
          subst (λ (cs : List (Option ℕ)). block_at new.words cs other i
          ≡ block_at mid.words cs other i) w.fixed.classes (h.blocks other i low small away)
          ∙ w.blocks other i low small (still_open (slot other i) away);
    }

module _ {S : Type 0} (number : S → ℕ) where
  -- where no two have one number, the segment of a number is the one that stands there
  found_once : (heap : List (Kept S)) (found : ℕ) (one : Kept S) → HasNoRepeats (numbers number heap)
      → slice_get heap found ≡ Some one → segment_in number heap (number one.slots) ≡ Some one
  found_once [] found one once at = absurd (cc)
  found_once (x ∷ xs) zero one once at =
      let is : x ≡ one = cc in
      ap (λ (b : Bool). cond b (Some x) (find (is_of number (number one.slots)) xs))
      (ap (λ (k : Kept S). number k.slots == number one.slots) is ∙ nat_eq-same (number one.slots))
      ∙ ap Some is
  found_once (x ∷ xs) (suc found) one once at =
      let there = Contains-get (numbers number xs) found (number one.slots)
      (get-map (λ (k : Kept S). number k.slots) xs found one at) in
      let ne : number x.slots ≢ number one.slots = λ e. Contains-lacks (number x.slots)
      (numbers number xs) once.0 (subst (Contains (numbers number xs)) (sym e) there) in
      ap (λ (b : Bool). cond b (Some x) (find (is_of number (number one.slots)) xs))
      (nat_eq-other (number x.slots) (number one.slots) ne)
      ∙ found_once xs found one once.1 at

  module _ (segment : ℕ) (old new : List (Kept S)) (once : HasNoRepeats (numbers number old))
      (a : IsAnother number segment old new) where
    once_still : HasNoRepeats (numbers number new)
    once_still = subst HasNoRepeats (sym (ap (numbers number) a.now ∙ numbers_same number old a.found
        a.before a.after a.at (a.number_kept ∙ sym a.number_is))) once

    was_it : segment_in number old segment ≡ Some a.before
    was_it = subst (λ (n : ℕ). segment_in number old n ≡ Some a.before) a.number_is
        (found_once old a.found a.before once a.at)

    there_now : slice_get new a.found ≡ Some a.after
    there_now =
        let inside = inside_of old a.found a.before a.at in
        ap (λ (ks : List (Kept S)). slice_get ks a.found) a.now
        ∙ slice_get-get_or (slice_set old a.found a.after) a.found a.after
        (subst (λ (n : ℕ). a.found < n) (sym (length-set old a.found a.after)) inside)
        ∙ ap Some (get_or-set_at old a.found a.found a.after a.after refl inside)

    is_it : segment_in number new segment ≡ Some a.after
    is_it = subst (λ (n : ℕ). segment_in number new n ≡ Some a.after) a.number_kept
        (found_once new a.found a.after once_still there_now)

same_some : {X : Type 0} (x y : X) → Some x ≡ Some y → x ≡ y
same_some x y e = cc

slot_whole : (place : ℕ) → slot (page_of place) (index_of place) ≡ place
slot_whole place = omega arith

module _ {S : Type 0} (number : S → ℕ) (records : S → List Standing) (shows : S → ℕ → ℕ → Type 0)
    (steps : S → ℕ → ℕ → ℕ → S → Type 0) where
  -- the segment afterwards, with so many home
  abbrev After : ℕ → List ℕ → ℕ → Kept S → List (Kept S) → Type 0
  After segment sent count before new =
      (after : Kept S) × (segment_in number new segment ≡ Some after)
      × AreHomeAgain records sent count before after

  come_home : (segment count : ℕ) (places : List ℕ) (old new : Held S) (before : Kept S)
      → HasNoRepeats (numbers number old.segments)
      → segment_in number old.segments segment ≡ Some before
      → Takes number records shows steps segment places old new count
      → After segment places count before new.segments
  come_home segment count [] old new before once was t = (
    before,
    ap (λ (h : Held S). segment_in number h.segments segment) t.0 ∙ was,
    subst (λ (n : ℕ). AreHomeAgain records [] n before before) (sym t.1) (none_home records before),
  )
  come_home segment count (place ∷ places) old new before once was t = ⊎_elim
      (λ one.
      let a = one.0.another in
      let is : a.before ≡ before = same_some a.before before
      (sym (was_it number segment old.segments t.0.segments once a) ∙ was) in
      let rest = come_home segment t.1 places t.0 new a.after
      (once_still number segment old.segments t.0.segments once a)
      (is_it number segment old.segments t.0.segments once a) t.2 in (
        rest.0,
        rest.1,
        subst (λ (n : ℕ). AreHomeAgain records (place ∷ places) n before rest.0) (sym one.1)
            (subst (λ (p : ℕ). AreHomeAgain records (p ∷ places) (t.1 + 1) before rest.0)
            (slot_whole place)
            (subst (λ (k : Kept S). AreHomeAgain records
            (slot (page_of place) (index_of place) ∷ places) (t.1 + 1) k rest.0) is
            (one_came records shows steps (page_of place) (index_of place) t.1 places a.before
            a.after rest.0 rest.2 one.0.home))),
      ))
      (λ one.
      let a = one.0.another in
      let is : a.before ≡ before = same_some a.before before
      (sym (was_it number segment old.segments t.0.segments once a) ∙ was) in
      let rest = come_home segment t.1 places t.0 new a.after
      (once_still number segment old.segments t.0.segments once a)
      (is_it number segment old.segments t.0.segments once a) t.2 in (
        rest.0,
        rest.1,
        subst (λ (n : ℕ). AreHomeAgain records (place ∷ places) n before rest.0) (sym one.1)
            (of_more records places (place ∷ places) t.1 before rest.0
            (λ other c. Contains-cons place other places c)
            (subst (λ (k : Kept S). AreHomeAgain records places t.1 k rest.0) is
            (one_stayed records shows steps (page_of place) (index_of place) t.1 places a.before
            a.after rest.0 rest.2 one.0.away))),
      )) t.3

  -- of a segment that is held
  pub home_again : (segment count : ℕ) (places sent : List ℕ) (old new : Held S)
      → HasNoRepeats (numbers number old.segments) → is_held number old.segments segment ≡ true
      → ((place : ℕ) → Contains places place → Contains sent place)
      → Takes number records shows steps segment places old new count
      → HaveComeHome number records segment sent old.segments new.segments count
  home_again segment count places sent old new once held within t =
      let was = some_of (segment_in number old.segments segment) held in
      let after = come_home segment count places old new was.0 once was.1 t in
      let keeps = taking_keeps number records shows steps segment count places old new t in
      record {
        before = was.0;
        after = after.0;
        was = was.1;
        now = after.1;
        home = of_more records places sent count was.0 after.0 within after.2;
        others = keeps.others;
        order = keeps.kinds;
      }

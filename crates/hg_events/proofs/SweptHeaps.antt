-- A heap whose idle pages have lost their class is swept, segment by segment.
use Rattle.std.proofs.Common.{◌≡◌, ℕ, zero, suc, ◌+◌, ◌*◌, ◌/◌, ◌%◌, ◌==◌, ◌<◌, ◌≤◌, ◌&&◌, inl, inr}
use Rattle.std.proofs.Common.{Bool, true, false, not, cond, [], ◌∷◌, List, map, length, Option}
use Rattle.std.proofs.Common.{Some, None, refl, sym, ap, subst, ◌∙◌, arith, is_some, slice_get}
use Rattle.std.proofs.Common.{slice_index_or, count_by}
use Rattle.std.specs.List.{position_or_len}
use Rattle.std.proofs.lemmas.Bool.{cases_Bool, true≢false, eq-eqb}
use Rattle.std.proofs.lemmas.List.{length-map}
use Rattle.std.proofs.lemmas.List.Folds.{find_at}
use Rattle.std.proofs.lemmas.Option.{same_Some}
use Rattle.std.proofs.lemmas.Simd.{map-map}
use Rattle.hg_place.specs.declared.plain.PlainWords.{PlainWords}
use Rattle.hg_place.specs.declared.standing.Standing.{Standing}
use Rattle.hg_place.specs.declared.standing.Standing.TheVariants.{Home, Open}
use Rattle.hg_place.specs.Plain.{plain_records, plain_words}
use Rattle.hg_place.specs.Slots.{slot_in}
use Rattle.hg_place.specs.Standings.{standing_at, standing_generation, is_home}
use Rattle.hg_segment.specs.Blocks.{block_of_class}
use Rattle.hg_segment.specs.Kept.{Kept, slot, class_at as class_in}
use Rattle.hg_segment.specs.Parted.{plain_number}
use Rattle.hg_machine.specs.Life.{Record}
use Rattle.hg_heap.specs.Held.{Held, segment_in, class_by, class_on}
use Rattle.hg_heap.specs.Idle.{is_idle, is_idle_by, bare, Collected}
use Rattle.hg_heap.proofs.Founds.{get-map, first_by}
use Rattle.hg_heap.proofs.Idles.{all_at, all_shift, home_on}
use Rattle.hg_agreement.specs.Holdings.{block_by, class_of}
use Rattle.hg_agreement.specs.Parts.{plain_from, record_by}
use Rattle.hg_agreement.specs.Swept.{is_idle_of, IsSwept, AreSwept}
use Rattle.hg_agreement.specs.Witness.{held_life}
use Rattle.hg_parts.proofs.Founds.{stands_first}

-- what stands in a list that was mapped
pub mapped : {X Y : Type 0} (f : X → Y) (xs : List X) (n : ℕ) (y : Y)
    → slice_get (map f xs) n ≡ Some y → (x : X) × (slice_get xs n ≡ Some x) × (f x ≡ y)
mapped {X} {Y} f [] n y e = absurd (cc)
mapped {X} {Y} f (x ∷ xs) zero y e = (x, refl, same_Some (f x) y e)
mapped {X} {Y} f (x ∷ xs) (suc n) y e = mapped f xs n y e

-- a page without a class loses none
none_lost : (class : Option ℕ) (home : Bool)
    → cond (is_some class && home) None class ≡ cond home None class
none_lost None true = refl
none_lost None false = refl
none_lost (Some size) home = refl

-- no block stands at home
home_blocks : (standing : Standing) (words other : List ℕ) → is_home standing ≡ true
    → block_by standing words ≡ block_by standing other
home_blocks (Home g) words other e = refl
home_blocks (Open g o) words other e = absurd (true≢false (sym e))

-- what is told of a place, by its standing, its slot word and the words of its block
abbrev told : Standing → ℕ → List ℕ → Record
told standing word words = record {
  generation = standing_generation standing;
  life = held_life (not (slot_in word).live) standing words;
}

-- and by a segment, where the class of its page is this one
abbrev told_of : Kept PlainWords → ℕ → Option ℕ → Record
told_of k at class =
    told (standing_at (plain_records k.slots) at) (slice_index_or (plain_words k.slots) at 0)
    (block_by (standing_at (plain_records k.slots) at)
    (block_of_class k.words (at / 512) (at % 512) class))

abbrev numbers : List (Kept PlainWords) → List ℕ
numbers = map (λ k. plain_number k.slots)

-- the segment that stands there is the first of its number, where no number stands twice
pub first_there : (xs : List (Kept PlainWords)) (found : ℕ) (x : Kept PlainWords)
    → slice_get xs found ≡ Some x
    → count_by (λ n. n == plain_number x.slots) (numbers xs) ≤ 1
    → segment_in plain_number xs (plain_number x.slots) ≡ Some x
first_there xs found x there once =
    let n = plain_number x.slots in
    let stands : slice_get (numbers xs) found ≡ Some n =
    get-map (λ (k : Kept PlainWords). plain_number k.slots) xs found x there in
    let first : found ≡ position_or_len (λ m. m == n) (numbers xs) =
    stands_first (λ (m : ℕ). m == n) (numbers xs) found n stands (eq-eqb n n refl) once in
    find_at (λ (k : Kept PlainWords). plain_number k.slots == n) xs
    ∙ ap (slice_get xs) (first_by plain_number xs n ∙ sym first) ∙ there

module _ (old new : Held PlainWords) (gone : Collected plain_number plain_records old new)
    (once : (n : ℕ) → count_by (λ m. m == n) (numbers old.segments) ≤ 1) where
  -- the numbers are the same
  numbers_same : numbers new.segments ≡ numbers old.segments
  numbers_same =
      sym (map-map (λ (k : Kept PlainWords). plain_number k.slots) bare new.segments)
      ∙ ap (map (λ (k : Kept PlainWords). plain_number k.slots)) gone.rest
      ∙ map-map (λ (k : Kept PlainWords). plain_number k.slots) bare old.segments

  module _ (found : ℕ) (x y : Kept PlainWords) (was : slice_get old.segments found ≡ Some x)
      (is : slice_get new.segments found ≡ Some y) where
    -- only classes and lists are others
    pub bare_same : bare y ≡ bare x
    bare_same =
        same_Some (bare y) (bare x)
        (sym (get-map bare new.segments found y is)
        ∙ ap (λ ks. slice_get ks found) gone.rest
        ∙ get-map bare old.segments found x was)

    number_same : plain_number y.slots ≡ plain_number x.slots
    number_same = ap (λ (k : Kept PlainWords). plain_number k.slots) bare_same

    first_old : segment_in plain_number old.segments (plain_number x.slots) ≡ Some x
    first_old = first_there old.segments found x was (once (plain_number x.slots))

    first_new : segment_in plain_number new.segments (plain_number x.slots) ≡ Some y
    first_new =
        ap (segment_in plain_number new.segments) (sym number_same)
        ∙ first_there new.segments found y is
        (subst (λ ns. count_by (λ m. m == plain_number y.slots) ns ≤ 1) (sym numbers_same)
        (once (plain_number y.slots)))

    -- a page of it, over all segments
    class_then : (page : ℕ) → page < 16
        → class_in y.classes page
        ≡ cond (home_on (plain_records x.slots) page) None (class_in x.classes page)
    class_then page low =
        let n = plain_number x.slots in
        let whole = n * 16 + page in
        let own : whole / 16 ≡ n = omega (arith, low) in
        let at : whole % 16 ≡ page = omega (arith, low) in
        let now : class_on plain_number new.segments whole ≡ class_in y.classes page =
        ap (λ (m : ℕ). class_by plain_number (segment_in plain_number new.segments m) (whole % 16))
        own
        ∙ ap (λ (o : Option (Kept PlainWords)). class_by plain_number o (whole % 16)) first_new
        ∙ ap (class_in y.classes) at in
        let before : class_on plain_number old.segments whole ≡ class_in x.classes page =
        ap (λ (m : ℕ). class_by plain_number (segment_in plain_number old.segments m) (whole % 16))
        own
        ∙ ap (λ (o : Option (Kept PlainWords)). class_by plain_number o (whole % 16)) first_old
        ∙ ap (class_in x.classes) at in
        let idle : is_idle plain_number plain_records old.segments whole
        ≡ is_idle_by plain_number plain_records (Some x) page =
        ap (λ (m : ℕ). is_idle_by plain_number plain_records
        (segment_in plain_number old.segments m) (whole % 16)) own
        ∙ ap (λ (o : Option (Kept PlainWords)). is_idle_by plain_number plain_records o
        (whole % 16)) first_old
        ∙ ap (is_idle_by plain_number plain_records (Some x)) at in
        sym now
        ∙ gone.classes whole
        ∙ ap (λ (b : Bool). cond b None (class_on plain_number old.segments whole)) idle
        ∙ ap (λ (c : Option ℕ). cond (is_idle_by plain_number plain_records (Some x) page) None c)
        before
        ∙ none_lost (class_in x.classes page) (home_on (plain_records x.slots) page)

    idle_is : (page : ℕ) → is_idle_of (plain_from x) page ≡ home_on (plain_records x.slots) page
    idle_is page =
        all_shift (λ at. is_home (standing_at (plain_records x.slots) at))
        (λ index. is_home (standing_at (plain_records x.slots) (slot page index)))
        (page * 512) 0 512 (λ k lt.
        let e : page * 512 + k ≡ slot page (0 + k) = omega arith in
        ap (λ (at : ℕ). is_home (standing_at (plain_records x.slots) at)) e)

    classes : (page : ℕ) → page < 16
        → class_of (plain_from y).holding page
        ≡ cond (is_idle_of (plain_from x) page) None (class_of (plain_from x).holding page)
    classes page low =
        class_then page low
        ∙ ap (λ (b : Bool). cond b None (class_in x.classes page)) (sym (idle_is page))

    -- on a page whose places are home no block has words
    same_told : (at : ℕ) → at < 8192
        → told_of x at (class_in y.classes (at / 512))
        ≡ told_of x at (class_in x.classes (at / 512))
    same_told at low =
        let page = at / 512 in
        let small : page < 16 = omega (arith, low) in
        let standing = standing_at (plain_records x.slots) at in
        let class = class_in x.classes page in
        let other = cond (is_idle_of (plain_from x) page) None class in
        ap (told_of x at) (classes page small)
        ∙ elim (cases_Bool (is_idle_of (plain_from x) page)) [
          | inl t ↦
              let within : at % 512 < 512 = omega arith in
              let same : page * 512 + at % 512 ≡ at = omega arith in
              let home : is_home standing ≡ true =
              ap (λ (k : ℕ). is_home (standing_at (plain_records x.slots) k)) (sym same)
              ∙ all_at (λ k. is_home (standing_at (plain_records x.slots) k)) (page * 512) 512
              (at % 512) t within in
              ap (told standing (slice_index_or (plain_words x.slots) at 0))
              (home_blocks standing (block_of_class x.words page (at % 512) other)
              (block_of_class x.words page (at % 512) class) home)
          | inr f ↦ ap (λ (b : Bool). told_of x at (cond b None class)) f
        ]

    records : (at : ℕ) → at < 8192
        → record_by (Some (plain_from y)) at ≡ record_by (Some (plain_from x)) at
    records at low =
        ap (λ (k : Kept PlainWords). told_of k at (class_in y.classes (at / 512))) bare_same
        ∙ same_told at low

    pub segment_swept : IsSwept (plain_from x) (plain_from y)
    segment_swept = record { number = number_same; records = records; classes = classes }

  pub heap_swept : AreSwept (map plain_from old.segments) (map plain_from new.segments)
  heap_swept = record {
    long =
        length-map new.segments plain_from ∙ sym (length-map new.segments bare)
        ∙ ap length gone.rest
        ∙ length-map old.segments bare ∙ sym (length-map old.segments plain_from);
    each = λ found one now e f.
        let was = mapped plain_from old.segments found one e in
        let is = mapped plain_from new.segments found now f in
        subst (λ a. IsSwept a now) was.2
        (subst (λ b. IsSwept (plain_from was.0) b) is.2
        (segment_swept found was.0 is.0 was.1 is.1));
  }

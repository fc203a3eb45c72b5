-- What a worker has that has taken all places of a list, and what its part of the run has then.
use Rattle.std.proofs.Common.{◌≡◌, ◌≢◌, ◌||◌, ℕ, ◌/◌, ◌%◌, ◌<◌, ◌==◌, Bool, true, false, if◌then◌else◌}
use Rattle.std.proofs.Common.{List, [], ◌∷◌, map, Option, Some, inl, inr, ⊎_elim, option_map}
use Rattle.std.proofs.Common.{find, refl, sym, ap, subst, ◌∙◌, arith}
use Rattle.std.specs.List.{list_any}
use Rattle.std.proofs.lemmas.Bool.{true≢false, cases_Bool, cases_eq, eq-eqb, ne_eqb}
use Rattle.hg_lists.specs.Repeats as repeats
use Rattle.hg_lists.proofs.RepeatsLemmas.{Contains-in, in_cases, in_contains, Lacks-not}
use Rattle.hg_place.specs.declared.Handle.{Handle}
use Rattle.hg_place.specs.declared.standing.Standing.{Standing}
use Rattle.hg_place.specs.declared.standing.Standing.TheVariants.{Home, Open}
use Rattle.hg_place.specs.declared.geometry.TheConstants.{SEGMENT_PLACES, PAGE_PLACES}
use Rattle.hg_place.specs.Places.{segment_of, segment_of_page}
use Rattle.hg_place.specs.Standings.{standing_at, is_home, standing_generation}
use Rattle.hg_machine.specs.Policy.{Policy}
use Rattle.hg_agreement.specs.Changed.{IsLike}
use Rattle.hg_agreement.specs.Holdings.{Holding, block_by, block_of, block_told, class_told, standing_told}
use Rattle.hg_agreement.specs.Views.{View}
use Rattle.hg_segment.specs.Blocks.{block_at}
use Rattle.hg_segment.specs.Kept.{Kept, slot}
use Rattle.hg_heap.specs.Held.{segment_in}
use Rattle.hg_heap.specs.Homecoming.{HaveComeHome}
use Rattle.hg_heap.specs.Ties.{holding}
use Rattle.hg_heap.proofs.ViewRoom.{holding_in, view_holds}
use Rattle.hg_roles.specs.Joined.{come_home}
use Rattle.hg_run_table.specs.declared.segment.RunSegment.{RunSegment}
use Rattle.hg_run_table.specs.Segments.{place_at}
use Rattle.hg_run_worker.specs.AtWork.{number_in, records_in, worker_view}
use Rattle.hg_run_worker.proofs.Ready.{held_same}

-- a place is among those that are sent, or isn't
pub any_sent : (f : ℕ → ℕ) (x : ℕ) (xs : List ℕ) → repeats.IsIn x xs
    → list_any (λ other. other == f x) (map f xs) ≡ true
any_sent f x [] there = absurd there
any_sent f x (y ∷ ys) there =
    ⊎_elim
    (λ (e : x ≡ y).
    ap (λ (b : Bool). b || list_any (λ other. other == f x) (map f ys)) (eq-eqb (f y) (f x) (ap f (sym e))))
    (λ (r : repeats.IsIn x ys).
    elim (cases_Bool (f y == f x)) [
      | inl t ↦ ap (λ (b : Bool). b || list_any (λ other. other == f x) (map f ys)) t
      | inr n ↦
          ap (λ (b : Bool). b || list_any (λ other. other == f x) (map f ys)) n ∙ any_sent f x ys r
    ])
    there

none_sent : (f : ℕ → ℕ) (place : ℕ) (xs : List ℕ) → ((x : ℕ) → repeats.IsIn x xs → f x ≢ place)
    → list_any (λ other. other == place) (map f xs) ≡ false
none_sent f place [] apart = refl
none_sent f place (x ∷ xs) apart =
    ap (λ (b : Bool). b || list_any (λ other. other == place) (map f xs))
    (ne_eqb (f x) place (apart x (inl refl)))
    ∙ none_sent f place xs (λ y there. apart y (inr there))

-- a standing at home, and the block of one
home_is : (standing : Standing) → is_home standing ≡ true → standing ≡ Home (standing_generation standing)
home_is (Home generation) is = refl
home_is (Open generation owner) is = absurd (true≢false (sym is))

home_block : (standing : Standing) (words : List ℕ) → is_home standing ≡ true → block_by standing words ≡ []
home_block (Home generation) words is = refl
home_block (Open generation owner) words is = absurd (true≢false (sym is))

same_block : (standing : Standing) (words other : List ℕ)
    → (is_home standing ≡ false → other ≡ words) → block_by standing other ≡ block_by standing words
same_block (Home generation) words other same = refl
same_block (Open generation owner) words other same = same refl

module _ (policy : Policy) (number : ℕ) (hand : Option Handle) {old new : List (Kept RunSegment)}
    {segment count : ℕ} {sent : List ℕ}
    (home : HaveComeHome number_in records_in segment sent old new count)
    (all : (place : ℕ) → repeats.IsIn place sent
    → is_home (standing_at (records_in home.after.slots) place) ≡ true)
    (low : (place : ℕ) → repeats.IsIn place sent → place < SEGMENT_PLACES) where
  abbrev was_view : View
  was_view = worker_view policy number hand old

  abbrev new_view : View
  new_view = worker_view policy number hand new

  abbrev places : List ℕ
  places = map (place_at segment) sent

  abbrev is_sent : ℕ → Bool
  is_sent place = list_any (λ other. other == place) places

  abbrev standing_if : Bool → ℕ → Standing
  standing_if b place =
      if b then Home (standing_generation (was_view.standing place)) else was_view.standing place

  abbrev block_if : Bool → ℕ → List ℕ
  block_if b place = if b then [] else was_view.block place

  -- what is told of a segment
  told : (segments : List (Kept RunSegment)) (other : ℕ) (o : Option (Kept RunSegment))
      → segment_in number_in segments other ≡ o
      → find (λ h. h.number == other) (map (holding number_in records_in) segments)
      ≡ option_map (holding number_in records_in) o
  told segments other o is =
      holding_in number_in records_in segments other ∙ ap (option_map (holding number_in records_in)) is

  -- at another segment nothing is sent, and all is as it was
  module _ (other : ℕ) (ne : other ≢ segment) where
    as_was : find (λ h. h.number == other) (map (holding number_in records_in) new)
        ≡ find (λ h. h.number == other) (map (holding number_in records_in) old)
    as_was =
        told new other (segment_in number_in old other) (home.others other ne)
        ∙ sym (told old other (segment_in number_in old other) refl)

    unsent : (place : ℕ) → segment_of place ≡ other → is_sent place ≡ false
    unsent place of =
        none_sent (place_at segment) place sent
        (λ slot there e.
        let below = low slot there in
        ne (sym of ∙ ap segment_of (sym e) ∙ omega (arith, below)))

  -- the segment itself
  was_told : find (λ h. h.number == segment) (map (holding number_in records_in) old)
      ≡ Some (holding number_in records_in home.before)
  was_told = told old segment (Some home.before) home.was

  now_told : find (λ h. h.number == segment) (map (holding number_in records_in) new)
      ≡ Some (holding number_in records_in home.after)
  now_told = told new segment (Some home.after) home.now

  module _ (at : ℕ) where
    abbrev was_standing : Standing
    was_standing = standing_at (records_in home.before.slots) at

    abbrev now_standing : Standing
    now_standing = standing_at (records_in home.after.slots) at

    -- where it was sent
    came : repeats.IsIn at sent → now_standing ≡ Home (standing_generation was_standing)
    came there =
        ⊎_elim
        (λ (c : repeats.IsIn at home.home.came). (home.home.each at (Contains-in at home.home.came c)).home)
        (λ (l : repeats.Lacks at home.home.came).
        let same : now_standing ≡ was_standing =
        home.home.others at
        (λ c. Lacks-not at home.home.came l (in_contains at home.home.came c)) in
        same ∙ home_is was_standing (sym (ap is_home same) ∙ all at there))
        (in_cases at home.home.came)

    -- and where it wasn't
    stayed : repeats.Lacks at sent → now_standing ≡ was_standing
    stayed lacks =
        home.home.others at
        (λ c. Lacks-not at sent lacks (in_contains at sent (home.home.each at c).was_sent))

    block_stayed : repeats.Lacks at sent → at < SEGMENT_PLACES
        → block_of (holding number_in records_in home.after) at
        ≡ block_of (holding number_in records_in home.before) at
    block_stayed lacks below =
        ap
        (λ (s : Standing).
        block_by s (block_at home.after.words home.after.classes (at / PAGE_PLACES) (at % PAGE_PLACES)))
        (stayed lacks)
        ∙ same_block was_standing _ _
        (λ away.
        ap (λ (cs : List (Option ℕ)). block_at home.after.words cs (at / PAGE_PLACES) (at % PAGE_PLACES))
        home.home.fixed.classes
        ∙ home.home.blocks (at / PAGE_PLACES) (at % PAGE_PLACES) (omega (arith, below)) (omega arith)
        (ap is_home
        (ap (λ (n : ℕ). standing_at (records_in home.after.slots) n)
        (let whole : slot (at / PAGE_PLACES) (at % PAGE_PLACES) ≡ at = omega arith in whole)
        ∙ stayed lacks)
        ∙ away))

  -- the places of the segment
  module _ (place : ℕ) (of : segment_of place ≡ segment) where
    abbrev at : ℕ
    at = place % SEGMENT_PLACES

    placed : place_at segment at ≡ place
    placed = omega (arith, of)

    sent_here : repeats.IsIn at sent → is_sent place ≡ true
    sent_here there =
        subst (λ (n : ℕ). list_any (λ other. other == n) places ≡ true) placed
        (any_sent (place_at segment) at sent there)

    unsent_here : repeats.Lacks at sent → is_sent place ≡ false
    unsent_here lacks =
        none_sent (place_at segment) place sent
        (λ slot there e.
        let below = low slot there in
        let is : slot ≡ at = omega (arith, e, below, of) in
        Lacks-not at sent lacks (subst (λ (n : ℕ). repeats.IsIn n sent) is there))

    was_here : was_view.standing place ≡ was_standing at
    was_here =
        ap (λ (n : ℕ). standing_told (find (λ h. h.number == n) (map (holding number_in records_in) old)) at) of
        ∙ ap (λ (o : Option Holding). standing_told o at) was_told

    now_here : new_view.standing place ≡ now_standing at
    now_here =
        ap (λ (n : ℕ). standing_told (find (λ h. h.number == n) (map (holding number_in records_in) new)) at) of
        ∙ ap (λ (o : Option Holding). standing_told o at) now_told

    block_was : was_view.block place ≡ block_of (holding number_in records_in home.before) at
    block_was =
        ap (λ (n : ℕ). block_told (find (λ h. h.number == n) (map (holding number_in records_in) old)) at) of
        ∙ ap (λ (o : Option Holding). block_told o at) was_told

    block_now : new_view.block place ≡ block_of (holding number_in records_in home.after) at
    block_now =
        ap (λ (n : ℕ). block_told (find (λ h. h.number == n) (map (holding number_in records_in) new)) at) of
        ∙ ap (λ (o : Option Holding). block_told o at) now_told

    standing_here : new_view.standing place ≡ standing_if (is_sent place) place
    standing_here =
        ⊎_elim
        (λ (there : repeats.IsIn at sent).
        now_here ∙ came at there ∙ ap (λ (s : Standing). Home (standing_generation s)) (sym was_here)
        ∙ ap (λ (b : Bool). standing_if b place) (sym (sent_here there)))
        (λ (lacks : repeats.Lacks at sent).
        now_here ∙ stayed at lacks ∙ sym was_here
        ∙ ap (λ (b : Bool). standing_if b place) (sym (unsent_here lacks)))
        (in_cases at sent)

    block_here : new_view.block place ≡ block_if (is_sent place) place
    block_here =
        ⊎_elim
        (λ (there : repeats.IsIn at sent).
        block_now ∙ home_block (now_standing at) _ (all at there)
        ∙ ap (λ (b : Bool). block_if b place) (sym (sent_here there)))
        (λ (lacks : repeats.Lacks at sent).
        block_now ∙ block_stayed at lacks (omega arith) ∙ sym block_was
        ∙ ap (λ (b : Bool). block_if b place) (sym (unsent_here lacks)))
        (in_cases at sent)

  -- what the part has is what the worker has
  pub like_home : IsLike (come_home was_view places) new_view
  like_home = record {
    policy = refl;
    worker = refl;
    holding = λ other.
        view_holds number_in records_in new other ∙ held_same old new home.order other
        ∙ sym (view_holds number_in records_in old other);
    classes = λ page held.
        elim (cases_eq (segment_of_page page) segment) [
          | inl of ↦
              ap (λ (n : ℕ). class_told (find (λ h. h.number == n) (map (holding number_in records_in) new)) (page % 16)) of
              ∙ ap (λ (o : Option Holding). class_told o (page % 16)) now_told
              ∙ ap (λ (cs : List (Option ℕ)). class_told (Some (record { number = 0; standings = []; classes = cs; words = [] })) (page % 16)) home.home.fixed.classes
              ∙ ap (λ (o : Option Holding). class_told o (page % 16)) (sym was_told)
              ∙ ap (λ (n : ℕ). class_told (find (λ h. h.number == n) (map (holding number_in records_in) old)) (page % 16)) (sym of)
          | inr ne ↦
              ap (λ (o : Option Holding). class_told o (page % 16)) (as_was (segment_of_page page) ne)
        ];
    standings = λ place held.
        elim (cases_eq (segment_of place) segment) [
          | inl of ↦ standing_here place of
          | inr ne ↦
              ap (λ (o : Option Holding). standing_told o (place % SEGMENT_PLACES)) (as_was (segment_of place) ne)
              ∙ ap (λ (b : Bool). standing_if b place) (sym (unsent (segment_of place) ne place refl))
        ];
    blocks = λ place held.
        elim (cases_eq (segment_of place) segment) [
          | inl of ↦ block_here place of
          | inr ne ↦
              ap (λ (o : Option Holding). block_told o (place % SEGMENT_PLACES)) (as_was (segment_of place) ne)
              ∙ ap (λ (b : Bool). block_if b place) (sym (unsent (segment_of place) ne place refl))
        ];
    hand = refl;
  }

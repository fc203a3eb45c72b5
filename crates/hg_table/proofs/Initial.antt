-- The initial seat, and the seats that it is cut into.
use Rattle.std.proofs.Common.{◌≡◌, ℕ, zero, suc, ◌+◌, ◌*◌, ◌<◌, ◌≤◌, List, [], ◌∷◌, ◌++◌, map, length, get_or, take, drop, replicate, sym, refl, ap, ◌∙◌, subst, arith, length-take, length-drop, get_or-take, get_or-drop, length-append, All}
use Rattle.std.proofs.lemmas.List.{ext_get_or}
use Rattle.std.proofs.Math.ListN.{length-replicate}
use Rattle.std.proofs.Math.Seq.{get_or-append_seam}
use Rattle.std.proofs.lemmas.Bool.{true≢false}
use mathlib.Core.Option.{some, some-ne-none}
use lib.ListN.{get_elem?}
use Rattle.atomic_table.specs.Table.{opening}
use Rattle.hg_place.specs.declared.standing.Standing.{Standing}
use Rattle.hg_place.specs.declared.standing.Standing.TheVariants.{Home}
use Rattle.hg_place.specs.declared.geometry.TheConstants.{SEGMENT_PLACES}
use Rattle.hg_place.specs.Lives.{IsSlotWord}
use Rattle.hg_place.specs.Standings.{standing_at, Fits, IsSane}
use Rattle.hg_table.specs.declared.view.Part.{Part}
use Rattle.hg_table.specs.View.{View, Has, part_of, initial_part, initial_view, first_records, later_records}
use Rattle.hg_table.specs.LifeRule.{LifeRule}
use Rattle.hg_table.specs.Seats.{IsInitial, AreHome}
use Rattle.hg_table.proofs.Knowing.{Knows}
use Rattle.hg_table.proofs.WordSteps.{home_fits}
use Rattle.hg_table.proofs.Cuts.{at_one}

home_everywhere : (n k : ℕ) → standing_at (replicate n (Home 0)) k ≡ Home 0
home_everywhere zero k = refl
home_everywhere (suc n) zero = refl
home_everywhere (suc n) (suc k) = home_everywhere n k

-- where all words are 0, the initial seat knows all places to be at home
pub opens_table : (n : ℕ) (ws : List ℕ) → length ws ≡ n + 1 → ((i : ℕ) → get_or ws i 0 ≡ 0) → LifeRule n (opening ws [] (initial_view n))
opens_table n ws wide zeros =
    let a : Part = initial_part n in
    let only : (i j : ℕ) (b : Part) → Has (initial_view n ∷ []) i j b → (i ≡ 0) × (j ≡ 0) × (a ≡ b) = λ i j b has. let o = at_one (initial_view n) has.0 i has.1 in
    let p = at_one a b j (subst (λ (z : View). get_elem? z j ≡ some b) (sym o.1) has.2) in (o.0, p.0, p.1) in
    let knows : (i j : ℕ) (b : Part) → Has (initial_view n ∷ []) i j b → Knows ws b = λ i j b has. subst (Knows ws) (only i j b has).2 record {
      seen = λ k p w e. absurd (some-ne-none (p, w) (sym e));
      ended = λ k p g e. absurd (some-ne-none (p, g) (sym e));
      recorded = λ k l. subst (λ (w : ℕ). Fits (standing_at (replicate n (Home 0)) k) w) (sym (zeros (1 + k)))
          (subst (λ (x : Standing). Fits x 0) (sym (home_everywhere n k)) (home_fits 0 refl 0 refl));
    } in
    record {
      all_words = wide;
      spare = zeros 0;
      well_formed = λ p. subst IsSlotWord (sym (zeros p)) (omega arith, omega arith, λ _. refl);
      seen_is_past = λ i j b has. (knows i j b has).seen;
      ended_is_over = λ i j b has. (knows i j b has).ended;
      records_are_true = λ i j b has. (knows i j b has).recorded;
      ended_once = λ i j k i' j' k' p g x y hx hy ex ey. ((only i j x hx).0 ∙ sym (only i' j' y hy).0, (only i j x hx).1 ∙ sym (only i' j' y hy).1);
      one_view = λ i j k i' j' k' x y hx hy lx ly e. ((only i j x hx).0 ∙ sym (only i' j' y hy).0, (only i j x hx).1 ∙ sym (only i' j' y hy).1);
      words_are_seen = λ p there. absurd (there (zeros p));
      over_is_ended = λ p g one over. absurd (let none = zeros p in let low = over.0 in omega arith);
      seats = refl;
    }

pub is_initial : (n : ℕ) (v : View) → v ≡ initial_view n → IsInitial 0 n v
is_initial n v is = subst (IsInitial 0 n) (sym is) record {
  one = refl;
  seen = refl;
  ended = refl;
  first = refl;
  left = length-replicate n (Home 0);
  home = home_everywhere n;
  may_give = refl;
}

-- what is left of the initial seat, and what the new seat has
pub cut : (done rest : ℕ) (v left right : View) → IsInitial done (rest + SEGMENT_PLACES) v → 1 ≤ (part_of v).may_give → left ≡ map (later_records SEGMENT_PLACES) v → right ≡ map (first_records SEGMENT_PLACES) v
    → IsInitial (done + 1) rest left
    × (right ≡ part_of right ∷ []) × ((part_of right).seen ≡ []) × ((part_of right).ended ≡ []) × ((part_of right).first ≡ done * SEGMENT_PLACES + 1) × (length (part_of right).records ≡ SEGMENT_PLACES)
    × ((k : ℕ) → k < SEGMENT_PLACES → standing_at (part_of right).records k ≡ Home 0) × ((part_of right).may_give ≡ 0)
cut done rest v left right f some_left l r = let a : Part = part_of v in
    let le : left ≡ later_records SEGMENT_PLACES a ∷ [] = l ∙ ap (map (later_records SEGMENT_PLACES)) f.one in let re : right ≡ first_records SEGMENT_PLACES a ∷ [] = r ∙ ap (map (first_records SEGMENT_PLACES)) f.one in
    let wide = f.left in let base = f.first in
    let more : length (drop SEGMENT_PLACES a.records) ≡ rest = let e = length-drop SEGMENT_PLACES a.records in omega arith in
    let some_of : length (take SEGMENT_PLACES a.records) ≡ SEGMENT_PLACES = let e = length-take SEGMENT_PLACES a.records in omega arith in (
      subst (IsInitial (done + 1) rest) (sym le) record {
        one = refl;
        seen = f.seen;
        ended = f.ended;
        first = omega arith;
        left = more;
        home = λ k. get_or-drop SEGMENT_PLACES a.records k (Home 0) ∙ f.home (SEGMENT_PLACES + k);
        may_give = let given = f.may_give in omega arith;
      },
      subst (λ (z : View). z ≡ part_of z ∷ []) (sym re) refl,
      ap (λ (z : View). (part_of z).seen) re,
      ap (λ (z : View). (part_of z).ended) re,
      ap (λ (z : View). (part_of z).first) re ∙ base,
      ap (λ (z : View). length (part_of z).records) re ∙ some_of,
      (λ k b. ap (λ (z : View). standing_at (part_of z).records k) re ∙ (get_or-take SEGMENT_PLACES a.records k (Home 0) b ∙ f.home k)),
      ap (λ (z : View). (part_of z).may_give) re,
    )

-- two lists of records that say the same
pub all_home : (l m : List Standing) → length l ≡ SEGMENT_PLACES → length m ≡ SEGMENT_PLACES → ((k : ℕ) → k < SEGMENT_PLACES → standing_at l k ≡ Home 0) → AreHome m → l ≡ m
all_home l m wl wm h h' = ext_get_or (Home 0) l m (wl ∙ sym wm) (λ i b. h i (omega arith) ∙ sym (h' i))

pub home_is_sane : (rs : List Standing) → AreHome rs → (at : ℕ) → IsSane (standing_at rs at)
home_is_sane rs home at = subst IsSane (sym (home at)) record {
  given_out = λ e. absurd (true≢false e);
  owner = λ e. absurd (true≢false e);
}

pub all_last : {X : Type 0} (P : X → Type 0) (xs : List X) (x : X) → All P (xs ++ x ∷ []) → P x
all_last P xs x h = subst P (get_or-append_seam xs x [] x) (h (length xs) x (omega (arith, length-append xs (x ∷ []))))

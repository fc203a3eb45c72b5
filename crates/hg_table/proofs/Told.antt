-- What the steps of a seat with one part tell.
use Rattle.std.proofs.Common.{◌≡◌, ◌≢◌, ℕ, ◌-◌, ◌==◌, if◌then◌else◌, List, [], ◌∷◌, ◌++◌, map, sym, refl, ap, ◌∙◌, subst, arith, eq-eqb, ne_eqb}
use mathlib.Core.Logic.{dite}
use native.Mathlib.Decide.{ℕ_discrete}
use lib.ListN.{get_elem?}
use Rattle.hg_place.specs.declared.standing.Standing.TheVariants.{Home, Open}
use Rattle.hg_place.specs.Lives.{word_generation, word_owner, word_life, IsLiveWord}
use Rattle.hg_table.specs.declared.view.Part.{Part}
use Rattle.hg_table.specs.View.{View, saw, ending, recording, part_of}
use Rattle.hg_table.specs.Steps.{open_as, close_from, part_from, take_home, known_after}
use Rattle.hg_table.specs.Told.{IsShown, IsShownTo}
use Rattle.hg_table.specs.Seats.{HasStepped, ended_after, part_of_first}
use Rattle.hg_table.proofs.WordSteps.{live_slot}

pub one_shown : (p w : ℕ) (v : View) → v ≡ part_of v ∷ [] → IsShownTo p w v → IsShown p w (part_of v)
one_shown p w v one shown = shown 0 (part_of v) (ap (λ (z : View). get_elem? z 0) one)

-- a step that leaves no word freed, or found none live
pub not_ended : (p u v : ℕ) (es : List (ℕ × ℕ)) → (word_life u ≡ 1 → word_life v ≡ 1) → ended_after p u v es ≡ es
not_ended p u v es h = dite (ℕ_discrete (word_life u) 1)
    (λ e. let f = h e in rw (eq-eqb (word_life u) 1 e, ne_eqb (word_life v) 0 (λ z. omega arith)) refl)
    (λ ne. rw (ne_eqb (word_life u) 1 ne) refl)

pub is_ended : (p u : ℕ) (es : List (ℕ × ℕ)) → IsLiveWord u → ended_after p u (u - 1) es ≡ es ++ (p, word_generation u) ∷ []
is_ended p u es h = let l = (live_slot u h).4 in rw (eq-eqb (word_life u) 1 h.1, eq-eqb (word_life (u - 1)) 0 l) refl

one_of : (f : Part → Part) (v v' : View) → v ≡ part_of v ∷ [] → v' ≡ map f v → part_of v' ≡ f (part_of v)
one_of f v v' one is = ap part_of is ∙ ap (λ (z : View). part_of (map f z)) one

-- a step that leaves the word
pub left_alone : (p w : ℕ) (v v' : View) → v ≡ part_of v ∷ [] → v' ≡ map (saw p w) v → HasStepped (part_of v) p w w (part_of v')
left_alone p w v v' one is = subst (HasStepped (part_of v) p w w) (sym (one_of (saw p w) v v' one is)) (refl, refl, sym (not_ended p w w (part_of v).ended (λ e. e)))

-- an exchange that found another word
missed : (p w old : ℕ) (f g : Part → Part) (v v' : View) → w ≢ old → v' ≡ map (λ (part : Part). if w == old then f part else g part) v → v' ≡ map g v
missed p w old f g v v' miss is = rw (ne_eqb w old miss) at is

hit_it : (p w old : ℕ) (f g : Part → Part) (v v' : View) → w ≡ old → v' ≡ map (λ (part : Part). if w == old then f part else g part) v → v' ≡ map f v
hit_it p w old f g v v' hit is = rw (eq-eqb w old hit) at is

pub closed_miss : (p w old : ℕ) (v v' : View) → w ≢ old → v' ≡ map (known_after (close_from old) p w) v → v' ≡ map (saw p w) v
closed_miss p w old v v' miss is = missed p w old (λ part. recording p (Home (word_generation old)) (ending p (word_generation old) (saw p (old - 1) part))) (saw p w) v v' miss is

pub parted_miss : (p w old : ℕ) (v v' : View) → w ≢ old → v' ≡ map (known_after (part_from old) p w) v → v' ≡ map (saw p w) v
parted_miss p w old v v' miss is = missed p w old (λ part. ending p (word_generation old) (saw p (old - 1) part)) (saw p w) v v' miss is

pub closed_hit : (p w old : ℕ) (v v' : View) → w ≡ old → v' ≡ map (known_after (close_from old) p w) v
    → v' ≡ map (λ (part : Part). recording p (Home (word_generation old)) (ending p (word_generation old) (saw p (old - 1) part))) v
closed_hit p w old v v' hit is = hit_it p w old (λ part. recording p (Home (word_generation old)) (ending p (word_generation old) (saw p (old - 1) part))) (saw p w) v v' hit is

pub parted_hit : (p w old : ℕ) (v v' : View) → w ≡ old → v' ≡ map (known_after (part_from old) p w) v → v' ≡ map (λ (part : Part). ending p (word_generation old) (saw p (old - 1) part)) v
parted_hit p w old v v' hit is = hit_it p w old (λ part. ending p (word_generation old) (saw p (old - 1) part)) (saw p w) v v' hit is

pub took_freed : (p w : ℕ) (v v' : View) → word_life w ≡ 0 → v' ≡ map (known_after take_home p w) v → v' ≡ map (λ (part : Part). recording p (Home (word_generation w)) (saw p w part)) v
took_freed p w v v' freed is = hit_it p (word_life w) 0 (λ part. recording p (Home (word_generation w)) (saw p w part)) (saw p w) v v' freed is

pub took_live : (p w : ℕ) (v v' : View) → word_life w ≢ 0 → v' ≡ map (known_after take_home p w) v → v' ≡ map (saw p w) v
took_live p w v v' alive is = missed p (word_life w) 0 (λ part. recording p (Home (word_generation w)) (saw p w part)) (saw p w) v v' alive is

-- what each call of a segment's seat does
pub closed_ok : (p w old : ℕ) (v v' : View) → v ≡ part_of v ∷ [] → IsLiveWord old → w ≡ old → IsShownTo p w v → v' ≡ map (known_after (close_from old) p w) v
    → IsShown p old (part_of v) × HasStepped (part_of v) p old (old - 1) (part_of v')
closed_ok p w old v v' one live hit shown is = let f : Part → Part = λ part. recording p (Home (word_generation old)) (ending p (word_generation old) (saw p (old - 1) part)) in (
  one_shown p old v one (subst (λ (z : ℕ). IsShownTo p z v) hit shown),
  subst (HasStepped (part_of v) p old (old - 1)) (sym (one_of f v v' one (closed_hit p w old v v' hit is))) (refl, refl, sym (is_ended p old (part_of v).ended live)),
)

pub taken : (p w : ℕ) (v v' : View) → v ≡ part_of v ∷ [] → word_life w ≡ 0 → v' ≡ map (known_after take_home p w) v → HasStepped (part_of v) p w w (part_of v')
taken p w v v' one freed is = let f : Part → Part = λ part. recording p (Home (word_generation w)) (saw p w part) in
    subst (HasStepped (part_of v) p w w) (sym (one_of f v v' one (took_freed p w v v' freed is))) (refl, refl, sym (not_ended p w w (part_of v).ended (λ e. e)))

pub opened_told : (p x : ℕ) (v v' : View) → v ≡ part_of v ∷ [] → word_life x ≡ 1 → ((u : ℕ) × IsShownTo p u v) → v' ≡ map (known_after (open_as x) p x) v
    → (u : ℕ) × IsShown p u (part_of v) × HasStepped (part_of v) p u x (part_of v')
opened_told p x v v' one live shown is = let f : Part → Part = λ part. recording p (Open (word_generation x) (word_owner x)) (saw p x part) in (
  shown.0,
  one_shown p shown.0 v one shown.1,
  subst (HasStepped (part_of v) p shown.0 x) (sym (one_of f v v' one is)) (refl, refl, sym (not_ended p shown.0 x (part_of v).ended (λ _. live))),
)

-- a seat that lay in a badge
pub out_of : (views : List View) (v : View) → views ≡ (part_of_first views ∷ []) ∷ [] → views ≡ v ∷ [] → (v ≡ part_of v ∷ []) × (part_of v ≡ part_of_first views)
out_of views v one is = let head : List View → View = elim [ [] ↦ [] | x ∷ xs ↦ x ] in let e : v ≡ part_of_first views ∷ [] = sym (ap head is) ∙ ap head one in
    (subst (λ (z : View). z ≡ part_of z ∷ []) (sym e) refl, ap part_of e)

pub shown_of : (p w : ℕ) (views : List View) (v : View) → views ≡ (part_of_first views ∷ []) ∷ [] → views ≡ v ∷ [] → IsShownTo p w v → IsShown p w (part_of_first views)
shown_of p w views v one is shown = let o = out_of views v one is in subst (IsShown p w) o.1 (one_shown p w v o.0 shown)

pub parted_of : (p w old : ℕ) (views views' : List View) (v v' : View) → views ≡ (part_of_first views ∷ []) ∷ [] → views ≡ v ∷ [] → views' ≡ v' ∷ [] → IsLiveWord old → w ≡ old
    → v' ≡ map (known_after (part_from old) p w) v → HasStepped (part_of_first views) p old (old - 1) (part_of_first views')
parted_of p w old views views' v v' one is is' live hit e = let o = out_of views v one is in let f : Part → Part = λ part. ending p (word_generation old) (saw p (old - 1) part) in
    subst (λ (z : Part × Part). HasStepped z.0 p old (old - 1) z.1) (λ i. (o.1 i, sym (ap part_of_first is') i))
    (subst (HasStepped (part_of v) p old (old - 1)) (sym (one_of f v v' o.0 (parted_hit p w old v v' hit e))) (refl, refl, sym (is_ended p old (part_of v).ended live)))

pub left_of : (p w : ℕ) (views views' : List View) (v v' : View) → views ≡ (part_of_first views ∷ []) ∷ [] → views ≡ v ∷ [] → views' ≡ v' ∷ [] → v' ≡ map (saw p w) v → HasStepped (part_of_first views) p w w (part_of_first views')
left_of p w views views' v v' one is is' e = let o = out_of views v one is in
    subst (λ (z : Part × Part). HasStepped z.0 p w w z.1) (λ i. (o.1 i, sym (ap part_of_first is') i)) (left_alone p w v v' o.0 e)

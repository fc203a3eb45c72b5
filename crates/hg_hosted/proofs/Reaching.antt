-- What a worker's call leaves of what workers share.
use Rattle.std.proofs.Common.{◌≡◌, ◌≢◌, ℕ, zero, suc, ◌+◌, List, [], ◌∷◌, ◌++◌, map, take, slice_get, slice_set, Option, None, Some, MatchOption, option_map, sym, ap, subst, refl, arith, ◌∙◌}
use Rattle.std.proofs.lemmas.List.{map-append}
use Rattle.std.proofs.lemmas.Option.{none-some, same_Some}
use Rattle.hg_machine.specs.declared.Event.{Event}
use Rattle.hg_place.specs.declared.Handle.{Handle}
use Rattle.hg_place.specs.declared.Place.{Place}
use Rattle.hg_worker.specs.declared.state.WorkerState.{WorkerState}
use Rattle.hg_hosted.specs.declared.shared.Shared.{Shared}
use Rattle.hg_hosted.specs.declared.worker.HostedWorker.{HostedWorker}
use Rattle.hg_hosted.specs.Places.{HaveSamePlaces}
use Rattle.hg_hosted.specs.Reaching.{Reaches, Touches, TouchesList}
use Rattle.hg_hosted.specs.Waiting.{NeedsShared}

-- where one more is set, each other stays
pub other_set :
    {X : Type 0} (xs : List X) (i k : ℕ) (y : X) → k ≢ i
    → slice_get (slice_set xs i y) k ≡ slice_get xs k
other_set [] i k y apart = refl
other_set (z ∷ zs) zero zero y apart = absurd (apart refl)
other_set (z ∷ zs) zero (suc k) y apart = refl
other_set (z ∷ zs) (suc i) zero y apart = refl
other_set (z ∷ zs) (suc i) (suc k) y apart = other_set zs i k y (λ same. apart (ap suc same))

-- and so does what is told of each, where the new one tells the same
pub map_set :
    {X Y : Type 0} (f : X → Y) (xs : List X) (i : ℕ) (x y : X) → slice_get xs i ≡ Some x
    → f y ≡ f x → map f (slice_set xs i y) ≡ map f xs
map_set f [] i x y there same = absurd (none-some _ there)
map_set f (z ∷ zs) zero x y there same =
    ap (λ w. w ∷ map f zs) (same ∙ ap f (sym (same_Some z x there)))
map_set f (z ∷ zs) (suc i) x y there same = ap (λ ws. f z ∷ ws) (map_set f zs i x y there same)

abbrev place_in : Option Handle → Option Place
place_in = option_map (λ handle. handle.place)

module _ {old new : Shared} where
  -- the list of the segment of what is in hand
  pub by_hand :
      (hand : Option Handle) {place : Place} → Some place ≡ place_in hand
      → TouchesList place.segment old new
      → MatchOption hand (new ≡ old) (λ handle. TouchesList handle.place.segment old new)
  by_hand None is touches = absurd (none-some _ (sym is))
  by_hand (Some handle) {place = place} is touches =
      subst (λ (p : Place). TouchesList p.segment old new) (same_Some place handle.place is) touches

  -- nothing, where that is empty
  pub by_none :
      (hand : Option Handle) → None ≡ place_in hand → new ≡ old
      → MatchOption hand (new ≡ old) (λ handle. TouchesList handle.place.segment old new)
  by_none None is same = same
  by_none (Some handle) is same = absurd (none-some _ is)

-- what is in hand needs what is shared
pub in_hand : (hand : Option Handle) {place : Place} → Some place ≡ place_in hand → hand ≢ None
in_hand hand is empty = none-some _ (sym (is ∙ ap place_in empty))

-- ways that lead to the same places, one after another
pub places_then :
    {a b c : Shared} → HaveSamePlaces a b → HaveSamePlaces b c → HaveSamePlaces a c
places_then one two = record {
  segments = two.segments ∙ one.segments;
  lists = two.lists ∙ one.lists;
  left = two.left ∙ one.left;
}

pub places_back : {a b : Shared} → HaveSamePlaces a b → HaveSamePlaces b a
places_back same = record {
  segments = sym same.segments;
  lists = sym same.lists;
  left = sym same.left;
}

pub same_places : {a b : Shared} → b ≡ a → HaveSamePlaces a b
same_places {a = a} same = subst (HaveSamePlaces a) (sym same) record { segments = refl; lists = refl; left = refl }

-- what a call does by its worker's state
pub reaches :
    (event : Event) (old new : HostedWorker) (before : _) → old.state ≡ Some before
    → (¬ (NeedsShared event before.value) → new.shared ≡ old.shared)
    → Touches event before.value old.shared new.shared
    → HaveSamePlaces old.shared new.shared → Reaches event old new
reaches event old new before was alone touched places = record {
  alone = λ own is. subst
      (λ o. ¬ (NeedsShared event o.value) → new.shared ≡ old.shared)
      (same_Some before own (sym was ∙ is)) alone;
  touched = λ own is. subst (λ o. Touches event o.value old.shared new.shared)
      (same_Some before own (sym was ∙ is)) touched;
  places = places;
}

-- and one that needs nothing of what is shared
pub reaches_nothing :
    (event : Event) (old new : HostedWorker) → ((state : WorkerState) → Touches event state old.shared old.shared)
    → new.shared ≡ old.shared → Reaches event old new
reaches_nothing event old new nothing same = record {
  alone = λ own is needs. same;
  touched = λ own is. subst (Touches event own.value old.shared) (sym same) (nothing own.value);
  places = same_places same;
}

take_one :
    {X Y : Type 0} (f : X → Y) (xs : List X) (at : ℕ) (x : X) → slice_get xs at ≡ Some x
    → take at (map f xs) ++ f x ∷ [] ≡ take (suc at) (map f xs)
take_one f [] at x there = absurd (none-some _ there)
take_one f (z ∷ zs) zero x there = ap (λ w. f w ∷ []) (sym (same_Some z x there))
take_one f (z ∷ zs) (suc at) x there = ap (λ ws. f z ∷ ws) (take_one f zs at x there)

-- one more of a list, where it tells what that at its number does
pub taken_more :
    {X Y : Type 0} (f : X → Y) (xs ys : List X) (at : ℕ) (x y : X)
    → map f ys ≡ take at (map f xs) → slice_get xs at ≡ Some x → f y ≡ f x
    → map f (ys ++ y ∷ []) ≡ take (at + 1) (map f xs)
taken_more f xs ys at x y told there same =
    let next : suc at ≡ at + 1 = omega arith in
    map-append f ys (y ∷ []) ∙ ap (λ ws. ws ++ f y ∷ []) told
    ∙ ap (λ w. take at (map f xs) ++ w ∷ []) same ∙ take_one f xs at x there
    ∙ ap (λ n. take n (map f xs)) next

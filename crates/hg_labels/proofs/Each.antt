-- Lists of names, each once.
use Rattle.std.proofs.Common.{◌≡◌, ◌⊎◌, ℕ, Bool, true, false, List, [], ◌∷◌, ◌++◌, Option, Some, None}
use Rattle.std.proofs.Common.{length, zero, slice_get, position, ⊎_elim, inl, inr, refl, sym, ap, subst, ◌∙◌, suc, IfSome, IsNone, is_some}
use Rattle.std.specs.List.{list_any}
use Rattle.std.specs.Str.{bytes_eq}
use Rattle.std.proofs.lemmas.Bool.{false≢true, or_from, false_from_ne_true}
use Rattle.std.proofs.lemmas.List.Folds.{list_any_at}
use Rattle.std.proofs.lemmas.List.Quantifiers.{position-Some}
use Rattle.std.proofs.lemmas.Option.{same_Some, none-some, slice_get_within, slice_get-get_or, get_or_from_slice_get}
use Rattle.std.proofs.lemmas.Slice.Eq.{bytes_eq-Decides}
use Rattle.hg_labels.specs.Hash.{hash_of}
use Rattle.hg_labels.specs.Indexes.{Finds, IsEachOnce, IsKept}
use Rattle.hg_labels.specs.declared.index.Index.{Index}
use Rattle.hg_labels.proofs.Positions.{position-None}

-- what stands in a list behind which one element was put
pub pushed_at : {X : Type 0} (xs : List X) (y z : X) (k : ℕ) → slice_get (xs ++ y ∷ []) k ≡ Some z
    → (slice_get xs k ≡ Some z) ⊎ ((k ≡ length xs) × (y ≡ z))
pushed_at [] y z zero h = inr (refl, same_Some _ _ h)
pushed_at [] y z (suc k) h = absurd (none-some _ h)
pushed_at (x ∷ xs) y z zero h = inl h
pushed_at (x ∷ xs) y z (suc k) h = ⊎_elim (λ kept. inl kept) (λ new. inr (ap suc new.0, new.1)) (pushed_at xs y z k h)

list_any-missing : {X : Type 0} (p : X → Bool) (xs : List X) → ((k : ℕ) (x : X) → slice_get xs k ≡ Some x → p x ≡ false) → list_any p xs ≡ false
list_any-missing p [] fails = refl
list_any-missing p (y ∷ ys) fails = or_from _ _ (fails 0 y refl) (list_any-missing p ys (λ k. fails (suc k)))

-- a name stands among the names, or nowhere
pub among : (names : List (List ℕ)) (name : List ℕ) (number : ℕ) → slice_get names number ≡ Some name
    → list_any (λ known. bytes_eq name known) names ≡ true
among names name number at =
    list_any_at _ names number [] (slice_get_within names number name at)
    ((bytes_eq-Decides name _).1 (sym (get_or_from_slice_get names number name [] at)))

pub not_among : (names : List (List ℕ)) (name : List ℕ) → ((number : ℕ) → slice_get names number ≡ Some name → ⊥)
    → list_any (λ known. bytes_eq name known) names ≡ false
not_among names name nowhere =
    list_any-missing _ names (λ k other at. false_from_ne_true _ (λ yes. nowhere k (at ∙ ap Some (sym ((bytes_eq-Decides name other).0 yes)))))

place_is : (names : List (List ℕ)) (name : List ℕ) (number : ℕ) → IsEachOnce names → slice_get names number ≡ Some name
    → (found : Option ℕ) → found ≡ position (λ known. bytes_eq name known) names → found ≡ Some number
place_is names name number once at None is =
    let no = position-None (λ known. bytes_eq name known) names (sym is) number [] (slice_get_within names number name at) in
    absurd (false≢true (sym no ∙ (bytes_eq-Decides name _).1 (sym (get_or_from_slice_get names number name [] at))))
place_is names name number once at (Some place) is =
    let there = position-Some (λ known. bytes_eq name known) names place [] (sym is) in
    let same = (bytes_eq-Decides name _).0 there.1 in
    ap Some (once.same place number name (slice_get-get_or names place [] there.0 ∙ ap Some (sym same)) at)

-- the place of a name
pub position-is : (names : List (List ℕ)) (name : List ℕ) (number : ℕ) → IsEachOnce names → slice_get names number ≡ Some name
    → position (λ known. bytes_eq name known) names ≡ Some number
position-is names name number once at = place_is names name number once at _ refl

no_place : (names : List (List ℕ)) (name : List ℕ) → ((number : ℕ) → slice_get names number ≡ Some name → ⊥)
    → (found : Option ℕ) → found ≡ position (λ known. bytes_eq name known) names → found ≡ None
no_place names name nowhere None is = refl
no_place names name nowhere (Some place) is =
    let there = position-Some (λ known. bytes_eq name known) names place [] (sym is) in
    let same = (bytes_eq-Decides name _).0 there.1 in
    absurd (nowhere place (slice_get-get_or names place [] there.0 ∙ ap Some (sym same)))

pub position-missing : (names : List (List ℕ)) (name : List ℕ) → ((number : ℕ) → slice_get names number ≡ Some name → ⊥)
    → position (λ known. bytes_eq name known) names ≡ None
position-missing names name nowhere = no_place names name nowhere _ refl

-- a new name behind the others
pub IsEachOnce-push : (names : List (List ℕ)) (name : List ℕ) → IsEachOnce names → ((number : ℕ) → slice_get names number ≡ Some name → ⊥)
    → IsEachOnce (names ++ name ∷ [])
IsEachOnce-push names name once nowhere = record {
  same = λ place other text at too.
      ⊎_elim
      (λ old. ⊎_elim (λ old2. once.same place other text old old2)
      (λ new2. absurd (nowhere place (old ∙ ap Some (sym new2.1))))
      (pushed_at names name text other too))
      (λ new. ⊎_elim (λ old2. absurd (nowhere other (old2 ∙ ap Some (sym new.1))))
      (λ new2. new.0 ∙ sym new2.0)
      (pushed_at names name text other too))
      (pushed_at names name text place at);
}

-- an index with a name's number, from which nothing was lost
pub IsKept-push : (old new : Index) (names : List (List ℕ)) (name : List ℕ) → IsKept old names → ((number : ℕ) → slice_get names number ≡ Some name → ⊥)
    → Finds new (hash_of name) name (length names)
    → ((at : ℕ) (other : List ℕ) (place : ℕ) → (other ≡ name → place ≡ length names) → Finds old at other place → Finds new at other place)
    → IsKept new (names ++ name ∷ [])
IsKept-push old new names name kept nowhere entry others = record {
  once = IsEachOnce-push names name kept.once nowhere;
  found = record {
    found = λ place other at.
        ⊎_elim
        (λ was. others (hash_of other) other place (λ e. absurd (nowhere place (was ∙ ap Some e))) (kept.found.found place other was))
        (λ new1. subst (λ text. Finds new (hash_of text) text place) new1.1 (subst (Finds new (hash_of name) name) (sym new1.0) entry))
        (pushed_at names name other place at);
  };
}

-- an index from which nothing was lost
pub IsKept-through : (old new : Index) (names : List (List ℕ)) (name : List ℕ) (number : ℕ) → IsKept old names → ((number : ℕ) → slice_get names number ≡ Some name → ⊥)
    → ((at : ℕ) (other : List ℕ) (place : ℕ) → (other ≡ name → place ≡ number) → Finds old at other place → Finds new at other place)
    → IsKept new names
IsKept-through old new names name number kept nowhere others = record {
  once = kept.once;
  found = record {
    found = λ place other at.
        others (hash_of other) other place (λ e. absurd (nowhere place (at ∙ ap Some e))) (kept.found.found place other at);
  };
}

-- a name that an index of the names doesn't find stands nowhere
pub nowhere_in : (index : Index) (known names : List (List ℕ)) (name : List ℕ) (hash : ℕ) (found : Option ℕ)
    → IsKept index names → known ≡ names → hash ≡ hash_of name
    → (IsNone found → (number : ℕ) → slice_get known number ≡ Some name → Finds index hash name number → ⊥)
    → IsNone found → (number : ℕ) → slice_get names number ≡ Some name → ⊥
nowhere_in index known names name hash found kept same hashed missing = λ none number at.
    missing none number (ap (λ texts. slice_get texts number) same ∙ at)
    (subst (λ h. Finds index h name number) (sym hashed) (kept.found.found number name at))

-- what is found is the place of the name
pub found-is : (names : List (List ℕ)) (name : List ℕ) (found : Option ℕ) → IsEachOnce names
    → IfSome found (λ number. slice_get names number ≡ Some name) → (IsNone found → (number : ℕ) → slice_get names number ≡ Some name → ⊥)
    → found ≡ position (λ known. bytes_eq name known) names
found-is names name None once at nowhere = sym (position-missing names name (nowhere refl))
found-is names name (Some number) once at nowhere = sym (position-is names name number once at)

-- whether a name was found is whether it is one of the names
pub is_found-is : (names : List (List ℕ)) (name : List ℕ) (found : Option ℕ)
    → IfSome found (λ number. slice_get names number ≡ Some name) → (IsNone found → (number : ℕ) → slice_get names number ≡ Some name → ⊥)
    → is_some found ≡ list_any (λ known. bytes_eq name known) names
is_found-is names name None at nowhere = sym (not_among names name (nowhere refl))
is_found-is names name (Some number) at nowhere = sym (among names name number at)

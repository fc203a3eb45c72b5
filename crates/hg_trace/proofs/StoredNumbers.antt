-- What numbers stand for, where names come behind others.
use Rattle.std.proofs.Common.{◌≡◌, ℕ, suc, zero, not, true, List, [], ◌∷◌, ◌++◌, Some, None, length, get_or, slice_get, position}
use Rattle.std.proofs.Common.{Result, Ok, Err, IfOk, is_some, refl, sym, ap, ◌∙◌}
use Rattle.std.proofs.lemmas.Option.{slice_get-get_or}
use Rattle.std.proofs.lemmas.List.Folds.{list_any_none}
use Rattle.std.proofs.lemmas.List.Quantifiers.{position-Some}
use Rattle.std.proofs.lemmas.Slice.Eq.{bytes_eq-Decides}
use Rattle.std.specs.List.{list_any}
use Rattle.std.specs.Str.{bytes_eq}
use Rattle.hg_labels.proofs.Positions.{position-None}
use Rattle.hg_trace.specs.declared.stored.StoredCommand.{StoredCommand}
use Rattle.hg_trace.specs.declared.stored.StoredCommand.TheVariants as stored
use Rattle.hg_trace.specs.Stored.{IsNumber, IsNumbered, command_in}

-- a name stands where it was found
pub stands : (names : List (List ℕ)) (name : List ℕ) (n : ℕ) → position (λ known. bytes_eq name known) names ≡ Some n → slice_get names n ≡ Some name
stands names name n found =
    let (within, passes, first) = position-Some (λ known. bytes_eq name known) names n [] found in
    slice_get-get_or names n [] within ∙ ap Some (sym ((bytes_eq-Decides name (get_or names n [])).0 passes))

-- one that isn't found is new
pub is_new : (names : List (List ℕ)) (name : List ℕ) → position (λ known. bytes_eq name known) names ≡ None → not (list_any (λ known. bytes_eq name known) names) ≡ true
is_new names name none =
    ap not (list_any_none (λ known. bytes_eq name known) names (position-None (λ known. bytes_eq name known) names none))

-- what holds of what a call gives
pub if_ok : {A B : Type 0} {P Q : A → Type 0} (r : Result A B) → IfOk r P → ((x : A) → P x → Q x) → IfOk r Q
if_ok (Ok x) p f = f x p
if_ok (Err e) p f = tt

-- what comes behind a list stands at its length
pub stands_behind : {X : Type 0} (xs : List X) (x : X) → slice_get (xs ++ x ∷ []) (length xs) ≡ Some x
stands_behind [] x = refl
stands_behind (y ∷ xs) x = stands_behind xs x

-- a number that stands for an element stands for it still where others come behind
pub still : {X : Type 0} (xs ys : List X) (n : ℕ) → is_some (slice_get xs n) ≡ true → slice_get (xs ++ ys) n ≡ slice_get xs n
still [] ys n e = absurd (cc)
still (x ∷ xs) ys zero e = refl
still (x ∷ xs) ys (suc n) e = still xs ys n e

-- the numbers of one list stand for the same in the other
abbrev pub Keeps : List (List ℕ) → List (List ℕ) → Type 0
Keeps old new = (n : ℕ) → IsNumber old n → slice_get new n ≡ slice_get old n

pub keeps_more : (xs ys : List (List ℕ)) → Keeps xs (xs ++ ys)
keeps_more xs ys n e = still xs ys n e

module _ (names names' labels labels' : List (List ℕ)) (named : Keeps names names') (labelled : Keeps labels labels') where
  pub command_kept : (c : StoredCommand) → IsNumbered names labels c → command_in names' labels' c ≡ command_in names labels c
  command_kept (stored.Alloc actor arena bytes None) (a, b, l) = rw (named actor a, named arena b) refl
  command_kept (stored.Alloc actor arena bytes (Some label)) (a, b, l) = rw (named actor a, named arena b, labelled label l) refl
  command_kept (stored.Free actor block) a = rw (named actor a) refl
  command_kept stored.Deliver a = refl
  command_kept (stored.Take segment) a = refl
  command_kept stored.Collect a = refl
  command_kept (stored.Read actor block index) a = rw (named actor a) refl
  command_kept (stored.Write actor block index value) a = rw (named actor a) refl
  command_kept (stored.Look actor place) a = rw (named actor a) refl
  command_kept (stored.List actor) a = rw (named actor a) refl
  command_kept (stored.Abandon segment) a = refl
  command_kept (stored.Refill arena) a = rw (named arena a) refl

  number_kept : (n : ℕ) → IsNumber names n → IsNumber names' n
  number_kept n e = ap is_some (named n e) ∙ e

  pub numbered_kept : (c : StoredCommand) → IsNumbered names labels c → IsNumbered names' labels' c
  numbered_kept (stored.Alloc actor arena bytes None) (a, b, l) = (number_kept actor a, number_kept arena b, tt)
  numbered_kept (stored.Alloc actor arena bytes (Some label)) (a, b, l) = (number_kept actor a, number_kept arena b, ap is_some (labelled label l) ∙ l)
  numbered_kept (stored.Free actor block) a = number_kept actor a
  numbered_kept stored.Deliver a = tt
  numbered_kept (stored.Take segment) a = tt
  numbered_kept stored.Collect a = tt
  numbered_kept (stored.Read actor block index) a = number_kept actor a
  numbered_kept (stored.Write actor block index value) a = number_kept actor a
  numbered_kept (stored.Look actor place) a = number_kept actor a
  numbered_kept (stored.List actor) a = number_kept actor a
  numbered_kept (stored.Abandon segment) a = tt
  numbered_kept (stored.Refill arena) a = number_kept arena a

-- Names stay found.
use Rattle.std.proofs.Common.{◌≡◌, ◌≢◌, ℕ, ◌+◌, ◌<◌, ◌≤◌, true, false, List, Some, Bor, Contains, slice_get, subst}
use Rattle.std.proofs.Common.{⊎_elim, inl, inr, sym, ap, ◌∙◌, arith}
use Rattle.std.specs.BTreeMap as tree
use Rattle.std.specs.BTreeMap.{BTreeMap}
use Rattle.std.specs.Cmp.Lexicographic.{slice_cmp}
use Rattle.std.specs.Ordering.{nat_cmp}
use Rattle.std.specs.Str.{bytes_eq}
use Rattle.std.proofs.lemmas.Bool.{cases_Bool, cases_lt, cond-true, cond-false}
use Rattle.std.proofs.lemmas.Option.{same_Some}
use Rattle.hg_labels.specs.Hash.{hash_of}
use Rattle.std.proofs.lemmas.Map.Text.{btree_map_updates_str}
use Rattle.std.proofs.lemmas.Slice.Eq.{bytes_eq-Decides}
use Rattle.hg_labels.specs.Slots.{slot_of, IsFull}
use Rattle.hg_labels.specs.Indexes.{home, spilled_at, Finds, IsEachOnce}
use Rattle.hg_labels.specs.declared.index.Index.{Index}
use Rattle.hg_labels.specs.declared.slot.Slot.{Slot}

-- a name is found where the buckets and the tree have kept what they had
pub Finds-through : (old new : Index) (at : ℕ) (other : List ℕ) (place : ℕ)
    → ((slot : Slot) → slot.number ≢ 0 → Contains (home old.buckets.items at) slot → Contains (home new.buckets.items at) slot)
    → (IsFull (home old.buckets.items at) → IsFull (home new.buckets.items at))
    → (spilled_at old other ≡ Some place → spilled_at new other ≡ Some place) → Finds old at other place → Finds new at other place
Finds-through old new at other place stays full spilled found =
    ⊎_elim (λ kept. inl (stays (slot_of at place) (λ e. absurd (omega arith)) kept)) (λ kept. inr (full kept.0, spilled kept.1)) found

-- what is spilled is found after a name is spilled too, unless that name has another number
pub spilled_through : (old new : BTreeMap (Bor (List ℕ)) ℕ) (name : Bor (List ℕ)) (number : ℕ)
    → tree.UpdatesBy (λ x y. slice_cmp nat_cmp x.now y.now) (λ k. slice_cmp nat_cmp name.now k.now) old new (Some number)
    → (other : List ℕ) (place : ℕ) → (other ≡ name.now → place ≡ number)
    → tree.get_by (λ k. slice_cmp nat_cmp other k.now) old ≡ Some place → tree.get_by (λ k. slice_cmp nat_cmp other k.now) new ≡ Some place
spilled_through old new name number updates other place same was =
    let now = btree_map_updates_str name.now old new (Some number) updates other in
    ⊎_elim
    (λ (yes : bytes_eq name.now other ≡ true). now ∙ cond-true _ _ _ yes ∙ ap Some (sym (same (sym ((bytes_eq-Decides name.now other).0 yes)))))
    (λ (no : bytes_eq name.now other ≡ false). now ∙ cond-false _ _ _ no ∙ was)
    (cases_Bool (bytes_eq name.now other))

-- one name more is found
pub entered : (old new : Index) (names : List (List ℕ)) (number : ℕ) (name : List ℕ) → IsEachOnce names → slice_get names number ≡ Some name
    → Finds new (hash_of name) name number
    → ((at : ℕ) (other : List ℕ) (place : ℕ) → (other ≡ name → place ≡ number) → Finds old at other place → Finds new at other place)
    → ((place : ℕ) (other : List ℕ) → place < number → slice_get names place ≡ Some other → Finds old (hash_of other) other place)
    → (place : ℕ) (other : List ℕ) → place < number + 1 → slice_get names place ≡ Some other → Finds new (hash_of other) other place
entered old new names number name once there entry others before place other lt at =
    ⊎_elim
    (λ (less : place < number). others (hash_of other) other place (λ e. once.same place number name (at ∙ ap Some e) there) (before place other less at))
    (λ (here : number ≤ place). let same : number ≡ place = omega arith in
    let e : name ≡ other = same_Some _ _ (sym there ∙ ap (slice_get names) same ∙ at) in
    subst (λ text. Finds new (hash_of text) text place) e (subst (Finds new (hash_of name) name) same entry))
    (cases_lt place number)

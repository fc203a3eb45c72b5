-- The links that lists are kept by.
use Rattle.std.specs.Prelude.{◌≡◌, ℕ, zero, suc, ◌<◌, ◌^◌, ◌==◌, List, [], length, map}
use Rattle.std.specs.Prelude.{slice_index, slice_index_or, slice_set, count_by}
use Rattle.std.specs.List.{AllByRecursion}
use Rattle.std.specs.Box.{boxed_slice_items}
use Rattle.hg_lists.specs.Chains.{chain, IsDouble}
use Rattle.hg_lists.specs.Repeats.{IsIn, HasNoRepeats}
use Rattle.hg_lists.specs.Lists.{Lists}
use Rattle.hg_lists.specs.declared.index_lists.IndexLists.TheInside.{Inside}

-- the entry stands in a list of this key
abbrev pub IsOwned : ℕ → List ℕ → ℕ → ℕ → Type 0
IsOwned entries owner key entry = (entry < entries) × (slice_index owner entry ≡ suc key)

-- the links of so many lists of so many entries, where an owner is 0 or a key plus 1
pub record Links (keys entries : ℕ) (heads next prev owner : List ℕ) (lists : List (List ℕ))
    : Type 0 where
  pub few_keys : keys < 2 ^ 16
  pub few_entries : entries < 2 ^ 16
  pub all_heads : length heads ≡ keys
  pub all_next : length next ≡ entries
  pub all_prev : length prev ≡ entries
  pub all_owners : length owner ≡ entries
  pub all : length lists ≡ keys
  pub linked : (key : ℕ) → key < keys
      → IsDouble (slice_index next) (slice_index prev) 0 (slice_index heads key)
      (slice_index_or lists key [])
  pub apart : (key : ℕ) → key < keys → HasNoRepeats (slice_index_or lists key [])
  pub owned : (key : ℕ) → key < keys
      → AllByRecursion (IsOwned entries owner key) (slice_index_or lists key [])
  pub counted : (key : ℕ) → key < keys
      → length (slice_index_or lists key []) ≡ count_by (λ o. o == suc key) owner
  pub found : (entry key : ℕ) → entry < entries → slice_index owner entry ≡ suc key
      → (key < keys) × IsIn entry (slice_index_or lists key [])

-- the lists that links show
abbrev pub lists_of : Inside → Lists
lists_of a =
    let heads : List ℕ = boxed_slice_items a.heads in
    record {
      by_key = map (chain (length a.owner) (slice_index a.next)) heads;
      entries = length a.owner;
    }

-- the links of some lists, which are those that they show
abbrev pub AreLinked : Inside → Type 0
AreLinked a =
    let heads : List ℕ = boxed_slice_items a.heads in
    Links (length heads) (length a.owner) heads a.next a.prev a.owner (lists_of a).by_key

-- links with what one of them leads to written over
abbrev pub write_at : List ℕ → ℕ → ℕ → List ℕ
write_at links zero value = links
write_at links (suc i) value = slice_set links i value

-- heads where what follows an entry comes first, if nothing stands before it
abbrev pub first_at : List ℕ → ℕ → ℕ → ℕ → List ℕ
first_at heads key zero after = slice_set heads key after
first_at heads key (suc i) after = heads

-- Lists of numbered entries, one for each key.
use Rattle.std.specs.Prelude.{◌≡◌, ℕ, ◌<◌, ◌==◌, if◌then◌else◌, not, List, [], ◌∷◌, filter}
use Rattle.std.specs.Prelude.{Contains, Option, None, slice_get, slice_index_or, slice_set, map}
use Rattle.hg_lists.specs.Repeats.{HasNoRepeats}

-- the list of each key, and how many entries there are: an entry is a number below
pub record Lists : Type 0 where
  pub by_key : List (List ℕ)
  pub entries : ℕ

-- the list of a key
abbrev pub list_of : Lists → ℕ → List ℕ
list_of m key = slice_index_or m.by_key key []

-- the entry stands in a list
abbrev pub IsSomewhere : Lists → ℕ → Type 0
IsSomewhere m entry = (key : ℕ) × Contains (list_of m key) entry

-- the entry stands in none
abbrev pub IsNowhere : Lists → ℕ → Type 0
IsNowhere m entry = (key : ℕ) → ¬ Contains (list_of m key) entry

-- each entry stands at most once in all lists together
pub record AreApart (m : Lists) : Type 0 where
  pub below : (key entry : ℕ) → Contains (list_of m key) entry → entry < m.entries
  pub once : (key : ℕ) → HasNoRepeats (list_of m key)
  pub alone : (entry key other : ℕ)
      → Contains (list_of m key) entry → Contains (list_of m other) entry → key ≡ other

-- a list without an entry
abbrev pub without : ℕ → List ℕ → List ℕ
without entry entries = filter (λ other. not (other == entry)) entries

-- what follows an entry on a list
abbrev pub follower : ℕ → List ℕ → Option ℕ
follower entry [] = None
follower entry (x ∷ xs) = if x == entry then slice_get xs 0 else follower entry xs

-- the lists with an entry in front of a key's
abbrev pub with_front : Lists → ℕ → ℕ → Lists
with_front m key entry = record m { by_key = slice_set m.by_key key (entry ∷ list_of m key) }

-- the lists with an entry in none of them
abbrev pub without_entry : Lists → ℕ → Lists
without_entry m entry = record m { by_key = map (without entry) m.by_key }

-- A place that is taken back, over slot words of any kind.
use Rattle.std.specs.Prelude.{◌≡◌, ◌⊎◌, ℕ, List, true, false, slice_set}
use Rattle.hg_place.specs.declared.standing.Standing.{Standing}
use Rattle.hg_place.specs.declared.standing.Standing.TheVariants.{Home}
use Rattle.hg_place.specs.Lives.{word_life}
use Rattle.hg_place.specs.Standings.{standing_at, is_home, standing_generation}

module _ {S : Type 0} (records : S → List Standing) (shows : S → ℕ → ℕ → Type 0)
    (steps : S → ℕ → ℕ → ℕ → S → Type 0) where
  -- the place was open, one step found its life ended, and it is home now
  pub record Took (at : ℕ) (s t : S) : Type 0 where
    pub was : is_home (standing_at (records s) at) ≡ false
    pub word : ℕ
    pub ended : word_life word ≡ 0
    pub shown : shows s at word
    pub step : steps s at word word t
    pub home :
        records t
        ≡ slice_set (records s) at (Home (standing_generation (standing_at (records s) at)))

  -- it was home, and no step was made, or one found it live; the records are as they were
  abbrev pub Passed : ℕ → S → S → Type 0
  Passed at s t =
      ((is_home (standing_at (records s) at) ≡ true) × (t ≡ s))
      ⊎ ((word : ℕ) × (word_life word ≡ 1) × shows s at word × steps s at word word t
      × (records t ≡ records s))

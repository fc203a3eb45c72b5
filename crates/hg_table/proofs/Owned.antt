-- The records of a segment's seat, and the words that are packed for it.
use Rattle.std.proofs.Common.{◌≡◌, ℕ, ◌+◌, ◌-◌, ◌*◌, ◌<◌, ◌≤◌, ◌^◌, true, List, [], ◌∷◌, length, sym, ap, ◌∙◌, subst, arith}
use Rattle.hg_place.specs.declared.standing.Standing.{Standing}
use Rattle.hg_place.specs.declared.standing.Standing.TheVariants.{Home}
use Rattle.hg_place.specs.declared.geometry.TheConstants.{SEGMENT_PLACES}
use Rattle.hg_place.specs.Words.{word_of}
use Rattle.hg_place.specs.Lives.{IsLiveWord, word_generation, word_life}
use Rattle.hg_place.specs.Standings.{standing_at, is_home, standing_generation}
use Rattle.hg_table.specs.View.{View, HasRecord, part_of}
use Rattle.hg_table.specs.Steps.{record_of, IsAlone, MayMake, open_as, close_from, take_home}
use Rattle.hg_table.specs.Seats.{word_at}

-- a live word
pub live_is : (g o w : ℕ) → w ≡ word_of g o true → 1 ≤ g → g < 2 ^ 32 → o < 64 → IsLiveWord w × (word_generation w ≡ g) × (word_life w ≡ 1)
live_is g o w is given below tenant = (((omega arith, omega arith, λ l. absurd (omega arith)), omega arith), omega arith, omega arith)

module _ (segment slot p : ℕ) (view : View) (records : List Standing) (one : view ≡ part_of view ∷ []) (first : (part_of view).first ≡ segment * SEGMENT_PLACES + 1)
    (same : (part_of view).records ≡ records) (sized : length records ≡ SEGMENT_PLACES) (below : slot < SEGMENT_PLACES) (is : p ≡ word_at segment slot) where
  owned : HasRecord p (part_of view)
  owned = (slot, subst (λ (l : List Standing). slot < length l) (sym same) (omega arith), omega arith)

  record_is : record_of p (part_of view) ≡ standing_at records slot
  record_is = let at : p - (part_of view).first ≡ slot = omega arith in ap (λ (k : ℕ). standing_at (part_of view).records k) at ∙ ap (λ (l : List Standing). standing_at l slot) same

  alone : IsAlone p view
  alone = (omega arith, one)

  pub may_close : (old : ℕ) → IsLiveWord old → MayMake (close_from old) p view
  may_close old live = (alone, (live, owned))

  pub may_take : MayMake take_home p view
  may_take = (alone, owned)

  pub may_open : (g o live : ℕ) (st : Standing) → st ≡ standing_at records slot → st ≡ Home g → live ≡ word_of (g + 1) o true → g + 1 < 2 ^ 32 → o < 64 → MayMake (open_as live) p view
  may_open g o live st read home packed fits tenant = let l = live_is (g + 1) o live packed (omega arith) fits tenant in let here : record_of p (part_of view) ≡ Home g = record_is ∙ (sym read ∙ home) in
      (alone, (l.0, owned, ap is_home here, l.1 ∙ sym (ap (λ (s : Standing). standing_generation s + 1) here)))

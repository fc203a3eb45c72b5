-- Segments of a pool come over to another, of segments over plain words.
use Rattle.std.specs.Prelude.{◌≡◌, ◌≢◌, ℕ, List, [], ◌∷◌, ◌++◌, Some, Contains}
use Rattle.hg_lists.specs.Inserts.{Inserts}
use Rattle.hg_place.specs.declared.geometry.TheConstants.{SEGMENT_PLACES}
use Rattle.hg_place.specs.declared.plain.PlainWords.{PlainWords}
use Rattle.hg_place.specs.declared.standing.Standing.{Standing}
use Rattle.hg_place.specs.Plain.{plain_records}
use Rattle.hg_segment.specs.Copies.{Copies, IsRewrapped}
use Rattle.hg_segment.specs.Kept.{Kept}
use Rattle.hg_segment.specs.Parted.{plain_number}
use Rattle.hg_pool.specs.Pooled.{Pooled, IsPooled, IsRight, first_in, numbers, without_segment}

module _ {S : Type 0} (number : S → ℕ) (records : S → List Standing)
    (shows : S → ℕ → ℕ → Type 0) (steps : S → ℕ → ℕ → ℕ → S → Type 0) where
  -- it is that segment over plain words: of its number, with its records, each word one that a look
  -- by the segment's seat could have shown, one place after the other, and else as it was
  pub record IsPlainOf (one : Kept S) (now : Kept PlainWords) : Type 0 where
    pub number_is : plain_number now.slots ≡ number one.slots
    pub records_are : plain_records now.slots ≡ records one.slots
    pub words_before : PlainWords
    pub seat_after : S
    pub copied :
        Copies records shows steps SEGMENT_PLACES one.slots words_before seat_after now.slots
    pub rest : IsRewrapped one now

  -- the segment that stands first, of this number, stands in the other pool over plain words: behind
  -- the orphans where it was one, else among the fresh ones
  pub record HasMoved (segment : ℕ) (old new : Pooled S) (to_old to_new : Pooled PlainWords)
      : Type 0 where
    pub one : Kept S
    pub now : Kept PlainWords
    pub right : IsRight number old
    pub first : first_in old ≡ Some one
    pub numbered : number one.slots ≡ segment
    pub plain : IsPlainOf one now
    pub left : new ≡ without_segment number old segment
    pub orphan :
        old.orphans ≢ []
        → (to_new.orphans ≡ to_old.orphans ++ now ∷ []) × (to_new.fresh ≡ to_old.fresh)
    pub fresh :
        old.orphans ≡ []
        → Inserts now to_old.fresh to_new.fresh × (to_new.orphans ≡ to_old.orphans)

  -- all segments of a pool have come over, and no other; the orphans in their order
  pub record AreOver (old : Pooled S) (new : Pooled PlainWords) : Type 0 where
    pub each :
        (now : Kept PlainWords) → Contains (new.orphans ++ new.fresh) now
        → (one : Kept S) × Contains (old.orphans ++ old.fresh) one × IsPlainOf one now
    pub there :
        (one : Kept S) → Contains (old.orphans ++ old.fresh) one
        → IsPooled plain_number new (number one.slots)
    pub orphans : numbers plain_number new.orphans ≡ numbers number old.orphans
    pub right : IsRight plain_number new

-- A segment's seat takes in another, looks, and lets it go.
use Rattle.std.proofs.Common.{◌≡◌, ℕ, ◌+◌, List, [], ◌∷◌, ◌++◌, map, length, take, drop, sym, ap, ◌∙◌, subst, append-nil}
use Rattle.std.proofs.Math.Seq.{take-length, drop-length}
use lib.ListN.{get_elem?}
use Rattle.hg_table.specs.Told.{IsShown, IsShownTo}
use Rattle.hg_table.specs.Seats.{word_at, HaveMet}
use Rattle.hg_table.specs.View.{View, saw, part_of}
use Rattle.hg_table.proofs.Meeting.{left_is, right_is, they_met}
use Rattle.hg_run_table.specs.declared.part.Part.{Part}
use Rattle.hg_run_table.specs.declared.table.RunSeat.{RunSeat}
use Rattle.hg_run_table.specs.Segments.{place_at, MayMeet, MeetIn}
use Rattle.hg_run_table.specs.Told.{ArePartsApart}

-- of one part the first is all
pub all_kept : (v v' : View) → v ≡ part_of v ∷ [] → v' ≡ take 1 v → v' ≡ v
all_kept v v' one is = is ∙ ap (λ (z : View). take 1 z) one ∙ sym one

pub none_given : (v v' : View) → v ≡ part_of v ∷ [] → v' ≡ drop 1 v → v' ≡ []
none_given v v' one is = is ∙ ap (λ (z : View). drop 1 z) one

-- the word that both see is shown to the first
pub shown_first : (segment slot number word : ℕ) (v v' w both : View) → number ≡ place_at segment slot → v ≡ part_of v ∷ [] → v' ≡ take 1 v → both ≡ v' ++ w → IsShownTo (number + 1) word both
    → IsShown (word_at segment slot) word (part_of v)
shown_first segment slot number word v v' w both is one kept joined shown =
    subst (λ (n : ℕ). IsShown (n + 1) word (part_of v)) is
    (shown 0 (part_of v) (ap (λ (z : View). get_elem? z 0) (joined ∙ ap (λ (z : View). z ++ w) (all_kept v v' one kept ∙ one))))

-- the seat before, without what was taken in, once it has taken that in, after the look, and after the cut; the
-- other before and after
pub record Course (number word : ℕ) (old alone both seen new other other' : RunSeat) : Type 0 where
  pub one : old.seat.me.0.lives ≡ part_of old.seat.me.0.lives ∷ []
  pub alone_lives : alone.seat.me.0.lives ≡ take 1 old.seat.me.0.lives
  pub alone_run : alone.seat.me.0.run ≡ take (length old.seat.me.0.run) old.seat.me.0.run
  pub both_lives : both.seat.me.0.lives ≡ alone.seat.me.0.lives ++ other.seat.me.0.lives
  pub both_run : both.seat.me.0.run ≡ alone.seat.me.0.run ++ other.seat.me.0.run
  pub shown : IsShownTo (number + 1) word both.seat.me.0.lives
  pub apart : ArePartsApart both.seat.me.0.lives
  pub seen_lives : seen.seat.me.0.lives ≡ map (saw (number + 1) word) both.seat.me.0.lives
  pub seen_run : seen.seat.me.0.run ≡ both.seat.me.0.run
  pub new_lives : new.seat.me.0.lives ≡ take 1 seen.seat.me.0.lives
  pub new_run : new.seat.me.0.run ≡ take (length seen.seat.me.0.run) seen.seat.me.0.run
  pub given_lives : other'.seat.me.0.lives ≡ drop 1 seen.seat.me.0.lives
  pub given_run : other'.seat.me.0.run ≡ drop (length seen.seat.me.0.run) seen.seat.me.0.run
  pub same : new.seat.table_id ≡ old.seat.table_id
  pub same_other : other'.seat.table_id ≡ old.seat.table_id

module _ (segment slot number word : ℕ) (old alone both seen new other other' : RunSeat) (is : number ≡ place_at segment slot) (may : MayMeet old other)
    (c : Course number word old alone both seen new other other') where
  joined : both.seat.me.0.lives ≡ old.seat.me.0.lives ++ other.seat.me.0.lives
  joined = c.both_lives ∙ ap (λ (l : View). l ++ other.seat.me.0.lives) (all_kept old.seat.me.0.lives alone.seat.me.0.lives c.one c.alone_lives)

  run_was : seen.seat.me.0.run ≡ old.seat.me.0.run
  run_was =
      c.seen_run ∙ c.both_run
      ∙ ap (λ (l : List Part). l ++ other.seat.me.0.run)
      (c.alone_run ∙ take-length old.seat.me.0.run)
      ∙ ap (λ (l : List Part). old.seat.me.0.run ++ l) may.bare
      ∙ append-nil old.seat.me.0.run

  pub new_is : new.seat.me.0.lives ≡ saw (number + 1) word (part_of old.seat.me.0.lives) ∷ []
  new_is = left_is (number + 1) word old.seat.me.0.lives other.seat.me.0.lives both.seat.me.0.lives seen.seat.me.0.lives c.one may.one joined c.seen_lives c.apart
      new.seat.me.0.lives other'.seat.me.0.lives c.shown c.new_lives c.given_lives

  given_is : other'.seat.me.0.lives ≡ saw (number + 1) word (part_of other.seat.me.0.lives) ∷ []
  given_is = right_is (number + 1) word old.seat.me.0.lives other.seat.me.0.lives both.seat.me.0.lives seen.seat.me.0.lives c.one may.one joined c.seen_lives c.apart
      new.seat.me.0.lives other'.seat.me.0.lives c.shown c.new_lives c.given_lives

  pub have_met : MeetIn segment slot word old other new other'
  have_met = record {
    met = subst (λ (n : ℕ). HaveMet (n + 1) word (part_of old.seat.me.0.lives) (part_of other.seat.me.0.lives) (part_of new.seat.me.0.lives) (part_of other'.seat.me.0.lives)) is
        (they_met (number + 1) word old.seat.me.0.lives other.seat.me.0.lives both.seat.me.0.lives seen.seat.me.0.lives c.one may.one joined c.seen_lives c.apart
        new.seat.me.0.lives other'.seat.me.0.lives c.shown c.new_lives c.given_lives);
    same = c.same;
    same_other = c.same_other ∙ sym may.same;
    one_part = given_is ∙ ap (λ part. part ∷ []) (sym (ap part_of given_is));
    run = c.new_run ∙ take-length seen.seat.me.0.run ∙ run_was;
    bare = c.given_run ∙ drop-length seen.seat.me.0.run;
  }

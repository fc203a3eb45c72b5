-- What is taken in ends no life.
use Rattle.std.proofs.Common.{◌≡◌, ◌⊎◌, ℕ, List, [], ◌∷◌, map}
use Rattle.std.proofs.Common.{Some, None}
use Rattle.std.proofs.Common.{sym, ap, subst, ◌∙◌, ⊎_elim, inl, inr}
use Rattle.std.specs.Prelude.{Option, option_map, Contains}
use Rattle.hg_place.specs.Places.{page_of, index_of}
use Rattle.hg_segment.specs.Kept.{Kept}
use Rattle.hg_heap.specs.Held.{Held, segment_in}
use Rattle.hg_heap.specs.Taking.{IsAnother, IsTaken, IsPassed, Takes}
use Rattle.hg_heap.proofs.Founds.{map_same, pair, told_in}
use Rattle.hg_table.specs.declared.segment.UnnamedSegment.{UnnamedSegment}
use Rattle.hg_table.specs.declared.view.Part.{Part}
use Rattle.hg_table.proofs.Told.{not_ended}
use Rattle.hg_worker.specs.Had.{Had}
use Rattle.hg_worker.specs.Seats.{number_in, records_in, part_of_seat, seat_shows, seat_steps}
use Rattle.hg_worker.specs.Seen.{EndsNothing}
use Rattle.hg_worker.proofs.Hands.{SawMore, Grown, the_same, some_left, set_grown, grown_on}

abbrev ended_of : Kept UnnamedSegment → List (ℕ × ℕ)
ended_of k = (part_of_seat k.slots).ended

abbrev ends : List (Kept UnnamedSegment) → List (ℕ × List (ℕ × ℕ))
ends segments = map (pair number_in ended_of) segments

another_ends : (segment : ℕ) (old new : List (Kept UnnamedSegment))
    (a : IsAnother number_in segment old new) → ended_of a.after ≡ ended_of a.before
    → ends new ≡ ends old
another_ends segment old new a same =
    ap ends a.now
    ∙ map_same (pair number_in ended_of) old a.found a.before a.after a.at
    (ap (λ (n : ℕ). (n, ended_of a.after)) (a.number_kept ∙ sym a.number_is)
    ∙ ap (λ (l : List (ℕ × ℕ)). (number_in a.before.slots, l)) same)

link_ends : (segment page index : ℕ) (old new : Held UnnamedSegment)
    → IsTaken number_in records_in seat_shows seat_steps segment page index old new
    ⊎ IsPassed number_in records_in seat_shows seat_steps segment page index old new
    → ends new.segments ≡ ends old.segments
link_ends segment page index old new either =
    ⊎_elim
    (λ (t : IsTaken number_in records_in seat_shows seat_steps segment page index old new).
    (let took = t.home.took in
    another_ends segment old.segments new.segments t.another
    (took.step.step.2 ∙ not_ended _ took.word took.word (ended_of t.another.before) (λ e. e))))
    (λ (p : IsPassed number_in records_in seat_shows seat_steps segment page index old new).
    another_ends segment old.segments new.segments p.another
    (⊎_elim (λ still. ap (λ s. (part_of_seat s).ended) still.1)
    (λ stepped. stepped.3.step.2
    ∙ not_ended _ stepped.0 stepped.0 (ended_of p.another.before) (λ e. e))
    p.away.passed))
    either

pub taking_ends : (segment count : ℕ) (places : List ℕ) (old new : Held UnnamedSegment)
    → Takes number_in records_in seat_shows seat_steps segment places old new count
    → ends new.segments ≡ ends old.segments
taking_ends segment count [] old new t =
    ap (λ (h : Held UnnamedSegment). ends h.segments) t.0
taking_ends segment count (place ∷ places) old new t =
    taking_ends segment t.1 places t.0 new t.2
    ∙ link_ends segment (page_of place) (index_of place) old t.0
    (⊎_elim (λ taken. inl taken.0) (λ passed. inr passed.0) t.3)

both : (o q : Option (Kept UnnamedSegment)) (a b : Part)
    → option_map ended_of q ≡ option_map ended_of o
    → option_map (λ (k : Kept UnnamedSegment). part_of_seat k.slots) o ≡ Some a
    → option_map (λ (k : Kept UnnamedSegment). part_of_seat k.slots) q ≡ Some b
    → b.ended ≡ a.ended
both None q a b e f g = absurd (cc)
both (Some k) None a b e f g = absurd (cc)
both (Some k) (Some j) a b e f g =
    let mine : part_of_seat k.slots ≡ a = cc in
    let theirs : part_of_seat j.slots ≡ b = cc in
    let same : ended_of j ≡ ended_of k = cc in
    ap (λ (p : Part). p.ended) (sym theirs) ∙ same ∙ ap (λ (p : Part). p.ended) mine

pub taking_leaves_lives : (segment count : ℕ) (places : List ℕ)
    (old new : Had UnnamedSegment) → new.own ≡ old.own
    → Takes number_in records_in seat_shows seat_steps segment places old.heap new.heap count
    → EndsNothing number_in part_of_seat old new
taking_leaves_lives segment count places old new own t = record {
  own = ap (λ (p : Part). p.ended) own;
  segments = λ other a b e f.
      both (segment_in number_in old.heap.segments other)
      (segment_in number_in new.heap.segments other) a b
      (told_in number_in ended_of old.heap.segments new.heap.segments
      (taking_ends segment count places old.heap new.heap t) other) e f;
}

another_grown : (segment : ℕ) (old new : List (Kept UnnamedSegment))
    (a : IsAnother number_in segment old new)
    → SawMore (part_of_seat a.before.slots) (part_of_seat a.after.slots)
    → Grown number_in part_of_seat old new
another_grown segment old new a more =
    set_grown number_in part_of_seat old new a.found a.before a.after a.at a.now
    (a.number_kept ∙ sym a.number_is) more

link_grown : (segment page index : ℕ) (old new : Held UnnamedSegment)
    → IsTaken number_in records_in seat_shows seat_steps segment page index old new
    ⊎ IsPassed number_in records_in seat_shows seat_steps segment page index old new
    → Grown number_in part_of_seat old.segments new.segments
link_grown segment page index old new either =
    ⊎_elim
    (λ (t : IsTaken number_in records_in seat_shows seat_steps segment page index old new).
    another_grown segment old.segments new.segments t.another
    (record { more = _; seen = t.home.took.step.step.1 }))
    (λ (p : IsPassed number_in records_in seat_shows seat_steps segment page index old new).
    another_grown segment old.segments new.segments p.another
    (⊎_elim
    (λ still. subst (λ s. SawMore (part_of_seat p.another.before.slots) (part_of_seat s))
    (sym still.1) (the_same (part_of_seat p.another.before.slots)))
    (λ stepped. record { more = _; seen = stepped.3.step.1 })
    p.away.passed))
    either

-- what is taken in leaves what was seen
pub taking_grown : (segment count : ℕ) (places : List ℕ) (old new : Held UnnamedSegment)
    → Takes number_in records_in seat_shows seat_steps segment places old new count
    → Grown number_in part_of_seat old.segments new.segments
taking_grown segment count [] old new t =
    some_left number_in part_of_seat
    (λ k c. subst (λ (h : Held UnnamedSegment). Contains h.segments k) t.0 c)
taking_grown segment count (place ∷ places) old new t =
    grown_on number_in part_of_seat
    (link_grown segment (page_of place) (index_of place) old t.0
    (⊎_elim (λ taken. inl taken.0) (λ passed. inr passed.0) t.3))
    (taking_grown segment t.1 places t.0 new t.2)

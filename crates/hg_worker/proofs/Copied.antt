-- A segment of which each word was looked at is of its number still.
use Rattle.std.proofs.Common.{◌≡◌, ℕ, refl, ◌∙◌, arith}
use Rattle.hg_place.specs.declared.plain.PlainWords.{PlainWords}
use Rattle.hg_segment.specs.Copies.{Copies, none, more}
use Rattle.hg_table.specs.declared.segment.UnnamedSegment.{UnnamedSegment}
use Rattle.hg_worker.specs.Seats.{number_in, records_in, part_of_seat, seat_shows, seat_steps}

-- where its seat's words begin stays
same_first : (n : ℕ) (s t : UnnamedSegment) (p q : PlainWords)
    → Copies records_in seat_shows seat_steps n s p t q
    → (part_of_seat t).first ≡ (part_of_seat s).first
same_first _ s t p q none = refl
same_first _ s t p q (more before here) = here.step.step.0 ∙ same_first _ s _ p _ before

pub same_number : (n : ℕ) (s t : UnnamedSegment) (p q : PlainWords)
    → Copies records_in seat_shows seat_steps n s p t q → number_in t ≡ number_in s
same_number n s t p q copied =
    let same = same_first n s t p q copied in
    let new = t.first in
    let old = s.first in
    omega (arith, same, new, old)

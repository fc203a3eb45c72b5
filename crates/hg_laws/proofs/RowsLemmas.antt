-- The row of a look by its parts.
use Rattle.std.proofs.Common.{◌≡◌, refl, sym, ap, subst, ◌∙◌}
use Rattle.hg_place.specs.declared.Place.{Place}
use Rattle.hg_place.specs.Places.{number_of}
use Rattle.hg_machine.specs.declared.Event.TheVariants as event
use Rattle.hg_machine.specs.declared.Answer.TheVariants as answer
use Rattle.hg_machine.specs.declared.Row.{Row}
use Rattle.hg_machine.specs.State.{State}
use Rattle.hg_machine.specs.Listing.{Line, line_of, line_at}
use Rattle.hg_machine.specs.Served.{IsRow}
use Rattle.hg_laws.specs.Rows.{LooksTellTheirLine}
use Rattle.hg_laws.proofs.Refusals.{was_served}

same_line : (a b : Line) → a.place ≡ b.place → a.generation ≡ b.generation → a.owner ≡ b.owner → a.bytes ≡ b.bytes → a ≡ b
same_line a b p g o n =
    ap (λ x. record { place = x; generation = a.generation; owner = a.owner; bytes = a.bytes }) p
    ∙ ap (λ x. record { place = b.place; generation = x; owner = a.owner; bytes = a.bytes }) g
    ∙ ap (λ x. record { place = b.place; generation = b.generation; owner = x; bytes = a.bytes }) o
    ∙ ap (λ x. record { place = b.place; generation = b.generation; owner = b.owner; bytes = x }) n

told : (s : State) (place : Place) (row : Row) → IsRow s place row → line_of row ≡ line_at s (number_of place)
told s place row h = same_line (line_of row) (line_at s (number_of place)) (ap number_of h.stands) h.generation h.owner h.bytes

row_same : (a b : Row) → answer.Listed a ≡ answer.Listed b → a ≡ b
row_same a b e = cc

pub looks_tell_their_line : LooksTellTheirLine
looks_tell_their_line s w actor place row next h =
    let is = was_served s w (event.Look actor place) (answer.Listed row) next h refl in
    told s place row (subst (IsRow s place) (sym (row_same _ _ is.serves.1)) is.serves.2)

use Rattle.std.proofs.Common.{◌≡◌, ◌++◌, ◌∷◌, [], ap, length, refl, subst, ◌∙◌, arith}
use Rattle.hg_table.specs.View.{part_of}
use Rattle.hg_run_table.specs.Told.{ArePartsApart}
use Rattle.hg_run_worker.proofs.deciding.never_twice.Goals as goal

pub returns : goal.returns
returns c =
    let one = c.args.one.slots in
    let other = c.args.other.slots in
    let mine = part_of one.seat.seat.me.0.lives in
    let theirs = part_of other.seat.seat.me.0.lives in
    let joined : c.join.new.seat.seat.me.0.lives ≡ mine ∷ theirs ∷ [] =
    c.join.ensures.lives
    ∙ (λ i.
    (((ap (λ s. s.seat.me.0.lives) c.into_seat-seat.ensures ∙ ap (λ s. s.seat.seat.me.0.lives) c.into_slots.ensures ∙ one.one) i)
    ++ ((ap (λ s. s.seat.me.0.lives) c.into_seat.ensures ∙ ap (λ s. s.seat.seat.me.0.lives) c.into_slots-2.ensures ∙ other.one) i))) in
    let far = subst ArePartsApart joined c.look.ensures.apart 0 1 mine theirs refl refl (λ e. absurd (omega (arith, e))) in
    let same = c.requires.number in
    let records : length mine.records ≡ 8192 = ap length one.recorded ∙ one.sized in
    let records' : length theirs.records ≡ 8192 = ap length other.recorded ∙ other.sized in
    far.records 0 0 (omega (arith, records)) (omega (arith, records'))
    (omega (arith, one.first, other.first, same))

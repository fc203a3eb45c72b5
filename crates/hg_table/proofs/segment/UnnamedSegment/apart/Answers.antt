use Rattle.std.proofs.Common.{rules, arith, ◌≡◌, ◌+◌, ap, length}
use Rattle.hg_place.specs.declared.geometry.TheConstants.{SEGMENT_PLACES}
use Rattle.hg_table.specs.View.{part_of}
use Rattle.hg_table.proofs.Allowed.{meetings}
use Rattle.hg_table.proofs.ManyParts.{joins_all}
use Rattle.hg_table.proofs.Meeting.{were_apart}
use Rattle.hg_table.proofs.segment.UnnamedSegment.apart.Goals as goal

pub join_seat-requires : goal.join_seat-requires
join_seat-requires c =
    let wide : c.deref.result.now.shared.table_id.words ≡ c.deref.result.now.shared.key + 1 = search rules in
    (search rules, search rules, search rules, omega arith, joins_all _ _ _ _ _)

pub load-requires : goal.load-requires
load-requires c =
    let wide : c.deref.result.now.shared.table_id.words ≡ c.deref.result.now.shared.key + 1 = search rules in
    (search rules, omega arith, meetings _ _ _ _ _ (omega arith))

pub returns : goal.returns
returns c = λ same.
    let one = c.args.self in
    let other = c.args.other in
    let joined = ap (λ m. m.0) c.join_seat.ensures.2 in
    let e = c.load.ensures.2 in
    let far = were_apart _ _ _ _ _ _ one.one other.one joined e.0.1 e.1 in
    let mine : length (part_of one.seat.me.0).records ≡ SEGMENT_PLACES = search rules in
    let theirs : length (part_of other.seat.me.0).records ≡ SEGMENT_PLACES = search rules in
    far.records 0 0 (omega arith) (omega arith) (omega (arith, one.first, other.first, same))

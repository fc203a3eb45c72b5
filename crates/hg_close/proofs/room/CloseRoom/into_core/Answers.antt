use Rattle.hg_audit.specs.Handed.{core_in, parts_in}
use Rattle.hg_close.proofs.Quiet.{is_place, lost, quiet}
use Rattle.hg_close.proofs.room.CloseRoom.into_core.Goals as goal

pub returns-in-Ok-clause-quiet : goal.returns-in-Ok-clause-quiet
returns-in-Ok-clause-quiet c =
    quiet c.args.self c.requires.room_is c.in-Ok.core c.in-Ok.ensures.core c.in-Ok.ensures.kept

pub lost_place-requires : goal.lost_place-requires
lost_place-requires c =
    is_place (parts_in c.args.self.parts) c.in-Err.fault
    (c.left_parts_are_in_order.ensures (core_in c.args.self.parts) c.requires.left)
    c.in-Err.ensures.fault

pub returns-clause-lost : goal.returns-clause-lost
returns-clause-lost c =
    lost c.args.self c.requires.room_is c.in-Err.parts c.in-Err.ensures.unchanged c.in-Err.fault
    c.in-Err.ensures.fault c.lost_place.result c.lost_place.ensures

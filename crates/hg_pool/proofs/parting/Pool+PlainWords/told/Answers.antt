use Rattle.std.proofs.Common.{sym}
use Rattle.hg_segment.specs.Parted.{plain_number}
use Rattle.hg_pool.proofs.Calls.{numbered_as}
use Rattle.hg_pool.proofs.parting.Pool+PlainWords.told.Goals as goal

pub told-requires : goal.told-requires
told-requires c =
    sym (numbered_as plain_number c.args.self.now c.args.place.segment c.at.result.now c.at.ensures)

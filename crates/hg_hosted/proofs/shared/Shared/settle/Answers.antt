use Rattle.hg_hosted.proofs.shared.Shared.settle.Goals as goal

pub settle-segments-requires : goal.settle-segments-requires
settle-segments-requires c = c.requires.2.segments_kept

pub settle-left-requires : goal.settle-left-requires
settle-left-requires c = c.requires.2.left_kept

use Rattle.std.proofs.Common.{◌≡◌}
use Rattle.std.specs.Int.{bit_at}
use Rattle.hg_place.specs.Words.{bit_of}
use Rattle.hg_size.specs.Runs.{is_blank}
use Rattle.hg_segment.specs.Kept.{class_at}
use Rattle.hg_segment.proofs.MarkedLemmas.{mark_told}
use Rattle.hg_segment.proofs.page_classes.PageClasses.is_blank.Goals as goal

pub returns : goal.returns
returns c =
    let here : bit_at c.self.inside.blank c.args.page
    ≡ bit_of (is_blank (class_at c.args.self.now) c.args.page) =
    rw (← c.self.view_is) (c.self.invariant.each c.args.page c.requires) in
    mark_told _ _ _ c.is_marked.ensures here

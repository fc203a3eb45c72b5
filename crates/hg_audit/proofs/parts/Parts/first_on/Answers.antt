use Rattle.std.proofs.Common.{◌∙◌, ◌+◌, ◌*◌, arith, ap, sym}
use Rattle.hg_place.specs.Words.{bit_of}
use Rattle.hg_audit.specs.Handed.{parts_in}
use Rattle.hg_audit.proofs.Counted.{byte_bit}
use Rattle.hg_audit.proofs.Placed.{place_more}
use Rattle.hg_audit.proofs.parts.Parts.first_on.Goals as goal

pub loop-index-preserved : goal.loop-index-preserved
loop-index-preserved c =
    let first = (c.args.segment * 16 + c.args.page) * 512 in
    place_more (parts_in c.args.self.now) first (first + c.loop-index.index) _ (omega arith)
    c.loop-index.invariant
    (sym c.times_out.ensures ∙ c.if-times_out-from.false ∙ c.from.ensures
    ∙ byte_bit c.is_out.result ∙ ap bit_of c.is_out.ensures)

use Rattle.std.proofs.Common.{ap, ◌∙◌, arith, length, length-append, [], ◌∷◌, refl}
use Rattle.hg_segment.proofs.Empties.{one_more}
use Rattle.hg_segment.proofs.lists.empty_pages.Goals as goal

pub loop-number-preserved : goal.loop-number-preserved
loop-number-preserved c = record {
  all = omega (arith, ap length c.push_reserved.ensures.items, length-append c.loop-number.pages.items (c.new.result ∷ []), c.loop-number.invariant.all);
  room = c.push_reserved.ensures.capacity ∙ c.loop-number.invariant.room;
  len = omega (arith, c.push_reserved.ensures.len, c.loop-number.invariant.len);
  empty = one_more c.loop-number.pages.items _ c.loop-number.number _ c.new.result c.loop-number.invariant.all refl c.push_reserved.ensures.items
      (record { linked = c.new.ensures.linked; unlisted = c.new.ensures.unlisted; idle = c.new.ensures.idle; base = c.new.ensures.base }) c.loop-number.invariant.empty;
}

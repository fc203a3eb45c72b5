use Rattle.std.proofs.Common.{◌≡◌, ◌∙◌, [], sym}
use Rattle.std.proofs.lemmas.List.{length-set}
use Rattle.hg_service.proofs.Places.{put_each}
use Rattle.hg_service.proofs.left.Left.put.Goals as goal

pub invariant_of-self : goal.invariant_of-self
invariant_of-self g c = record {
  all = length-set _ _ _ ∙ c.args.self.now.all;
  theirs = put_each (λ k worker. worker.inner.value.number ≡ k) _ c.from-number.result c.args.leaver.own
      (sym (c.from-number.ensures ∙ c.number.ensures)) c.args.self.now.theirs;
  nothing = put_each (λ k worker. worker.inner.value.heap.segments ≡ []) _ c.from-number.result
      c.args.leaver.own c.args.leaver.nothing c.args.self.now.nothing;
}

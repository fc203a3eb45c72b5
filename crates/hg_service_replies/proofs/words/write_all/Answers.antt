use Rattle.std.proofs.Common.{◌≡◌, ◌+◌, [], length, take, Some, None, refl, sym, ap, subst, ◌∙◌, arith, rules}
use Rattle.hg_hosted.specs.Calls.{Writes}
use Rattle.hg_service_replies.specs.Words.{WritesEach, word_index}
use Rattle.hg_service_replies.proofs.WordRuns.{serves_then, serves_like, serves_nothing, writes_more, take_next, length_take}
use Rattle.hg_service_replies.proofs.words.write_all.Goals as goal

pub loop-at-init : goal.loop-at-init
loop-at-init c = record {
  each = serves_nothing (WritesEach c.args.actor c.args.handle c.args.first 0 []) (λ x. refl) c.args.worker.now;
  alone = refl;
}

pub loop-at-preserved : goal.loop-at-preserved
loop-at-preserved c =
    let words = c.args.words.now in
    let at = c.loop-at.at in
    let word = c.word_at-word.result in
    let count = length_take words at c.loop-at-test.true in
    let same : at ≡ 0 + length (take at words) = omega (arith, count) in
    record {
      each = serves_then
          (λ x y z each write. subst (λ all. WritesEach c.args.actor c.args.handle c.args.first 0 all x z)
          (sym (take_next words at word c.word_at-word.ensures))
          (writes_more c.args.actor c.args.handle c.args.first (take at words) 0 word x y z each
          (subst (λ told. Writes c.args.actor c.args.handle (word_index c.args.first (0 + length (take at words))) word told y z) c.in-Done.is
          (subst (λ i. Writes c.args.actor c.args.handle i word c.write.result y z)
          (c.word_index.ensures ∙ ap (word_index c.args.first) same) write))))
          c.loop-at.invariant.each c.write.ensures.served;
      alone = c.write.ensures.alone ∙ c.loop-at.invariant.alone;
    }

pub returns-in_default-clause-written : goal.returns-in_default-clause-written
returns-in_default-clause-written c =
    serves_then
    (λ x y z each write. record {
      done = c.loop-at.at;
      mid = y;
      each = each;
      refused = Some c.write.result;
      end = (
        search rules,
        c.word_at-word.result,
        c.word_at-word.ensures,
        subst (λ i. Writes c.args.actor c.args.handle i c.word_at-word.result c.write.result y z) c.word_index.ensures write,
        c.stopped.ensures,
      );
    }) c.loop-at.invariant.each c.write.ensures.served

pub returns-clause-written : goal.returns-clause-written
returns-clause-written c =
    serves_like
    (λ x y each. record {
      done = c.loop-at.at;
      mid = y;
      each = each;
      refused = None;
      end = (search rules, refl, search rules);
    }) c.loop-at.invariant.each

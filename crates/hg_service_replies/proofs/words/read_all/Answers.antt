use Rattle.std.proofs.Common.{◌≡◌, ◌+◌, [], length, take, Some, None, refl, sym, ap, subst, ◌∙◌, arith, rules}
use Rattle.hg_hosted.specs.Calls.{Reads}
use Rattle.hg_service_replies.specs.Words.{ReadsEach, word_index}
use Rattle.hg_service_replies.proofs.WordRuns.{serves_then, serves_like, serves_nothing, reads_more, take_set, length_take, rest_set}
use Rattle.hg_service_replies.proofs.words.read_all.Goals as goal

pub loop-at-init : goal.loop-at-init
loop-at-init c = record {
  all = refl;
  each = serves_nothing (ReadsEach c.args.actor c.args.handle c.args.first 0 []) (λ x. refl) c.args.worker.now;
  rest = refl;
  alone = refl;
}

pub loop-at-preserved : goal.loop-at-preserved
loop-at-preserved c =
    let room = c.loop-at.room in
    let at = c.loop-at.at in
    let word = c.in-Value.word in
    let before = c.loop-at.invariant in
    let low = c.loop-at-test.true in
    let count = length_take room at (omega (arith, low, before.all)) in
    let same : at ≡ 0 + length (take at room) = omega (arith, count) in
    record {
      all = search rules;
      each = serves_then
          (λ x y z each read. subst (λ words. ReadsEach c.args.actor c.args.handle c.args.first 0 words x z)
          (sym (take_set room at word (omega (arith, low, before.all))))
          (reads_more c.args.actor c.args.handle c.args.first (take at room) 0 word x y z each
          (subst (λ told. Reads c.args.actor c.args.handle (word_index c.args.first (0 + length (take at room))) told y z) c.in-Value.is
          (subst (λ i. Reads c.args.actor c.args.handle i c.read.result y z)
          (c.word_index.ensures ∙ ap (word_index c.args.first) same) read))))
          before.each c.read.ensures.served;
      rest = rest_set room c.args.room.now at word before.rest;
      alone = c.read.ensures.alone ∙ before.alone;
    }

pub returns-in_default-clause-read : goal.returns-in_default-clause-read
returns-in_default-clause-read c = let before = c.loop-at.invariant in
    serves_then
    (λ x y z each read. record {
      done = c.loop-at.at;
      mid = y;
      each = each;
      rest = before.rest;
      refused = Some c.read.result;
      end = (
        omega (arith, c.loop-at-test.true, before.all),
        search rules,
        subst (λ i. Reads c.args.actor c.args.handle i c.read.result y z) c.word_index.ensures read,
        c.stopped.ensures,
      );
    }) before.each c.read.ensures.served

pub returns-clause-read : goal.returns-clause-read
returns-clause-read c = let before = c.loop-at.invariant in
    serves_like
    (λ x y each. record {
      done = c.loop-at.at;
      mid = y;
      each = each;
      rest = before.rest;
      refused = None;
      end = (search rules, refl, search rules);
    }) before.each

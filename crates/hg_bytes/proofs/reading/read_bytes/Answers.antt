use Rattle.std.proofs.Common.{◌%◌, ◌<◌, length, take, drop, arith, refl, sym, ap, subst, ◌∙◌}
use Rattle.std.specs.Int.{to_le_bytes, w64}
use Rattle.hg_machine.specs.declared.Answer.TheVariants as answer
use Rattle.hg_bytes.specs.Pieces.{start_in, words_for, piece}
use Rattle.hg_bytes.proofs.PieceLemmas.{length-shown, rest_more}
use Rattle.hg_bytes.proofs.ByteRuns.{reads_more}
use Rattle.hg_bytes.proofs.reading.read_bytes.Goals as goal

pub loop-many-preserved : goal.loop-many-preserved
loop-many-preserved g c =
    let into = c.args.first % 8 in
    let many = c.loop-many.many in
    let room = c.loop-many.room in
    let word = c.in-Value.word in
    let was = c.loop-many.invariant in
    let low : into < 8 = omega arith in
    let bytes = to_le_bytes w64 word in
    let part = take (length (piece into room many)) (drop (start_in into many) bytes) in
    let lt : many < words_for into (length room) =
    subst (λ n. many < n) (c.words_for-many-end.ensures ∙ ap (words_for into) (sym was.all)) c.loop-many-test.true in
    record {
      may = c.in-Value.ensures.still;
      all = c.show.auto.room ∙ was.all;
      each = reads_more g.S.WordStore.reads g.S.WordStore.writes c.args.by.now c.args.first many word room
          c.show.new.room c.args.store.now c.loop-many.store c.read.new.self c.show.ensures lt was.each
          (subst (λ i. g.S.WordStore.reads c.args.by.now i (answer.Value word) c.loop-many.store c.read.new.self)
          c.word_index.ensures c.in-Value.ensures.does);
      rest = rest_more into many room c.args.room.now part c.show.new.room low c.show.ensures
          (length-shown into room many bytes refl) lt was.all was.rest;
    }

use Rattle.std.proofs.Common.{arith}
use Rattle.hg_heap.proofs.HowFars.{comes_few}
use Rattle.hg_bulk.proofs.WordRuns.{reads_end}
use Rattle.hg_bulk.proofs.words.read_words.Goals as goal

pub returns-clause-words : goal.returns-clause-words
returns-clause-words c =
    let told = c.read_words-far.ensures in
    let far = c.read_words-far.result in record {
      run =
          reads_end c.args.worker c.args.actor c.args.handle c.args.first c.args.core.now
          c.read_words-far.new.self c.read_words-far.new.room far.done far.refused told.same
          (let few = comes_few _ far told.end in omega (arith, few)) told.each told.next;
      rest = told.rest;
      end = told.end;
    }

use Rattle.hg_bulk.proofs.WordRuns.{writes_end}
use Rattle.hg_bulk.proofs.words.write_words.Goals as goal

pub returns-clause-words : goal.returns-clause-words
returns-clause-words c =
    let told = c.write_words-far.ensures in
    let far = c.write_words-far.result in record {
      run =
          writes_end c.args.worker c.args.actor c.args.handle c.args.first c.args.core.now
          c.write_words-far.new.self c.args.words.now far.done far.refused told.end told.run
          told.next;
      end = told.end;
    }

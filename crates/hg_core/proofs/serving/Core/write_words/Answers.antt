use Rattle.hg_core.proofs.Kept.{kept_sound}
use Rattle.hg_core.proofs.serving.Core.write_words.Goals as goal

pub returns-clause-run : goal.returns-clause-run
returns-clause-run c = rw (← c.self.view_is) c.write_words.ensures.run

pub returns-clause-kept : goal.returns-clause-kept
returns-clause-kept c = kept_sound c.write_words.new.self c.write_words.ensures.kept

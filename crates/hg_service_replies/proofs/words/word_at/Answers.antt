use Rattle.std.proofs.lemmas.Option.{slice_get-get_or}
use Rattle.hg_service_replies.proofs.words.word_at.Goals as goal

pub returns : goal.returns
returns c = slice_get-get_or c.args.words.now c.args.at _ c.requires

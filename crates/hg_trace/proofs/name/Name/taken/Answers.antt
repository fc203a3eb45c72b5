use Rattle.hg_trace.proofs.NameBytes.{IsUtf8-from_name}
use Rattle.hg_trace.proofs.name.Name.taken.Goals as goal

pub from_utf8_unchecked-text-requires : goal.from_utf8_unchecked-text-requires
from_utf8_unchecked-text-requires c = IsUtf8-from_name c.args.word.now c.requires

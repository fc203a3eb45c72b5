use Rattle.hg_bank_service.proofs.Rounds.{no_room_where_none_has as law}
use Rattle.hg_bank_service.proofs.laws.no_room_where_none_has.Goals as goal

pub returns : goal.returns
returns c = law

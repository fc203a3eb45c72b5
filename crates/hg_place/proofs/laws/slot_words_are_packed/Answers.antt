use Rattle.hg_place.proofs.LifeOrders.{packed, unpacked}
use Rattle.hg_place.proofs.laws.slot_words_are_packed.Goals as goal

pub returns : goal.returns
returns c = λ word. (unpacked word, λ p. packed p.0 p.1 p.2 word p.3 p.4 p.5)

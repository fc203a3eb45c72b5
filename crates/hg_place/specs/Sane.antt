-- A record that fits the word of a slot is one that a place can have.
use Rattle.std.specs.Prelude.{ℕ}
use Rattle.std.proofs.Common.{arith}
use Rattle.hg_place.specs.declared.standing.Standing.{Standing}
use Rattle.hg_place.specs.Lives.{IsSlotWord}
use Rattle.hg_place.specs.Standings.{Fits, IsSane}

pub sane : (standing : Standing) (word : ℕ) → IsSlotWord word → Fits standing word → IsSane standing
sane standing word slot fits = record {
  given_out = fits.given_out;
  owner = λ out. (let same = fits.owner out in let bits = slot.1 in omega arith);
}

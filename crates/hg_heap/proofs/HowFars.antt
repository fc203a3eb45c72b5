-- How far a call came.
use Rattle.std.proofs.Common.{◌≡◌, ℕ, ◌<◌, ◌≤◌, Option, Some, None, arith}
use Rattle.std.specs.Prelude.{IfSome, MatchOption}
use Rattle.hg_heap.specs.Many.{ComesTo}
use Rattle.hg_heap.specs.declared.how_far.HowFar.{HowFar}
use Rattle.hg_heap.specs.declared.refused.Refused.{Refused}

few : (o : Option Refused) (done all : ℕ) → MatchOption o (done ≡ all) (λ why. done < all)
    → done ≤ all
few None done all is = omega (arith, is)
few (Some why) done all lt = omega (arith, lt)

-- to no more than all
pub comes_few : (all : ℕ) (far : HowFar) → ComesTo all far → far.done ≤ all
comes_few all far end = few far.refused far.done all end

-- what follows of a refusal follows where there is one
pub on_next : (o : Option Refused) {P Q : Refused → Type 0} → ((why : Refused) → P why → Q why)
    → IfSome o P → IfSome o Q
on_next None f p = tt
on_next (Some why) f p = f why p

-- and then it came not to the last
pub on_end : (o : Option Refused) {P Q : Refused → Type 0} {done all : ℕ}
    → MatchOption o (done ≡ all) (λ why. done < all)
    → (done < all → (why : Refused) → P why → Q why) → IfSome o P → IfSome o Q
on_end None end f p = tt
on_end (Some why) end f p = f end why p

-- The words of a block, as a view tells them.
use Rattle.std.proofs.Common.{◌≡◌, ℕ, ◌+◌, ◌*◌, ◌/◌, ◌%◌, true, false, [], List, refl, ap, ◌∙◌}
use Rattle.std.proofs.Common.{arith}
use Rattle.hg_place.specs.declared.standing.Standing.{Standing}
use Rattle.hg_place.specs.declared.standing.Standing.TheVariants.{Home, Open}
use Rattle.hg_place.specs.Standings.{standing_at, is_home}
use Rattle.hg_segment.specs.Blocks.{block_at}
use Rattle.hg_agreement.specs.Holdings.{block_by}
use Rattle.hg_agreement.specs.HoldingLaws.{BlocksAreTheSegments}

pub block_home : (st : Standing) (words : List ℕ) → is_home st ≡ true → block_by st words ≡ []
block_home (Home g) words e = refl
block_home (Open g o) words e = absurd (cc)

pub block_out : (st : Standing) (words : List ℕ) → is_home st ≡ false → block_by st words ≡ words
block_out (Home g) words e = absurd (cc)
block_out (Open g o) words e = refl

pub blocks_are_the_segments : BlocksAreTheSegments
blocks_are_the_segments h page index below =
    let at = page * 512 + index in
    let st = standing_at h.standings at in
    let words = block_at h.words h.classes (at / 512) (at % 512) in
    let on_page : at / 512 ≡ page = omega arith in
    let on_index : at % 512 ≡ index = omega arith in
    record {
      home = λ e. block_home st words e;
      out = λ e.
          block_out st words e
          ∙ ap (λ p. block_at h.words h.classes p (at % 512)) on_page
          ∙ ap (block_at h.words h.classes page) on_index;
    }

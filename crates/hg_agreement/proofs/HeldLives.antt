-- Lives of held places, as recorded.
use Rattle.std.proofs.Common.{◌≡◌, ℕ, Bool, true, false, not, [], List, refl, sym}
use Rattle.hg_place.specs.Standings.{is_home as at_home, standing_generation, standing_owner}
use Rattle.hg_machine.specs.Life.{is_home, is_live, is_parted, owner_of, contents_of}
use Rattle.hg_place.specs.declared.standing.Standing.{Standing}
use Rattle.hg_place.specs.declared.standing.Standing.TheVariants.{Home, Open}
use Rattle.hg_agreement.specs.Agreement.{standing_by}
use Rattle.hg_agreement.specs.Witness.{held_life}

pub twice : (b : Bool) → not (not b) ≡ b
twice true = refl
twice false = refl

-- lives of held places
pub held_home : (b : Bool) (st : Standing) (words : List ℕ) → is_home (held_life b st words)
    ≡ at_home st
held_home b (Home g) words = refl
held_home true (Open g o) words = refl
held_home false (Open g o) words = refl

pub held_words : (b : Bool) (st : Standing) (words : List ℕ) → (at_home st ≡ true → words ≡ [])
    → contents_of (held_life b st words) ≡ words
held_words b (Home g) words e = sym (e refl)
held_words true (Open g o) words e = refl
held_words false (Open g o) words e = refl

pub held_owner : (b : Bool) (st : Standing) (words : List ℕ) → owner_of (held_life b st words)
    ≡ standing_owner st
held_owner b (Home g) words = refl
held_owner true (Open g o) words = refl
held_owner false (Open g o) words = refl

pub held_standing : (b : Bool) (st : Standing) (words : List ℕ)
    → standing_by (standing_generation st) (held_life b st words) ≡ st
held_standing b (Home g) words = refl
held_standing true (Open g o) words = refl
held_standing false (Open g o) words = refl

pub held_parted : (st : Standing) (words : List ℕ) → at_home st ≡ false
    → is_parted (held_life true st words) ≡ true
held_parted (Home g) words e = absurd (cc)
held_parted (Open g o) words e = refl

pub held_live : (b : Bool) (st : Standing) (words : List ℕ) → at_home st ≡ false
    → is_live (held_life b st words) ≡ not b
held_live b (Home g) words e = absurd (cc)
held_live true (Open g o) words e = refl
held_live false (Open g o) words e = refl

pub held_dead : (b : Bool) (st : Standing) (words : List ℕ) → at_home st ≡ true
    → is_live (held_life b st words) ≡ false
held_dead b (Home g) words e = refl
held_dead b (Open g o) words e = absurd (cc)

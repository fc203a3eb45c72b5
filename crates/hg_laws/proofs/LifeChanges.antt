-- What the changes of a life leave.
use Rattle.std.proofs.Common.{◌≡◌, ℕ, true, false, refl, set}
use Rattle.hg_machine.specs.Life.{Life, home, live, parted, is_home, is_live, is_parted, contents_of}
use Rattle.hg_machine.specs.Changes.{part, write}

pub unlive : (l : Life) → is_home l ≡ true → is_live l ≡ false
unlive home e = refl
unlive (live owner words) e = absurd (cc)
unlive (parted owner words) e = absurd (cc)

pub parted_unlive : (l : Life) → is_parted l ≡ true → is_live l ≡ false
parted_unlive home e = refl
parted_unlive (live owner words) e = absurd (cc)
parted_unlive (parted owner words) e = refl

pub part_unlive : (l : Life) → is_live (part l) ≡ false
part_unlive home = refl
part_unlive (live owner words) = refl
part_unlive (parted owner words) = refl

pub write_live : (l : Life) (index value : ℕ) → is_live (write l index value) ≡ is_live l
write_live home index value = refl
write_live (live owner words) index value = refl
write_live (parted owner words) index value = refl

pub write_words : (l : Life) (index value : ℕ) → is_live l ≡ true → contents_of (write l index value) ≡ set (contents_of l) index value
write_words home index value e = absurd (cc)
write_words (live owner words) index value e = refl
write_words (parted owner words) index value e = absurd (cc)

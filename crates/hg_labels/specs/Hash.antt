-- What a name is found by.
use Rattle.std.specs.Prelude.{ℕ, ◌*◌, ◌/◌, ◌%◌, ◌^◌, List, fold, bit_xor}
use Rattle.hg_labels.specs.declared.hash.TheConstants.{SEED, PRIME}

-- the FNV-1a hash of a name's bytes
unfoldable pub hash_of : List ℕ → ℕ
hash_of name = fold (λ hash byte. bit_xor hash byte * PRIME % 2 ^ 64) SEED name

-- the upper half of a hash
abbrev pub tag_of : ℕ → ℕ
tag_of hash = hash / 2 ^ 32

-- Lists of texts.
use Rattle.std.specs.Prelude.{ℕ, ◌++◌, List, [], ◌∷◌, Vec, codes, map}
use Rattle.std.specs.List.{flat_map}
use Rattle.std.specs.declared.alloc.Global.{Global}

-- the texts that vectors hold
abbrev pub texts_in : List (Vec ℕ Global) → List (List ℕ)
texts_in texts = map (λ text. text.items) texts

-- a comma between each and the next
abbrev pub behind_comma : List ℕ → List ℕ
behind_comma text = codes "," ++ text

abbrev pub with_commas : List (List ℕ) → List ℕ
with_commas [] = []
with_commas (text ∷ texts) = text ++ flat_map behind_comma texts

-- How places and handles are written, and which texts are handles.
use Rattle.std.specs.Prelude.{◌≡◌, ◌≢◌, ℕ, ◌<◌, ◌^◌, ◌++◌, ◌∷◌, ◌↔◌, List, length, get_or}
use Rattle.std.specs.Prelude.{Result, Ok, codes, decimal}
use Rattle.hg_place.specs.declared.Place.{Place}
use Rattle.hg_place.specs.declared.Handle.{Handle}
use Rattle.hg_place.specs.declared.text.NotAHandle.{NotAHandle}

-- segment, page and index
abbrev pub place_text : Place → List ℕ
place_text place =
    decimal place.segment ++ codes "." ++ decimal place.page ++ codes "." ++ decimal place.index

-- `@`, segment, page, index and generation
abbrev pub handle_text : Handle → List ℕ
handle_text h =
    codes "@" ++ decimal h.place.segment ++ codes "." ++ decimal h.place.page
    ++ codes "." ++ decimal h.place.index ++ codes "." ++ decimal h.generation

-- the text is how the handle is written, whose generation has 32 bits
abbrev pub IsHandleText : List ℕ → Handle → Type 0
IsHandleText text handle = (text ≡ handle_text handle) × (handle.generation < 2 ^ 32)

-- a handle is read exactly where the text is how it is written
abbrev pub ReadsHandle : List ℕ → Result Handle NotAHandle → Type 0
ReadsHandle text result =
    (handle : Handle) → handle.generation < 2 ^ 32
    → (result ≡ Ok handle) ↔ (text ≡ handle_text handle)

-- the text is how the number is written, which is below the limit
abbrev pub IsNumberText : ℕ → List ℕ → ℕ → Type 0
IsNumberText limit text number = (text ≡ decimal number) × (number < limit)

-- such a number stands before a dot, and the rest behind it
abbrev pub HasNumberFirst : ℕ → List ℕ → ℕ → List ℕ → Type 0
HasNumberFirst limit text number rest = (text ≡ decimal number ++ 46 ∷ rest) × (number < limit)

-- no `+` comes first, and a 0 only where it stands alone
abbrev pub BeginsPlainly : List ℕ → Type 0
BeginsPlainly text = (get_or text 0 0 ≢ 43) × (get_or text 0 0 ≡ 48 → length text ≡ 1)

-- A life with hidden words is the same but for words.
use Rattle.std.proofs.Common.{◌≡◌, ℕ, Bool, true, false, if◌then◌else◌, List, length, get_or, set}
use Rattle.std.proofs.Common.{replicate, refl, sym, ap, ◌∙◌}
use Rattle.std.proofs.lemmas.List.{length-replicate, length-set}
use Rattle.hg_machine.specs.Life.{Life, home, live, parted, is_home, is_live, is_parted, owner_of}
use Rattle.hg_machine.specs.Life.{contents_of}
use Rattle.hg_machine.specs.Changes.{part, write}
use Rattle.hg_machine.proofs.Opening.{all_same}
use Rattle.hg_choice.specs.Masks.{masked_words, masked_life}
use Rattle.std.proofs.Common.{zero, suc, ◌∷◌}

pub as_long : (b : Bool) (words : List ℕ) → length (masked_words b words) ≡ length words
as_long true words = length-replicate (length words) 0
as_long false words = refl

-- zeros stay zeros
pub zeros_stay : (b : Bool) (n : ℕ) → masked_words b (replicate n 0) ≡ replicate n 0
zeros_stay true n = ap (λ k. replicate k 0) (length-replicate n 0)
zeros_stay false n = refl

abbrev zeros : ℕ → List ℕ
zeros n = replicate n 0

pub set_zero : (n i : ℕ) → set (zeros n) i 0 ≡ zeros n
set_zero zero i = refl
set_zero (suc n) zero = refl
set_zero (suc n) (suc i) = ap (λ xs. 0 ∷ xs) (set_zero n i)

pub set_masked : (b : Bool) (words : List ℕ) (i value : ℕ)
    → masked_words b (set words i value) ≡ set (masked_words b words) i (if b then 0 else value)
set_masked true words i value =
    ap (λ k. replicate k 0) (length-set words i value) ∙ sym (set_zero (length words) i)
set_masked false words i value = refl

pub word_masked : (b : Bool) (words : List ℕ) (i : ℕ)
    → get_or (masked_words b words) i 0 ≡ (if b then 0 else get_or words i 0)
word_masked true words i = all_same (length words) i 0
word_masked false words i = refl

module _ (hides : ℕ → ℕ → Bool) where
  pub life_home : (segment : ℕ) (l : Life) → is_home (masked_life hides segment l) ≡ is_home l
  life_home segment home = refl
  life_home segment (live owner words) = refl
  life_home segment (parted owner words) = refl

  pub life_live : (segment : ℕ) (l : Life) → is_live (masked_life hides segment l) ≡ is_live l
  life_live segment home = refl
  life_live segment (live owner words) = refl
  life_live segment (parted owner words) = refl

  pub life_parted : (segment : ℕ) (l : Life) → is_parted (masked_life hides segment l) ≡ is_parted l
  life_parted segment home = refl
  life_parted segment (live owner words) = refl
  life_parted segment (parted owner words) = refl

  pub life_owner : (segment : ℕ) (l : Life) → owner_of (masked_life hides segment l) ≡ owner_of l
  life_owner segment home = refl
  life_owner segment (live owner words) = refl
  life_owner segment (parted owner words) = refl

  pub life_length : (segment : ℕ) (l : Life)
      → length (contents_of (masked_life hides segment l)) ≡ length (contents_of l)
  life_length segment home = refl
  life_length segment (live owner words) = as_long (hides segment owner) words
  life_length segment (parted owner words) = as_long (hides segment owner) words

  pub life_word : (segment : ℕ) (l : Life) (i : ℕ)
      → get_or (contents_of (masked_life hides segment l)) i 0
      ≡ (if hides segment (owner_of l) then 0 else get_or (contents_of l) i 0)
  life_word segment home i = none (hides segment 0)
    where
      none : (b : Bool) → ◌≡◌ {A = ℕ} 0 (if b then 0 else 0)
      none true = refl
      none false = refl
  life_word segment (live owner words) i = word_masked (hides segment owner) words i
  life_word segment (parted owner words) i = word_masked (hides segment owner) words i

  pub life_part : (segment : ℕ) (l : Life)
      → masked_life hides segment (part l) ≡ part (masked_life hides segment l)
  life_part segment home = refl
  life_part segment (live owner words) = refl
  life_part segment (parted owner words) = refl

  pub life_write : (segment : ℕ) (l : Life) (i value : ℕ)
      → masked_life hides segment (write l i value)
      ≡ write (masked_life hides segment l) i (if hides segment (owner_of l) then 0 else value)
  life_write segment home i value = refl
  life_write segment (live owner words) i value =
      ap (live owner) (set_masked (hides segment owner) words i value)
  life_write segment (parted owner words) i value = refl

-- Laws of the sizes' numbers, by which lists of pages are kept.
use Rattle.std.specs.Prelude.{◌≡◌, ℕ, ◌+◌, ◌*◌, ◌<◌, ◌^◌, Contains, slice_index, take, drop, map}
use Rattle.std.specs.List.{range_with_len}
use Rattle.hg_size.specs.declared.TheConstants.{CLASSES}
use Rattle.hg_size.specs.Sizes.{sizes, number_of_size}

-- each size stands at its number, so no two have one number
pub record SizesAreNumbered : Type 0 where
  pub stands : (size : ℕ) → Contains sizes size → slice_index sizes (number_of_size size) ≡ size
  pub below : (size : ℕ) → Contains sizes size → number_of_size size < CLASSES
  pub apart :
      (one other : ℕ) → Contains sizes one → Contains sizes other
      → number_of_size one ≡ number_of_size other → one ≡ other

-- The first eight are 1 to 8. From there on up to a page's words each is twice the one that stands
-- four before it, and beyond a page, where blocks are runs of pages, twice the one before it
pub record SizesDouble : Type 0 where
  pub small : take 8 sizes ≡ range_with_len 1 8
  pub doubled : take 24 (drop 8 sizes) ≡ map (λ size. 2 * size) (take 24 (drop 4 sizes))
  pub runs : drop 32 sizes ≡ map (λ size. 2 * size) (take 4 (drop 31 sizes))

-- the key of an arena's lists of a class: classes are counted arena by arena
abbrev pub key_of : ℕ → ℕ → ℕ
key_of arena number = arena * CLASSES + number

-- each arena and class has a key of its own, of 16 bits while arenas are few
pub record KeysAreApart : Type 0 where
  pub fits : (arena number : ℕ) → arena < 16 → number < CLASSES → key_of arena number < 2 ^ 16
  pub apart :
      (arena number other second : ℕ) → number < CLASSES → second < CLASSES
      → key_of arena number ≡ key_of other second → (arena ≡ other) × (number ≡ second)

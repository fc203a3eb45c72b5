-- Where pieces of bytes lie, and what of a list stays where a piece is laid into it.
use Rattle.std.proofs.Common.{◌≡◌, ℕ, zero, suc, ◌+◌, ◌-◌, ◌<◌, ◌≤◌, min, List, ◌++◌, length, take, drop, arith, sym, ap, ◌∙◌, inl, inr, append-nil, length-append}
use Rattle.std.proofs.lemmas.List.{length-take, length-drop, length-take-le, take-take, take-append-le, take_at, take_all, drop_at, drop-append-le, drop-take, drop_all, drop-drop, drop_min}
use Rattle.std.proofs.lemmas.Bool.{cases_lt}
use Rattle.hg_bytes.specs.Pieces.{start_in, before, words_for, piece, laid}

-- the words before the next are those before this one and what lies in it
pub before_next :
    (into k : ℕ) → into < 8 → before into (suc k) ≡ before into k + (8 - start_in into k)
before_next into k low = omega arith

-- some byte lies in each word that they reach into
pub reached :
    (into n k : ℕ) → into < 8 → k < words_for into n → before into k < n
reached into zero k low lt = absurd (omega arith)
reached into (suc m) k low lt = omega arith

-- all bytes lie in the words that they reach into
pub all_before : (into n : ℕ) → into < 8 → min n (before into (words_for into n)) ≡ n
all_before into zero low = omega arith
all_before into (suc m) low = omega arith

pub piece_as :
    (into : ℕ) (xs : List ℕ) (k : ℕ) → into < 8
    → drop (before into k) (take (before into (suc k)) xs) ≡ piece into xs k
piece_as into xs k low =
    ap (λ n. drop (before into k) (take n xs)) (before_next into k low)
    ∙ drop-take (before into k) (8 - start_in into k) xs

-- a piece lies in front of the next word
pub piece_like :
    (into : ℕ) (xs ys : List ℕ) (k : ℕ) → into < 8
    → take (before into (suc k)) xs ≡ take (before into (suc k)) ys
    → piece into xs k ≡ piece into ys k
piece_like into xs ys k low same =
    sym (piece_as into xs k low) ∙ ap (drop (before into k)) same ∙ piece_as into ys k low

module _ (start : ℕ) (part bytes : List ℕ) where
  front : start ≤ length bytes → length (take start bytes) ≡ start
  front inside = length-take-le start bytes inside

  pub take-laid :
      (n : ℕ) → n ≤ start → start ≤ length bytes → take n (laid start part bytes) ≡ take n bytes
  take-laid n le inside =
      let own = front inside in
      take-append-le n (take start bytes ++ part) (drop (start + length part) bytes)
      (omega (arith, own, length-append (take start bytes) part))
      ∙ take-append-le n (take start bytes) part (omega (arith, own))
      ∙ take-take n start bytes le

  pub drop-laid :
      start ≤ length bytes
      → drop (start + length part) (laid start part bytes) ≡ drop (start + length part) bytes
  drop-laid inside =
      let own = front inside in
      drop_at (take start bytes ++ part) (drop (start + length part) bytes) (start + length part)
      (omega (arith, own, length-append (take start bytes) part))

  pub from-laid :
      start ≤ length bytes
      → drop start (laid start part bytes) ≡ part ++ drop (start + length part) bytes
  from-laid inside =
      let own = front inside in
      drop-append-le start (take start bytes ++ part) (drop (start + length part) bytes)
      (omega (arith, own, length-append (take start bytes) part))
      ∙ ap (λ xs. xs ++ drop (start + length part) bytes) (drop_at (take start bytes) part start own)

  pub length-laid :
      start + length part ≤ length bytes → length (laid start part bytes) ≡ length bytes
  length-laid inside =
      let own = front (omega arith) in
      let one = length-append (take start bytes) part in
      let two = length-append (take start bytes ++ part) (drop (start + length part) bytes) in
      let behind = length-drop (start + length part) bytes in
      omega (arith, own, one, two, behind)

  -- a piece that fills what there is of a word is what lies in that word then
  pub piece-laid :
      (room : ℕ) → start ≤ length bytes → length part ≡ length (take room (drop start bytes))
      → take room (drop start (laid start part bytes)) ≡ part
  piece-laid room inside full =
      let many : length part ≡ min room (length bytes - start) =
      full ∙ length-take room (drop start bytes) ∙ ap (min room) (length-drop start bytes) in
      ap (take room) (from-laid inside)
      ∙ elim (cases_lt (length bytes - start) room) [
        | inl short ↦ ap (λ xs. take room (part ++ xs)) (drop_all (start + length part) bytes (omega arith))
            ∙ ap (take room) (append-nil part) ∙ take_all room part (omega arith)
        | inr long ↦ take_at part (drop (start + length part) bytes) room (omega arith)
      ]

-- what of a word's bytes lies in a piece is as long as the piece
pub length-shown :
    (into : ℕ) (xs : List ℕ) (k : ℕ) (bytes : List ℕ) → length bytes ≡ 8
    → length (take (length (piece into xs k)) (drop (start_in into k) bytes)) ≡ length (piece into xs k)
length-shown into xs k bytes eight =
    let few = length-take (8 - start_in into k) (drop (before into k) xs) in
    length-take (length (piece into xs k)) (drop (start_in into k) bytes)
    ∙ ap (min (length (piece into xs k))) (length-drop (start_in into k) bytes)
    ∙ omega (arith, few)

-- where a piece ends, the next word begins, or there is no more
pub piece_end :
    (into : ℕ) (xs : List ℕ) (k : ℕ) → into < 8 → before into k < length xs
    → min (length xs) (before into (suc k)) ≡ before into k + length (piece into xs k)
piece_end into xs k low inside =
    let few = length-take (8 - start_in into k) (drop (before into k) xs) in
    let left = length-drop (before into k) xs in
    let next = before_next into k low in
    omega (arith, few, left, next)

module _ (into k : ℕ) (room start part : List ℕ) where
  -- what lies behind the words that were read is as it was, once one more is
  pub rest_more :
      (told : List ℕ) → into < 8 → told ≡ laid (before into k) part room
      → length part ≡ length (piece into room k) → k < words_for into (length room)
      → length room ≡ length start → drop (before into k) room ≡ drop (before into k) start
      → drop (before into (k + 1)) told ≡ drop (before into (k + 1)) start
  rest_more told low is long lt all rest =
      let inside = reached into (length room) k low lt in
      let end = piece_end into room k low inside in
      let one : length told ≡ length room =
      ap length is ∙ length-laid (before into k) part room (omega (arith, end, long)) in
      let to : (xs : List ℕ) → length xs ≡ length room
      → drop (before into (k + 1)) xs ≡ drop (before into k + length part) xs =
      λ xs same. sym (drop_min (before into (k + 1)) xs)
      ∙ ap (λ n. drop n xs) (omega (arith, end, long, same)) in
      to told one ∙ ap (drop (before into k + length part)) is
      ∙ drop-laid (before into k) part room (omega arith)
      ∙ sym (drop-drop (length part) (before into k) room) ∙ ap (drop (length part)) rest
      ∙ drop-drop (length part) (before into k) start ∙ sym (to start (sym all))

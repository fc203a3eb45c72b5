-- Places and handles are read from how they are written, and from nothing else.
use Rattle.std.proofs.Common.{◌≡◌, ℕ, ◌<◌, ◌≤◌, ◌^◌, ◌==◌, ◌%◌, true, false, List, [], ◌∷◌, ◌++◌, Ok, Err, decimal, refl, sym, ap, subst, ◌∙◌, inl, inr, arith, append_assoc}
use Rattle.std.specs.List.{All, join_with_byte}
use Rattle.std.proofs.Math.Nat.{mod-eq_of_lt, max-eq_right}
use Rattle.std.proofs.lemmas.Bool.Decides.{nat_tests}
use Rattle.std.proofs.lemmas.List.Sums.{AllPass-from_list_all}
use Rattle.std.proofs.lemmas.List.Splits.{slice_split_none, slice_split_at, join_with_byte-slice_split}
use Rattle.hg_place.specs.declared.Place.{Place}
use Rattle.hg_place.specs.declared.Handle.{Handle}
use Rattle.hg_place.specs.declared.geometry.TheConstants.{MAX_SEGMENTS, SEGMENT_PAGES, PAGE_PLACES}
use Rattle.hg_place.specs.Places.{place_from}
use Rattle.hg_place.proofs.PlaceNumbers.{place_is}
use Rattle.hg_trace.specs.declared.fault.LineFault.TheVariants as fault
use Rattle.hg_trace.specs.Numbers.{is_digit}
use Rattle.hg_trace.specs.Operands.{number_operand, no_operand}
use Rattle.hg_trace.specs.Handles.{is_dot, parts_of, handle_from, place_in, generation_in, place_of, handle_of}
use Rattle.hg_trace.specs.Printed.{place_text, handle_text}
use Rattle.hg_trace.specs.PlainLaws.{PlacesAreTheirTexts}
use Rattle.hg_trace.proofs.Binds.{well, bind_ok, ok_is, if_ok}
use Rattle.hg_trace.proofs.Decimals.{digits-decimal}
use Rattle.hg_trace.proofs.HandleParts.{handle_is}
use Rattle.hg_trace.proofs.PlainOperands.{number_operand-plain, number_operand-is, no_operand-is}

-- a number has no dot
no_dots : (n : ℕ) → n < 2 ^ 64 → All (λ b. is_dot b ≡ false) (decimal n)
no_dots n small = λ k d within. no_dot _ (AllPass-from_list_all is_digit (decimal n) (digits-decimal n small) k d within)
  where
    no_dot : (b : ℕ) → is_digit b ≡ true → is_dot b ≡ false
    no_dot b digit = grind (arith, nat_tests)

-- a number before a dot is the first part
parts_of-dot : (n : ℕ) (more : List ℕ) → n < 2 ^ 64 → parts_of (decimal n ++ 46 ∷ more) ≡ decimal n ∷ parts_of more
parts_of-dot n more small = slice_split_at is_dot (decimal n) 46 more (no_dots n small) refl

parts_of-number : (n : ℕ) → n < 2 ^ 64 → parts_of (decimal n) ≡ decimal n ∷ []
parts_of-number n small = slice_split_none is_dot (decimal n) (no_dots n small)

-- the parts of a place, and of a handle
abbrev place_parts : Place → List (List ℕ) → List (List ℕ)
place_parts place rest = decimal place.segment ∷ decimal place.page ∷ decimal place.index ∷ rest

pub place_in-plain : (place : Place) (rest : List (List ℕ)) → place_in (place_parts place rest) ≡ Ok (place, rest)
unfolding place_in
place_in-plain place rest =
    let s = number_operand-plain MAX_SEGMENTS place.segment (decimal place.page ∷ decimal place.index ∷ rest) (omega arith) place.segment_below in
    let p = number_operand-plain SEGMENT_PAGES place.page (decimal place.index ∷ rest) (omega arith) place.page_below in
    let i = number_operand-plain PAGE_PLACES place.index rest (omega arith) place.index_below in
    rw (s, p, i) (ap (λ q. Ok (q, rest)) (sym (place_is place place.segment place.page place.index refl refl refl)))

-- of numbers in their ranges
parts-place_from : (s p i : ℕ) (rest : List (List ℕ)) → s < MAX_SEGMENTS → p < SEGMENT_PAGES → i < PAGE_PLACES → place_parts (place_from s p i) rest ≡ decimal s ∷ decimal p ∷ decimal i ∷ rest
parts-place_from s p i rest a b c =
    ap (λ n. decimal n ∷ decimal (p % SEGMENT_PAGES) ∷ decimal (i % PAGE_PLACES) ∷ rest) (mod-eq_of_lt a) ∙ ap (λ n. decimal s ∷ decimal n ∷ decimal (i % PAGE_PLACES) ∷ rest) (mod-eq_of_lt b)
    ∙ ap (λ n. decimal s ∷ decimal p ∷ decimal n ∷ rest) (mod-eq_of_lt c)

-- three numbers that were read
place_read : (parts : List (List ℕ)) (s p i : ℕ × List (List ℕ)) → number_operand MAX_SEGMENTS parts ≡ Ok s → number_operand SEGMENT_PAGES s.1 ≡ Ok p → number_operand PAGE_PLACES p.1 ≡ Ok i
    → parts ≡ place_parts (place_from s.0 p.0 i.0) i.1
place_read parts s p i segment page index =
    let (first, s_below) = number_operand-is MAX_SEGMENTS parts s (omega arith) segment in
    let (second, p_below) = number_operand-is SEGMENT_PAGES s.1 p (omega arith) page in
    let (third, i_below) = number_operand-is PAGE_PLACES p.1 i (omega arith) index in
    first ∙ ap (λ l. decimal s.0 ∷ l) second ∙ ap (λ l. decimal s.0 ∷ decimal p.0 ∷ l) third ∙ sym (parts-place_from s.0 p.0 i.0 i.1 s_below p_below i_below)

pub place_in-is : (parts : List (List ℕ)) (x : Place × List (List ℕ)) → place_in parts ≡ Ok x → parts ≡ place_parts x.0 x.1
unfolding place_in
place_in-is parts x h =
    let (s, segment, h1) = bind_ok _ _ x h in
    let (p, page, h2) = bind_ok _ _ x h1 in
    let (i, index, is) = bind_ok _ _ x h2 in
    read parts s p i segment page index x is
  where
    read : (parts : List (List ℕ)) (s p i : ℕ × List (List ℕ)) → number_operand MAX_SEGMENTS parts ≡ Ok s → number_operand SEGMENT_PAGES s.1 ≡ Ok p → number_operand PAGE_PLACES p.1 ≡ Ok i
        → (x : Place × List (List ℕ)) → well (place_from s.0 p.0 i.0, i.1) ≡ Ok x → parts ≡ place_parts x.0 x.1
    read parts s p i segment page index x is =
        let place = place_from s.0 p.0 i.0 in
        subst (λ y. parts ≡ place_parts y.0 y.1) (ok_is (place, i.1) x is) (place_read parts s p i segment page index)

-- the text of a place is its parts, with dots
three_parts : (place : Place) → parts_of (place_text place) ≡ place_parts place []
three_parts place =
    let sb = place.segment_below in
    let pb = place.page_below in
    let ib = place.index_below in
    let last : parts_of (decimal place.index) ≡ decimal place.index ∷ [] = parts_of-number place.index (omega arith) in
    let more : parts_of (decimal place.page ++ 46 ∷ decimal place.index) ≡ decimal place.page ∷ decimal place.index ∷ [] =
    parts_of-dot place.page (decimal place.index) (omega arith) ∙ ap (λ l. decimal place.page ∷ l) last in
    ap parts_of (place_text-dots place) ∙ parts_of-dot place.segment (decimal place.page ++ 46 ∷ decimal place.index) (omega arith) ∙ ap (λ l. decimal place.segment ∷ l) more
  where
    place_text-dots : (place : Place) → place_text place ≡ decimal place.segment ++ 46 ∷ (decimal place.page ++ 46 ∷ decimal place.index)
    place_text-dots place = simp append_assoc

pub place_of-plain : (place : Place) → place_of (place_text place) ≡ Ok place
unfolding place_of
place_of-plain place = rw (three_parts place, place_in-plain place []) refl

pub place_of-is : (text : List ℕ) (place : Place) → place_of text ≡ Ok place → text ≡ place_text place
unfolding place_of
place_of-is text place h =
    let (x, parts, h1) = bind_ok _ _ place h in
    let (end, none, is) = bind_ok _ _ place h1 in
    let here : parts_of text ≡ place_parts x.0 x.1 = place_in-is (parts_of text) x parts in
    let same : x.0 ≡ place = ok_is x.0 place is in
    let all : parts_of text ≡ place_parts place [] = here ∙ ap (place_parts x.0) (no_operand-is x.1 end none) ∙ ap (λ p. place_parts p []) same in
    sym (join_with_byte-slice_split 46 text) ∙ ap (join_with_byte 46) all ∙ dots place
  where
    dots : (place : Place) → join_with_byte 46 (place_parts place []) ≡ place_text place
    dots place = simp append_assoc

pub places_are_their_texts : PlacesAreTheirTexts
places_are_their_texts place text = (place_of-is text place, λ is. ap place_of is ∙ place_of-plain place)

-- a generation
pub generation_in-plain : (g : ℕ) (rest : List (List ℕ)) → 1 ≤ g → g < 2 ^ 32 → generation_in (decimal g ∷ rest) ≡ Ok (g, rest)
unfolding generation_in
generation_in-plain g rest some small =
    let read = number_operand-plain (2 ^ 32) g rest (omega arith) small in
    let no : (g == 0) ≡ false = grind (arith, nat_tests) in
    rw read (rw no refl)

pub generation_in-is : (parts : List (List ℕ)) (x : ℕ × List (List ℕ)) → generation_in parts ≡ Ok x
    → (parts ≡ decimal x.0 ∷ x.1) × (x.0 < 2 ^ 32) × (1 ≤ x.0)
unfolding generation_in
generation_in-is parts x h =
    let (g, read, h1) = bind_ok _ _ x h in
    let (first, small) = number_operand-is (2 ^ 32) parts g (omega arith) read in
    elim (if_ok (g.0 == 0) (Err fault.Operand) (Ok g) x h1) [
      | inl (zero, is) ↦ absurd (cc)
      | inr (some, is) ↦
          let least : 1 ≤ g.0 = grind (arith, nat_tests) in
          subst (λ y. (parts ≡ decimal y.0 ∷ y.1) × (y.0 < 2 ^ 32) × (1 ≤ y.0)) (ok_is g x is) (first, small, least)
    ]

-- the text of a handle behind its `@`
abbrev handle_parts : Handle → List (List ℕ)
handle_parts handle = place_parts handle.place (decimal handle.generation ∷ [])

abbrev pub behind_at : Handle → List ℕ
behind_at handle = decimal handle.place.segment ++ 46 ∷ (decimal handle.place.page ++ 46 ∷ (decimal handle.place.index ++ 46 ∷ decimal handle.generation))

pub handle_text-dots : (handle : Handle) → handle_text handle ≡ 64 ∷ behind_at handle
handle_text-dots handle = simp append_assoc

four_parts : (handle : Handle) (text : List ℕ) → handle.generation < 2 ^ 32 → 64 ∷ text ≡ handle_text handle → parts_of text ≡ handle_parts handle
four_parts handle text small is =
    let sb = handle.place.segment_below in
    let pb = handle.place.page_below in
    let ib = handle.place.index_below in
    let s = handle.place.segment in
    let p = handle.place.page in
    let i = handle.place.index in
    let g = handle.generation in
    let whole : 64 ∷ text ≡ 64 ∷ (decimal s ++ 46 ∷ (decimal p ++ 46 ∷ (decimal i ++ 46 ∷ decimal g))) = is ∙ handle_text-dots handle in
    let here : text ≡ decimal s ++ 46 ∷ (decimal p ++ 46 ∷ (decimal i ++ 46 ∷ decimal g)) = cc in
    let one : parts_of (decimal i ++ 46 ∷ decimal g) ≡ decimal i ∷ decimal g ∷ [] =
    parts_of-dot i (decimal g) (omega arith) ∙ ap (λ l. decimal i ∷ l) (parts_of-number g (omega arith)) in
    let two : parts_of (decimal p ++ 46 ∷ (decimal i ++ 46 ∷ decimal g)) ≡ decimal p ∷ decimal i ∷ decimal g ∷ [] =
    parts_of-dot p (decimal i ++ 46 ∷ decimal g) (omega arith) ∙ ap (λ l. decimal p ∷ l) one in
    ap parts_of here ∙ parts_of-dot s (decimal p ++ 46 ∷ (decimal i ++ 46 ∷ decimal g)) (omega arith) ∙ ap (λ l. decimal s ∷ l) two

pub handle_of-plain : (handle : Handle) (text : List ℕ) → handle.generation < 2 ^ 32 → 64 ∷ text ≡ handle_text handle → handle_of text ≡ Ok handle
unfolding handle_of
handle_of-plain handle text small is =
    let place = place_in-plain handle.place (decimal handle.generation ∷ []) in
    let generation = generation_in-plain handle.generation [] handle.given_out small in
    rw (four_parts handle text small is, place, generation) (ap (λ h. Ok h) (sym (handle_is handle handle.place handle.generation refl refl)))

dots : (handle : Handle) → 64 ∷ join_with_byte 46 (handle_parts handle) ≡ handle_text handle
dots handle = simp append_assoc

-- a place and a generation that were read
handle_read : (text : List ℕ) (handle : Handle) (x : Place × List (List ℕ)) (y : ℕ × List (List ℕ)) (end : Unit {0})
    → place_in (parts_of text) ≡ Ok x → generation_in x.1 ≡ Ok y → no_operand y.1 ≡ Ok end → well (handle_from x.0 y.0) ≡ Ok handle
    → (64 ∷ text ≡ handle_text handle) × (handle.generation < 2 ^ 32)
handle_read text handle x y end parts generation none is =
    let same : handle_from x.0 y.0 ≡ handle = ok_is (handle_from x.0 y.0) handle is in
    let (left, small, some) = generation_in-is x.1 y generation in
    let at : x.0 ≡ handle.place = ap (λ k. k.place) same in
    let number : y.0 ≡ handle.generation = sym (max-eq_right some) ∙ ap (λ k. k.generation) same in
    let all : parts_of text ≡ handle_parts handle =
    place_in-is (parts_of text) x parts ∙ ap (place_parts x.0) (left ∙ ap (λ l. decimal y.0 ∷ l) (no_operand-is y.1 end none))
    ∙ ap (λ p. place_parts p (decimal y.0 ∷ [])) at ∙ ap (λ n. place_parts handle.place (decimal n ∷ [])) number in
    (ap (λ t. 64 ∷ t) (sym (join_with_byte-slice_split 46 text) ∙ ap (join_with_byte 46) all) ∙ dots handle, subst (λ n. n < 2 ^ 32) number small)

pub handle_of-is : (text : List ℕ) (handle : Handle) → handle_of text ≡ Ok handle → (64 ∷ text ≡ handle_text handle) × (handle.generation < 2 ^ 32)
unfolding handle_of
handle_of-is text handle h =
    let (x, parts, h1) = bind_ok _ _ handle h in
    let (y, generation, h2) = bind_ok _ _ handle h1 in
    let (end, none, is) = bind_ok _ _ handle h2 in
    handle_read text handle x y end parts generation none is

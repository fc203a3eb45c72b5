-- How handles are written, and read back.
use Rattle.std.proofs.Common.{◌≡◌, ℕ, ◌++◌, ◌∷◌, List, decimal, sym, ◌∙◌, append_assoc}
use Rattle.hg_place.specs.declared.Handle.{Handle}
use Rattle.hg_place.specs.Texts.{handle_text, IsHandleText}

-- what stands behind the segment's dot, and behind the page's
abbrev pub behind_page : Handle → List ℕ
behind_page h = decimal h.place.index ++ 46 ∷ decimal h.generation

abbrev pub behind_segment : Handle → List ℕ
behind_segment h = decimal h.place.page ++ 46 ∷ behind_page h

pub handle_text-dots : (h : Handle) → handle_text h ≡ 64 ∷ (decimal h.place.segment ++ 46 ∷ behind_segment h)
handle_text-dots h = simp append_assoc

-- what stands behind the `@`
pub behind_at : (h : Handle) (text rest : List ℕ) → IsHandleText text h → text ≡ 64 ∷ rest → rest ≡ decimal h.place.segment ++ 46 ∷ behind_segment h
behind_at h text rest is at =
    let all : 64 ∷ rest ≡ 64 ∷ (decimal h.place.segment ++ 46 ∷ behind_segment h) = sym at ∙ is.0 ∙ handle_text-dots h in
    cc

-- Handles are read from their words, and from no others.
use Rattle.std.proofs.Common.{◌≡◌, ℕ, ◌<◌, ◌^◌, Option, Some, sym, ap, ◌∙◌, arith}
use Rattle.hg_place.specs.declared.Handle.{Handle}
use Rattle.hg_place.specs.Places.{number_of}
use Rattle.hg_place.specs.HandleWords.{handle_word, ReadsWord}
use Rattle.hg_place.proofs.PlaceNumbers.{same_handle}

-- handles of one word are one
pub same_word : (h k : Handle) → h.generation < 2 ^ 32 → k.generation < 2 ^ 32 → handle_word h ≡ handle_word k → h ≡ k
same_word h k hs ks is =
    let place : number_of h.place ≡ number_of k.place = omega arith in
    let generation : h.generation ≡ k.generation = omega arith in
    same_handle h k place generation

abbrev read_as : Handle → Option Handle
read_as h = Some h

some_is : (h k : Handle) → read_as h ≡ read_as k → h ≡ k
some_is h k is = cc

pub ReadsWord-of : (h : Handle) (word : ℕ) → h.generation < 2 ^ 32 → word ≡ handle_word h → ReadsWord word (Some h)
ReadsWord-of h word small is k below = (λ same. is ∙ ap handle_word (some_is h k same), λ one. ap read_as (same_word h k small below (sym is ∙ one)))

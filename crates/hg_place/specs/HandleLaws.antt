-- Laws of handles: each has a word of its own, and they are in the order of their words.
use Rattle.std.specs.Prelude.{◌≡◌, ◌<◌, ◌^◌}
use Rattle.std.specs.declared.cmp.Ordering.{Ordering}
use Rattle.std.specs.Ordering.{nat_cmp}
use Rattle.hg_place.specs.declared.Handle.{Handle}
use Rattle.hg_place.specs.contracts.HandleOrd.TheImpl as handle_ord
use Rattle.hg_place.specs.HandleWords.{handle_word}

-- how handles are compared
abbrev pub handle_order : Handle → Handle → Ordering
handle_order = (handle_ord.ghosts).cmp

-- something is known of all pairs of handles whose generations have 32 bits
abbrev pub OfTwoHandles : (Handle → Handle → Type 0) → Type 0
OfTwoHandles Known =
    (one other : Handle) → one.generation < 2 ^ 32 → other.generation < 2 ^ 32 → Known one other

-- handles with one word are one
abbrev pub WordsAreOfOneHandle : Type 0
WordsAreOfOneHandle = OfTwoHandles (λ one other. handle_word one ≡ handle_word other → one ≡ other)

-- by segment, page, index and generation: the order of their words
abbrev pub HandlesAreInTheOrderOfWords : Type 0
HandlesAreInTheOrderOfWords =
    OfTwoHandles (λ one other.
    handle_order one other ≡ nat_cmp (handle_word one) (handle_word other))

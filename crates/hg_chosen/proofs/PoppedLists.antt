-- Lists by numbers, refilled and popped as by indexes.
use Rattle.std.proofs.Common.{◌≡◌, ℕ, Bool, [], ◌∷◌, ◌++◌, List, drop, refl, sym, ap}
use Rattle.hg_page.specs.PageLists.{PageLists, listed, Pops}
use Rattle.hg_segment.specs.Kept.{refilled}
use Rattle.hg_agreement.specs.Parts.{places_from}
use Rattle.hg_choice.specs.PageLists.{popped}

-- lists by numbers are refilled as by indexes
free_refilled : (first : ℕ) (free others : List ℕ) (one two : List Bool)
    → (refilled (record {
      free = places_from first free;
      local_free = places_from first others;
      used = one;
    })).free
    ≡ places_from first (refilled (record { free = free; local_free = others; used = two })).free
free_refilled first [] others one two = refl
free_refilled first (x ∷ xs) others one two = refl

local_refilled : (first : ℕ) (free others : List ℕ) (one two : List Bool)
    → (refilled (record {
      free = places_from first free;
      local_free = places_from first others;
      used = one;
    })).local_free
    ≡ places_from first (refilled (record {
      free = free;
      local_free = others;
      used = two;
    })).local_free
local_refilled first [] others one two = refl
local_refilled first (x ∷ xs) others one two = refl

-- by numbers a page has these lists
pub record AreNumbered (first : ℕ) (x l : PageLists) : Type 0 where
  pub free : x.free ≡ places_from first l.free
  pub others : x.local_free ≡ places_from first l.local_free

pub popped_free : (first index : ℕ) (x l new : PageLists) → AreNumbered first x l
    → Pops index (refilled l) new → (popped (refilled x)).free ≡ places_from first new.free
popped_free first index x l new are pops =
    rw (are.free, are.others, free_refilled first l.free l.local_free x.used l.used)
    (ap (λ f. drop 1 (places_from first f)) pops.free)

pub popped_local : (first index : ℕ) (x l new : PageLists) → AreNumbered first x l
    → Pops index (refilled l) new
    → (popped (refilled x)).local_free ≡ places_from first new.local_free
popped_local first index x l new are pops =
    rw (are.free, are.others, local_refilled first l.free l.local_free x.used l.used)
    (ap (places_from first) (sym pops.local_free))

pub none_listed : (l : PageLists) → listed l ≡ [] → (refilled l).free ≡ []
none_listed l e = by l.free l.local_free l.used e
  where
    by : (free others : List ℕ) (used : List Bool) → free ++ others ≡ []
        → (refilled (record { free = free; local_free = others; used = used })).free ≡ []
    by [] others used k = k
    by (x ∷ xs) others used k = absurd (cc)

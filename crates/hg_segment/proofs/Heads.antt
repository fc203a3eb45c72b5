-- The head that comes off a page's lists, and what goes back on them.
use Rattle.std.proofs.Common.{◌≡◌, ℕ, List, [], ◌∷◌, refl, sym, ap, ◌∙◌, subst}
use Rattle.std.specs.Prelude.{Option, None, Some, MatchOption, IfNone, IfSome}
use Rattle.hg_page.specs.Shapes.{shape_of}
use Rattle.hg_page.specs.PageLists.{PageLists, listed, Pops, spliced}
use Rattle.hg_page.specs.Links.{lists_of, IsLinked}
use Rattle.hg_page.specs.Others.{KeepsOthers}
use Rattle.hg_page.specs.declared.page.Page.{Page}
use Rattle.hg_page.proofs.Changes.{listed-spliced, spliced-none}
use Rattle.hg_page.proofs.OthersLemmas.{none_changed}
use Rattle.hg_segment.specs.Kept.{refilled, refilled_by}

refilled_when : (free : List ℕ) (lists : PageLists) → free ≡ [] → refilled_by free lists ≡ spliced lists
refilled_when [] lists e = refl
refilled_when (x ∷ xs) lists e = absurd (cc)

refilled_not : (free : List ℕ) (lists : PageLists) (x : ℕ) (xs : List ℕ) → free ≡ x ∷ xs → refilled_by free lists ≡ lists
refilled_not [] lists y ys e = absurd (cc)
refilled_not (x ∷ xs) lists y ys e = refl

-- the head came off at once
pub popped_first : (index : ℕ) (old new : PageLists) → Pops index old new → Pops index (refilled old) new
popped_first index old new h = subst (λ (l : PageLists). Pops index l new) (sym (refilled_not old.free old index new.free h.free)) h

-- or after `local_free` went behind an empty `free`
pub popped_then : (index : ℕ) (old mid new : PageLists) → old.free ≡ [] → mid ≡ spliced old → Pops index mid new → Pops index (refilled old) new
popped_then index old mid new none e h = subst (λ (l : PageLists). Pops index l new) (e ∙ sym (refilled_when old.free old none)) h

pub listed-refilled : (lists : PageLists) → listed (refilled lists) ≡ listed lists
listed-refilled lists = go lists.free lists
  where
    go : (free : List ℕ) (l : PageLists) → listed (refilled_by free l) ≡ listed l
    go [] l = listed-spliced l
    go (x ∷ xs) l = refl

pub used-refilled : (lists : PageLists) → (refilled lists).used ≡ lists.used
used-refilled lists = go lists.free lists
  where
    go : (free : List ℕ) (l : PageLists) → (refilled_by free l).used ≡ l.used
    go [] l = refl
    go (x ∷ xs) l = refl

-- no head comes off what has none
pub none_left : (p q r : Page) (old new : List ℕ) → IsLinked p old → IsLinked q new → lists_of q new ≡ spliced (lists_of p old) → KeepsOthers (shape_of q) (listed (lists_of q new)) old new → (lists_of q new).free ≡ [] → r ≡ q
    → (listed (lists_of p old) ≡ []) × (lists_of r new ≡ lists_of p old) × (new ≡ old)
none_left p q r old new h k e others empty same =
    let none : listed (lists_of p old) ≡ [] = ap (λ (l : PageLists). l.free) (sym e) ∙ empty in
    let gone : listed (lists_of q new) ≡ [] = ap listed e ∙ (listed-spliced (lists_of p old) ∙ none) in (
      none,
      ap (λ (s : Page). lists_of s new) same ∙ (e ∙ spliced-none (lists_of p old) none),
      none_changed (shape_of q) old new (k.whole ∙ sym h.whole) (subst (λ (xs : List ℕ). KeepsOthers (shape_of q) xs old new) gone others),
    )

pub if_none : {X : Type 0} {P R : Type 0} (Q : X → Type 0) (r : Option X) → MatchOption r P Q → (P → R) → IfNone r R
if_none Q None h f = f h
if_none Q (Some x) h f = tt

pub if_some : {X : Type 0} (P : Type 0) {Q R : X → Type 0} (r : Option X) → MatchOption r P Q → ((x : X) → Q x → R x) → IfSome r R
if_some P None h f = tt
if_some P (Some x) h f = f x h

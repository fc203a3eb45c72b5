-- Pages that lose their class.
use Rattle.std.specs.Prelude.{◌≡◌, ◌≢◌, ℕ, ◌+◌, ◌<◌, true, List, [], None, slice_set}
use Rattle.hg_place.specs.declared.geometry.TheConstants.{PAGE_PLACES}
use Rattle.hg_page.specs.PageLists.{freed}
use Rattle.hg_place.specs.declared.standing.Standing.{Standing}
use Rattle.hg_place.specs.Standings.{standing_at, is_home}
use Rattle.hg_segment.specs.Kept.{slot, Kept, class_at, lists_at}

-- no place of the page is open
abbrev pub IsIdlePage : List Standing → ℕ → Type 0
IsIdlePage records page =
    (index : ℕ) → index < PAGE_PLACES → is_home (standing_at records (slot page index)) ≡ true

module _ {S : Type 0} (records : S → List Standing) where
  -- the page had a class and no open place: it has no class now, and nothing on its lists
  pub record Retired (page : ℕ) (old new : Kept S) : Type 0 where
    pub classed : class_at old.classes page ≢ None
    pub idle : IsIdlePage (records old.slots) page
    pub changed : new ≡ record old {
      classes = slice_set old.classes page None;
      lists = slice_set old.lists page (freed (lists_at old.lists page) []);
    }

  -- it had none, or an open place
  pub record Stayed (page : ℕ) (old new : Kept S) : Type 0 where
    pub busy : class_at old.classes page ≢ None → IsIdlePage (records old.slots) page → ⊥
    pub same : new ≡ old

  -- the pages below a number, one after the other, and how many lost their class
  pub data Retires : ℕ → Kept S → Kept S → ℕ → Type 0 where
    none : {s : Kept S} → Retires 0 s s 0
    more :
        {page n : ℕ} {s t u : Kept S} → Retires page s t n → Retired page t u
        → Retires (page + 1) s u (n + 1)
    over :
        {page n : ℕ} {s t u : Kept S} → Retires page s t n → Stayed page t u
        → Retires (page + 1) s u n

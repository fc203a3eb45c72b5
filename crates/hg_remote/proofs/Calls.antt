-- What the calls of a remote list owe, by what the lists by key answer.
use Rattle.std.proofs.Common.{◌≡◌, ◌≢◌, ℕ, suc, ◌<◌, Bool, true, false, List, [], Option, Some, None, slice_get, slice_index_or, slice_set, refl, sym, ap, ◌∙◌, arith, subst, ◌↔◌}
use Rattle.std.specs.Prelude.{Contains, IsTrue, is_some, not}
use Rattle.hg_place.specs.Places.{page_of, index_of}
use Rattle.hg_lists.specs.Inserts.{Inserts}
use Rattle.hg_lists.specs.Lists.{Lists, list_of, IsSomewhere, IsNowhere, AreApart, with_front, without_entry}
use Rattle.hg_lists.proofs.Listed.{Contains-first, no_first}
use Rattle.hg_remote.specs.Remote.{Remote, contents, slot}
use Rattle.hg_remote.specs.Sends.{Drains}
use Rattle.hg_remote.specs.Kept.{remote_by, IsKept}
use Rattle.hg_remote.proofs.RemoteBy.{delayed_by, somewhere_contained, contained_somewhere}
use Rattle.hg_remote.proofs.Sent.{IsNew}
use Rattle.hg_remote.proofs.Drained.{slot_is}
use Rattle.hg_remote.proofs.Kept.{Pushed, Taken, thread_pushed, delayed_pushed, thread_taken, delayed_taken, first_delayed, contents_none, contents_some}

-- whether a place is there
pub has_iff : (m : Lists) (now : Remote) (place page index : ℕ) (answer : Bool) → remote_by m.by_key ≡ now → place ≡ slot page index → (IsTrue answer ↔ IsSomewhere m place) → (IsTrue answer ↔ Contains (contents now) (slot page index))
has_iff m now place page index answer seen is h =
    subst (λ (r : Remote). IsTrue answer ↔ Contains (contents r) (slot page index)) seen
    (subst (λ (x : ℕ). IsTrue answer ↔ Contains (contents (remote_by m.by_key)) x) is
    ((λ yes. somewhere_contained m place (h.0 yes)), (λ there. h.1 (contained_somewhere m place there))))

pub place_nowhere : (m : Lists) (place : ℕ) (answer : Bool) → (IsTrue answer ↔ IsSomewhere m place) → answer ≡ false → IsNowhere m place
place_nowhere m place answer h off key there = let yes : answer ≡ true = h.1 (key, there) in cc

pub place_new : (m : Lists) (place page index : ℕ) (answer : Bool) → place ≡ slot page index → (IsTrue answer ↔ IsSomewhere m place) → answer ≡ false → page < 16 → index < 512 → IsNew (remote_by m.by_key) page index
place_new m place page index answer is h off page_below index_below = record {
  page_below = page_below;
  index_below = index_below;
  away = λ there. (let yes : answer ≡ true = h.1 (contained_somewhere m place (subst (λ (x : ℕ). Contains (contents (remote_by m.by_key)) x) (sym is) there)) in cc);
}

-- whether nothing is there
pub none_left : (m : Lists) (flags : List Bool) (now : Remote) → IsKept m flags → remote_by m.by_key ≡ now → None ≡ slice_get (list_of m 0) 0 → contents now ≡ []
none_left m flags now h seen e = ap contents (sym seen) ∙ contents_none (remote_by m.by_key) h.right (sym (delayed_by m.by_key) ∙ no_first (list_of m 0) e)

pub some_left : (m : Lists) (flags : List Bool) (now : Remote) (first : ℕ) → IsKept m flags → remote_by m.by_key ≡ now → Some first ≡ slice_get (list_of m 0) 0 → contents now ≢ []
some_left m flags now first h seen e none =
    let f = first_delayed m flags first h e in
    contents_some (remote_by m.by_key) first f.others f.leads (ap contents seen ∙ none)

-- a test that is told, and one that isn't
pub told_yes : (P : Type 0) (answer : Bool) → (IsTrue answer ↔ P) → answer ≡ true → IsTrue true ↔ P
told_yes P answer h e = ((λ _. h.0 e), (λ _. refl))

pub told_not : (P : Type 0) (answer : Bool) → (IsTrue answer ↔ P) → answer ≡ false → IsTrue false ↔ P
told_not P answer h e = ((λ f. absurd (let t : true ≡ false = sym f in cc)), (λ p. (let t : answer ≡ true = h.1 p in sym e ∙ t)))

-- a push behind a delayed place of its page, and one on the delayed list
pub pushed_behind : (m new : Lists) (flags : List Bool) (key place page index : ℕ) → IsKept m flags → IsNew (remote_by m.by_key) page index → slice_index_or flags page false ≡ true → key ≡ suc page → place ≡ slot page index → new ≡ with_front m key place → AreApart new → Pushed (remote_by m.by_key) new flags page index
pushed_behind m new flags key place page index h n flag k is e apart =
    thread_pushed m new flags page index h n flag (e ∙ ap (λ (key : ℕ). with_front m key place) k ∙ ap (with_front m (suc page)) is) apart

pub pushed_first : (m new : Lists) (flags : List Bool) (place page index : ℕ) → IsKept m flags → IsNew (remote_by m.by_key) page index → slice_index_or flags page false ≡ false → place ≡ slot page index → new ≡ with_front m 0 place → AreApart new → Pushed (remote_by m.by_key) new (slice_set flags page true) page index
pushed_first m new flags place page index h n flag is e apart =
    delayed_pushed m new flags page index h n flag (e ∙ ap (with_front m 0) is) apart

-- what comes off from behind the first delayed place, and that place itself
pub taken_behind : (m new : Lists) (flags : List Bool) (first place page key : ℕ) → IsKept m flags → Some first ≡ slice_get (list_of m 0) 0 → page ≡ page_of first → key ≡ suc page → Some place ≡ slice_get (list_of m key) 0 → new ≡ without_entry m place → AreApart new → Taken (remote_by m.by_key) new flags place
taken_behind m new flags first place page key h lead p k e gone apart =
    thread_taken m new flags first place h lead (e ∙ ap (λ (at : ℕ). slice_get (list_of m at) 0) (k ∙ ap suc p)) gone apart

pub taken_first : (m new : Lists) (flags : List Bool) (first page key : ℕ) → IsKept m flags → Some first ≡ slice_get (list_of m 0) 0 → page ≡ page_of first → key ≡ suc page → None ≡ slice_get (list_of m key) 0 → new ≡ without_entry m first → AreApart new → Taken (remote_by m.by_key) new (slice_set flags page false) first
taken_first m new flags first page key h lead p k e gone apart =
    subst (λ (at : ℕ). Taken (remote_by m.by_key) new (slice_set flags at false) first) (sym p) (delayed_taken m new flags first h lead (no_first (list_of m (suc (page_of first))) (e ∙ ap (λ (at : ℕ). slice_get (list_of m at) 0) (k ∙ ap suc p))) gone apart)

-- a place that a list begins with is one of the segment
pub begins_below : (m : Lists) (flags : List Bool) (key place : ℕ) → IsKept m flags → Some place ≡ slice_get (list_of m key) 0 → place < 8192
begins_below m flags key place h e = omega (arith, h.entries, h.apart.below key place (Contains-first place (list_of m key) e))

-- what is drained, by the page and the index that are told
pub drains_by : (m new : Lists) (flags : List Bool) (now : Remote) (place page index : ℕ) → remote_by m.by_key ≡ now → page ≡ page_of place → index ≡ index_of place → Taken (remote_by m.by_key) new flags place → Drains now (remote_by new.by_key) page index
drains_by m new flags now place page index seen p i t = rw (p, i, ← seen) t.drained.drained

pub inserts_by : (m new : Lists) (flags : List Bool) (now : Remote) (place page index : ℕ) → remote_by m.by_key ≡ now → page ≡ page_of place → index ≡ index_of place → Taken (remote_by m.by_key) new flags place → Inserts (slot page index) (contents (remote_by new.by_key)) (contents now)
inserts_by m new flags now place page index seen p i t =
    let is : slot page index ≡ place = ap (λ (n : ℕ). slot n index) p ∙ ap (slot (page_of place)) i ∙ slot_is place in
    rw (is, ← seen) t.drained.removed

pub empty_iff : (m : Lists) (flags : List Bool) (now : Remote) (first : Option ℕ) (answer : Bool) → IsKept m flags → remote_by m.by_key ≡ now → first ≡ slice_get (list_of m 0) 0 → is_some first ≡ not answer → IsTrue answer ↔ (contents now ≡ [])
empty_iff m flags now None true h seen e is = ((λ _. none_left m flags now h seen e), (λ _. refl))
empty_iff m flags now None false h seen e is = cc
empty_iff m flags now (Some first) true h seen e is = cc
empty_iff m flags now (Some first) false h seen e is = ((λ f. absurd (let t : true ≡ false = sym f in cc)), (λ none. absurd (some_left m flags now first h seen e none)))

-- A place is known by its number, and a handle by its place's and its generation.
use Rattle.std.proofs.Common.{◌≡◌, ℕ, ◌<◌, ◌≤◌, ◌%◌, ◌*◌, sym, ap, subst, ◌∙◌, arith}
use Rattle.std.proofs.Math.Nat.{mod-eq_of_lt}
use Rattle.std.proofs.Math.Bridge.{le_prop}
use Rattle.hg_place.specs.declared.Place.{Place}
use Rattle.hg_place.specs.declared.Handle.{Handle}
use Rattle.hg_place.specs.declared.geometry.TheConstants.{MAX_SEGMENTS, SEGMENT_PAGES, PAGE_PLACES, SEGMENT_PLACES}
use Rattle.hg_place.specs.Places.{number_of, place_from, place_at}

below_prop : (a b : ℕ) (x y : a < b) → x ≡ y
below_prop a b x y = le_prop x y

least_prop : (g : ℕ) (x y : 1 ≤ g) → x ≡ y
least_prop g x y = le_prop x y

abbrev place_of : (segment page index : ℕ) → segment < MAX_SEGMENTS → page < SEGMENT_PAGES → index < PAGE_PLACES → Place
place_of segment page index a b c = record { segment = segment; page = page; index = index; segment_below = a; page_below = b; index_below = c }

same_parts : (segment page index : ℕ) (a x : segment < MAX_SEGMENTS) (b y : page < SEGMENT_PAGES) (c z : index < PAGE_PLACES) → place_of segment page index a b c ≡ place_of segment page index x y z
same_parts segment page index a x b y c z =
    ap (λ k. place_of segment page index k b c) (below_prop _ _ a x)
    ∙ ap (λ k. place_of segment page index x k c) (below_prop _ _ b y)
    ∙ ap (λ k. place_of segment page index x y k) (below_prop _ _ c z)

-- places with the same parts are one
pub same_place_parts : (p q : Place) → p.segment ≡ q.segment → p.page ≡ q.page → p.index ≡ q.index → p ≡ q
same_place_parts p q segment page index =
    subst (λ n. (x : n < MAX_SEGMENTS) → p ≡ place_of n q.page q.index x q.page_below q.index_below) segment
    (λ x. subst (λ n. (y : n < SEGMENT_PAGES) → p ≡ place_of p.segment n q.index x y q.index_below) page
    (λ y. subst (λ n. (z : n < PAGE_PLACES) → p ≡ place_of p.segment p.page n x y z) index
    (λ z. same_parts p.segment p.page p.index p.segment_below x p.page_below y p.index_below z)
    q.index_below)
    q.page_below)
    q.segment_below

-- and so are places with one number
pub same_place : (p q : Place) → number_of p ≡ number_of q → p ≡ q
same_place p q e =
    let pb = p.page_below in
    let qb = q.page_below in
    let pi = p.index_below in
    let qi = q.index_below in
    let segment : p.segment ≡ q.segment = omega arith in
    let page : p.page ≡ q.page = omega arith in
    let index : p.index ≡ q.index = omega arith in
    same_place_parts p q segment page index

-- the place that has these numbers is made of them
pub place_is : (place : Place) (s p i : ℕ) → place.segment ≡ s → place.page ≡ p → place.index ≡ i → place ≡ place_from s p i
place_is place s p i segment page index =
    same_place_parts place (place_from s p i)
    (sym (mod-eq_of_lt place.segment_below) ∙ ap (λ n. n % MAX_SEGMENTS) segment)
    (sym (mod-eq_of_lt place.page_below) ∙ ap (λ n. n % SEGMENT_PAGES) page)
    (sym (mod-eq_of_lt place.index_below) ∙ ap (λ n. n % PAGE_PLACES) index)

-- the number of the place of a number is that number
pub number_of-place_at : (number : ℕ) → number < MAX_SEGMENTS * SEGMENT_PLACES → number_of (place_at number) ≡ number
number_of-place_at number below = omega arith

-- and the place of the number of a place is that place
pub place_at-number_of : (place : Place) → place_at (number_of place) ≡ place
place_at-number_of place =
    let s = place.segment_below in
    let p = place.page_below in
    let i = place.index_below in
    same_place (place_at (number_of place)) place (number_of-place_at (number_of place) (omega arith))

-- handles of one place and generation are one
pub same_handle_parts : (h k : Handle) → h.place ≡ k.place → h.generation ≡ k.generation → h ≡ k
same_handle_parts h k e f =
    subst (λ g. (x : 1 ≤ g) → h ≡ record { place = k.place; generation = g; given_out = x }) f
    (λ x. ap (λ p. record { place = p; generation = h.generation; given_out = h.given_out }) e
    ∙ ap (λ z. record { place = k.place; generation = h.generation; given_out = z }) (least_prop h.generation h.given_out x))
    k.given_out

pub same_handle : (h k : Handle) → number_of h.place ≡ number_of k.place → h.generation ≡ k.generation → h ≡ k
same_handle h k e f = same_handle_parts h k (same_place h.place k.place e) f

-- What `pop` needs, and leaves.
use Rattle.std.proofs.Common.{◌≡◌, ◌≢◌, ℕ, ◌+◌, ◌-◌, ◌<◌, ◌≤◌, true, List, [], ◌∷◌, slice_set, refl, sym, ap, ◌∙◌, arith}
use Rattle.hg_lists.specs.Chains.{chain, IsChain}
use Rattle.hg_page.specs.Shapes.{shape_of, start_of}
use Rattle.hg_page.specs.PageLists.{Pops}
use Rattle.hg_page.specs.Links.{link_at, lists_of, IsSpare, Links, IsLinked}
use Rattle.hg_page.specs.declared.page.Page.{Page}
use Rattle.hg_lists.proofs.RepeatsLemmas.{Each-left}
use Rattle.hg_page.proofs.Chained.{chain-cons}
use Rattle.hg_page.proofs.Linked.{free-is, linked, block_begins, pops}
use Rattle.std.specs.List.{AllByRecursion}

-- what stands behind the head of `free`
abbrev pub rest_of : Page → List ℕ → List ℕ
rest_of p words = chain 511 (link_at p words) (link_at p words (p.free - 1))

pub head : (p : Page) (words : List ℕ) → IsLinked p words → p.free ≢ 0 → Links p words ((p.free - 1) ∷ rest_of p words) (chain 512 (link_at p words) p.local)
head p words h ne = rw (chain-cons 511 (link_at p words) p.free ne) at h

pub head_below : (p : Page) (words : List ℕ) → IsLinked p words → p.free ≢ 0 → p.free - 1 < p.places
head_below p words h ne = (head p words h ne).spare.0.0

pub start_below : (p : Page) (words : List ℕ) (index : ℕ) → IsLinked p words → index < p.places → start_of (shape_of p) index < 8192
start_below p words index h below = omega (arith, block_begins p.size p.places index below h.sized h.fits, h.within, h.sized)

-- a link that begins a chain of places is small
pub link_small : (p : Page) (next : ℕ → ℕ) (link : ℕ) (xs : List ℕ) → p.places ≤ 512 → IsChain next link xs → AllByRecursion (IsSpare p) xs → link ≤ 512
link_small p next link [] count h s = omega (arith, h)
link_small p next link (x ∷ xs) count h s = omega (arith, h.0, s.0.0)

pub next_small : (p : Page) (words : List ℕ) → IsLinked p words → p.free ≢ 0 → link_at p words (p.free - 1) ≤ 512
next_small p words h ne =
    let k = head p words h ne in
    link_small p (link_at p words) (link_at p words (p.free - 1)) (rest_of p words) k.count k.freed.1 (Each-left (IsSpare p) (rest_of p words) (chain 512 (link_at p words) p.local) k.spare.1)

abbrev pub popped_page : Page → ℕ → ℕ → Page
popped_page p index link = record p { free = link; in_use = p.in_use + 1; used = slice_set p.used index true }

pub popped : (p : Page) (words : List ℕ) (index link : ℕ) → IsLinked p words → p.free ≢ 0 → index ≡ p.free - 1 → link ≡ link_at p words index → Links (popped_page p index link) words (rest_of p words) (chain 512 (link_at p words) p.local)
popped p words index link h ne i e = pops p words (rest_of p words) (chain 512 (link_at p words) p.local) index link e (rw i (head p words h ne))

pub popped-linked : (p : Page) (words : List ℕ) (index link : ℕ) → IsLinked p words → p.free ≢ 0 → index ≡ p.free - 1 → link ≡ link_at p words index → IsLinked (popped_page p index link) words
popped-linked p words index link h ne i e = linked (popped_page p index link) words (rest_of p words) (chain 512 (link_at p words) p.local) (popped p words index link h ne i e)

pub popped-shown : (p : Page) (words : List ℕ) (index link : ℕ) → IsLinked p words → p.free ≢ 0 → index ≡ p.free - 1 → link ≡ link_at p words index → Pops index (lists_of p words) (lists_of (popped_page p index link) words)
popped-shown p words index link h ne i e = record {
  free = chain-cons 511 (link_at p words) p.free ne ∙ ap (λ x. x ∷ rest_of p words) (sym i) ∙ ap (λ xs. index ∷ xs) (sym (free-is (popped_page p index link) words (rest_of p words) (chain 512 (link_at p words) p.local) (popped p words index link h ne i e)));
  local_free = refl;
  used = refl;
}

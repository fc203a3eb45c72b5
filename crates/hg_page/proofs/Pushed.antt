-- What `push_local` and `wear` leave.
use Rattle.std.proofs.Common.{◌≡◌, ℕ, ◌+◌, ◌-◌, true, false, cond, nat_eq, List, ◌∷◌, ◌++◌, slice_index_or, slice_set, refl, sym, arith, subst, get_or-set_other}
use Rattle.std.specs.Prelude.{Contains}
use Rattle.std.proofs.lemmas.List.Elements.{Contains-append_right}
use Rattle.hg_lists.specs.Chains.{chain}
use Rattle.hg_page.specs.Shapes.{shape_of, start_of}
use Rattle.hg_page.specs.PageLists.{PageLists, listed}
use Rattle.hg_page.specs.Links.{link_at, lists_of, Links, IsLinked}
use Rattle.hg_page.specs.Others.{KeepsOthers}
use Rattle.hg_page.specs.declared.page.Page.{Page}
use Rattle.hg_page.proofs.Chained.{last_of-front}
use Rattle.hg_page.proofs.Linked.{free-is, local-is, linked, pushes, wears}

abbrev pub pushed_page : Page → ℕ → Page
pushed_page p index = record p { local = index + 1; local_end = cond (nat_eq p.local 0) index p.local_end; in_use = p.in_use - 1; used = slice_set p.used index false }

abbrev pub pushed_words : Page → List ℕ → ℕ → List ℕ
pushed_words p words index = slice_set words (start_of (shape_of p) index) p.local

pub pushed : (p : Page) (words : List ℕ) (index : ℕ) → IsLinked p words → slice_index_or p.used index false ≡ true → Links (pushed_page p index) (pushed_words p words index) (chain 512 (link_at p words) p.free) (index ∷ chain 512 (link_at p words) p.local)
pushed p words index h is = pushes p words (chain 512 (link_at p words) p.free) (chain 512 (link_at p words) p.local) index (cond (nat_eq p.local 0) index p.local_end) is (last_of-front 511 (link_at p words) p.local p.local_end index h.local_end) h

pub pushed-linked : (p : Page) (words : List ℕ) (index : ℕ) → IsLinked p words → slice_index_or p.used index false ≡ true → IsLinked (pushed_page p index) (pushed_words p words index)
pushed-linked p words index h is = linked (pushed_page p index) (pushed_words p words index) _ _ (pushed p words index h is)

pub pushed-shown : (p : Page) (words : List ℕ) (index : ℕ) → IsLinked p words → slice_index_or p.used index false ≡ true → lists_of (pushed_page p index) (pushed_words p words index) ≡ record { free = (lists_of p words).free; local_free = index ∷ (lists_of p words).local_free; used = slice_set p.used index false }
pushed-shown p words index h is = rw (free-is (pushed_page p index) (pushed_words p words index) _ _ (pushed p words index h is), local-is (pushed_page p index) (pushed_words p words index) _ _ (pushed p words index h is)) refl

-- the word of a listed place is all that is written
pub others_set : (p : Page) (words xs : List ℕ) (index value : ℕ) → Contains xs index → KeepsOthers (shape_of p) xs words (slice_set words (start_of (shape_of p) index) value)
others_set p words xs index value on at apart = get_or-set_other words (start_of (shape_of p) index) at value 0 (apart index on)

pub pushed-others : (p : Page) (words : List ℕ) (index : ℕ) → IsLinked p words → slice_index_or p.used index false ≡ true → KeepsOthers (shape_of (pushed_page p index)) (listed (lists_of (pushed_page p index) (pushed_words p words index))) words (pushed_words p words index)
pushed-others p words index h is = subst (λ (l : PageLists). KeepsOthers (shape_of (pushed_page p index)) (listed l) words (pushed_words p words index)) (sym (pushed-shown p words index h is)) (others_set p words (chain 512 (link_at p words) p.free ++ (index ∷ chain 512 (link_at p words) p.local)) index p.local (Contains-append_right (chain 512 (link_at p words) p.free) (index ∷ chain 512 (link_at p words) p.local) index (0, omega arith, refl)))

pub worn-linked : (p : Page) (words : List ℕ) (index : ℕ) → IsLinked p words → slice_index_or p.used index false ≡ true → IsLinked (record p { in_use = p.in_use - 1; used = slice_set p.used index false }) words
worn-linked p words index h is = wears p words (chain 512 (link_at p words) p.free) (chain 512 (link_at p words) p.local) index is h

pub worn-shown : (p : Page) (words : List ℕ) (index : ℕ) → lists_of (record p { in_use = p.in_use - 1; used = slice_set p.used index false }) words ≡ record { free = (lists_of p words).free; local_free = (lists_of p words).local_free; used = slice_set p.used index false }
worn-shown p words index = refl

-- the three clauses of `push_local`, at the values of its body
pub record Pushed (p q : Page) (words new : List ℕ) (index : ℕ) : Type 0 where
  pub linked : IsLinked q new
  pub shown : lists_of q new ≡ record { free = (lists_of p words).free; local_free = index ∷ (lists_of p words).local_free; used = slice_set p.used index false }
  pub others : KeepsOthers (shape_of q) (listed (lists_of q new)) words new

pub pushed-all : (p : Page) (words new : List ℕ) (index end start : ℕ) → IsLinked p words → slice_index_or p.used index false ≡ true → end ≡ cond (nat_eq p.local 0) index p.local_end → start ≡ start_of (shape_of p) index → new ≡ slice_set words start p.local → Pushed p (record p { local = index + 1; local_end = end; in_use = p.in_use - 1; used = slice_set p.used index false }) words new index
pushed-all p words new index end start h is e s n = rw (n, s, e) (record { linked = pushed-linked p words index h is; shown = pushed-shown p words index h is; others = pushed-others p words index h is })

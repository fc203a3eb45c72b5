-- When no place is on a list.
use Rattle.std.proofs.Common.{◌≡◌, ◌≢◌, ℕ, List, [], refl, ap, arith, inl, inr, length}
use Rattle.std.proofs.lemmas.Bool.{cases_eq}
use Rattle.std.proofs.lemmas.List.{length-append}
use Rattle.hg_lists.specs.Chains.{chain}
use Rattle.hg_page.specs.PageLists.{listed}
use Rattle.hg_page.specs.Links.{link_at, lists_of}
use Rattle.hg_page.specs.declared.page.Page.{Page}
use Rattle.hg_page.proofs.Chained.{chain-cons, chain-nil}

pub no_listed : (p : Page) (words : List ℕ) → p.free ≡ 0 → p.local ≡ 0 → listed (lists_of p words) ≡ []
no_listed p words f l = rw (chain-nil 511 (link_at p words) p.free f, chain-nil 511 (link_at p words) p.local l) refl

-- a chain that leads somewhere is longer than none
long : (next : ℕ → ℕ) (link : ℕ) → link ≢ 0 → length (chain 512 next link) ≢ 0
long next link ne e = let step = ap (length {A = ℕ}) (chain-cons 511 next link ne) in absurd (omega (arith, step, e))

chain_empty : (next : ℕ → ℕ) (link : ℕ) → length (chain 512 next link) ≡ 0 → link ≡ 0
chain_empty next link e = elim (cases_eq link 0) [ inl z ↦ z | inr ne ↦ absurd (long next link ne e) ]

pub listed_none : (p : Page) (words : List ℕ) → listed (lists_of p words) ≡ [] → (p.free ≡ 0) × (p.local ≡ 0)
listed_none p words e =
    let sum = length-append (lists_of p words).free (lists_of p words).local_free in
    let none : length (listed (lists_of p words)) ≡ 0 = ap (length {A = ℕ}) e in
    (chain_empty (link_at p words) p.free (omega (arith, sum, none)), chain_empty (link_at p words) p.local (omega (arith, sum, none)))

-- Pages whose lists are linked.
use Rattle.std.proofs.Common.{◌≡◌, ◌≢◌, ℕ, ◌+◌, ◌*◌, ◌-◌, ◌<◌, ◌≤◌, Bool, true, false, cond, List, [], ◌∷◌, ◌++◌, length, slice_index_or, slice_set, count_by, refl, sym, ap, ◌∙◌, arith, subst, get_or-set_other, get_or-set_same, inl, inr}
use Rattle.std.specs.List.{AllByRecursion}
use Rattle.std.proofs.Math.Nat.{mul-le-mul_left, le_of_mul-le-mul_left}
use Rattle.std.proofs.lemmas.List.{length-set, get_or_default, append-nil, length-append}
use Rattle.std.proofs.lemmas.Bool.{cases_eq}
use Rattle.std.proofs.lemmas.List.Sums.{sum_by-set}
use Rattle.hg_lists.specs.Chains.{chain}
use Rattle.hg_lists.specs.Repeats.{HasNoRepeats}
use Rattle.hg_size.specs.Sizes.{pages_of}
use Rattle.hg_page.specs.Links.{last_of}
use Rattle.hg_page.specs.Shapes.{shape_of, start_of}
use Rattle.hg_page.specs.Links.{link_at, IsSpare, Links, IsLinked}
use Rattle.hg_page.specs.declared.page.Page.{Page}
use Rattle.hg_lists.proofs.RepeatsLemmas.{Each-both, Each-weaker, Each-left, Each-right, Each-middle, Lacks-each, Each-lacks, HasNoRepeats-middle, HasNoRepeats-left}
use Rattle.hg_page.proofs.Chained.{chain-is, chain_kept, chain_joined, last_of-append, Apart-last, last_of-tail, last_each}

-- linked lists are those that the words show
pub free-is : (p : Page) (words free local : List ℕ) → Links p words free local → chain 512 (link_at p words) p.free ≡ free
free-is p words free local h = chain-is 512 (link_at p words) p.free free h.freed (omega (arith, h.room, h.count))

pub local-is : (p : Page) (words free local : List ℕ) → Links p words free local → chain 512 (link_at p words) p.local ≡ local
local-is p words free local h = chain-is 512 (link_at p words) p.local local h.locals (omega (arith, h.room, h.count))

pub linked : (p : Page) (words free local : List ℕ) → Links p words free local → IsLinked p words
linked p words free local h = rw (free-is p words free local h, local-is p words free local h) h

-- a block begins inside the page
pub block_begins : (size places index : ℕ) → index < places → 1 ≤ size → size * places ≤ pages_of size * 512 → size * index < 512
block_begins size places index below sized fits = omega (arith, mul-le-mul_left size (let h : index + 1 ≤ places = omega arith in h))

-- two blocks begin apart
pub starts_apart : (base size i j : ℕ) → 1 ≤ size → i ≢ j → base + size * i ≢ base + size * j
starts_apart base size i j sized ne e =
    let positive : 0 < size = omega arith in
    let up : i ≤ j = le_of_mul-le-mul_left {m = i} {n = j} {k = size} (omega arith) positive in
    let down : j ≤ i = le_of_mul-le-mul_left {m = j} {n = i} {k = size} (omega arith) positive in
    ne (omega arith)

-- one more, or one less, is used
pub count_more : (used : List Bool) (i : ℕ) → i < length used → slice_index_or used i true ≡ false → count_by (λ b. b) (slice_set used i true) ≡ count_by (λ b. b) used + 1
count_more used i l e = omega (arith, rw e at (sum_by-set (λ b. cond b 1 0) used i true true l))

pub count_less : (used : List Bool) (i : ℕ) → i < length used → slice_index_or used i false ≡ true → count_by (λ b. b) (slice_set used i false) + 1 ≡ count_by (λ b. b) used
count_less used i l e = omega (arith, rw e at (sum_by-set (λ b. cond b 1 0) used i false false l))

-- the link of another block than the one that is written
pub link_kept : (p : Page) (words : List ℕ) (i j value : ℕ) → 1 ≤ p.size → i ≢ j → link_at p (slice_set words (start_of (shape_of p) i) value) j ≡ link_at p words j
link_kept p words i j value sized ne = get_or-set_other words (start_of (shape_of p) i) (start_of (shape_of p) j) value 0 (starts_apart p.base p.size j i sized (λ e. ne (sym e)))

pub links_kept : (p : Page) (words : List ℕ) (i value : ℕ) (xs : List ℕ) → 1 ≤ p.size → AllByRecursion (λ j. i ≢ j) xs → AllByRecursion (λ j. link_at p (slice_set words (start_of (shape_of p) i) value) j ≡ link_at p words j) xs
links_kept p words i value xs sized apart = Each-weaker (λ j. i ≢ j) (λ j. link_at p (slice_set words (start_of (shape_of p) i) value) j ≡ link_at p words j) xs (λ j ne. link_kept p words i j value sized ne) apart

-- other words with the same links show the same lists
pub kept_by : (p : Page) (words other free local : List ℕ) → length other ≡ 8192 → AllByRecursion (λ i. link_at p other i ≡ link_at p words i) (free ++ local) → Links p words free local → Links p other free local
kept_by p words other free local whole same h = record {
  sized = h.sized;
  count = h.count;
  fits = h.fits;
  within = h.within;
  whole = whole;
  freed = chain_kept (link_at p words) (link_at p other) p.free free (Each-left (λ i. link_at p other i ≡ link_at p words i) free local same) h.freed;
  locals = chain_kept (link_at p words) (link_at p other) p.local local (Each-right (λ i. link_at p other i ≡ link_at p words i) free local same) h.locals;
  free_end = h.free_end;
  local_end = h.local_end;
  apart = h.apart;
  spare = h.spare;
  flags = h.flags;
  counted = h.counted;
  used = h.used;
  room = h.room;
}

-- the head of `free` comes off
pub pops : (p : Page) (words free local : List ℕ) (index link : ℕ) → link ≡ link_at p words index → Links p words (index ∷ free) local → Links (record p { free = link; in_use = p.in_use + 1; used = slice_set p.used index true }) words free local
pops p words free local index link e h =
    let there : index < length p.used = omega (arith, h.spare.0.0, h.flags, h.count) in record {
      sized = h.sized;
      count = h.count;
      fits = h.fits;
      within = h.within;
      whole = h.whole;
      freed = rw e h.freed.1;
      locals = h.locals;
      free_end = last_of-tail p.free_end index free h.free_end;
      local_end = h.local_end;
      apart = h.apart.1;
      spare = Each-both (λ y. index ≢ y) (IsSpare p) (λ y. (y < p.places) × (slice_index_or (slice_set p.used index true) y true ≡ false)) (free ++ local) (λ y ne s. (s.0, get_or-set_other p.used index y true true (λ e. ne (sym e)) ∙ s.1)) (Lacks-each index (free ++ local) h.apart.0) h.spare.1;
      flags = length-set p.used index true ∙ h.flags;
      counted = omega (arith, count_more p.used index there h.spare.0.1, h.counted);
      used = λ i is. elim (cases_eq i index) [ inl same ↦ rw same h.spare.0.0 | inr ne ↦ h.used i (sym (get_or-set_other p.used index i true false ne) ∙ is) ];
      room = omega (arith, h.room);
    }

-- an index that is used stands on no list
pub used_apart : (p : Page) (index : ℕ) (xs : List ℕ) → index < length p.used → slice_index_or p.used index false ≡ true → AllByRecursion (IsSpare p) xs → AllByRecursion (λ y. index ≢ y) xs
used_apart p index xs l is spare = Each-weaker (IsSpare p) (λ y. index ≢ y) xs (λ y s e. let d = get_or_default p.used index false true l in let h = rw e at d in let k = rw e at is in cc) spare

-- a used index goes in front of `local_free`
pub pushes : (p : Page) (words free local : List ℕ) (index end : ℕ) → slice_index_or p.used index false ≡ true → last_of index local ≡ end → Links p words free local → Links (record p { local = index + 1; local_end = end; in_use = p.in_use - 1; used = slice_set p.used index false }) (slice_set words (start_of (shape_of p) index) p.local) free (index ∷ local)
pushes p words free local index end is ends h =
    let below : index < p.places = h.used index is in
    let there : index < length p.used = omega (arith, h.flags, h.count) in
    let apart = used_apart p index (free ++ local) there is h.spare in
    let same = links_kept p words index p.local (free ++ local) h.sized apart in
    let start : start_of (shape_of p) index < length words = omega (arith, block_begins p.size p.places index below h.sized h.fits, h.within, h.whole, h.sized) in record {
      sized = h.sized;
      count = h.count;
      fits = h.fits;
      within = h.within;
      whole = length-set words (start_of (shape_of p) index) p.local ∙ h.whole;
      freed = chain_kept (link_at p words) (link_at p (slice_set words (start_of (shape_of p) index) p.local)) p.free free (Each-left (λ j. link_at p (slice_set words (start_of (shape_of p) index) p.local) j ≡ link_at p words j) free local same) h.freed;
      locals = (omega arith, rw (get_or-set_same words (start_of (shape_of p) index) p.local 0 start) (chain_kept (link_at p words) (link_at p (slice_set words (start_of (shape_of p) index) p.local)) p.local local (Each-right (λ j. link_at p (slice_set words (start_of (shape_of p) index) p.local) j ≡ link_at p words j) free local same) h.locals));
      free_end = h.free_end;
      local_end = ends;
      apart = HasNoRepeats-middle index free local (Each-lacks index (free ++ local) apart) h.apart;
      spare = Each-middle (λ y. (y < p.places) × (slice_index_or (slice_set p.used index false) y true ≡ false)) free local index (below, get_or-set_same p.used index false true there) (Each-both (λ y. index ≢ y) (IsSpare p) (λ y. (y < p.places) × (slice_index_or (slice_set p.used index false) y true ≡ false)) (free ++ local) (λ y ne s. (s.0, get_or-set_other p.used index y false true (λ e. ne (sym e)) ∙ s.1)) apart h.spare);
      flags = length-set p.used index false ∙ h.flags;
      counted = omega (arith, count_less p.used index there is, h.counted);
      used = λ i lit. elim (cases_eq i index) [ inl same ↦ rw same below | inr ne ↦ h.used i (sym (get_or-set_other p.used index i false false ne) ∙ lit) ];
      room = omega (arith, h.room, h.counted, count_less p.used index there is);
    }

-- a used index is used no more, and stands on no list
pub wears : (p : Page) (words free local : List ℕ) (index : ℕ) → slice_index_or p.used index false ≡ true → Links p words free local → Links (record p { in_use = p.in_use - 1; used = slice_set p.used index false }) words free local
wears p words free local index is h =
    let below : index < p.places = h.used index is in
    let there : index < length p.used = omega (arith, h.flags, h.count) in
    let apart = used_apart p index (free ++ local) there is h.spare in record {
      sized = h.sized;
      count = h.count;
      fits = h.fits;
      within = h.within;
      whole = h.whole;
      freed = h.freed;
      locals = h.locals;
      free_end = h.free_end;
      local_end = h.local_end;
      apart = h.apart;
      spare = Each-both (λ y. index ≢ y) (IsSpare p) (λ y. (y < p.places) × (slice_index_or (slice_set p.used index false) y true ≡ false)) (free ++ local) (λ y ne s. (s.0, get_or-set_other p.used index y false true (λ e. ne (sym e)) ∙ s.1)) apart h.spare;
      flags = length-set p.used index false ∙ h.flags;
      counted = omega (arith, count_less p.used index there is, h.counted);
      used = λ i lit. elim (cases_eq i index) [ inl same ↦ rw same below | inr ne ↦ h.used i (sym (get_or-set_other p.used index i false false ne) ∙ lit) ];
      room = omega (arith, h.room, h.counted, count_less p.used index there is);
    }

-- `local_free` goes behind `free`
pub joins : (p : Page) (words free local : List ℕ) (x y : ℕ) → Links p words (x ∷ free) (y ∷ local) → Links (record p { free_end = p.local_end; local = 0 }) (slice_set words (start_of (shape_of p) p.free_end) p.local) ((x ∷ free) ++ (y ∷ local)) []
joins p words free local x y h =
    let all : List ℕ = (x ∷ free) ++ (y ∷ local) in
    let spare_end : IsSpare p p.free_end = subst (IsSpare p) h.free_end (last_each (IsSpare p) x free (Each-left (IsSpare p) (x ∷ free) (y ∷ local) h.spare)) in
    let start : start_of (shape_of p) p.free_end < length words = omega (arith, block_begins p.size p.places p.free_end spare_end.0 h.sized h.fits, h.within, h.whole, h.sized) in
    let ends_apart : AllByRecursion (λ i. p.free_end ≢ i) (y ∷ local) = subst (λ (e : ℕ). AllByRecursion (λ i. e ≢ i) (y ∷ local)) h.free_end (Apart-last x free (y ∷ local) h.apart) in
    record {
      sized = h.sized;
      count = h.count;
      fits = h.fits;
      within = h.within;
      whole = length-set words (start_of (shape_of p) p.free_end) p.local ∙ h.whole;
      freed = chain_joined (link_at p words) (link_at p (slice_set words (start_of (shape_of p) p.free_end) p.local)) p.free p.local x free (y ∷ local) (HasNoRepeats-left (x ∷ free) (y ∷ local) h.apart)
          (λ i ne. link_kept p words p.free_end i p.local h.sized (λ e. ne (sym (h.free_end ∙ e))))
          (ap (link_at p (slice_set words (start_of (shape_of p) p.free_end) p.local)) h.free_end ∙ get_or-set_same words (start_of (shape_of p) p.free_end) p.local 0 start)
          h.freed
          (chain_kept (link_at p words) (link_at p (slice_set words (start_of (shape_of p) p.free_end) p.local)) p.local (y ∷ local) (links_kept p words p.free_end p.local (y ∷ local) h.sized ends_apart) h.locals);
      locals = refl;
      free_end = last_of-append p.local_end y (x ∷ free) local ∙ h.local_end;
      local_end = refl;
      apart = subst HasNoRepeats (sym (append-nil ((x ∷ free) ++ (y ∷ local)))) h.apart;
      spare = subst (AllByRecursion (IsSpare p)) (sym (append-nil ((x ∷ free) ++ (y ∷ local)))) h.spare;
      flags = h.flags;
      counted = h.counted;
      used = h.used;
      room = omega (arith, h.room, length-append (x ∷ free) (y ∷ local));
    }

-- an empty `free` takes over `local_free`
pub swaps : (p : Page) (words local : List ℕ) → Links p words [] local → Links (record p { free = p.local; free_end = p.local_end; local = 0 }) words local []
swaps p words local h = record {
  sized = h.sized;
  count = h.count;
  fits = h.fits;
  within = h.within;
  whole = h.whole;
  freed = h.locals;
  locals = refl;
  free_end = h.local_end;
  local_end = refl;
  apart = rw (append-nil local) h.apart;
  spare = rw (append-nil local) h.spare;
  flags = h.flags;
  counted = h.counted;
  used = h.used;
  room = omega (arith, h.room);
}

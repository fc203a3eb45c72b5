-- A segment over plain words in a core.
use Rattle.std.proofs.Common.{◌≡◌, ℕ, ◌+◌, ◌*◌, ◌/◌, ◌%◌, ◌≤◌, Bool, true, false, not, List}
use Rattle.std.proofs.Common.{slice_index_or, refl, sym, ap, ◌∙◌, arith, subst, inl, inr}
use Rattle.std.proofs.lemmas.Bool.{cases_lt}
use Rattle.std.proofs.lemmas.List.{get_or_past, get_or-set_other}
use Rattle.std.proofs.lemmas.Option.{slice_get_within}
use Rattle.hg_place.specs.declared.standing.Standing.{Standing}
use Rattle.hg_place.specs.declared.standing.Standing.TheVariants.{Home, Open}
use Rattle.hg_place.specs.Plain.{plain_records, plain_words}
use Rattle.hg_place.specs.Slots.{slot_in}
use Rattle.hg_place.specs.Standings.{standing_at, standing_generation, is_home as is_at_home}
use Rattle.hg_segment.specs.Blocks.{block_at}
use Rattle.hg_machine.specs.Life.{Record, is_home, is_live, is_parted}
use Rattle.hg_agreement.specs.Witness.{held_life}
use Rattle.hg_agreement.specs.Holdings.{block_by, block_of}
use Rattle.hg_agreement.specs.Parts.{plain_from}
use Rattle.hg_agreement.proofs.HeldLives.{twice, held_home, held_live, held_parted}
use Rattle.hg_parts.specs.Links.{SettledIsRight, LivesAreTold, PlainPutKeepsOthers}

pub settled_right : SettledIsRight
settled_right policy s arena greatest h = record {
  arena = arena;
  greatest = greatest;
  holding = record {
    number = slice_get_within policy.segments s.slots.segment s.arena arena;
    sizes = h.sizes;
    runs = h.runs;
    whole = h.words;
    bounded =
        λ at. subst (λ k. standing_generation (standing_at (plain_records s.slots) at) ≤ k) greatest
        (h.bounded at);
    given_out =
        λ at out. elim (cases_lt at 8192) [
          | inl lt ↦ (s.slots.fit at lt).1.given_out out
          | inr ge ↦ absurd (let past : is_at_home (standing_at (plain_records s.slots) at)
              ≡ is_at_home (Home 0) =
              ap is_at_home (get_or_past (plain_records s.slots) at (Home 0)
              (omega (arith, ge, s.slots.all_records))) in cc)
        ];
    placed = h.opened;
  };
  lists = h.lists;
  listed = h.listed;
  fits = λ at lt. s.slots.fit at lt;
}

-- the life of a place

home_told : (st : Standing) (freed : Bool) (words : List ℕ) → is_at_home st ≡ true
    → is_home (held_life freed st words) ≡ true
home_told st freed words e = held_home freed st words ∙ e

live_told : (st : Standing) (live : Bool) (words : List ℕ) → is_at_home st ≡ false → live ≡ true
    → is_live (held_life (not live) st words) ≡ true
live_told st live words out e = held_live (not live) st words out ∙ twice live ∙ e

parted_told : (st : Standing) (live : Bool) (words : List ℕ) → is_at_home st ≡ false
    → live ≡ false → is_parted (held_life (not live) st words) ≡ true
parted_told st live words out e =
    ap (λ b. is_parted (held_life (not b) st words)) e ∙ held_parted st words out

pub lives_told : LivesAreTold
lives_told one at =
    let st = standing_at one.holding.standings at in
    let live = (slot_in (slice_index_or one.slots at 0)).live in
    let words = block_of one.holding at in
    record {
      home = home_told st (not live) words;
      live = live_told st live words;
      parted = parted_told st live words;
    }

-- the other places of a segment in which one has changed

same_block : (st : Standing) (old new : List ℕ) → (is_at_home st ≡ false → new ≡ old)
    → block_by st new ≡ block_by st old
same_block (Home g) old new same = refl
same_block (Open g o) old new same = same refl

-- what is told of a place, by what it stands for
abbrev told : Standing → ℕ → List ℕ → Record
told st word words = record {
  generation = standing_generation st;
  life = held_life (not (slot_in word).live) st words;
}

told_alike : (st other : Standing) (word seen : ℕ) (words blocks : List ℕ) → st ≡ other
    → word ≡ seen → words ≡ blocks → told st word words ≡ told other seen blocks
told_alike st other word seen words blocks e f g =
    ap (λ s. told s word words) e ∙ ap (λ w. told other w words) f ∙ ap (told other seen) g

pub put_others : PlainPutKeepsOthers
put_others one now at put other low ne =
    let st = standing_at (plain_records now.slots) other in
    let was = standing_at (plain_records one.slots) other in
    let same : st ≡ was = put.standings other low ne in
    let word : slice_index_or (plain_words now.slots) other 0
    ≡ slice_index_or (plain_words one.slots) other 0 =
    ap (λ ws. slice_index_or ws other 0) put.words
    ∙ get_or-set_other (plain_words one.slots) at other put.word 0 ne in
    let at_is : other / 512 * 512 + other % 512 ≡ other = omega arith in
    let blocks : block_of (plain_from now).holding other ≡ block_of (plain_from one).holding other =
    same_block st (block_at one.words one.classes (other / 512) (other % 512))
    (block_at now.words now.classes (other / 512) (other % 512))
    (λ out. put.blocks (other / 512) (other % 512) (omega (arith, low)) (omega arith)
    (λ e. ne (sym at_is ∙ e))
    (subst (λ k. is_at_home (standing_at (plain_records now.slots) k) ≡ false) (sym at_is) out))
    ∙ ap (λ x. block_by x (block_at one.words one.classes (other / 512) (other % 512))) same in
    told_alike st was (slice_index_or (plain_words now.slots) other 0)
    (slice_index_or (plain_words one.slots) other 0) (block_of (plain_from now).holding other)
    (block_of (plain_from one).holding other) same word blocks

-- Records of places that a worker doesn't hold, in its witness state.
use Rattle.std.proofs.Common.{◌≡◌, ℕ, ◌/◌, ◌%◌, ◌==◌, ◌<◌, ◌≤◌, Bool, true, false, ◌||◌}
use Rattle.std.proofs.Common.{if◌then◌else◌, length, Option, Some, refl, sym, ap, subst, ◌∙◌, arith}
use Rattle.std.proofs.lemmas.Bool.{eqb-true, true≢false}
use Rattle.hg_size.specs.Sizes.{places_of}
use Rattle.hg_place.specs.Slots.{Slot, slot_in}
use Rattle.hg_machine.specs.Life.{Life, home, live, parted, never_used, is_home, is_live, is_parted}
use Rattle.hg_machine.specs.Life.{owner_of, contents_of}
use Rattle.hg_machine.specs.Soundness.{IsSoundRecord}
use Rattle.hg_agreement.specs.Witness.{one_word, other_record}
use Rattle.hg_agreement.proofs.Closes.{native, parts}

-- a live word has a generation
pub alive_given : (w : ℕ) → (slot_in w).live ≡ true → 1 ≤ (slot_in w).generation
alive_given w e =
    let f = native w e in
    let n = parts w f in
    let as_is : slot_in w ≡ record {
      generation = w / 4294967296;
      owner = w % 4294967296 / 2;
      live =
          w % 2 == 1;
    } = ap (λ b. if b then record { generation = 0; owner = 0; live = false }
    else record { generation = w / 4294967296; owner = w % 4294967296 / 2; live = w % 2 == 1 })
    f in
    let odd : w % 2 ≡ 1 = eqb-true _ _ (ap (λ s. s.live) (sym as_is) ∙ e) in
    let some : w / 4294967296 ≡ 0 → ⊥ = λ z. let q = n.unused z in omega arith in
    let g : (slot_in w).generation ≡ w / 4294967296 = ap (λ s. s.generation) as_is in
    omega (arith, some)

-- records of other places
pub one_sound : (greatest index g : ℕ) (class : Option ℕ) (l : Life) → class ≡ Some 1 → index < 512
    → g ≤ greatest → (is_home l ≡ false → 1 ≤ g) → (is_home l ≡ false → length (contents_of l) ≡ 1)
    → IsSoundRecord greatest class index (record { generation = g; life = l })
one_sound greatest index g class l c few most given sized = record {
  generation = most;
  given_out = given;
  same_class = λ used. c ∙ ap Some (sym (sized used));
  below = λ used. subst (λ n. index < places_of n) (sym (sized used)) few;
}

pub told : Slot → Life
told slot = if slot.live then live slot.owner one_word else home

pub told_alive : (b : Bool) (o : ℕ) → is_home (if b then live o one_word else home) ≡ false
    → b ≡ true
told_alive true o e = refl
told_alive false o e = absurd (true≢false e)

pub told_words : (b : Bool) (o : ℕ) → is_home (if b then live o one_word else home) ≡ false
    → length (contents_of (if b then live o one_word else home)) ≡ 1
told_words true o e = refl
told_words false o e = absurd (true≢false e)

pub told_live : (b : Bool) (o : ℕ) → is_live (if b then live o one_word else home) ≡ b
told_live true o = refl
told_live false o = refl

pub told_owner : (b : Bool) (o : ℕ) → is_home (if b then live o one_word else home) ≡ false
    → owner_of (if b then live o one_word else home) ≡ o
told_owner true o e = refl
told_owner false o e = absurd (true≢false e)

pub home_sound : (greatest index : ℕ) (class : Option ℕ)
    → IsSoundRecord greatest class index never_used
home_sound greatest index class = record {
  generation = omega arith;
  given_out = λ e. absurd (true≢false e);
  same_class = λ e. absurd (true≢false e);
  below = λ e. absurd (true≢false e);
}

pub other_sound : (greatest index : ℕ) (class : Option ℕ) (in_hand at : Bool) (slot : Slot) (g : ℕ)
    → index < 512 → ((in_hand || at) ≡ true → class ≡ Some 1)
    → (at ≡ true → slot.generation ≤ greatest)
    → (at ≡ true → slot.live ≡ true → 1 ≤ slot.generation)
    → (in_hand ≡ true → (1 ≤ g) × (g ≤ greatest))
    → (in_hand ≡ true → at ≡ true → slot.generation ≡ g)
    → IsSoundRecord greatest class index (other_record in_hand at slot g)
other_sound greatest index class true true slot g few c most alive hand same =
    one_sound greatest index slot.generation class (parted slot.owner one_word) (c refl) few
    (most refl) (λ used. let a = hand refl in let b = a.0 in let e = same refl refl in omega
    arith) (λ used. refl)
other_sound greatest index class true false slot g few c most alive hand same =
    one_sound greatest index g class (parted 0 one_word) (c refl) few ((hand refl).1)
    (λ used. (hand refl).0) (λ used. refl)
other_sound greatest index class false true slot g few c most alive hand same =
    one_sound greatest index slot.generation class
    (if slot.live then live slot.owner one_word else home) (c refl) few (most refl)
    (λ used. alive refl (told_alive slot.live slot.owner used))
    (told_words slot.live slot.owner)
other_sound greatest index class false false slot g few c most alive hand same =
    home_sound greatest index class

pub other_parted : (at : Bool) (slot : Slot) (g : ℕ) → is_parted (other_record true at slot g).life
    ≡ true
other_parted true slot g = refl
other_parted false slot g = refl

-- What a slot word that fits a record says of its place.
use Rattle.std.proofs.Common.{◌≡◌, ℕ, ◌%◌, true, false, ap, ◌∙◌, arith}
use Rattle.std.proofs.lemmas.Bool.{ne_eqb}
use Rattle.hg_place.specs.declared.standing.Standing.{Standing}
use Rattle.hg_place.specs.Slots.{slot_in}
use Rattle.hg_place.specs.Lives.{IsSlotWord}
use Rattle.hg_place.specs.Standings.{is_home, standing_generation, standing_owner}
use Rattle.hg_agreement.specs.Views.{IsWordOf}
use Rattle.hg_agreement.proofs.Closes.{read_as, from_parts}

pub record IsFit (standing : Standing) (word : ℕ) : Type 0 where
  pub generation : (slot_in word).generation ≡ standing_generation standing
  pub owner : is_home standing ≡ false → (slot_in word).owner ≡ standing_owner standing
  pub freed : is_home standing ≡ true → (slot_in word).live ≡ false

-- a slot word says what its parts are
pub slot_read : (word : ℕ) → IsSlotWord word → slot_in word ≡ read_as word false
slot_read word slot =
    ap (read_as word) (from_parts word (record {
      low = (let bits = slot.1 in omega arith);
      unused = λ z. (let only = slot.2 in let big = slot.0 in let e = only (omega arith) in omega
          arith);
    }))

pub fit_word : (standing : Standing) (word : ℕ) → IsWordOf standing word → IsFit standing word
fit_word standing word is =
    let read = slot_read word is.0 in
    record {
      generation = ap (λ s. s.generation) read ∙ is.1.generation;
      owner = λ out. ap (λ s. s.owner) read ∙ is.1.owner out;
      freed = λ home. ap (λ s. s.live) read
          ∙ (let even = is.1.freed home in ne_eqb (word % 2) 1 (λ odd. omega arith));
    }

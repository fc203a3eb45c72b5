-- What a use of a block is answered, by the verdict and the block.
use Rattle.std.proofs.Common.{◌≡◌, ℕ, ◌<◌, ◌≤◌, Bool, true, false, cond, nat_lt, List, length}
use Rattle.std.proofs.Common.{Option, Some, None, refl, sym, ap, ◌∙◌}
use Rattle.std.specs.Prelude.{◌≢◌, Ok, Err, Result}
use Rattle.std.proofs.lemmas.Bool.{lt-ltb, le-ltb}
use Rattle.hg_machine.specs.declared.Rule.{Rule}
use Rattle.hg_machine.specs.Denial.{verdict_of}
use Rattle.hg_heap.specs.Reading.{reached}
use Rattle.hg_heap.specs.declared.refused.Refused.{Refused}
use Rattle.hg_machine.specs.declared.Verdict.TheVariants as verdict
use Rattle.hg_heap.specs.declared.refused.Refused.TheVariants as refused

-- the verdict on a word
pub denied_by : (o : Option Rule) (rule : Rule) → verdict.Denied rule ≡ verdict_of o → o ≡ Some rule
denied_by None rule e = absurd (cc)
denied_by (Some r) rule e = let same : rule ≡ r = cc in ap Some (sym same)

pub allowed_by : (o : Option Rule) → verdict.Allowed ≡ verdict_of o → o ≡ None
allowed_by None e = refl
allowed_by (Some r) e = absurd (cc)

-- what is answered by it
pub reached_denied : {X : Type 0} (o : Option Rule) (rule : Rule) (block : List ℕ) (index : ℕ)
    (value : X) → o ≡ Some rule → Err (refused.Denied rule) ≡ reached o block index value
reached_denied o rule block index value e =
    sym (ap (λ (d : Option Rule). reached d block index value) e)

pub reached_outside : {X : Type 0} (o : Option Rule) (block : List ℕ) (index : ℕ) (value : X)
    → o ≡ None → length block ≤ index → Err refused.OutOfBlock ≡ reached o block index value
reached_outside o block index value e out =
    sym (ap (λ (d : Option Rule). reached d block index value) e
    ∙ ap (λ (b : Bool). cond b (Ok value) (Err refused.OutOfBlock))
    (le-ltb index (length block) out))

pub reached_inside : {X : Type 0} (o : Option Rule) (block : List ℕ) (index : ℕ) (value : X)
    → o ≡ None → index < length block → Ok value ≡ reached o block index value
reached_inside o block index value e in_it =
    sym (ap (λ (d : Option Rule). reached d block index value) e
    ∙ ap (λ (b : Bool). cond b (Ok value) (Err refused.OutOfBlock))
    (lt-ltb index (length block) in_it))

-- what was reached isn't elsewhere
pub never_elsewhere : {X : Type 0} (o : Option Rule) (block : List ℕ) (index : ℕ) (value : X)
    (result : Result X Refused) → result ≡ reached o block index value
    → result ≢ Err refused.Elsewhere
never_elsewhere (Some rule) block index value result is e =
    let same : Err (refused.Denied rule) ≡ Err refused.Elsewhere = sym is ∙ e in
    absurd (cc)
never_elsewhere None block index value result is e = go (nat_lt index (length block)) (sym is ∙ e)
  where
    go : (b : Bool) → cond b (Ok value) (Err refused.OutOfBlock) ≡ Err refused.Elsewhere → ⊥
    go true same = absurd (cc)
    go false same = absurd (cc)

-- What a part knows of the words, and how it changes as they go forward.
use Rattle.std.proofs.Common.{◌≡◌, ℕ, List, ◌∙◌, arith, refl}
use Rattle.hg_place.specs.Lives.{IsAtOrBefore, word_generation}
use Rattle.hg_table.specs.declared.view.Part.{Part}
use Rattle.hg_table.specs.View.{Table, Has}
use Rattle.hg_table.specs.LifeRule.{LifeRule, IsOver, SeenIsPast, EndedIsOver, RecordsAreTrue}

pub record Knows (words : List ℕ) (part : Part) : Type 0 where
  pub seen : SeenIsPast words part
  pub ended : EndedIsOver words part
  pub recorded : RecordsAreTrue words part

pub known : (places : ℕ) (s : Table) → LifeRule places s → (i j : ℕ) (part : Part) → Has s.views i j part → Knows s.words part
known places s r i j part has = record {
  seen = r.seen_is_past i j part has;
  ended = r.ended_is_over i j part has;
  recorded = r.records_are_true i j part has;
}

-- the order of lives
pub itself : (word : ℕ) → IsAtOrBefore word word
itself word = (omega arith, λ _. (refl, omega arith))

pub between : (one other last : ℕ) → IsAtOrBefore one other → IsAtOrBefore other last → IsAtOrBefore one last
between one other last a b = (
  (let x = a.0 in let y = b.0 in omega arith),
  λ same. (
      let x = a.0 in
      let y = b.0 in
      let first : word_generation one ≡ word_generation other = omega arith in
      let second : word_generation other ≡ word_generation last = omega arith in
      ((a.1 first).0 ∙ (b.1 second).0, (let l = (a.1 first).1 in let m = (b.1 second).1 in omega arith))
      ),
)

-- a life that is over stays over
pub over_after : (generation one other : ℕ) → IsAtOrBefore one other → IsOver generation one → IsOver generation other
over_after generation one other a over = (
  (let x = a.0 in let y = over.0 in omega arith),
  λ same. (
      let x = a.0 in
      let y = over.0 in
      let first : word_generation one ≡ word_generation other = omega arith in
      let then : word_generation one ≡ generation = omega arith in
      let l = (a.1 first).1 in
      let m = over.1 then in
      omega arith
      ),
)

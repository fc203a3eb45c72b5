-- Lines are read from how they are written, and from nothing else.
use Rattle.std.proofs.Common.{◌≡◌, ℕ, ◌<◌, ◌==◌, false, List, [], ◌∷◌, Option, Some, None, Ok, Err, decimal, refl, ap, subst, ◌∙◌, inl, inr, arith}
use Rattle.std.specs.Prelude.{ok_or}
use Rattle.std.proofs.lemmas.Bool.Decides.{nat_tests}
use Rattle.hg_trace.specs.declared.line.Command.{Command}
use Rattle.hg_trace.specs.declared.line.Command.TheVariants as command
use Rattle.hg_trace.specs.declared.fault.LineFault.TheVariants as fault
use Rattle.hg_trace.specs.Numbers.{number_below}
use Rattle.hg_trace.specs.Labels.{repeats}
use Rattle.hg_trace.specs.Commands.{worker_of, command_at, words_at}
use Rattle.hg_trace.specs.Printed.{worker_text, line_words}
use Rattle.hg_trace.specs.Plain.{AreLabels, IsPlainCommand, IsPlain}
use Rattle.hg_trace.specs.PlainLaws.{LinesAreTheirWords}
use Rattle.hg_trace.proofs.Binds.{well, bind_ok, ok_is, some_is, if_ok}
use Rattle.hg_trace.proofs.Decimals.{numbers_are_decimals}
use Rattle.hg_trace.proofs.PlainCommands.{command_at-plain}
use Rattle.hg_trace.proofs.PlainReads.{command_at-is}

worker_of-plain : (worker : ℕ) → worker < 16 → worker_of (worker_text worker) ≡ Ok worker
worker_of-plain worker small =
    let read : number_below 16 (decimal worker) ≡ Some worker = (numbers_are_decimals 16 worker (decimal worker) (omega arith)).1 (refl, small) in
    rw read refl

worker_of-is : (word : List ℕ) (worker : ℕ) → worker_of word ≡ Ok worker → (word ≡ worker_text worker) × (worker < 16)
worker_of-is [] worker h = absurd (cc)
worker_of-is (b ∷ digits) worker h =
    elim (if_ok (b == 119) (ok_or (number_below 16 digits) fault.Command) (Err fault.Command) worker h) [
      | inl (w, read) ↦
          let (text, small) = (numbers_are_decimals 16 worker digits (omega arith)).0 (some_is (number_below 16 digits) fault.Command worker read) in
          let first : b ≡ 119 = grind (arith, nat_tests) in
          (ap (λ c. c ∷ digits) first ∙ ap (λ t. 119 ∷ t) text, small)
      | inr (unlike, read) ↦ absurd (cc)
    ]

-- a plain command gives no label again
repeats-plain : (labels : List (List ℕ)) (c : Command) → IsPlainCommand labels c → repeats labels c ≡ false
repeats-plain labels (command.Alloc actor arena bytes None) plain = refl
repeats-plain labels (command.Alloc actor arena bytes (Some label)) plain = plain.3.1
repeats-plain labels (command.Free actor block) plain = refl
repeats-plain labels command.Deliver plain = refl
repeats-plain labels (command.Take segment) plain = refl
repeats-plain labels command.Collect plain = refl
repeats-plain labels (command.Read actor block index) plain = refl
repeats-plain labels (command.Write actor block index value) plain = refl
repeats-plain labels (command.Look actor place) plain = refl
repeats-plain labels (command.List actor) plain = refl
repeats-plain labels (command.Abandon segment) plain = refl
repeats-plain labels (command.Refill arena) plain = refl

pub words_at-plain : (labels : List (List ℕ)) (worker : ℕ) (c : Command) → AreLabels labels → IsPlain labels worker c
    → words_at labels (line_words labels worker c) ≡ Ok (Some (worker, c))
unfolding words_at
words_at-plain labels worker c are plain =
    rw (worker_of-plain worker plain.worker_below, command_at-plain labels are c plain.command_plain, repeats-plain labels c plain.command_plain) refl

abbrev both : ℕ → Command → ℕ × Command
both worker c = (worker, c)

pub words_at-is : (labels words : List (List ℕ)) (worker : ℕ) (c : Command) → words_at labels words ≡ Ok (Some (worker, c))
    → (words ≡ line_words labels worker c) × IsPlain labels worker c
unfolding words_at
words_at-is labels [] worker c h = absurd (cc)
words_at-is labels (word ∷ words) worker c h =
    let (w, e1, h1) = bind_ok (worker_of word) _ (Some (worker, c)) h in
    let (k, e2, h2) = bind_ok (command_at labels words) _ (Some (worker, c)) h1 in
    elim (if_ok (repeats labels k) (Err fault.RepeatedLabel) (Ok (Some (w, k))) (Some (worker, c)) h2) [
      | inl (again, is) ↦ absurd (cc)
      | inr (fresh, is) ↦ made w k e1 e2 fresh is
    ]
  where
    made : (w : ℕ) (k : Command) → worker_of word ≡ Ok w → command_at labels words ≡ Ok k → repeats labels k ≡ false → well {A = Option (ℕ × Command)} (Some (w, k)) ≡ Ok (Some (worker, c))
        → (word ∷ words ≡ line_words labels worker c) × IsPlain labels worker c
    made w k e1 e2 fresh is =
        let some : Some (both w k) ≡ Some (both worker c) = ok_is (Some (both w k)) (Some (both worker c)) is in
        let pair : both w k ≡ both worker c = cc in
        let (text, small) = worker_of-is word w e1 in
        let (written, plain) = command_at-is labels words k fresh e2 in
        let all : word ∷ words ≡ line_words labels w k = cc in
        subst (λ p. (word ∷ words ≡ line_words labels p.0 p.1) × IsPlain labels p.0 p.1) pair (all, record { worker_below = small; command_plain = plain })

pub lines_are_their_words : LinesAreTheirWords
lines_are_their_words labels worker c words are = (words_at-is labels words worker c, λ (is, plain). ap (words_at labels) is ∙ words_at-plain labels worker c are plain)

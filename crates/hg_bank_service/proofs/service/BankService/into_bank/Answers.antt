use Rattle.std.proofs.Common.{◌≡◌, List, [], All, length, reverse, sym, ap, subst, ◌∙◌, arith}
use Rattle.std.proofs.lemmas.List.{length-reverse, nil_from_length, reverse-reverse}
use Rattle.hg_close.specs.Closed.{IsQuiet}
use Rattle.hg_machine.specs.Lists.{Kept}
use Rattle.hg_bank.specs.Parts.{bank_from}
use Rattle.hg_bank.specs.declared.parts.BankParts.{BankParts}
use Rattle.hg_bank.specs.Sound.{IsCoreOf}
use Rattle.hg_bank_service.specs.Closing.{HaveClosed}
use Rattle.hg_bank_service.specs.Kept.{services_of}
use Rattle.hg_bank_service.proofs.Closings.{all_closed, all_reverse, cores_of}
use Rattle.hg_bank_service.proofs.Closings.{bank_of, keeps_of, none_of}
use Rattle.hg_bank_service.proofs.service.BankService.into_bank.Goals as goal

pub from_parts-requires-clause-list : goal.from_parts-requires-clause-list
from_parts-requires-clause-list c =
    let done = none_of c.self.view_is c.requires in
    let long = length-reverse c.self.inside.closed.items in
    let same = ap length c.reverse.ensures.items in
    omega (
      arith,
      c.reverse.ensures.capacity,
      c.self.invariant.room,
      done,
      long,
      same,
      c.len.ensures,
      c.reverse.new.self.ok.0,
    )

pub from_parts-requires-clause-parts : goal.from_parts-requires-clause-parts
from_parts-requires-clause-parts c =
    let old = services_of c.self.inside in
    let was = c.self.invariant.sound in
    let done = none_of c.self.view_is c.requires in
    let long = length-reverse old.closed in
    let same = ap length c.reverse.ensures.items in
    let all : length old.closed ≡ c.len.result =
    omega (arith, long, same, c.len.ensures, c.reverse.new.self.ok.0) in
    record {
      some = omega (arith, long, same, done, was.some);
      within = omega (arith, c.len.ensures, c.reverse.new.self.ok.0);
      most = omega (arith, all, was.most, done);
      each = subst (λ (xs : List Kept). All (IsCoreOf old.policy) xs) (sym c.reverse.ensures.items)
          (all_reverse (IsCoreOf old.policy) old.closed
          (cores_of old.policy old.closed was.quiet));
    }

pub returns-in-Ok-clause-bank : goal.returns-in-Ok-clause-bank
returns-in-Ok-clause-bank c =
    let old = services_of c.self.inside in
    let long = length-reverse old.closed in
    let same = ap length c.reverse.ensures.items in
    let all : length old.closed ≡ c.len.result =
    omega (arith, long, same, c.len.ensures, c.reverse.new.self.ok.0) in
    bank_of c.self.view_is
    record {
      closed = old.closed;
      have = all_closed old (none_of c.self.view_is c.requires);
      quiet = all_reverse (IsQuiet old.policy) old.closed c.self.invariant.sound.quiet;
      is =
          c.in-Ok.ensures.bank
          ∙ ap (λ n. bank_from old.policy n c.reverse.new.self.items) (sym all)
          ∙ ap (λ (xs : List Kept). bank_from old.policy (length old.closed) xs)
          c.reverse.ensures.items;
    }

pub returns-in-Err-clause-unclosed : goal.returns-in-Err-clause-unclosed
returns-in-Err-clause-unclosed c =
    let old = services_of c.self.inside in
    let done = none_of c.self.view_is c.requires in
    keeps_of c.self.view_is
    record {
      policy = ap (λ (p : BankParts). p.policy) c.in-Err.ensures.unchanged;
      closed = subst (λ (xs : List Kept). HaveClosed old [] xs)
          (sym (c.reverse-in-Err.ensures.items
          ∙ ap (λ (p : BankParts). reverse p.cores.items) c.in-Err.ensures.unchanged
          ∙ ap (λ (xs : List Kept). reverse xs) c.reverse.ensures.items
          ∙ reverse-reverse old.closed)) (all_closed old done);
      none = nil_from_length old.running done;
    }

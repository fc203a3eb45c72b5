use Rattle.std.proofs.Common.{◌≡◌, ◌∷◌, [], List, All, length, refl, sym, ap, subst, ◌∙◌, arith}
use Rattle.std.proofs.lemmas.List.{length-append}
use Rattle.std.proofs.lemmas.List.Elements.{All-append}
use Rattle.hg_close.specs.Closed.{AreLost, IsQuiet}
use Rattle.hg_machine.specs.Lists.{Kept}
use Rattle.hg_machine.specs.Policy.{Policy}
use Rattle.hg_hosted.specs.Closing.{IsUnclosed}
use Rattle.hg_hosted.specs.declared.service.HostedService.{HostedService}
use Rattle.hg_bank_service.specs.Closing.{HaveClosed}
use Rattle.hg_bank_service.specs.Kept.{services_of}
use Rattle.hg_bank_service.specs.State.{ServicesState}
use Rattle.hg_bank_service.proofs.Closings.{all_one, init_of, last_of, none_closed}
use Rattle.hg_bank_service.proofs.Closings.{closes_of, loses_of, stops_of}
use Rattle.hg_bank_service.proofs.service.BankService.close_next.Goals as goal

pub unreachable-requires : goal.unreachable-requires
unreachable-requires c =
    let same = ap (λ (s : ServicesState). length s.running) c.self.view_is in
    omega (arith, c.in_default.ensures.cases.0, c.self.inside.running.ok.0, c.requires, same)

pub returns-in-Err-Running-clause-unclosed : goal.returns-in-Err-Running-clause-unclosed
returns-in-Err-Running-clause-unclosed c =
    let old = services_of c.self.inside in
    stops_of c.self.view_is
    record {
      policy = refl;
      below = c.pop.new.self.items;
      was = c.in-Some.last;
      next = c.in-Err-Running.back;
      closed = subst (λ (xs : List HostedService). HaveClosed old xs old.closed)
          c.in-Some.ensures.items (none_closed old);
      left = c.push_reserved-in-Err-Running.ensures.items;
      number = omega (arith, c.len-core.ensures, c.pop.new.self.ok.0);
      goes_on = subst (IsUnclosed c.in-Some.last) c.in-Err-Running.field-0-is
          c.in-Err-Running.ensures.unclosed;
    }

pub returns-in-Err-Lost-clause-unclosed : goal.returns-in-Err-Lost-clause-unclosed
returns-in-Err-Lost-clause-unclosed c =
    let old = services_of c.self.inside in
    let serves = last_of (λ (s : HostedService). s.policy ≡ old.policy) c.pop.new.self.items
    c.in-Some.last
    (subst (λ (xs : List HostedService). All (λ (s : HostedService). s.policy ≡ old.policy) xs)
    c.in-Some.ensures.items c.self.invariant.sound.serve) in
    loses_of c.self.view_is
    record {
      policy = refl;
      was = c.in-Some.last;
      closed = subst (λ (xs : List HostedService). HaveClosed old xs old.closed)
          c.in-Some.ensures.items (none_closed old);
      number = omega (arith, c.len-core.ensures, c.pop.new.self.ok.0);
      lost = subst (λ (p : Policy). AreLost p c.in-Err-Lost.place c.in-Err-Lost.parts) serves
          (subst (IsUnclosed c.in-Some.last) c.in-Err-Lost.field-0-is
          c.in-Err-Lost.ensures.unclosed);
    }

pub invariant_of-result : goal.invariant_of-result
invariant_of-result c =
    let old = services_of c.self.inside in
    let was = c.self.invariant.sound in
    let grown = ap length c.push_reserved.ensures.items in
    let more = length-append old.closed (c.in-Ok.made ∷ []) in
    let shrunk = ap length c.in-Some.ensures.items in
    let fewer = length-append c.pop.new.self.items (c.in-Some.last ∷ []) in
    let serves =
    subst (λ (xs : List HostedService). All (λ (s : HostedService). s.policy ≡ old.policy) xs)
    c.in-Some.ensures.items was.serve in
    let its = last_of (λ (s : HostedService). s.policy ≡ old.policy) c.pop.new.self.items
    c.in-Some.last serves in
    record {
      sound = record {
        some = omega (arith, grown, more);
        most = omega (arith, grown, more, shrunk, fewer, was.most);
        serve = init_of (λ (s : HostedService). s.policy ≡ old.policy) c.pop.new.self.items
            c.in-Some.last serves;
        quiet = subst (λ (xs : List Kept). All (IsQuiet old.policy) xs)
            (sym c.push_reserved.ensures.items)
            (All-append (IsQuiet old.policy) old.closed (c.in-Ok.made ∷ []) was.quiet
            (all_one (IsQuiet old.policy) c.in-Ok.made
            (subst (λ (p : Policy). IsQuiet p c.in-Ok.made) its c.in-Ok.ensures.quiet)));
      };
      room = omega (
        arith,
        grown,
        more,
        shrunk,
        fewer,
        c.self.invariant.room,
        c.push_reserved.ensures.capacity,
      );
    }

pub invariant_of-service : goal.invariant_of-service
invariant_of-service c =
    let old = services_of c.self.inside in
    let had = c.self.invariant.sound in
    let grown = ap length c.push_reserved-in-Err-Running.ensures.items in
    let more = length-append c.pop.new.self.items (c.in-Err-Running.back ∷ []) in
    let shrunk = ap length c.in-Some.ensures.items in
    let fewer = length-append c.pop.new.self.items (c.in-Some.last ∷ []) in
    let serves =
    subst (λ (xs : List HostedService). All (λ (s : HostedService). s.policy ≡ old.policy) xs)
    c.in-Some.ensures.items had.serve in
    let goes = subst (IsUnclosed c.in-Some.last) c.in-Err-Running.field-0-is
    c.in-Err-Running.ensures.unclosed in
    let its = last_of (λ (s : HostedService). s.policy ≡ old.policy) c.pop.new.self.items
    c.in-Some.last serves in
    record {
      sound = record {
        some = omega (arith, grown, more, shrunk, fewer, had.some);
        most = omega (arith, grown, more, shrunk, fewer, had.most);
        serve = subst
            (λ (xs : List HostedService). All (λ (s : HostedService). s.policy ≡ old.policy) xs)
            (sym c.push_reserved-in-Err-Running.ensures.items)
            (All-append (λ (s : HostedService). s.policy ≡ old.policy) c.pop.new.self.items
            (c.in-Err-Running.back ∷ [])
            (init_of (λ (s : HostedService). s.policy ≡ old.policy) c.pop.new.self.items
            c.in-Some.last serves)
            (all_one (λ (s : HostedService). s.policy ≡ old.policy) c.in-Err-Running.back
            (goes.policy ∙ its)));
        quiet = had.quiet;
      };
      room = omega (arith, grown, more, shrunk, fewer, c.self.invariant.room);
    }

pub returns-in-Ok-clause-next : goal.returns-in-Ok-clause-next
returns-in-Ok-clause-next c =
    let old = services_of c.self.inside in
    let shrunk = ap length c.in-Some.ensures.items in
    let fewer = length-append c.pop.new.self.items (c.in-Some.last ∷ []) in
    let serves =
    subst (λ (xs : List HostedService). All (λ (s : HostedService). s.policy ≡ old.policy) xs)
    c.in-Some.ensures.items c.self.invariant.sound.serve in
    let its = last_of (λ (s : HostedService). s.policy ≡ old.policy) c.pop.new.self.items
    c.in-Some.last serves in
    closes_of c.self.view_is
    record {
      policy = refl;
      closed = record {
        gone = c.in-Some.last ∷ [];
        cores = c.in-Ok.made ∷ [];
        taken = c.in-Some.ensures.items;
        made = c.push_reserved.ensures.items;
        all = refl;
        quiet = all_one (IsQuiet old.policy) c.in-Ok.made
            (subst (λ (p : Policy). IsQuiet p c.in-Ok.made) its c.in-Ok.ensures.quiet);
      };
      one = omega (arith, shrunk, fewer);
    }

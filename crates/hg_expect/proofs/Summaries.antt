-- Traces are tested one after another.
use Rattle.std.proofs.Common.{◌≡◌, ℕ, ◌+◌, ◌≤◌, ◌==◌, Bool, true, false, arith, List, [], ◌∷◌, ◌++◌}
use Rattle.std.proofs.Common.{Option, Some, None, refl, sym, ap, subst, ◌∙◌, append_assoc, inl}
use Rattle.std.specs.Prelude.{if◌then◌else◌, is_some, option_map}
use Rattle.hg_replay.specs.Sinks.{Seen}
use Rattle.hg_replay.specs.declared.run.status.Status.{Status}
use Rattle.hg_replay.specs.declared.run.status.Status.TheVariants as status
use Rattle.hg_expect.specs.declared.source.Source.{Source}
use Rattle.hg_expect.specs.Findings.{Findings}
use Rattle.hg_expect.specs.Judging.{Tested}
use Rattle.hg_expect.specs.Tests.{Summary, summary_after, TestsAll, AllTested, IsFaulty, FailsAt}
use Rattle.hg_expect.specs.Tests.{Fails, Progress, Stands, StandsBy, EndsTests}

-- a trace more
tests_more : (policy : List ℕ) (sources : List Source) (source : Source) (from here : Summary)
    (found : Findings) → TestsAll policy from sources here → Tested policy source.bytes.items found
    → TestsAll policy from (sources ++ source ∷ []) (summary_after here source.name.now found)
tests_more policy [] source from here found same tested =
    (found, tested, ap (λ s. summary_after s source.name.now found) same)
tests_more policy (first ∷ sources) source from here found (one, done, more) tested = (
  one,
  done,
  tests_more policy sources source (summary_after from first.name.now one) here found
      more tested,
)

module _ (policy : List ℕ) (sources : List Source) (source : Source) where
  -- a trace more behind one that has a fault
  fails_at_more : (ended : Status) → FailsAt ended policy sources
      → FailsAt ended policy (sources ++ source ∷ [])
  fails_at_more ended f = record {
    before = f.before;
    source = f.source;
    after = f.after ++ source ∷ [];
    split =
        ap (λ ss. ss ++ source ∷ []) f.split
        ∙ append_assoc f.before (f.source ∷ f.after) (source ∷ []);
    so_far = f.so_far;
    tested = f.tested;
    faulty = f.faulty;
  }

  fails_more : (ended : Status) → Fails ended policy sources
      → Fails ended policy (sources ++ source ∷ [])
  fails_more status.Done f = absurd f
  fails_more status.BadPolicy f = fails_at_more status.BadPolicy f
  fails_more status.BadTrace f = fails_at_more status.BadTrace f
  fails_more status.Failed f = tt
  fails_more status.BadLine f = absurd f
  fails_more status.Differs f = absurd f

  -- one that has a fault behind others
  fails_at_last : (here : Summary) → AllTested policy sources here → (ended : Status)
      → IsFaulty ended policy source.bytes.items → FailsAt ended policy (sources ++ source ∷ [])
  fails_at_last here so_far ended faulty = record {
    before = sources;
    source = source;
    after = [];
    split = refl;
    so_far = here;
    tested = so_far;
    faulty = faulty;
  }

  fails_last : (here : Summary) → AllTested policy sources here → (ended : Status)
      → IsFaulty ended policy source.bytes.items → Fails ended policy (sources ++ source ∷ [])
  fails_last here so_far status.Done faulty = absurd faulty
  fails_last here so_far status.BadPolicy faulty = fails_at_last here so_far status.BadPolicy faulty
  fails_last here so_far status.BadTrace faulty = fails_at_last here so_far status.BadTrace faulty
  fails_last here so_far status.Failed faulty = tt
  fails_last here so_far status.BadLine faulty = absurd faulty
  fails_last here so_far status.Differs faulty = absurd faulty

  -- so a trace more stands
  pub stands_behind : (tests : Progress) (ended : Status) → tests.fault ≡ Some ended
      → Stands policy sources tests → Stands policy (sources ++ source ∷ []) tests
  stands_behind tests ended is so_far =
      subst (λ (o : Option Status). StandsBy o policy (sources ++ source ∷ []) tests.summary) (sym is)
      (fails_more ended (subst (λ (o : Option Status). StandsBy o policy sources tests.summary) is
      so_far))

  pub stands_tested : (old new : Progress) (found : Findings) → old.fault ≡ None
      → new.fault ≡ None → Tested policy source.bytes.items found
      → new.summary ≡ summary_after old.summary source.name.now found → Stands policy sources old
      → Stands policy (sources ++ source ∷ []) new
  stands_tested old new found was now tested is so_far =
      subst (λ (o : Option Status). StandsBy o policy (sources ++ source ∷ []) new.summary) (sym now)
      (subst (λ s. AllTested policy (sources ++ source ∷ []) s) (sym is)
      (tests_more policy sources source _ old.summary found
      (subst (λ (o : Option Status). StandsBy o policy sources old.summary) was so_far) tested))

  pub stands_faulty : (old new : Progress) (ended : Status) → old.fault ≡ None
      → new.fault ≡ Some ended → IsFaulty ended policy source.bytes.items
      → Stands policy sources old → Stands policy (sources ++ source ∷ []) new
  stands_faulty old new ended was now faulty so_far =
      subst (λ (o : Option Status). StandsBy o policy (sources ++ source ∷ []) new.summary) (sym now)
      (fails_last old.summary
      (subst (λ (o : Option Status). StandsBy o policy sources old.summary) was so_far) ended faulty)

-- a trace with a fault ends the test with nothing written
pub fails_ends : (policy : List ℕ) (sources : List Source) (ended : Status) (seen : Seen)
    → Fails ended policy sources → EndsTests ended policy sources seen seen
fails_ends policy sources status.Done seen f = absurd f
fails_ends policy sources status.BadPolicy seen f = (f, refl)
fails_ends policy sources status.BadTrace seen f = (f, refl)
fails_ends policy sources status.Failed seen f = inl refl
fails_ends policy sources status.BadLine seen f = absurd f
fails_ends policy sources status.Differs seen f = absurd f

-- a trace adds one at most
pub few_differ : (here : Summary) (name : List ℕ) (found : Findings)
    → (summary_after here name found).differ ≤ here.differ + 1
few_differ here name found = by_case (found.differ == 0)
  where
    by_case : (same : Bool) → here.differ + (if same then 0 else 1) ≤ here.differ + 1
    by_case true = omega arith
    by_case false = omega arith

-- whether there is a fault
pub has_fault : {X : Type 0} (f : X → Status) (o : Option X) → is_some o ≡ true
    → (ended : Status) × (option_map f o ≡ Some ended)
has_fault f None e = absurd (cc)
has_fault f (Some x) e = (f x, refl)

pub has_none : {X : Type 0} (f : X → Status) (o : Option X) → is_some o ≡ false
    → option_map f o ≡ None
has_none f None e = refl
has_none f (Some x) e = absurd (cc)

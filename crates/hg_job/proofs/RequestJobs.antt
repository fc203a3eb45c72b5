-- Words that can be refused for a request alone, or for none.
use Rattle.std.proofs.Common.{◌≡◌, ◌≢◌, ◌⊎◌, [], ◌∷◌, refl, inl, inr, subst, codes}
use Rattle.clap.specs.Faults.{defaults_fault, walk_fault}
use Rattle.clap.specs.Walk.{walked}
use Rattle.clap.specs.declared.error.kind.ErrorKind.{ErrorKind}
use Rattle.clap.specs.declared.error.kind.ErrorKind.TheVariants as kind
use Rattle.hg_job.specs.Jobs.{RefusedBy, faults_of}
use Rattle.hg_job.specs.JobLaws.{RequestsArePrinted, IsPrinted, IsTold}
use Rattle.hg_job.specs.declared.job.JobFault.{JobFault}
use Rattle.hg_job.specs.declared.job.JobFault.TheVariants.{Print, Line, Memory}

-- where a request is all that the words may be refused for
only_printed : (k : ErrorKind) → (k ≡ kind.DisplayHelp) ⊎ (k ≡ kind.DisplayVersion) → (fault : JobFault) → RefusedBy (k ∷ []) fault → IsPrinted fault
only_printed k request Memory refused = tt
only_printed k request (Print text) refused = tt
only_printed k request (Line text) (inl e) = absurd (cc)
only_printed k (inl help) (Line text) (inr (other, inl e, tells)) = absurd (tells.0 (cc))
only_printed k (inr version) (Line text) (inr (other, inl e, tells)) = absurd (tells.1 (cc))
only_printed k request (Line text) (inr (other, inr none, tells)) = absurd none

-- where they can't be refused for a request
only_told : (k other : ErrorKind) → k ≢ kind.DisplayHelp → k ≢ kind.DisplayVersion → other ≢ kind.DisplayHelp → other ≢ kind.DisplayVersion
    → (fault : JobFault) → RefusedBy (k ∷ other ∷ []) fault → IsTold fault
only_told k other a b c d Memory refused = tt
only_told k other a b c d (Line text) refused = tt
only_told k other a b c d (Print text) (inl e) = absurd (cc)
only_told k other a b c d (Print text) (inr (one, inl e, inl help)) = absurd (a (cc))
only_told k other a b c d (Print text) (inr (one, inl e, inr version)) = absurd (b (cc))
only_told k other a b c d (Print text) (inr (one, inr (inl e), inl help)) = absurd (c (cc))
only_told k other a b c d (Print text) (inr (one, inr (inl e), inr version)) = absurd (d (cc))
only_told k other a b c d (Print text) (inr (one, inr (inr none), tells)) = absurd none

faults_of-help : faults_of (codes "--help" ∷ []) ≡ kind.DisplayHelp ∷ []
unfolding walk_fault
faults_of-help = refl

faults_of-version : faults_of (codes "--version" ∷ []) ≡ kind.DisplayVersion ∷ []
unfolding walk_fault
faults_of-version = refl

faults_of-jump : faults_of (codes "jump" ∷ []) ≡ kind.UnknownArgument ∷ kind.InvalidSubcommand ∷ []
unfolding walk_fault
faults_of-jump = refl

-- where they are refused for one kind, which is no request
only_one_told : (k : ErrorKind) → k ≢ kind.DisplayHelp → k ≢ kind.DisplayVersion → (fault : JobFault) → RefusedBy (k ∷ []) fault → IsTold fault
only_one_told k a b Memory refused = tt
only_one_told k a b (Line text) refused = tt
only_one_told k a b (Print text) (inl e) = absurd (cc)
only_one_told k a b (Print text) (inr (one, inl e, inl help)) = absurd (a (cc))
only_one_told k a b (Print text) (inr (one, inl e, inr version)) = absurd (b (cc))
only_one_told k a b (Print text) (inr (one, inr none, tells)) = absurd none

faults_of-no_rounds : faults_of (codes "race" ∷ codes "p" ∷ codes "0" ∷ []) ≡ kind.ValueValidation ∷ []
unfolding walk_fault walked
faults_of-no_rounds = refl

faults_of-twice : faults_of (codes "--explain" ∷ codes "--explain" ∷ []) ≡ kind.ArgumentConflict ∷ []
unfolding walk_fault walked
faults_of-twice = refl

faults_of-before : faults_of (codes "--explain" ∷ codes "check" ∷ codes "p" ∷ []) ≡ kind.ArgumentConflict ∷ []
unfolding walk_fault walked defaults_fault
faults_of-before = refl

faults_of-json_before : faults_of (codes "--json" ∷ codes "show" ∷ codes "p" ∷ []) ≡ kind.ArgumentConflict ∷ []
unfolding walk_fault walked defaults_fault
faults_of-json_before = refl

faults_of-help_word : faults_of (codes "help" ∷ []) ≡ kind.DisplayHelp ∷ []
unfolding walk_fault walked defaults_fault
faults_of-help_word = refl

faults_of-help_check : faults_of (codes "help" ∷ codes "check" ∷ []) ≡ kind.DisplayHelp ∷ []
unfolding walk_fault walked defaults_fault
faults_of-help_check = refl

faults_of-help_jump : faults_of (codes "help" ∷ codes "jump" ∷ []) ≡ kind.UnknownArgument ∷ kind.InvalidSubcommand ∷ []
unfolding walk_fault walked defaults_fault
faults_of-help_jump = refl

faults_of-two_inputs : faults_of (codes "replay" ∷ codes "-" ∷ codes "-" ∷ []) ≡ kind.ArgumentConflict ∷ []
unfolding walk_fault walked defaults_fault
faults_of-two_inputs = refl

faults_of-two_forms : faults_of (codes "state" ∷ codes "p" ∷ codes "t" ∷ codes "--json" ∷ codes "--map" ∷ []) ≡ kind.ArgumentConflict ∷ []
unfolding walk_fault walked defaults_fault
faults_of-two_forms = refl

faults_of-other_forms : faults_of (codes "state" ∷ codes "p" ∷ codes "t" ∷ codes "--svg" ∷ codes "--map" ∷ []) ≡ kind.ArgumentConflict ∷ []
unfolding walk_fault walked defaults_fault
faults_of-other_forms = refl

pub requests_are_printed : RequestsArePrinted
requests_are_printed fault = (
  (λ h. only_printed kind.DisplayHelp (inl refl) fault (subst (λ ks. RefusedBy ks fault) faults_of-help h)),
  (λ h. only_printed kind.DisplayVersion (inr refl) fault (subst (λ ks. RefusedBy ks fault) faults_of-version h)),
  (λ h. only_told kind.UnknownArgument kind.InvalidSubcommand (λ e. cc) (λ e. cc) (λ e. cc) (λ e. cc) fault (subst (λ ks. RefusedBy ks fault) faults_of-jump h)),
  (λ h. only_one_told kind.ValueValidation (λ e. cc) (λ e. cc) fault (subst (λ ks. RefusedBy ks fault) faults_of-no_rounds h)),
  (λ h. only_one_told kind.ArgumentConflict (λ e. cc) (λ e. cc) fault (subst (λ ks. RefusedBy ks fault) faults_of-twice h)),
  (λ h. only_one_told kind.ArgumentConflict (λ e. cc) (λ e. cc) fault (subst (λ ks. RefusedBy ks fault) faults_of-before h)),
  (λ h. only_one_told kind.ArgumentConflict (λ e. cc) (λ e. cc) fault (subst (λ ks. RefusedBy ks fault) faults_of-json_before h)),
  (λ h. only_printed kind.DisplayHelp (inl refl) fault (subst (λ ks. RefusedBy ks fault) faults_of-help_word h)),
  (λ h. only_printed kind.DisplayHelp (inl refl) fault (subst (λ ks. RefusedBy ks fault) faults_of-help_check h)),
  (λ h. only_told kind.UnknownArgument kind.InvalidSubcommand (λ e. cc) (λ e. cc) (λ e. cc) (λ e. cc) fault (subst (λ ks. RefusedBy ks fault) faults_of-help_jump h)),
  (λ h. only_one_told kind.ArgumentConflict (λ e. cc) (λ e. cc) fault (subst (λ ks. RefusedBy ks fault) faults_of-two_inputs h)),
  (λ h. only_one_told kind.ArgumentConflict (λ e. cc) (λ e. cc) fault (subst (λ ks. RefusedBy ks fault) faults_of-two_forms h)),
  (λ h. only_one_told kind.ArgumentConflict (λ e. cc) (λ e. cc) fault (subst (λ ks. RefusedBy ks fault) faults_of-other_forms h)),
)

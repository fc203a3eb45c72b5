use Rattle.std.proofs.Common.{ap, refl}
use Rattle.hg_hosted.proofs.Named.{still_of}
use Rattle.hg_hosted.proofs.shared.Shared.share.Goals as goal

pub returns-in_err-segments-clause-own : goal.returns-in_err-segments-clause-own
returns-in_err-segments-clause-own c =
    λ policy table of. still_of c.args.self.now _ of (ap (λ own. own.known) c.share.ensures.own) c.share.ensures.own_kept refl
    refl c.shared_lists.ensures.own

pub returns-in_err-left-clause-own : goal.returns-in_err-left-clause-own
returns-in_err-left-clause-own c =
    λ policy table of. still_of c.args.self.now _ of (ap (λ own. own.known) c.share.ensures.own) c.share.ensures.own_kept
    (ap (λ own. own.known) c.share-2.ensures.own) c.share-2.ensures.own_kept c.shared_lists.ensures.own

pub returns-clause-own : goal.returns-clause-own
returns-clause-own c =
    λ policy table of. still_of c.args.self.now _ of (ap (λ own. own.known) c.share.ensures.own) c.share.ensures.own_kept
    (ap (λ own. own.known) c.share-2.ensures.own) c.share-2.ensures.own_kept c.shared_lists.ensures.own

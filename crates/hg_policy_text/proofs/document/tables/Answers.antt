use Rattle.std.proofs.Common.{Ok, length, sym, subst, refl}
use Rattle.std.proofs.lemmas.Result.{err_from_is_err_and}
use Rattle.hg_machine.specs.SoundPolicy.{IsSoundPolicy}
use Rattle.hg_policy_text.specs.Faults.{fault_of, ◌>>=◌}
use Rattle.hg_policy_text.specs.ReadTables.{all_named_of, said_of, heads_of}
use Rattle.hg_policy_text.specs.Document.{names_in, said_in, policy_with}
use Rattle.hg_policy_text.proofs.Chains.{bind-fails}
use Rattle.hg_policy_text.proofs.Parts.{few_entries, names_in-are, said_in-is, tables_of-parts, tables-sound}
use Rattle.hg_policy_text.proofs.document.tables.Goals as goal

pub returns-in_err-named : goal.returns-in_err-named
returns-in_err-named c =
    let heads = heads_of c.args.heads.now in
    let p = err_from_is_err_and c.from_residual.result c.from_residual.ensures.1 in
    rw (p.1, p.2, tables_of-parts heads)
    (bind-fails (fault_of c.in_err-named.field-0.0) (names_in heads) (λ names. said_in names heads >>= λ said. Ok (policy_with heads names said)) c.in_err-named.ensures)

pub said-requires : goal.said-requires
said-requires c =
    let heads = heads_of c.args.heads.now in
    few_entries heads c.in_ok-named.named.tenants.entries c.requires (names_in-are heads (all_named_of c.in_ok-named.named) c.in_ok-named.ensures).0

pub returns-in_err-standings : goal.returns-in_err-standings
returns-in_err-standings c =
    let heads = heads_of c.args.heads.now in
    let names = all_named_of c.in_ok-named.named in
    let p = err_from_is_err_and c.from_residual-in_err-standings.result c.from_residual-in_err-standings.ensures.1 in
    rw (p.1, p.2, tables_of-parts heads, c.in_ok-named.ensures)
    (bind-fails (fault_of c.in_err-standings.field-0.0) (said_in names heads) (λ said. Ok (policy_with heads names said)) c.in_err-standings.ensures)

pub policy_with-requires : goal.policy_with-requires
policy_with-requires c =
    let heads = heads_of c.args.heads.now in
    let names = all_named_of c.in_ok-named.named in
    let said = said_of (length c.in_ok-named.named.tenants.entries) c.in_ok-standings.standings.items in
    let read = names_in-are heads names c.in_ok-named.ensures in
    let (grants, denies, is) = said_in-is names heads said c.in_ok-standings.ensures in
    subst (λ said. IsSoundPolicy (policy_with heads names said)) (sym is) (tables-sound heads names.tenants names.groups names.arenas grants denies c.requires read.0 read.1)

pub returns : goal.returns
returns c =
    let heads = heads_of c.args.heads.now in
    rw (tables_of-parts heads, c.in_ok-named.ensures, c.in_ok-standings.ensures, c.policy_with.ensures) refl

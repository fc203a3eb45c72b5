-- Laws of the row at which the first fault of a document stands.
use Rattle.std.specs.Prelude.{◌≡◌, ℕ, ◌+◌, ◌<◌, List, [], take, Some, None, Ok, Err, IsSome}
use Rattle.std.specs.Prelude.{IsOk, IsErr}
use Rattle.toml.specs.Data.{Members}
use Rattle.hg_machine.specs.Policy.{Policy}
use Rattle.hg_policy_text.specs.declared.key.Key.{Key}
use Rattle.hg_policy_text.specs.declared.key.Key.TheVariants as key
use Rattle.hg_policy_text.specs.declared.row.Row.{Row}
use Rattle.hg_policy_text.specs.Faults.{Fault}
use Rattle.hg_policy_text.specs.Heads.{Heads}
use Rattle.hg_policy_text.specs.Document.{tables_of, tree_of, heads_in, document_of}
use Rattle.hg_policy_text.specs.FaultyRow.{row_of_tables, faulty_row}

-- no row of a document that means a policy is faulty
abbrev pub PoliciesHaveNoFaultyRow : Type 0
PoliciesHaveNoFaultyRow =
    (text : List ℕ) (policy : Policy) → document_of text ≡ Ok policy → faulty_row text ≡ None

-- a document with a faulty row has a fault, and its table has that row
abbrev pub FaultyRowsAreRows : Type 0
FaultyRowsAreRows =
    (text : List ℕ) (row : Row) → faulty_row text ≡ Some row
    → (fault : Fault) × (document_of text ≡ Err fault) × (row.number < row.rows)

-- where all is read that is read before any entry, a document that has a fault has a faulty row
abbrev pub FaultyRowsAreTold : Type 0
FaultyRowsAreTold =
    (text : List ℕ) (document : Members) (heads : Heads) (fault : Fault)
    → tree_of text ≡ Some document → heads_in document ≡ Ok heads
    → document_of text ≡ Err fault → IsSome (faulty_row text)

-- the tables before this one whole, so many rows of it, and none of those behind it
abbrev pub cut_to : Key → ℕ → Heads → Heads
cut_to key.Tenant n heads = record heads {
  tenants = take n heads.tenants;
  groups = [];
  arenas = [];
  grants = [];
  denies = [];
}
cut_to key.Group n heads = record heads {
  groups = take n heads.groups;
  arenas = [];
  grants = [];
  denies = [];
}
cut_to key.Arena n heads =
    record heads { arenas = take n heads.arenas; grants = []; denies = [] }
cut_to key.Grant n heads = record heads { grants = take n heads.grants; denies = [] }
cut_to key.Deny n heads = record heads { denies = take n heads.denies }
cut_to _ n heads = heads

-- up to a faulty row a document is read, and with it not
abbrev pub ReadingStopsAtFaultyRows : Type 0
ReadingStopsAtFaultyRows =
    (heads : Heads) (row : Row) → row_of_tables heads ≡ Some row
    → IsOk (tables_of (cut_to row.table row.number heads))
    × IsErr (tables_of (cut_to row.table (row.number + 1) heads))

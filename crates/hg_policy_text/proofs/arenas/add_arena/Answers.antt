use Rattle.std.proofs.Common.{◌≡◌, ◌+◌, nat_lt, vec_len, length, refl, sym, ◌∙◌, true, false, string_bytes, string_eq, arith}
use Rattle.std.proofs.lemmas.Bool.{lt-ltb, le-ltb}
use Rattle.std.proofs.lemmas.List.{map_push, length-map}
use Rattle.indexmap.proofs.CallerLemmas.{insert_entry-new}
use Rattle.hg_policy.specs.Kept.{names_of}
use Rattle.hg_policy.specs.Names.{is_among}
use Rattle.hg_policy.specs.TenantSets.{flags_of}
use Rattle.hg_policy_text.proofs.ArenaEntries.{items-resize}
use Rattle.hg_policy.proofs.Names.{among-names, none_from}
use Rattle.hg_policy_text.proofs.arenas.add_arena.Goals as goal

pub returns-then-contains_key : goal.returns-then-contains_key
returns-then-contains_key c tenants =
    let there : is_among c.args.name.now (names_of c.args.arenas.now.named.entries) ≡ true =
    sym (among-names c.args.name.now c.args.arenas.now.named.entries) ∙ (rw (c.as_str.ensures.value, c.in_ok-name.ensures.ok) at (sym c.if-contains_key.ensures)) in
    rw (there, c.in_ok-name.ensures.ok) refl

pub returns-then-total : goal.returns-then-total
returns-then-total c tenants =
    let absent : is_among c.args.name.now (names_of c.args.arenas.now.named.entries) ≡ false =
    sym (among-names c.args.name.now c.args.arenas.now.named.entries) ∙ (rw (c.as_str.ensures.value, c.in_ok-name.ensures.ok) at (sym c.if-contains_key.ensures)) in
    let over : nat_lt 64 (length c.args.arenas.now.segments.items + c.args.segments) ≡ true = lt-ltb 64 (length c.args.arenas.now.segments.items + c.args.segments) (omega arith) in
    rw (absent, over) refl

pub returns : goal.returns
returns c tenants =
    let absent : is_among c.args.name.now (names_of c.args.arenas.now.named.entries) ≡ false =
    sym (among-names c.args.name.now c.args.arenas.now.named.entries) ∙ (rw (c.as_str.ensures.value, c.in_ok-name.ensures.ok) at (sym c.if-contains_key.ensures)) in
    let fits : nat_lt 64 (length c.args.arenas.now.segments.items + c.args.segments) ≡ false = le-ltb 64 (length c.args.arenas.now.segments.items + c.args.segments) (omega arith) in
    let name = c.in_ok-name.name in
    let none = none_from _ (among-names (string_bytes name) c.args.arenas.now.named.entries ∙ rw c.in_ok-name.ensures.ok absent) in
    let entries = c.in_ok-insert.ensures.entries ∙ insert_entry-new string_eq c.args.arenas.now.named name c.args.admitted none in
    let arenas = c.args.arenas.now in
    let number : c.len-number.result ≡ length (names_of arenas.named.entries) = c.len-number.ensures.len ∙ sym (length-map arenas.named.entries (λ one. string_bytes one.0)) in
    let longer = items-resize arenas.segments.items (vec_len arenas.segments) c.args.segments c.len-number.result (c.len.result + c.args.segments) (omega arith) (omega (arith, c.len.ensures)) in
    rw (
      absent,
      fits,
      entries,
      map_push (λ one. string_bytes one.0) c.args.arenas.now.named.entries (name, c.args.admitted),
      map_push (λ one. flags_of tenants one.1) c.args.arenas.now.named.entries (name, c.args.admitted),
      c.in_ok-name.ensures.ok,
      c.in_ok-resize.ensures.items,
      longer,
      number,
    ) refl

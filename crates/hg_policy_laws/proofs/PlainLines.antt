-- A fault's line has no character that is written out.
use Rattle.std.proofs.Common.{◌≡◌, ◌==◌, ◌/◌, ◌%◌, ◌<◌, ◌&&◌, ℕ, Bool, true, false, not, List, [], ◌∷◌, codes, encode_utf8, nat_lt, flat_map, chars, string_bytes, refl, sym, inl, inr, arith, append-nil}
use Rattle.std.specs.List.{list_all}
use Rattle.std.specs.Str.{NoCharPasses}
use Rattle.std.proofs.lemmas.Bool.{cases_Bool, and_parts, ltb-true, true≢false}
use Rattle.std.proofs.lemmas.List.Folds.{list_all_at}
use Rattle.std.proofs.lemmas.Str.{encode_ascii, NoCharPasses-nil, NoCharPasses-append}
use Rattle.hg_policy_text.specs.declared.fault.PolicyFault.{PolicyFault}
use Rattle.hg_policy_text.specs.declared.fault.PolicyFault.TheVariants as fault
use Rattle.hg_policy_text.specs.declared.key.Key.{Key}
use Rattle.hg_policy_text.specs.declared.key.Key.TheVariants as key
use Rattle.hg_policy_text.specs.declared.key.Counted.{Counted}
use Rattle.hg_policy_text.specs.declared.key.Counted.TheVariants as counted
use Rattle.hg_policy_text.specs.Keys.{key_text, counted_text}
use Rattle.hg_policy_text.specs.OneLine.{hex_digit, four_digits, is_written_out, written, one_line}
use Rattle.hg_policy_text.specs.FaultLines.{fault_line}
use Rattle.hg_policy_text.proofs.WrittenOut.{out-below, written-out}

-- a byte of ASCII that isn't written out
abbrev pub is_plain : ℕ → Bool
is_plain b = nat_lt b 128 && not (is_written_out b)

not_false : (b : Bool) → not b ≡ true → b ≡ false
not_false true h = sym h
not_false false h = refl

plain-char : (c : ℕ) → is_written_out c ≡ false → NoCharPasses is_written_out (encode_utf8 c)
plain-char c h = (c ∷ [], append-nil (encode_utf8 c), (h, tt))

plain-byte : (b : ℕ) → is_plain b ≡ true → NoCharPasses is_written_out (b ∷ [])
plain-byte b h =
    let both = and_parts (nat_lt b 128) (not (is_written_out b)) h in
    rw (encode_ascii b (ltb-true b 128 both.0)) at (plain-char b (not_false (is_written_out b) both.1))

plain-tested : (bs : List ℕ) → list_all is_plain bs ≡ true → NoCharPasses is_written_out bs
plain-tested [] h = NoCharPasses-nil is_written_out
plain-tested (b ∷ bs) h =
    let both = and_parts (is_plain b) (list_all is_plain bs) h in
    NoCharPasses-append is_written_out (b ∷ []) bs (plain-byte b both.0) (plain-tested bs both.1)

plain-hex_digit : (n : ℕ) → n < 16 → NoCharPasses is_written_out (hex_digit n ∷ [])
plain-hex_digit n h =
    elim (cases_Bool (is_plain (hex_digit n))) [
      | inl is ↦ plain-byte (hex_digit n) is
      | inr other ↦ absurd (true≢false (list_all_at is_plain (codes "0123456789ABCDEF") n 0 h other))
    ]

plain-digits : (n : ℕ) (rest : List ℕ) → n < 16 → NoCharPasses is_written_out rest → NoCharPasses is_written_out (hex_digit n ∷ rest)
plain-digits n rest below plain = NoCharPasses-append is_written_out (hex_digit n ∷ []) rest (plain-hex_digit n below) plain

plain-four : (c : ℕ) → c < 65536 → NoCharPasses is_written_out (four_digits c)
plain-four c below =
    plain-digits (c / 4096) _ (omega arith)
    (plain-digits (c / 256 % 16) _ (omega arith)
    (plain-digits (c / 16 % 16) _ (omega arith) (plain-hex_digit (c % 16) (omega arith))))

plain-written : (c : ℕ) → NoCharPasses is_written_out (written c)
plain-written c =
    elim (cases_Bool (c == 8)) [
      | inl h ↦ rw h (plain-tested (codes "\\b") refl)
      | inr n8 ↦
          elim (cases_Bool (c == 9)) [
            | inl h ↦ rw (n8, h) (plain-tested (codes "\\t") refl)
            | inr n9 ↦
                elim (cases_Bool (c == 10)) [
                  | inl h ↦ rw (n8, n9, h) (plain-tested (codes "\\n") refl)
                  | inr n10 ↦
                      elim (cases_Bool (c == 12)) [
                        | inl h ↦ rw (n8, n9, n10, h) (plain-tested (codes "\\f") refl)
                        | inr n12 ↦
                            elim (cases_Bool (c == 13)) [
                              | inl h ↦ rw (n8, n9, n10, n12, h) (plain-tested (codes "\\r") refl)
                              | inr n13 ↦
                                  elim (cases_Bool (is_written_out c)) [
                                    | inl out ↦
                                        rw (written-out c n8 n9 n10 n12 n13 out)
                                        (NoCharPasses-append is_written_out (codes "\\u") (four_digits c) (plain-tested (codes "\\u") refl) (plain-four c (out-below c out)))
                                    | inr other ↦ rw (n8, n9, n10, n12, n13, other) (plain-char c other)
                                  ]
                            ]
                      ]
                ]
          ]
    ]

plain-flat_map : (cs : List ℕ) → NoCharPasses is_written_out (flat_map written cs)
plain-flat_map [] = NoCharPasses-nil is_written_out
plain-flat_map (c ∷ cs) = NoCharPasses-append is_written_out (written c) (flat_map written cs) (plain-written c) (plain-flat_map cs)

plain-key_text : (k : Key) → NoCharPasses is_written_out (key_text k)
plain-key_text key.Version = plain-tested (codes "version") refl
plain-key_text key.Workers = plain-tested (codes "workers") refl
plain-key_text key.MaxGeneration = plain-tested (codes "max_generation") refl
plain-key_text key.Tenant = plain-tested (codes "tenant") refl
plain-key_text key.Arena = plain-tested (codes "arena") refl
plain-key_text key.Group = plain-tested (codes "group") refl
plain-key_text key.Grant = plain-tested (codes "grant") refl
plain-key_text key.Deny = plain-tested (codes "deny") refl
plain-key_text key.Name = plain-tested (codes "name") refl
plain-key_text key.Limit = plain-tested (codes "limit") refl
plain-key_text key.Segments = plain-tested (codes "segments") refl
plain-key_text key.Exclusive = plain-tested (codes "exclusive") refl
plain-key_text key.Members = plain-tested (codes "members") refl
plain-key_text key.Owner = plain-tested (codes "owner") refl
plain-key_text key.To = plain-tested (codes "to") refl
plain-key_text key.Rights = plain-tested (codes "rights") refl

plain-counted_text : (c : Counted) → NoCharPasses is_written_out (counted_text c)
plain-counted_text counted.Workers = plain-tested (codes "workers") refl
plain-counted_text counted.Tenants = plain-tested (codes "tenant") refl
plain-counted_text counted.Arenas = plain-tested (codes "arena") refl
plain-counted_text counted.Groups = plain-tested (codes "group") refl
plain-counted_text counted.Segments = plain-tested (codes "segments") refl

pub faults_are_one_line : (fault : PolicyFault) → NoCharPasses is_written_out (fault_line fault)
faults_are_one_line fault.NotToml = plain-tested (codes "policy fault 1: not toml") refl
faults_are_one_line (fault.Missing k) = NoCharPasses-append is_written_out (codes "policy fault 2: missing ") (key_text k) (plain-tested (codes "policy fault 2: missing ") refl) (plain-key_text k)
faults_are_one_line (fault.Kind k) = NoCharPasses-append is_written_out (codes "policy fault 3: kind ") (key_text k) (plain-tested (codes "policy fault 3: kind ") refl) (plain-key_text k)
faults_are_one_line (fault.Unknown s) = NoCharPasses-append is_written_out (codes "policy fault 4: unknown ") (one_line (string_bytes s)) (plain-tested (codes "policy fault 4: unknown ") refl) (plain-flat_map (chars (string_bytes s)))
faults_are_one_line (fault.Repeated s) = NoCharPasses-append is_written_out (codes "policy fault 5: repeated ") (one_line (string_bytes s)) (plain-tested (codes "policy fault 5: repeated ") refl) (plain-flat_map (chars (string_bytes s)))
faults_are_one_line (fault.NoSuchName s) = NoCharPasses-append is_written_out (codes "policy fault 6: no such name ") (one_line (string_bytes s)) (plain-tested (codes "policy fault 6: no such name ") refl) (plain-flat_map (chars (string_bytes s)))
faults_are_one_line (fault.TooMany c) = NoCharPasses-append is_written_out (codes "policy fault 7: too many ") (counted_text c) (plain-tested (codes "policy fault 7: too many ") refl) (plain-counted_text c)
faults_are_one_line fault.Version = plain-tested (codes "policy fault 8: version") refl
faults_are_one_line fault.Memory = plain-tested (codes "no memory") refl

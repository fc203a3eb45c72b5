-- The line of each fault.
use Rattle.std.specs.Prelude.{◌++◌, ℕ, List, codes, string_bytes}
use Rattle.hg_policy_text.specs.declared.fault.PolicyFault.{PolicyFault}
use Rattle.hg_policy_text.specs.declared.fault.PolicyFault.TheVariants as fault
use Rattle.hg_policy_text.specs.Keys.{key_text, counted_text}
use Rattle.hg_policy_text.specs.OneLine.{one_line}

-- the fault by number and word, and then what it names
abbrev pub fault_line : PolicyFault → List ℕ
fault_line fault.NotToml = codes "policy fault 1: not toml"
fault_line (fault.Missing key) = codes "policy fault 2: missing " ++ key_text key
fault_line (fault.Kind key) = codes "policy fault 3: kind " ++ key_text key
fault_line (fault.Unknown key) = codes "policy fault 4: unknown " ++ one_line (string_bytes key)
fault_line (fault.Repeated name) = codes "policy fault 5: repeated " ++ one_line (string_bytes name)
fault_line (fault.NoSuchName name) =
    codes "policy fault 6: no such name " ++ one_line (string_bytes name)
fault_line (fault.TooMany counted) = codes "policy fault 7: too many " ++ counted_text counted
fault_line fault.Version = codes "policy fault 8: version"
fault_line fault.Memory = codes "no memory"

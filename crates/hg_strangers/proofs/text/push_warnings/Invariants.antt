use Rattle.std.proofs.Common.{◌≡◌, ◌++◌, map, take}
use Rattle.std.specs.List.{flat_map}
use Rattle.hg_trace.specs.Stored.{lines_in}
use Rattle.hg_strangers.specs.Mentions.{seen}
use Rattle.hg_strangers.specs.Texts.{warning}
use Rattle.hg_strangers.proofs.text.push_warnings.Given as goal

-- the names so far are told
abbrev pub invariant-loop-mention : goal.invariant-loop-mention
invariant-loop-mention l =
    l.out.items ≡ l.fn.out.items ++ flat_map (warning l.policy (lines_in l.trace)) (map seen (take l.mention-index l.mentions))

use Rattle.std.proofs.Common.{◌≡◌, drop, length}
use Rattle.std.specs.List.{slice_split}
use Rattle.dt_check.specs.Links.Aliases.{is_slash, at_names}
use Rattle.dt_check.proofs.links.aliases.at_names.Given as goal

-- what the names that are left lead to is what all lead to
abbrev pub invariant-loop-name : goal.invariant-loop-name
invariant-loop-name l = at_names l.node (drop (length l.yielded) (slice_split is_slash l.text)) ≡ at_names l.root (slice_split is_slash l.text)

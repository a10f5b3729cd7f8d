use Rattle.std.proofs.Common.{rules, ◌≡◌, ◌&&◌, ◌||◌, false, is_some, sym, ap, ◌∙◌}
use Rattle.dt_source.specs.TreeMeaning.Names.{fixups_name, local_fixups_name, symbols_name}
use Rattle.dt_source.specs.TreeMeaning.Resolved.{has_child}
use Rattle.dt_build.specs.Edit.Said.{tree_of}
use Rattle.dt_build.proofs.resolve.names.name_taken.Goals as goal
use Rattle.dt_build.proofs.resolve.names.name_taken.Goals.{then-symbols+else-is_some, else-symbols}

pub returns : goal.returns
returns c =
    let s = tree_of c.args.live.now in
    let rest : is_some c.child_at.result ≡ (c.args.plugin && (has_child s fixups_name || has_child s local_fixups_name)) = search rules in
    let free : (c.args.symbols && has_child s symbols_name) ≡ false = elim c.if-symbols.branch [
      | then-symbols+else-is_some w ↦ search rules
      | else-symbols w ↦ search rules
    ] in
    rest ∙ sym (ap (λ b. b || (c.args.plugin && (has_child s fixups_name || has_child s local_fixups_name))) free)

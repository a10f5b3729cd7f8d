use Rattle.std.proofs.Common.{sym, ap, ◌∙◌, rules}
use Rattle.dt_live.specs.Builder.Standing.{walked}
use Rattle.dt_build.proofs.ListsOfPrepared.{lists-ordinary}
use Rattle.dt_build.proofs.making.with_all.Goals as goal

pub returns-then-not-draft : goal.returns-then-not-draft
returns-then-not-draft c = c.in_ok-builder.ensures ∙ ap walked (sym (lists-ordinary c.args.symbols c.args.draft.now c.if-not-draft.true))

pub with_local_fixups-requires-clause-made : goal.with_local_fixups-requires-clause-made
with_local_fixups-requires-clause-made c = search rules

pub returns : goal.returns
returns c = c.with_local_fixups.ensures

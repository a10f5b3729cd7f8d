-- A command as it is made, piece by piece.
use Rattle.std.proofs.Common.{◌≡◌, false, Result, Ok, ap, ap₂, ◌∙◌, ◌||◌}
use Rattle.std.specs.Prelude.{IfOk}
use Rattle.std.proofs.lemmas.Result.{IfOk-at_ok, IfOk-weaker}
use Rattle.clap.specs.Built.{AddsArg, AddsSubcommand}
use Rattle.clap.specs.Words.{App, Rule, app_of, rule_of, with_rule, with_subcommand}
use Rattle.clap.specs.declared.builder.arg.Arg.{Arg}
use Rattle.clap.specs.declared.builder.command.Command.{Command}
use Rattle.clap.specs.declared.builder.command.Command.TheViews.{out-Command}
use Rattle.dtman_words.specs.Making.{Makes}

pub first_argument : {E : Type 0} (old : Command) (a : Arg) (result : Result Command E) (app : App) (rule : Rule) → app_of old ≡ app → (out-Command old).has_globals ≡ false → a.global ≡ false → IfOk result (λ new. AddsArg old a new) → rule_of a ≡ rule → Makes result (with_rule app rule)
first_argument old a result app rule shape globals local adds is =
    IfOk-weaker result _ _ (λ new added. (added.shape local ∙ ap₂ with_rule shape is, added.globals ∙ ap₂ ◌||◌ globals local)) adds

pub argument_added : {D E : Type 0} (made : Result Command D) (old : Command) (a : Arg) (result : Result Command E) (app : App) (rule : Rule) → made ≡ Ok old → a.global ≡ false → IfOk result (λ new. AddsArg old a new) → Makes made app → rule_of a ≡ rule → Makes result (with_rule app rule)
argument_added made old a result app rule was local adds makes is =
    let before = IfOk-at_ok (λ c. (app_of c ≡ app) × ((out-Command c).has_globals ≡ false)) was makes in
    first_argument old a result app rule before.0 before.1 local adds is

pub subcommand_added : {C D E : Type 0} (made : Result Command C) (other_made : Result Command D) (old sub : Command) (result : Result Command E) (app other : App) → made ≡ Ok old → other_made ≡ Ok sub → IfOk result (λ new. AddsSubcommand old sub new) → Makes made app → Makes other_made other → Makes result (with_subcommand app other.top)
subcommand_added made other_made old sub result app other was other_was adds makes other_makes =
    let before = IfOk-at_ok (λ c. (app_of c ≡ app) × ((out-Command c).has_globals ≡ false)) was makes in
    let beside = IfOk-at_ok (λ c. (app_of c ≡ other) × ((out-Command c).has_globals ≡ false)) other_was other_makes in
    IfOk-weaker result _ _ (λ new added. (added.shape beside.1 ∙ ap₂ with_subcommand before.0 (ap (λ (a : App). a.top) beside.0), added.globals ∙ ap₂ ◌||◌ before.1 beside.1)) adds

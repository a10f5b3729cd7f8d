-- What private contracts cite: which app is made. No public clause rests on it.
use Rattle.std.specs.Prelude.{◌≡◌, false, Result, IfOk}
use Rattle.clap.specs.Words.{App, app_of}
use Rattle.clap.specs.declared.builder.command.Command.{Command}
use Rattle.clap.specs.declared.builder.command.Command.TheViews.{out-Command}

-- the app, unless memory was refused
abbrev pub Makes : {E : Type 0} → Result Command E → App → Type 0
Makes made app = IfOk made (λ c. (app_of c ≡ app) × ((out-Command c).has_globals ≡ false))

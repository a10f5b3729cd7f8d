use Rattle.std.proofs.Common.{◌≡◌, ◌∙◌, true, sym, rules}
use Rattle.std.specs.Str.{bytes_eq}
use Rattle.dt_overlay.proofs.fixup.writing.known_phandle.Goals as goal

pub returns-then-eq : goal.returns-then-eq
returns-then-eq c = let same : bytes_eq c.in-Some.known.now c.args.symbol.now ≡ true = sym c.eq.ensures ∙ c.if-eq.true in search (rules, same)

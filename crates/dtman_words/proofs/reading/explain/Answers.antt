-- The number that is named, or all.
use Rattle.std.proofs.Common.{codes, refl, ap}
use Rattle.std.specs.Prelude.{List, ℕ, Option, unwrap_or}
use Rattle.dtman_words.proofs.MetLemmas.{no_value, value}
use Rattle.dtman_words.proofs.reading.explain.Goals as goal

pub returns-in-Some : goal.returns-in-Some
returns-in-Some c =
    (refl, ap (λ (o : Option (List ℕ)). unwrap_or o (codes "all")) (value c.args.given.now (codes "NUMBER") c.in-Some.number.now c.in-Some.ensures))

pub returns-in-None : goal.returns-in-None
returns-in-None c = (refl, ap (λ (o : Option (List ℕ)). unwrap_or o (codes "all")) (no_value c.args.given.now (codes "NUMBER") c.in-None.ensures))

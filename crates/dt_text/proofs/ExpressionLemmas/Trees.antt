-- What is read, as a value and as the tree that is spelled.
use Rattle.std.proofs.Common.{◌≡◌, ℕ, List, Ok, refl, sym, ap, ◌∙◌}
use Rattle.dt_text.specs.declared.lexeme.lexeme.Lexeme.{Lexeme}
use Rattle.dt_text.specs.Expression.Expression.{Expression, Number, Grouped, Prefixed, Infix, Choice, Making, made}
use Rattle.dt_text.specs.Expression.Values.{Value, both, prefixed, choice, value_of, values}
use Rattle.dt_text.specs.Expression.ReadingExpressions.{primary_at, ReadsWhatIsSpelled, ReadsAllThatIsSpelled, SpellsOne}
use Rattle.dt_text.proofs.ExpressionLemmas.Sound.{ok_is, primary_takes}
use Rattle.dt_text.proofs.ExpressionLemmas.Complete.{primary_again}

abbrev trees : Making Expression
trees = record { number = Number; grouped = Grouped; prefixed = Prefixed; joined = Infix; chosen = Choice }

made_tree : (e : Expression) → made trees e ≡ e
unfolding made
made_tree (Number l) = refl
made_tree (Grouped e) = ap Grouped (made_tree e)
made_tree (Prefixed t e) = ap (Prefixed t) (made_tree e)
made_tree (Infix t e f) = ap (λ (x : Expression). Infix t x (made trees f)) (made_tree e) ∙ ap (Infix t e) (made_tree f)
made_tree (Choice e f g) = ap (λ (x : Expression). Choice x (made trees f) (made trees g)) (made_tree e) ∙ ap (λ (x : Expression). Choice e x (made trees g)) (made_tree f) ∙ ap (Choice e f) (made_tree g)

made_value : (text : List ℕ) (e : Expression) → made (values text) e ≡ value_of text e
unfolding made value_of
made_value text (Number l) = refl
made_value text (Grouped e) = made_value text e
made_value text (Prefixed t e) = ap (prefixed t) (made_value text e)
made_value text (Infix t e f) = ap (λ (x : Value). both t x (made (values text) f)) (made_value text e) ∙ ap (both t (value_of text e)) (made_value text f)
made_value text (Choice e f g) =
    ap (λ (x : Value). choice x (made (values text) f) (made (values text) g)) (made_value text e) ∙ ap (λ (x : Value). choice (value_of text e) x (made (values text) g)) (made_value text f)
    ∙ ap (choice (value_of text e) (value_of text f)) (made_value text g)

pub reads_what_is_spelled : ReadsWhatIsSpelled
unfolding primary_at
reads_what_is_spelled text ts v rest e = let f = primary_takes (values text) ts v rest e in (f.tree, (f.primary, f.spells), sym (made_value text f.tree) ∙ f.value)

pub reads_all_that_is_spelled : ReadsAllThatIsSpelled
unfolding primary_at
reads_all_that_is_spelled text e ts rest h = primary_again (values text) e ts rest h ∙ ap (λ (v : Value). Ok (v, rest)) (made_value text e)

pub spells_one : SpellsOne
spells_one e f ts a b p q =
    let same = ok_is (made trees e, a) (made trees f, b) (sym (primary_again trees e ts a p) ∙ primary_again trees f ts b q) in
    (sym (made_tree e) ∙ ap (λ (x : Expression × List Lexeme). x.0) same ∙ made_tree f, ap (λ (x : Expression × List Lexeme). x.1) same)

use Rattle.std.proofs.Common.{◌≡◌, ℕ, Bool, List, Ok, Option, Result, refl, ap, ◌∙◌}
use Rattle.dt_text.specs.declared.lexeme.language.Language.{Language}
use Rattle.dt_text.specs.declared.lexeme.lexeme.Lexeme.{Lexeme}
use Rattle.dt_text.specs.declared.lexeme.lexeme.Fault.{Fault}
use Rattle.dt_text.specs.declared.lexeme.lexeme.Refusal.{Refusal}
use Rattle.dt_text.specs.Expression.Reading.{◌>>=◌}
use Rattle.dt_source.specs.Reading.Several.{earlier, Part}
use Rattle.dt_source.specs.TreeMeaning.Syntax.{Edit, Meaning}
use Rattle.dt_source.specs.Reading.Whole.{some_header, headers_at, reserves_at, items_at, source_at}
use Rattle.dt_source.proofs.source.source.Goals as goal

abbrev with_items : Bool → List (ℕ × ℕ) → Option Fault → Result (List Edit × Option Fault) Refusal → Result (Meaning × Option Fault) Refusal
with_items plugin reserves f read = read >>= λ i. Ok (record { plugin = plugin; reserves = reserves; items = i.0 }, earlier f i.1)

abbrev with_reserves : Language → List ℕ → Bool → Part (List (ℕ × ℕ)) → Result (Meaning × Option Fault) Refusal
with_reserves language text plugin read = read >>= λ r. with_items plugin r.0 r.1 (items_at language text r.2)

abbrev with_plugin : Language → List ℕ → List Lexeme → Result Bool Refusal → Result (Meaning × Option Fault) Refusal
with_plugin language text rest read = read >>= λ plugin. with_reserves language text plugin (reserves_at text rest)

abbrev with_headers : Language → List ℕ → List Lexeme → Part (Option Bool) → Result (Meaning × Option Fault) Refusal
with_headers language text ts read = read >>= λ h. with_plugin language text h.2 (some_header ts h.0)

begins : (language : Language) (text : List ℕ) (ts : List Lexeme) → source_at language text ts ≡ with_headers language text ts (headers_at ts)
unfolding source_at
begins language text ts = refl

pub returns : goal.returns
returns c =
    begins c.args.language c.args.text.now c.args.ts.now
    ∙ ap (with_headers c.args.language c.args.text.now c.args.ts.now) c.in_ok-plugin.ensures.gives
    ∙ ap (with_plugin c.args.language c.args.text.now c.in_ok-plugin.rest.now) c.in_ok-plugin-2.ensures
    ∙ ap (with_reserves c.args.language c.args.text.now c.in_ok-plugin-2.plugin) c.in_ok-found.ensures.gives
    ∙ ap (with_items c.in_ok-plugin-2.plugin c.in_ok-found.field-0.found.items c.in_ok-found.field-0.fault) c.in_ok-items.ensures
    ∙ rw (c.shrink_to_fit.ensures.items, c.earlier.ensures) refl

-- The new key stands last.
use Rattle.std.proofs.Common.{false, ◌≡◌, ◌∙◌, ap, ◌++◌, ◌∷◌, []}
use Rattle.std.specs.Prelude.{map}
use Rattle.std.specs.List.{list_any}
use Rattle.std.specs.Str.{bytes_eq}
use Rattle.bus_plan.proofs.ListLemmas.{map-insert_key}
use Rattle.bus_plan.proofs.paths.PathIndex.push.Goals as goal

pub returns-clause-ok : goal.returns-clause-ok
returns-clause-ok c =
    let keys = c.self.inside.set.keys in
    let key = c.in_ok-key.key in
    let is : key.items ≡ c.args.path.now = c.in_ok-key.ensures.items in
    let new : list_any (bytes_eq key.items) (map (λ k. k.items) keys) ≡ false =
    ap (λ p. list_any (bytes_eq p) (map (λ k. k.items) keys)) is ∙ ap (list_any (bytes_eq c.args.path.now)) c.self.view_is ∙ c.requires in
    ap (map (λ k. k.items)) c.in_ok-insert.ensures.keys ∙ map-insert_key (λ k. k.items) bytes_eq keys key new
    ∙ ap (λ p. map (λ k. k.items) keys ++ p ∷ []) is ∙ ap (λ ps. ps ++ c.args.path.now ∷ []) c.self.view_is

use Rattle.std.proofs.Common.{◌≡◌, ℕ, List, [], ◌∷◌, ◌++◌, ap, ◌∙◌, append_assoc}
use Rattle.dt_tree.specs.Path.{behind_slashes, path_names}
use Rattle.dt_tree.proofs.PathTexts.{child_path}
use Rattle.dt_tree.proofs.path.Path.child.Goals as goal

pub invariant_of-result : goal.invariant_of-result
invariant_of-result c =
    let names = behind_slashes (path_names c.args.self.now) in
    let copied : c.extend_from_slice.new.self.items ≡ names = c.in_ok-extend_from_slice.ensures.items ∙ ap (λ (t : List ℕ). t ++ c.names_text-names.result.now) c.in_ok-text.ensures.items ∙ c.names_text-names.ensures in
    let made : c.extend_from_slice-2.new.self.items ≡ names ++ 47 ∷ c.args.name.now =
    c.in_ok-extend_from_slice-2.ensures.items ∙ ap (λ (t : List ℕ). t ++ c.as_bytes-2.result.now) (c.in_ok-push.ensures.items ∙ ap (λ (t : List ℕ). t ++ 47 ∷ []) copied)
    ∙ append_assoc names (47 ∷ []) c.as_bytes-2.result.now ∙ ap (λ (n : List ℕ). names ++ 47 ∷ n) c.as_bytes-2.ensures.value in
    (child_path c.args.self.now c.args.name.now c.extend_from_slice-2.new.self.items c.check.ensures c.check-2.ensures made).lawful

pub returns : goal.returns
returns c =
    let names = behind_slashes (path_names c.args.self.now) in
    let copied : c.extend_from_slice.new.self.items ≡ names = c.in_ok-extend_from_slice.ensures.items ∙ ap (λ (t : List ℕ). t ++ c.names_text-names.result.now) c.in_ok-text.ensures.items ∙ c.names_text-names.ensures in
    let made : c.extend_from_slice-2.new.self.items ≡ names ++ 47 ∷ c.args.name.now =
    c.in_ok-extend_from_slice-2.ensures.items ∙ ap (λ (t : List ℕ). t ++ c.as_bytes-2.result.now) (c.in_ok-push.ensures.items ∙ ap (λ (t : List ℕ). t ++ 47 ∷ []) copied)
    ∙ append_assoc names (47 ∷ []) c.as_bytes-2.result.now ∙ ap (λ (n : List ℕ). names ++ 47 ∷ n) c.as_bytes-2.ensures.value in
    (child_path c.args.self.now c.args.name.now c.extend_from_slice-2.new.self.items c.check.ensures c.check-2.ensures made).names

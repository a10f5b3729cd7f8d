-- The names and targets of the extensions so far.
use Rattle.std.proofs.Common.{◌≡◌, ℕ, suc, ◌<◌, List, [], ◌∷◌, ◌++◌, length, map, get_or, sym, ap, ap₂, ◌∙◌, subst, append_assoc, Vec, Global, All, arith}
use Rattle.std.proofs.Math.ListN.{get_or-map}
use Rattle.std.proofs.lemmas.List.{length-append, length-map}
use Rattle.std.proofs.lemmas.List.Elements.{All-get_or}
use Rattle.std.specs.List.{flat_map}
use Rattle.dt_source.specs.declared.tree.Item.{Item}
use Rattle.dt_source.specs.declared.tree.Value.{Value}
use Rattle.dt_source.specs.Lawful.{IsLawfulEdit}
use Rattle.dt_source.specs.Tree.{item_view}
use Rattle.dt_source.specs.TreeMeaning.Names.{fragment_name}
use Rattle.dt_source.specs.TreeMeaning.Syntax.{Piece, Edit}
use Rattle.dt_build.specs.Edit.Fragments.{first_names, target_values}
use Rattle.dt_build.proofs.EditLemmas.Readiness.{length-first, value_of, name_of}

pub lawful-at : (items : List Item) (i : ℕ) (item : Item) → i < length items → item ≡ get_or items i item → All IsLawfulEdit (map item_view items) → IsLawfulEdit (item_view item)
lawful-at items i item within is all =
    subst IsLawfulEdit (get_or-map item_view items i item ∙ ap item_view (sym is))
    (All-get_or IsLawfulEdit (map item_view items) i (item_view item) (omega (arith, within, length-map items item_view)) all)

pub names-more : (names names' : List (Vec ℕ Global)) (targets targets' : List Value) (value : Value) → map name_of names ≡ first_names (length targets)
    → map name_of names' ≡ map name_of names ++ fragment_name (length names) ∷ [] → targets' ≡ targets ++ value ∷ [] → map name_of names' ≡ first_names (length targets')
names-more names names' targets targets' value so_far next more =
    let same : length names ≡ length targets = omega (arith, length-map names name_of, ap length so_far, length-first (length targets)) in
    let longer : length targets' ≡ suc (length targets) = omega (arith, ap length more, length-append targets (value ∷ [])) in
    next ∙ ap₂ (λ xs n. xs ++ fragment_name n ∷ []) so_far same ∙ ap first_names (sym longer)

pub targets-more : (targets targets' : List Value) (i : Edit) (left : List Edit) (whole : List (List Piece)) → map value_of targets' ≡ map value_of targets ++ target_values i
    → map value_of targets ++ flat_map target_values (i ∷ left) ≡ whole → map value_of targets' ++ flat_map target_values left ≡ whole
targets-more targets targets' i left whole more so_far =
    let joined : map value_of targets' ++ flat_map target_values left ≡ map value_of targets ++ flat_map target_values (i ∷ left) =
    ap (λ xs. xs ++ flat_map target_values left) more ∙ append_assoc (map value_of targets) (target_values i) (flat_map target_values left) in
    joined ∙ so_far

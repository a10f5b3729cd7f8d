-- Reserved nodes are those at a reserved name right below the root, and all below them.
use Rattle.std.proofs.Common.{◌≡◌, ℕ, zero, suc, List, [], ◌∷◌, ◌++◌, refl, sym, ap, ◌∙◌}
use Rattle.dt_tree.specs.Phandle.{is_reserved, is_reserved_name}
use Rattle.dt_source.specs.TreeMeaning.Paths.{Path}
use Rattle.dt_live.specs.declared.live_tree.NodeRow.{NodeRow}
use Rattle.dt_live.specs.Rows.{row_at, path_of, IsGrown}
use Rattle.dt_live.proofs.Climbs.{path-step}

below-named : (q : Path) (b a : List ℕ) → is_reserved ((q ++ b ∷ []) ++ a ∷ []) ≡ is_reserved (q ++ b ∷ [])
below-named [] b a = refl
below-named (x ∷ q) b a = refl

pub reserved-top : (rows : List NodeRow) → IsGrown rows → (n k : ℕ) → n ≡ suc k → (row_at rows k).parent ≡ 0 → is_reserved_name (row_at rows k).name.now ≡ is_reserved (path_of rows n)
reserved-top rows grown n k at top =
    sym (ap (λ m. is_reserved (path_of rows m)) at ∙ ap is_reserved (path-step rows grown k) ∙ ap (λ m. is_reserved (path_of rows m ++ (row_at rows k).name.now ∷ [])) top)

below-node : (rows : List NodeRow) → IsGrown rows → (m : ℕ) (a : List ℕ) → (m ≡ 0 → ⊥) → is_reserved (path_of rows m) ≡ is_reserved (path_of rows m ++ a ∷ [])
below-node rows grown zero a some = absurd (some refl)
below-node rows grown (suc j) a some =
    let x = row_at rows j in
    ap is_reserved (path-step rows grown j) ∙ sym (below-named (path_of rows x.parent) x.name.now a) ∙ ap (λ p. is_reserved (p ++ a ∷ [])) (sym (path-step rows grown j))

pub reserved-above : (rows : List NodeRow) → IsGrown rows → (n k : ℕ) → n ≡ suc k → ((row_at rows k).parent ≡ 0 → ⊥) → is_reserved (path_of rows (row_at rows k).parent) ≡ is_reserved (path_of rows n)
reserved-above rows grown n k at some =
    below-node rows grown (row_at rows k).parent (row_at rows k).name.now some ∙ ap is_reserved (sym (path-step rows grown k)) ∙ ap (λ m. is_reserved (path_of rows m)) (sym at)

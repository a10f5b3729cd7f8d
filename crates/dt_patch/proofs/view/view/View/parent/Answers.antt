use Rattle.std.proofs.Common.{◌≡◌, ℕ, ◌+◌, List, length, Some, Ok, ap, subst, sym, ◌∙◌, arith, [], ◌∷◌, ◌++◌, length-append}
use Rattle.dt_tree.specs.NodeData.{NodeData}
use Rattle.dt_tree.specs.PathMap.{node_at}
use Rattle.dt_blob.specs.Token.{Token, begin_node, end}
use Rattle.std.specs.Prelude.{Result}
use Rattle.dt_patch.specs.declared.view.error.ViewError.{ViewError}
use Rattle.dt_patch.specs.View.Private.Levels.{Lies, levels_after}
use Rattle.dt_patch.specs.View.Reaching.{before_node}
use Rattle.dt_patch.proofs.ViewLemmas.Beginnings.{shorter}
use Rattle.dt_patch.proofs.ViewLemmas.Levels.{before_last, levels_node, node_split, parent_opened, within}
use Rattle.dt_patch.proofs.ViewLemmas.Walks.{has_parent, inside_of, lies_at, parent_at}
use Rattle.dt_patch.proofs.view.view.View.parent.Goals as goal

-- how deep the node at a path stands
deep : (root d : NodeData) (path : List (List ℕ)) → node_at root path ≡ Some d → levels_after 0 (before_node root path) ≡ Some (length path)
deep root d path e = let none : 0 + length path ≡ length path = omega arith in levels_node path root d 0 e ∙ ap (λ (n : ℕ). Some n) none

longer : (path : List (List ℕ)) (k : List ℕ) → length (path ++ k ∷ []) ≡ length path + 1
longer path k = omega (arith, length-append path (k ∷ []))

ok_same : (x y : ℕ) → ◌≡◌ {A = Result ℕ ViewError} (Ok x) (Ok y) → x ≡ y
ok_same x y e = cc e

pub returns-in_err-begun-clause-root : goal.returns-in_err-begun-clause-root
returns-in_err-begun-clause-root c = λ tree v i. absurd (c.in_err-begun.ensures.0 i.node.name (shorter _ _ (begin_node i.node.name ∷ []) _ i.stands))

pub returns-in_err-begun-clause-below : goal.returns-in_err-begun-clause-below
returns-in_err-begun-clause-below c = λ tree path k v i. absurd (c.in_err-begun.ensures.0 i.node.name (shorter _ _ (begin_node i.node.name ∷ []) _ i.stands))

pub returns-in_err-depth-clause-root : goal.returns-in_err-depth-clause-root
returns-in_err-depth-clause-root c = λ tree v i.
    let l = lies_at c.args.self.now tree [] c.args.node.at c.in_ok-begun.begun.name.now c.in_ok-begun.begun.at c.in_ok-begun.begun.next c.in_ok-begun.ensures v i in
    absurd (cc (c.in_err-depth.ensures _ _ _ _ l (deep tree.root i.node [] i.there)))

pub returns-in_err-depth-clause-below : goal.returns-in_err-depth-clause-below
returns-in_err-depth-clause-below c = λ tree path k v i.
    let l = lies_at c.args.self.now tree (path ++ k ∷ []) c.args.node.at c.in_ok-begun.begun.name.now c.in_ok-begun.begun.at c.in_ok-begun.begun.next c.in_ok-begun.ensures v i in
    absurd (cc (c.in_err-depth.ensures _ _ _ _ l (deep tree.root i.node (path ++ k ∷ []) i.there)))

pub returns-in_err-depth-clause-refused : goal.returns-in_err-depth-clause-refused
returns-in_err-depth-clause-refused c = λ n. absurd (n c.in_ok-begun.begun.name.now c.in_ok-begun.ensures.stands)

pub returns-then-depth-eq0-clause-below : goal.returns-then-depth-eq0-clause-below
returns-then-depth-eq0-clause-below c = λ tree path k v i.
    let l = lies_at c.args.self.now tree (path ++ k ∷ []) c.args.node.at c.in_ok-begun.begun.name.now c.in_ok-begun.begun.at c.in_ok-begun.begun.next c.in_ok-begun.ensures v i in
    let same : c.in_ok-depth.depth ≡ length (path ++ k ∷ []) = ok_same _ _ (c.in_ok-depth.ensures _ _ _ _ l (deep tree.root i.node (path ++ k ∷ []) i.there)) in
    let more = longer path k in
    let zero = c.if-depth-eq0.true in
    omega (arith, same, more, zero)

pub returns-then-depth-eq0-clause-refused : goal.returns-then-depth-eq0-clause-refused
returns-then-depth-eq0-clause-refused c = λ n. absurd (n c.in_ok-begun.begun.name.now c.in_ok-begun.ensures.stands)

pub returns-in_err-parent-clause-root : goal.returns-in_err-parent-clause-root
returns-in_err-parent-clause-root c = λ tree v i.
    let l = lies_at c.args.self.now tree [] c.args.node.at c.in_ok-begun.begun.name.now c.in_ok-begun.begun.at c.in_ok-begun.begun.next c.in_ok-begun.ensures v i in
    let same : c.in_ok-depth.depth ≡ 0 = ok_same _ _ (c.in_ok-depth.ensures _ _ _ _ l (deep tree.root i.node [] i.there)) in
    absurd (c.if-depth-eq0.false same)

pub returns-in_err-parent-clause-below : goal.returns-in_err-parent-clause-below
returns-in_err-parent-clause-below c = λ tree path k v i.
    let l = lies_at c.args.self.now tree (path ++ k ∷ []) c.args.node.at c.in_ok-begun.begun.name.now c.in_ok-begun.begun.at c.in_ok-begun.begun.next c.in_ok-begun.ensures v i in
    let d = deep tree.root i.node (path ++ k ∷ []) i.there in
    let p = has_parent tree.root i.node path k i.there in
    let same : c.in_ok-depth.depth ≡ length (path ++ k ∷ []) = ok_same _ _ (c.in_ok-depth.ensures _ _ _ _ l d) in
    let more = longer path k in
    let front = before_last path tree.root p.parent k p.there in
    let rest : List Token = inside_of i.node ++ ((node_split (path ++ k ∷ []) tree.root i.node i.there).after ++ end ∷ []) in
    absurd (c.in_err-parent.ensures (before_node tree.root path) (within p.parent k) (begin_node i.node.name) rest _ (subst (λ (x : List Token). Lies c.args.self.now c.in_ok-begun.begun.at x (begin_node i.node.name) rest) front l) (ap (levels_after 0) (sym front) ∙ d)
    (parent_opened path tree.root p.parent k c.in_ok-depth.depth p.there (omega (arith, same, more))))

pub returns-in_err-parent-clause-refused : goal.returns-in_err-parent-clause-refused
returns-in_err-parent-clause-refused c = λ n. absurd (n c.in_ok-begun.begun.name.now c.in_ok-begun.ensures.stands)

pub returns-clause-root : goal.returns-clause-root
returns-clause-root c = λ tree v i.
    let l = lies_at c.args.self.now tree [] c.args.node.at c.in_ok-begun.begun.name.now c.in_ok-begun.begun.at c.in_ok-begun.begun.next c.in_ok-begun.ensures v i in
    let same : c.in_ok-depth.depth ≡ 0 = ok_same _ _ (c.in_ok-depth.ensures _ _ _ _ l (deep tree.root i.node [] i.there)) in
    absurd (c.if-depth-eq0.false same)

pub returns-clause-below : goal.returns-clause-below
returns-clause-below c = λ tree path k v i.
    let l = lies_at c.args.self.now tree (path ++ k ∷ []) c.args.node.at c.in_ok-begun.begun.name.now c.in_ok-begun.begun.at c.in_ok-begun.begun.next c.in_ok-begun.ensures v i in
    let d = deep tree.root i.node (path ++ k ∷ []) i.there in
    let p = has_parent tree.root i.node path k i.there in
    let same : c.in_ok-depth.depth ≡ length (path ++ k ∷ []) = ok_same _ _ (c.in_ok-depth.ensures _ _ _ _ l d) in
    let more = longer path k in
    let front = before_last path tree.root p.parent k p.there in
    let rest : List Token = inside_of i.node ++ ((node_split (path ++ k ∷ []) tree.root i.node i.there).after ++ end ∷ []) in
    let told = c.in_ok-parent.ensures (before_node tree.root path) (within p.parent k) (begin_node i.node.name) rest _ (subst (λ (x : List Token). Lies c.args.self.now c.in_ok-begun.begun.at x (begin_node i.node.name) rest) front l) (ap (levels_after 0) (sym front) ∙ d)
    (parent_opened path tree.root p.parent k c.in_ok-depth.depth p.there (omega (arith, same, more))) in
    parent_at c.args.self.now tree path k c.in_ok-parent.parent.at p.parent i.node p.there i.there told.0 told.1

pub returns-clause-refused : goal.returns-clause-refused
returns-clause-refused c = λ n. absurd (n c.in_ok-begun.begun.name.now c.in_ok-begun.ensures.stands)

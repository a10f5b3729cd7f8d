-- What a walk names, node by node.
use Rattle.std.proofs.Common.{◌≡◌, ◌∙◌, ap, sym, refl, ℕ, ◌+◌, ◌<◌, ◌≤◌, true, false, List, [], ◌∷◌, ◌++◌, length, get_or, drop, Option, Some, None}
use Rattle.std.proofs.lemmas.List.{at_drop_more, at_drop_all}
use Rattle.dt_tree.specs.NodeData.{Siblings, more, NodeData, siblings}
use Rattle.dt_tree.specs.Phandle.{is_reserved_name, or_else}
use Rattle.dtman_blobs.specs.Difference.Named.{NamedNode, boards_own, named_among, named_by, own}
use Rattle.dtman_blobs.specs.Difference.Private.Kept.{named_at}

pub or_else-assoc : {A : Type 0} (x y z : Option A) → or_else (or_else x y) z ≡ or_else x (or_else y z)
or_else-assoc None y z = refl
or_else-assoc (Some a) y z = refl

pub or_else-none : {A : Type 0} (x : Option A) → or_else x None ≡ x
or_else-none None = refl
or_else-none (Some a) = refl

pub next-node : (bs : List NodeData) (i : ℕ) (b : NodeData) → i < length bs → b ≡ get_or bs i b
    → siblings (drop i bs) ≡ more b.name b.properties b.children (siblings (drop (i + 1) bs))
next-node bs i b h e = at_drop_more siblings bs i b h ∙ ap (λ (x : NodeData). siblings (x ∷ drop (i + 1) bs)) (sym e)

pub next-own : (bs : List NodeData) (i : ℕ) (b : NodeData) → i < length bs → b ≡ get_or bs i b → is_reserved_name b.name ≡ false
    → boards_own (siblings (drop i bs)) ≡ more b.name b.properties b.children (boards_own (siblings (drop (i + 1) bs)))
next-own bs i b h e u = ap boards_own (next-node bs i b h e) ∙ rw u refl

pub next-reserved : (bs : List NodeData) (i : ℕ) (b : NodeData) → i < length bs → b ≡ get_or bs i b → is_reserved_name b.name ≡ true
    → boards_own (siblings (drop i bs)) ≡ boards_own (siblings (drop (i + 1) bs))
next-reserved bs i b h e u = ap boards_own (next-node bs i b h e) ∙ rw u refl

-- a node is named with all below it, and then the others
pub next-named : (before after whole : Option NamedNode) (path below : List ℕ) (f rest : Siblings) (b : NodeData) (phandle : ℕ)
    → f ≡ more b.name b.properties b.children rest → below ≡ path ++ 47 ∷ b.name → after ≡ or_else before (named_at below b phandle)
    → or_else before (named_among path f phandle) ≡ whole → or_else after (named_among path rest phandle) ≡ whole
next-named before after whole path below f rest b phandle next at is left =
    ap (λ (o : Option NamedNode). or_else o (named_among path rest phandle)) is
    ∙ ap (λ (w : List ℕ). or_else (or_else before (named_at w b phandle)) (named_among path rest phandle)) at
    ∙ or_else-assoc before (named_at (path ++ 47 ∷ b.name) b phandle) (named_among path rest phandle)
    ∙ ap (λ (g : Siblings). or_else before (named_among path g phandle)) (sym next) ∙ left

-- the node itself, and then those below it
pub begin-named : (before after : Option NamedNode) (path : List ℕ) (b : NodeData) (bs : List NodeData) (phandle : ℕ) → siblings bs ≡ b.children
    → after ≡ or_else before (own path b.properties phandle) → or_else after (named_among path (siblings bs) phandle) ≡ or_else before (named_at path b phandle)
begin-named before after path b bs phandle all is =
    ap (λ (o : Option NamedNode). or_else o (named_among path (siblings bs) phandle)) is
    ∙ ap (λ (g : Siblings). or_else (or_else before (own path b.properties phandle)) (named_among path g phandle)) all
    ∙ or_else-assoc before (own path b.properties phandle) (named_among path b.children phandle)

pub begin-tree : (before after : Option NamedNode) (root : NodeData) (bs : List NodeData) (phandle : ℕ) → before ≡ None → siblings bs ≡ root.children
    → after ≡ or_else before (own [] root.properties phandle) → or_else after (named_among [] (boards_own (siblings bs)) phandle) ≡ named_by root phandle
begin-tree before after root bs phandle empty all is =
    ap (λ (o : Option NamedNode). or_else o (named_among [] (boards_own (siblings bs)) phandle)) (is ∙ ap (λ (o : Option NamedNode). or_else o (own [] root.properties phandle)) empty)
    ∙ ap (λ (g : Siblings). or_else (own [] root.properties phandle) (named_among [] (boards_own g) phandle)) all

pub last-named : (before whole : Option NamedNode) (path : List ℕ) (bs : List NodeData) (i phandle : ℕ) → length bs ≤ i
    → or_else before (named_among path (siblings (drop i bs)) phandle) ≡ whole → before ≡ whole
last-named before whole path bs i phandle h left =
    sym (or_else-none before) ∙ sym (at_drop_all (λ ds. or_else before (named_among path (siblings ds) phandle)) bs i h) ∙ left

pub last-own : (before whole : Option NamedNode) (path : List ℕ) (bs : List NodeData) (i phandle : ℕ) → length bs ≤ i
    → or_else before (named_among path (boards_own (siblings (drop i bs))) phandle) ≡ whole → before ≡ whole
last-own before whole path bs i phandle h left =
    sym (or_else-none before) ∙ sym (at_drop_all (λ ds. or_else before (named_among path (boards_own (siblings ds)) phandle)) bs i h) ∙ left

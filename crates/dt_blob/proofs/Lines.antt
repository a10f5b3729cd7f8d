-- Lines of a source: how long they are, and one behind the other.
use Rattle.std.proofs.Common.{◌≡◌, ℕ, suc, ◌+◌, ◌-◌, ◌<◌, ◌≤◌, List, [], ◌∷◌, ◌++◌, length, drop, get_or, refl, sym, ap, subst, ◌∙◌, arith, length-append, append_assoc, drop-cons, add-one, inl, inr}
use Rattle.std.proofs.lemmas.List.{length-replicate}
use Rattle.std.specs.Prelude.{Result, Ok, Err, IsErrAnd, codes}
use Rattle.dt_tree.specs.NodeData.{NodeData, siblings}
use Rattle.dt_tree.specs.declared.property.Property.{Property}
use Rattle.dt_blob.specs.declared.error.BlobError.{BlobError}
use Rattle.dt_blob.specs.BigEndian.{double_word}
use Rattle.dt_blob.specs.Steps.Printed.{Prints}
use Rattle.dt_blob.specs.SourceText.{hex_of, tabs, value_part, property_line, property_lines, begin_line, end_line, sibling_lines, node_lines, reserve_line, reserve_lines}
use Rattle.dt_blob.specs.Blob.{limit, Refuses}
use Rattle.dt_blob.proofs.Sizes.{length-double_word}
use Rattle.dt_blob.proofs.Texts.{length-hex}
use Rattle.dt_blob.proofs.Walk.{left-item}

pub length-tabs : (depth : ℕ) → length (tabs depth) ≡ depth
length-tabs depth = length-replicate depth 9

pub tabs-next : (depth level : ℕ) → level < depth → tabs (depth - level) ≡ 9 ∷ tabs (depth - (level + 1))
tabs-next depth level h = let e : depth - level ≡ suc (depth - (level + 1)) = omega arith in ap tabs e

append_nil : (xs : List ℕ) → xs ++ [] ≡ xs
append_nil [] = refl
append_nil (x ∷ xs) = ap (λ ys. x ∷ ys) (append_nil xs)

pub tabs-end : (out last : List ℕ) (n : ℕ) → n ≡ 0 → out ++ tabs n ≡ last → out ≡ last
tabs-end out last n e left = sym (append_nil out) ∙ ap (λ k. out ++ tabs k) (sym e) ∙ left

pub length-begin_line : (depth : ℕ) (name : List ℕ) → length (begin_line depth name) ≡ depth + length name + 3
length-begin_line depth name = omega (arith, length-append (tabs depth) (name ++ codes " {\n"), length-append name (codes " {\n"), length-tabs depth)

pub length-end_line : (depth : ℕ) → length (end_line depth) ≡ depth + 3
length-end_line depth = omega (arith, length-append (tabs depth) (codes "};\n"), length-tabs depth)

pub length-property_line : (depth : ℕ) (p : Property) → length (property_line depth p) ≡ depth + length p.name + length (value_part p.value)
length-property_line depth p = omega (arith, length-append (tabs depth) (p.name ++ value_part p.value), length-append p.name (value_part p.value), length-tabs depth)

pub length-reserve_line : (r : ℕ × ℕ) → length (reserve_line r) ≡ 52
length-reserve_line r =
    let a = hex_of (double_word r.0) in
    let b = hex_of (double_word r.1) in
    omega (arith, length-append (codes "/memreserve/ 0x") (a ++ (codes " 0x" ++ (b ++ codes ";\n"))), length-append a (codes " 0x" ++ (b ++ codes ";\n")), length-append (codes " 0x") (b ++ codes ";\n"), length-append b (codes ";\n"), length-hex (double_word r.0), length-hex (double_word r.1), length-double_word r.0, length-double_word r.1)

refuses-more : (m n : ℕ) (e : BlobError) → m ≤ n → Refuses m e → Refuses n e
refuses-more m n e h r = elim r [ inl p ↦ inl p | inr p ↦ inr (p.0, omega (arith, p.1)) ]

-- an error by a size
pub over : {T : Type 0} (r : Result T BlobError) (e : BlobError) (new whole : List ℕ) (m : ℕ) → IsErrAnd r (λ d. d ≡ e) → Refuses m e → m ≤ length whole → Prints r new whole
over (Ok x) e new whole m p h l = absurd p
over (Err d) e new whole m p h l = rw p (refuses-more m (length whole) e l h)

-- an error on the way
pub part-over : {T : Type 0} (r : Result T BlobError) (e : BlobError) (new part rest whole : List ℕ) → IsErrAnd r (λ d. d ≡ e) → Refuses (length part) e → part ++ rest ≡ whole → Prints r new whole
part-over r e new part rest whole p h s = over r e new whole (length part) p h (omega (arith, ap length s, length-append part rest))

-- the second part behind the first
pub both-parts : (out first b p r : List ℕ) → first ≡ out ++ b → (first ++ p) ++ r ≡ out ++ (b ++ (p ++ r))
both-parts out first b p r e = ap (λ xs. (xs ++ p) ++ r) e ∙ append_assoc (out ++ b) p r ∙ append_assoc out b (p ++ r)

siblings-lines : (depth : ℕ) (b : NodeData) (bs : List NodeData) → sibling_lines depth (siblings (b ∷ bs)) ≡ node_lines depth b.name b ++ sibling_lines depth (siblings bs)
siblings-lines depth b bs = simp append_assoc

-- a child of those that are left
pub next-lines : (out name last ending : List ℕ) (depth : ℕ) (bs : List NodeData) (i : ℕ) (b : NodeData) → i < length bs → b ≡ get_or bs i b → name ≡ b.name → out ++ (sibling_lines depth (siblings (drop i bs)) ++ ending) ≡ last → (out ++ node_lines depth name b) ++ (sibling_lines depth (siblings (drop (i + 1) bs)) ++ ending) ≡ last
next-lines out name last ending depth bs i b h e n left =
    let rest = sibling_lines depth (siblings (drop (i + 1) bs)) in
    append_assoc out (node_lines depth name b) (rest ++ ending)
    ∙ ap (λ xs. out ++ (node_lines depth xs b ++ (rest ++ ending))) n
    ∙ ap (λ xs. out ++ xs) (sym (append_assoc (node_lines depth b.name b) rest ending))
    ∙ ap (λ xs. out ++ (xs ++ ending)) (sym (siblings-lines depth b (drop (i + 1) bs)))
    ∙ ap (λ ds. out ++ (sibling_lines depth (siblings ds) ++ ending)) (sym (left-item bs i b h e))
    ∙ left

pub next-property_line : (out last : List ℕ) (depth : ℕ) (ps : List Property) (i : ℕ) (p : Property) → i < length ps → p ≡ get_or ps i p → out ++ property_lines depth (drop i ps) ≡ last → (out ++ property_line depth p) ++ property_lines depth (drop (i + 1) ps) ≡ last
next-property_line out last depth ps i p h e left =
    append_assoc out (property_line depth p) (property_lines depth (drop (i + 1) ps)) ∙ ap (λ ds. out ++ property_lines depth ds) (sym (left-item ps i p h e)) ∙ left

pub next-reserve_line : (out last : List ℕ) (rs : List (ℕ × ℕ)) (i : ℕ) (r : ℕ × ℕ) → i < length rs → r ≡ get_or rs i r → out ++ reserve_lines (drop i rs) ≡ last → (out ++ reserve_line r) ++ reserve_lines (drop (i + 1) rs) ≡ last
next-reserve_line out last rs i r h e left =
    append_assoc out (reserve_line r) (reserve_lines (drop (i + 1) rs)) ∙ ap (λ ds. out ++ reserve_lines ds) (sym (left-item rs i r h e)) ∙ left

pub next-reserve_at : (out last : List ℕ) (rs : List (ℕ × ℕ)) (i : ℕ) (r : ℕ × ℕ) → i < length rs → out ++ reserve_lines (drop i rs) ≡ last → (out ++ reserve_line (get_or rs i r)) ++ reserve_lines (drop (i + 1) rs) ≡ last
next-reserve_at out last rs i r h left =
    let e : get_or rs i r ∷ drop (i + 1) rs ≡ drop i rs = rw add-one (sym (drop-cons rs i r h)) in
    append_assoc out (reserve_line (get_or rs i r)) (reserve_lines (drop (i + 1) rs)) ∙ ap (λ ds. out ++ reserve_lines ds) e ∙ left

-- no line is left
pub ended-lines : (out rest last : List ℕ) → rest ≡ [] → out ++ rest ≡ last → length out ≤ limit → (out ≡ last) × (length last ≤ limit)
ended-lines out rest last none left h =
    let is : out ≡ last = sym (append_nil out) ∙ ap (λ ys. out ++ ys) (sym none) ∙ left in
    (is, subst (λ (ys : List ℕ). length ys ≤ limit) is h)

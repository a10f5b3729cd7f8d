-- The tokens of a tree, piece by piece: their bytes, their sizes and their names.
use Rattle.std.proofs.Common.{◌≡◌, true, ℕ, suc, ◌+◌, ◌<◌, List, [], ◌∷◌, ◌++◌, length, drop, get_or, drop-cons, add-one, refl, sym, ap, ◌∙◌, arith, append_assoc}
use Rattle.dt_tree.specs.NodeData.{NodeData, Siblings, none, more, siblings, property_names}
use Rattle.dt_tree.specs.Name.{is_name, are_names}
use Rattle.dt_tree.specs.Sound.{IsSound, IsSoundBelow}
use Rattle.dt_tree.specs.declared.property.Property.{Property}
use Rattle.dt_blob.specs.BigEndian.{word}
use Rattle.dt_blob.specs.Blob.{names_in, padding}
use Rattle.dt_blob.specs.Steps.Table.{is_clean, with_sight, with_sights}
use Rattle.dt_blob.specs.Token.{Token, begin_node, end_node, property, nop, end, property_tokens, sibling_tokens, tokens_of, tree_tokens}
use Rattle.std.specs.List.{list_all}
use Rattle.std.proofs.lemmas.List.Folds.{list_all-append}
use Rattle.dt_blob.proofs.Tables.{name-clean}
use Rattle.dt_blob.proofs.Tails.{and-first, and-second}
use Rattle.dt_blob.specs.Steps.Written.{bytes_by, all_bytes, token_size, tokens_size}

-- what is left begins with the item at hand
pub left-item : {A : Type 0} (xs : List A) (i : ℕ) (x : A) → i < length xs → x ≡ get_or xs i x → drop i xs ≡ x ∷ drop (i + 1) xs
left-item xs i x h e = rw (add-one, drop-cons xs i x) (ap (λ y. y ∷ drop (suc i) xs) (sym e))

siblings-cons : (b : NodeData) (bs : List NodeData) → sibling_tokens (siblings (b ∷ bs)) ≡ tokens_of b ++ sibling_tokens (siblings bs)
siblings-cons b bs = simp append_assoc

pub left-child : (bs : List NodeData) (i : ℕ) (b : NodeData) → i < length bs → b ≡ get_or bs i b → sibling_tokens (siblings (drop i bs)) ≡ tokens_of b ++ sibling_tokens (siblings (drop (i + 1) bs))
left-child bs i b h e = ap (λ ds. sibling_tokens (siblings ds)) (left-item bs i b h e) ∙ siblings-cons b (drop (i + 1) bs)

pub left-property : (ps : List Property) (i : ℕ) (p : Property) → i < length ps → p ≡ get_or ps i p → property_tokens (drop i ps) ≡ property p.name p.value ∷ property_tokens (drop (i + 1) ps)
left-property ps i p h e = ap property_tokens (left-item ps i p h e)

-- ---- bytes
pub bytes-append : (offset : List ℕ → ℕ) (ts us : List Token) → all_bytes offset (ts ++ us) ≡ all_bytes offset ts ++ all_bytes offset us
bytes-append offset [] us = refl
bytes-append offset (t ∷ ts) us = ap (λ (bs : List ℕ). bytes_by offset t ++ bs) (bytes-append offset ts us) ∙ sym (append_assoc (bytes_by offset t) (all_bytes offset ts) (all_bytes offset us))

append_nil : (xs : List ℕ) → xs ++ [] ≡ xs
append_nil [] = refl
append_nil (x ∷ xs) = ap (λ ys. x ∷ ys) (append_nil xs)

pub bytes-node : (offset : List ℕ → ℕ) (b : NodeData) → all_bytes offset (tokens_of b) ≡ bytes_by offset (begin_node b.name) ++ (all_bytes offset (property_tokens b.properties) ++ (all_bytes offset (sibling_tokens b.children) ++ word 2))
bytes-node offset b =
    ap (λ (bs : List ℕ). bytes_by offset (begin_node b.name) ++ bs) (
    bytes-append offset (property_tokens b.properties) (sibling_tokens b.children ++ end_node ∷ [])
    ∙ ap (λ (bs : List ℕ). all_bytes offset (property_tokens b.properties) ++ bs) (bytes-append offset (sibling_tokens b.children) (end_node ∷ []) ∙ ap (λ (bs : List ℕ). all_bytes offset (sibling_tokens b.children) ++ bs) (append_nil (word 2)))
    )

pub bytes-child : (offset : List ℕ → ℕ) (bs : List NodeData) (i : ℕ) (b : NodeData) → i < length bs → b ≡ get_or bs i b
    → all_bytes offset (sibling_tokens (siblings (drop i bs))) ≡ all_bytes offset (tokens_of b) ++ all_bytes offset (sibling_tokens (siblings (drop (i + 1) bs)))
bytes-child offset bs i b h e = ap (all_bytes offset) (left-child bs i b h e) ∙ bytes-append offset (tokens_of b) (sibling_tokens (siblings (drop (i + 1) bs)))

-- ---- sizes
size-append : (ts us : List Token) → tokens_size (ts ++ us) ≡ tokens_size ts + tokens_size us
size-append [] us = omega arith
size-append (t ∷ ts) us = let e = size-append ts us in omega arith

pub size-end : (ts : List Token) → tokens_size (ts ++ end ∷ []) ≡ tokens_size ts + 4
size-end ts = size-append ts (end ∷ [])

pub size-node : (b : NodeData) → tokens_size (tokens_of b) ≡ token_size (begin_node b.name) + (tokens_size (property_tokens b.properties) + (tokens_size (sibling_tokens b.children) + 4))
size-node b =
    let p = size-append (property_tokens b.properties) (sibling_tokens b.children ++ end_node ∷ []) in
    let c = size-append (sibling_tokens b.children) (end_node ∷ []) in
    omega arith

pub size-child : (bs : List NodeData) (i : ℕ) (b : NodeData) → i < length bs → b ≡ get_or bs i b
    → tokens_size (sibling_tokens (siblings (drop i bs))) ≡ tokens_size (tokens_of b) + tokens_size (sibling_tokens (siblings (drop (i + 1) bs)))
size-child bs i b h e = ap tokens_size (left-child bs i b h e) ∙ size-append (tokens_of b) (sibling_tokens (siblings (drop (i + 1) bs)))

-- ---- names
names-append : (ts us : List Token) → names_in (ts ++ us) ≡ names_in ts ++ names_in us
names-append [] us = refl
names-append (begin_node name ∷ ts) us = names-append ts us
names-append (end_node ∷ ts) us = names-append ts us
names-append (property name value ∷ ts) us = ap (λ (ns : List (List ℕ)). name ∷ ns) (names-append ts us)
names-append (nop ∷ ts) us = names-append ts us
names-append (end ∷ ts) us = names-append ts us

pub sights-append : (ks ns ms : List (List ℕ)) → with_sights ks (ns ++ ms) ≡ with_sights (with_sights ks ns) ms
sights-append ks [] ms = refl
sights-append ks (n ∷ ns) ms = sights-append (with_sight ks n) ns ms

property-names : (ps : List Property) → names_in (property_tokens ps) ≡ property_names ps
property-names [] = refl
property-names (p ∷ ps) = ap (λ (ns : List (List ℕ)). p.name ∷ ns) (property-names ps)

names-nil : (ns : List (List ℕ)) → ns ++ [] ≡ ns
names-nil [] = refl
names-nil (n ∷ ns) = ap (λ (ms : List (List ℕ)). n ∷ ms) (names-nil ns)

pub sights-node : (ks : List (List ℕ)) (b : NodeData) → with_sights ks (names_in (tokens_of b)) ≡ with_sights (with_sights ks (property_names b.properties)) (names_in (sibling_tokens b.children))
sights-node ks b =
    ap (with_sights ks) (names-append (property_tokens b.properties) (sibling_tokens b.children ++ end_node ∷ []))
    ∙ sights-append ks (names_in (property_tokens b.properties)) (names_in (sibling_tokens b.children ++ end_node ∷ []))
    ∙ ap (λ (ns : List (List ℕ)). with_sights (with_sights ks ns) (names_in (sibling_tokens b.children ++ end_node ∷ []))) (property-names b.properties)
    ∙ ap (with_sights (with_sights ks (property_names b.properties))) (names-append (sibling_tokens b.children) (end_node ∷ []) ∙ names-nil (names_in (sibling_tokens b.children)))

pub sights-child : (ks : List (List ℕ)) (bs : List NodeData) (i : ℕ) (b : NodeData) → i < length bs → b ≡ get_or bs i b
    → with_sights ks (names_in (sibling_tokens (siblings (drop i bs)))) ≡ with_sights (with_sights ks (names_in (tokens_of b))) (names_in (sibling_tokens (siblings (drop (i + 1) bs))))
sights-child ks bs i b h e =
    ap (λ ts. with_sights ks (names_in ts)) (left-child bs i b h e)
    ∙ ap (with_sights ks) (names-append (tokens_of b) (sibling_tokens (siblings (drop (i + 1) bs))))
    ∙ sights-append ks (names_in (tokens_of b)) (names_in (sibling_tokens (siblings (drop (i + 1) bs))))

-- ---- a node's bytes, piece by piece
pub begun-node : (offset : List ℕ → ℕ) (b : NodeData) (out first second name : List ℕ) (ps : List Property) (s : Siblings) → first ≡ out ++ (word 1 ++ (name ++ 0 ∷ padding (length name + 1))) → second ≡ first ++ all_bytes offset (property_tokens ps) → name ≡ b.name → ps ≡ b.properties → s ≡ b.children
    → second ++ (all_bytes offset (sibling_tokens s) ++ word 2) ≡ out ++ all_bytes offset (tokens_of b)
begun-node offset b out first second name ps s ef es en ep ec =
    let n = bytes_by offset (begin_node b.name) in
    let p = all_bytes offset (property_tokens b.properties) in
    let k = all_bytes offset (sibling_tokens b.children) in
    rw (es, ef, en, ep, ec) (append_assoc (out ++ n) p (k ++ word 2) ∙ append_assoc out n (p ++ (k ++ word 2)) ∙ ap (λ (bs : List ℕ). out ++ bs) (sym (bytes-node offset b)))

pub next-property : (offset : List ℕ → ℕ) (ps : List Property) (i : ℕ) (p : Property) (out new whole name value : List ℕ) (at : ℕ) → i < length ps → p ≡ get_or ps i p → name ≡ p.name → value ≡ p.value → at ≡ offset name
    → new ≡ out ++ (word 3 ++ (word (length value) ++ (word at ++ (value ++ padding (length value))))) → out ++ all_bytes offset (property_tokens (drop i ps)) ≡ whole → new ++ all_bytes offset (property_tokens (drop (i + 1) ps)) ≡ whole
next-property offset ps i p out new whole name value at h e en ev ea is left =
    let t = bytes_by offset (property p.name p.value) in
    let r = all_bytes offset (property_tokens (drop (i + 1) ps)) in
    let put : new ≡ out ++ t = is ∙ rw (ea, en, ev) refl in
    ap (λ (o : List ℕ). o ++ r) put ∙ append_assoc out t r ∙ ap (λ (x : List ℕ). out ++ x) (sym (ap (all_bytes offset) (left-property ps i p h e))) ∙ left

pub next-node : (offset : List ℕ → ℕ) (bs : List NodeData) (i : ℕ) (b : NodeData) (out new whole : List ℕ) → i < length bs → b ≡ get_or bs i b → new ≡ out ++ all_bytes offset (tokens_of b)
    → out ++ (all_bytes offset (sibling_tokens (siblings (drop i bs))) ++ word 2) ≡ whole → new ++ (all_bytes offset (sibling_tokens (siblings (drop (i + 1) bs))) ++ word 2) ≡ whole
next-node offset bs i b out new whole h e is left =
    let t = all_bytes offset (tokens_of b) in
    let r = all_bytes offset (sibling_tokens (siblings (drop (i + 1) bs))) in
    ap (λ (o : List ℕ). o ++ (r ++ word 2)) is ∙ append_assoc out t (r ++ word 2) ∙ ap (λ (x : List ℕ). out ++ x) (sym (append_assoc t r (word 2)))
    ∙ ap (λ (x : List ℕ). out ++ (x ++ word 2)) (sym (bytes-child offset bs i b h e)) ∙ left

pub ended-tree : (offset : List ℕ → ℕ) (root : NodeData) (out new : List ℕ) → new ≡ out ++ all_bytes offset (tokens_of root) → new ++ word 9 ≡ out ++ all_bytes offset (tokens_of root ++ end ∷ [])
ended-tree offset root out new e =
    let t = all_bytes offset (tokens_of root) in
    ap (λ (o : List ℕ). o ++ word 9) e ∙ append_assoc out t (word 9) ∙ ap (λ (x : List ℕ). out ++ x) (ap (λ (x : List ℕ). t ++ x) (sym (append_nil (word 9))) ∙ sym (bytes-append offset (tokens_of root) (end ∷ [])))

-- ---- lawful names
clean-properties : (ps : List Property) → are_names (property_names ps) ≡ true → list_all is_clean (property_names ps) ≡ true
clean-properties [] a = refl
clean-properties (p ∷ ps) a =
    let first = name-clean p.name (and-first (is_name p.name) (are_names (property_names ps)) a) in
    rw (first, clean-properties ps (and-second (is_name p.name) (are_names (property_names ps)) a)) refl

both-clean : (ns ms : List (List ℕ)) → list_all is_clean ns ≡ true → list_all is_clean ms ≡ true → list_all is_clean (ns ++ ms) ≡ true
both-clean ns ms a b = rw (list_all-append is_clean ns ms, a, b) refl

clean-siblings : (f : Siblings) → IsSoundBelow f → list_all is_clean (names_in (sibling_tokens f)) ≡ true
clean-siblings none s = refl
clean-siblings (more n p c rest) s =
    let names : names_in (sibling_tokens (more n p c rest)) ≡ property_names p ++ (names_in (sibling_tokens c) ++ names_in (sibling_tokens rest)) =
    names-append (property_tokens p) (sibling_tokens c ++ end_node ∷ sibling_tokens rest)
    ∙ ap (λ (ns : List (List ℕ)). ns ++ names_in (sibling_tokens c ++ end_node ∷ sibling_tokens rest)) (property-names p)
    ∙ ap (λ (ns : List (List ℕ)). property_names p ++ ns) (names-append (sibling_tokens c) (end_node ∷ sibling_tokens rest)) in
    rw names (both-clean (property_names p) (names_in (sibling_tokens c) ++ names_in (sibling_tokens rest)) (clean-properties p s.0.named) (both-clean (names_in (sibling_tokens c)) (names_in (sibling_tokens rest)) (clean-siblings c s.2) (clean-siblings rest s.3)))

pub tree-names : (root : NodeData) → names_in (tree_tokens root) ≡ names_in (tokens_of root)
tree-names root = names-append (tokens_of root) (end ∷ []) ∙ names-nil (names_in (tokens_of root))

pub clean-tree : (root : NodeData) → IsSound root → list_all is_clean (names_in (tree_tokens root)) ≡ true
clean-tree root s =
    let names : names_in (tree_tokens root) ≡ property_names root.properties ++ names_in (sibling_tokens root.children) =
    tree-names root ∙ names-append (property_tokens root.properties) (sibling_tokens root.children ++ end_node ∷ [])
    ∙ ap (λ (ns : List (List ℕ)). ns ++ names_in (sibling_tokens root.children ++ end_node ∷ [])) (property-names root.properties)
    ∙ ap (λ (ns : List (List ℕ)). property_names root.properties ++ ns) (names-append (sibling_tokens root.children) (end_node ∷ []) ∙ names-nil (names_in (sibling_tokens root.children))) in
    rw names (both-clean (property_names root.properties) (names_in (sibling_tokens root.children)) (clean-properties root.properties s.properties.named) (clean-siblings root.children s.below))

-- The values of a tree that bytes hold have bytes.
use Rattle.std.proofs.Common.{◌≡◌, ℕ, zero, suc, ◌<◌, get_or, Bool, true, false, ltb, List, [], ◌∷◌, ◌++◌, take, drop, refl, sym, ap, ◌∙◌}
use Rattle.std.specs.Prelude.{◌&&◌, length, IsTrue}
use Rattle.std.specs.List.{list_all}
use Rattle.std.proofs.lemmas.Bool.{and_parts, and_from, lt-ltb}
use Rattle.std.proofs.lemmas.List.Folds.{list_all-append}
use Rattle.dt_tree.specs.declared.property.Property.{Property}
use Rattle.dt_tree.specs.NodeData.{NodeData, Siblings, none, more}
use Rattle.dt_tree.specs.TreeData.{TreeData}
use Rattle.dt_blob.specs.BigEndian.{word}
use Rattle.dt_blob.specs.HeaderWords.{header_of, strings_of, structure_of}
use Rattle.dt_blob.specs.Holds.{SpellsToken, Spells, SpellsRoot, is_nop, without_nops, Holds}
use Rattle.dt_blob.specs.Token.{Token, begin_node, end_node, property, nop, end, property_tokens, sibling_tokens, tokens_of}
use Rattle.dtman_engine.specs.Canonical.Bytes.{are_bytes, have_bytes, hold_bytes, HasBytes}

-- ---- parts of bytes

-- as a slice of bytes has them
pub bytes_each : (bytes : List ℕ) → ((i : ℕ) → get_or bytes i 0 < 256) → are_bytes bytes ≡ true
bytes_each [] h = refl
bytes_each (b ∷ bytes) h = and_from (ltb b 256) (are_bytes bytes) (lt-ltb b 256 (h 0)) (bytes_each bytes (λ i. h (suc i)))

apart : {A : Type 0} (p : A → Bool) (a b : List A) → list_all p (a ++ b) ≡ true → (list_all p a ≡ true) × (list_all p b ≡ true)
apart p a b e = and_parts (list_all p a) (list_all p b) (sym (list_all-append p a b) ∙ e)

bytes_drop : (n : ℕ) (bytes : List ℕ) → are_bytes bytes ≡ true → are_bytes (drop n bytes) ≡ true
bytes_drop zero bytes e = e
bytes_drop (suc n) [] e = refl
bytes_drop (suc n) (b ∷ bytes) e = bytes_drop n bytes (and_parts (ltb b 256) (are_bytes bytes) e).1

bytes_take : (n : ℕ) (bytes : List ℕ) → are_bytes bytes ≡ true → are_bytes (take n bytes) ≡ true
bytes_take zero bytes e = refl
bytes_take (suc n) [] e = refl
bytes_take (suc n) (b ∷ bytes) e =
    let p = and_parts (ltb b 256) (are_bytes bytes) e in
    and_from (ltb b 256) (are_bytes (take n bytes)) p.0 (bytes_take n bytes p.1)

-- ---- tokens

abbrev filled : Token → Bool
filled (property name value) = are_bytes value
filled (begin_node name) = true
filled end_node = true
filled nop = true
filled end = true

behind : (a b bytes : List ℕ) → bytes ≡ a ++ b → are_bytes bytes ≡ true → are_bytes b ≡ true
behind a b bytes e h = (apart (λ x. ltb x 256) a b (ap are_bytes (sym e) ∙ h)).1

token_filled : (strings : List ℕ) (t : Token) (bytes : List ℕ) → SpellsToken strings t bytes → are_bytes bytes ≡ true → filled t ≡ true
token_filled strings (property name value) bytes (place, padding, is, long, near, pads, names) h =
    let a = behind (word 3) (word (length value) ++ (word place ++ (value ++ padding))) bytes is h in
    let b = (apart (λ x. ltb x 256) (word (length value)) (word place ++ (value ++ padding)) a).1 in
    let c = (apart (λ x. ltb x 256) (word place) (value ++ padding) b).1 in
    (apart (λ x. ltb x 256) value padding c).0
token_filled strings (begin_node name) bytes s h = refl
token_filled strings end_node bytes s h = refl
token_filled strings nop bytes s h = refl
token_filled strings end bytes s h = refl

tokens_filled : (strings : List ℕ) (ts : List Token) (bytes : List ℕ) → Spells strings ts bytes → are_bytes bytes ≡ true → list_all filled ts ≡ true
tokens_filled strings [] bytes s h = refl
tokens_filled strings (t ∷ ts) bytes (first, others, is, here, further) h =
    let p = apart (λ x. ltb x 256) first others (ap are_bytes (sym is) ∙ h) in
    and_from (filled t) (list_all filled ts) (token_filled strings t first here p.0) (tokens_filled strings ts others further p.1)

nops_filled : (ts : List Token) → list_all filled ts ≡ true → list_all filled (without_nops ts) ≡ true
nops_filled [] h = refl
nops_filled (t ∷ ts) h = go (nops_filled ts (and_parts (filled t) (list_all filled ts) h).1) (is_nop t) refl
  where
    go : list_all filled (without_nops ts) ≡ true → (b : Bool) → is_nop t ≡ b → list_all filled (without_nops (t ∷ ts)) ≡ true
    go k true e = rw e k
    go k false e = rw e (and_from (filled t) (list_all filled (without_nops ts)) (and_parts (filled t) (list_all filled ts) h).0 k)

-- ---- trees

properties_filled : (ps : List Property) → list_all filled (property_tokens ps) ≡ true → have_bytes ps ≡ true
properties_filled [] h = refl
properties_filled (p ∷ ps) h =
    let k = and_parts (are_bytes p.value) (list_all filled (property_tokens ps)) h in
    and_from (are_bytes p.value) (have_bytes ps) k.0 (properties_filled ps k.1)

siblings_filled : (s : Siblings) → list_all filled (sibling_tokens s) ≡ true → hold_bytes s ≡ true
siblings_filled none h = refl
siblings_filled (more name ps c others) h =
    let a = apart filled (property_tokens ps) (sibling_tokens c ++ end_node ∷ sibling_tokens others) h in
    let b = apart filled (sibling_tokens c) (end_node ∷ sibling_tokens others) a.1 in
    and_from (have_bytes ps) (hold_bytes c && hold_bytes others) (properties_filled ps a.0) (and_from (hold_bytes c) (hold_bytes others) (siblings_filled c b.0) (siblings_filled others b.1))

root_filled : (root : NodeData) → list_all filled (tokens_of root) ≡ true → (have_bytes root.properties && hold_bytes root.children) ≡ true
root_filled root h =
    let a = apart filled (property_tokens root.properties) (sibling_tokens root.children ++ end_node ∷ []) h in
    let b = apart filled (sibling_tokens root.children) (end_node ∷ []) a.1 in
    and_from (have_bytes root.properties) (hold_bytes root.children) (properties_filled root.properties a.0) (siblings_filled root.children b.0)

spelled_filled : (strings : List ℕ) (root : NodeData) (bytes : List ℕ) → SpellsRoot strings root bytes → are_bytes bytes ≡ true → (have_bytes root.properties && hold_bytes root.children) ≡ true
spelled_filled strings root bytes (ts, spells, same) h =
    let all = (apart filled ts (end ∷ []) (tokens_filled strings (ts ++ end ∷ []) bytes spells h)).0 in
    root_filled root (ap (λ (us : List Token). list_all filled us) (sym same) ∙ nops_filled ts all)

pub held_bytes : (bytes : List ℕ) (t : TreeData) → IsTrue (are_bytes bytes) → Holds bytes t → HasBytes t
held_bytes bytes t h held =
    let s = held.structure in
    let at = (header_of bytes).structure_at in
    spelled_filled (strings_of bytes) t.root (structure_of (s.0) bytes) (s.2) (bytes_take (s.0) (drop at bytes) (bytes_drop at bytes h))

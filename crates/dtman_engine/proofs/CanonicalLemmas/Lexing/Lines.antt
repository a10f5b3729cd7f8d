-- The lines of properties and nodes, in parts.
use Rattle.std.proofs.Common.{◌≡◌, ℕ, zero, suc, ◌+◌, true, eqb, List, [], ◌∷◌, ◌++◌, refl, sym, ap, ◌∙◌, append_assoc, length, subst}
use Rattle.std.specs.Prelude.{codes, IsTrue, ◌&&◌}
use Rattle.std.specs.List.{list_all}
use Rattle.std.proofs.lemmas.Bool.{cond_both, and_parts}
use Rattle.dt_tree.specs.declared.property.Property.{Property}
use Rattle.dt_tree.specs.Name.{is_name, are_names}
use Rattle.dt_tree.specs.NodeData.{Siblings, none, more, property_names, child_names}
use Rattle.dt_tree.specs.Sound.{IsSoundBelow}
use Rattle.dt_blob.specs.SourceText.{tabs, property_line, property_lines, begin_line, end_line, sibling_lines}
use Rattle.dt_text.specs.Lexeme.Bytes.{is_blank}
use Rattle.dt_text.specs.declared.lexeme.lexeme.Kind.TheVariants as kinds
use Rattle.dt_text.specs.declared.lexeme.context.Context.{Context}
use Rattle.dt_text.specs.Lexeme.Contexts.{step}
use Rattle.dtman_engine.specs.Canonical.Bytes.{are_bytes, have_bytes, hold_bytes}
use Rattle.dtman_engine.specs.Canonical.Private.Lexed.{Segment, Blanks, written, stop_parts, equals_parts, value_parts, behind_name, name_parts, property_parts, properties_parts, brace_parts, begin_parts, end_parts, sibling_parts}
use Rattle.dtman_engine.proofs.CanonicalLemmas.Lexing.Segments.{Here, Stands, written_append}
use Rattle.dtman_engine.proofs.CanonicalLemmas.Lexing.Marks.{at_value, at_name, brace, end_brace, after_brace, after_end_brace}
use Rattle.dtman_engine.proofs.CanonicalLemmas.Lexing.Names.{Separates, name_here}
use Rattle.dtman_engine.proofs.CanonicalLemmas.Lexing.Values.{stop_stands, behind_stands, behind_written}

-- ---- names

-- such a byte stands in front
abbrev pub SeparatesAt : List ℕ → Type 0
SeparatesAt [] = ⊥
SeparatesAt (c ∷ t) = Separates c t

name_before : (n : ℕ) (name t : List ℕ) → IsTrue (is_name name) → SeparatesAt t → Here (at_name n) kinds.Name name t
name_before n name [] e h = absurd h
name_before n name (c ∷ t) e h = name_here n name c t e h

tabs_blank : (depth : ℕ) → list_all is_blank (tabs depth) ≡ true
tabs_blank zero = refl
tabs_blank (suc depth) = tabs_blank depth

pub name_stands : (n depth : ℕ) (name : List ℕ) (rest : List Segment) → IsTrue (is_name name) → SeparatesAt (written rest) → Stands (at_value n) rest → Stands (at_name n) (name_parts depth name ++ rest)
unfolding Stands step
name_stands n depth name rest e g h = (tabs_blank depth, (name_before n name (written rest) e g, h))

-- ---- properties

behind_separates : (value : List ℕ) (rest : List Segment) → SeparatesAt (written (behind_name value ++ rest))
unfolding written
behind_separates value rest =
    cond_both (eqb (length value) 0) stop_parts (equals_parts ++ (value_parts value ++ stop_parts)) (λ (x : List Segment). SeparatesAt (written (x ++ rest)))
    (λ z. record { no_name = refl; no_colon = refl; no_digit = refl })
    (λ z. record { no_name = refl; no_colon = refl; no_digit = refl })

property_stands : (n depth : ℕ) (p : Property) (rest : List Segment) → IsTrue (is_name p.name) → are_bytes p.value ≡ true → Stands (at_name (suc n)) rest → Stands (at_name (suc n)) (property_parts depth p ++ rest)
property_stands n depth p rest e f h = name_stands (suc n) depth p.name (behind_name p.value ++ rest) e (behind_separates p.value rest) (behind_stands n p.value rest f h)

pub properties_stand : (n depth : ℕ) (ps : List Property) (rest : List Segment) → IsTrue (are_names (property_names ps)) → have_bytes ps ≡ true → Stands (at_name (suc n)) rest → Stands (at_name (suc n)) (properties_parts depth ps ++ rest)
properties_stand n depth [] rest e f h = h
properties_stand n depth (p ∷ ps) rest e f h =
    let named = and_parts (is_name p.name) (are_names (property_names ps)) e in
    let filled = and_parts (are_bytes p.value) (have_bytes ps) f in
    let turn = append_assoc (property_parts depth p) (properties_parts depth ps) rest in
    subst (λ (x : List Segment). Stands (at_name (suc n)) x) (sym turn) (property_stands n depth p (properties_parts depth ps ++ rest) named.0 filled.0 (properties_stand n depth ps rest named.1 filled.1 h))

-- ---- nodes

pub brace_stands : (n : ℕ) (rest : List Segment) → Stands (at_name (suc n)) rest → Stands (at_value n) (brace_parts ++ rest)
unfolding Stands
brace_stands n rest h = (refl, (brace n (written (Blanks (codes "\n") ∷ rest)), (refl, subst (λ (p : Context). Stands p rest) (sym (after_brace n)) h)))

pub end_stands : (n depth : ℕ) (rest : List Segment) → Stands (at_value n) (stop_parts ++ rest) → Stands (at_name (suc n)) (end_parts depth ++ rest)
unfolding Stands
end_stands n depth rest h = (tabs_blank depth, (end_brace (suc n) (written (stop_parts ++ rest)), subst (λ (p : Context). Stands p (stop_parts ++ rest)) (sym (after_end_brace n)) h))

pub regroup : (a b c d e rest : List Segment) → (a ++ (b ++ (c ++ (d ++ e)))) ++ rest ≡ a ++ (b ++ (c ++ (d ++ (e ++ rest))))
regroup a b c d e rest = simp append_assoc

begin_separates : (rest : List Segment) → SeparatesAt (written (brace_parts ++ rest))
unfolding written
begin_separates rest = record { no_name = refl; no_colon = refl; no_digit = refl }

begin_stands : (n depth : ℕ) (name : List ℕ) (rest : List Segment) → IsTrue (is_name name) → Stands (at_name (suc (suc n))) rest → Stands (at_name (suc n)) (begin_parts depth name ++ rest)
begin_stands n depth name rest e h = name_stands (suc n) depth name (brace_parts ++ rest) e (begin_separates rest) (brace_stands (suc n) rest h)

pub siblings_stand : (n depth : ℕ) (s : Siblings) (rest : List Segment) → IsTrue (are_names (child_names s)) → IsSoundBelow s → hold_bytes s ≡ true → Stands (at_name (suc n)) rest → Stands (at_name (suc n)) (sibling_parts depth s ++ rest)
siblings_stand n depth none rest e f g h = h
siblings_stand n depth (more name ps c others) rest e f g h =
    let named = and_parts (is_name name) (are_names (child_names others)) e in
    let filled = and_parts (have_bytes ps) (hold_bytes c && hold_bytes others) g in
    let below = and_parts (hold_bytes c) (hold_bytes others) filled.1 in
    let last : Stands (at_name (suc n)) (sibling_parts depth others ++ rest) = siblings_stand n depth others rest named.1 f.3 below.1 h in
    let end : Stands (at_name (suc (suc n))) (end_parts depth ++ (sibling_parts depth others ++ rest)) = end_stands (suc n) depth (sibling_parts depth others ++ rest) (stop_stands n (sibling_parts depth others ++ rest) last) in
    let inner = siblings_stand (suc n) (depth + 1) c (end_parts depth ++ (sibling_parts depth others ++ rest)) f.1.named f.2 below.0 end in
    let body = properties_stand (suc n) (depth + 1) ps (sibling_parts (depth + 1) c ++ (end_parts depth ++ (sibling_parts depth others ++ rest))) f.0.named filled.0 inner in
    let turn = regroup (begin_parts depth name) (properties_parts (depth + 1) ps) (sibling_parts (depth + 1) c) (end_parts depth) (sibling_parts depth others) rest in
    subst (λ (x : List Segment). Stands (at_name (suc n)) x) (sym turn) (begin_stands n depth name (properties_parts (depth + 1) ps ++ (sibling_parts (depth + 1) c ++ (end_parts depth ++ (sibling_parts depth others ++ rest)))) named.0 body)

-- ---- their text

property_written : (depth : ℕ) (p : Property) → written (property_parts depth p) ≡ property_line depth p
unfolding written
property_written depth p = ap (λ (t : List ℕ). tabs depth ++ (p.name ++ t)) (behind_written p.value)

pub properties_written : (depth : ℕ) (ps : List Property) → written (properties_parts depth ps) ≡ property_lines depth ps
unfolding written
properties_written depth [] = refl
properties_written depth (p ∷ ps) =
    let k = written_append (property_parts depth p) (properties_parts depth ps) in
    let a = property_written depth p in
    let b = properties_written depth ps in
    k ∙ rw (a, b) refl

begin_written : (depth : ℕ) (name : List ℕ) → written (begin_parts depth name) ≡ begin_line depth name
unfolding written
begin_written depth name = refl

end_written : (depth : ℕ) → written (end_parts depth) ≡ end_line depth
unfolding written
end_written depth = refl

five_written : (a b c d e : List Segment) → written (a ++ (b ++ (c ++ (d ++ e)))) ≡ written a ++ (written b ++ (written c ++ (written d ++ written e)))
five_written a b c d e = simp written_append

pub siblings_written : (depth : ℕ) (s : Siblings) → written (sibling_parts depth s) ≡ sibling_lines depth s
unfolding written
siblings_written depth none = refl
siblings_written depth (more name ps c others) =
    let k = five_written (begin_parts depth name) (properties_parts (depth + 1) ps) (sibling_parts (depth + 1) c) (end_parts depth) (sibling_parts depth others) in
    let p = properties_written (depth + 1) ps in
    let q = siblings_written (depth + 1) c in
    let r = siblings_written depth others in
    k ∙ rw (begin_written depth name, p, q, end_written depth, r) refl

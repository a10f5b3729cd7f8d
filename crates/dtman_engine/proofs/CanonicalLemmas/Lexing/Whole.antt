-- The canonical source in parts, and so its lexemes.
use Rattle.std.proofs.Common.{◌≡◌, ℕ, zero, suc, ◌<◌, true, ltb, List, [], ◌∷◌, ◌++◌, refl, sym, ap, ◌∙◌, append_assoc, append-nil, length, subst, arith}
use Rattle.std.specs.Prelude.{codes}
use Rattle.std.specs.Int.{bytes_high_first, byte_at}
use Rattle.std.proofs.lemmas.Bool.{and_parts, and_from, lt-ltb}
use Rattle.dt_text.specs.declared.lexeme.language.Language.TheVariants.{Profile}
use Rattle.dt_tree.specs.NodeData.{NodeData}
use Rattle.dt_tree.specs.Sound.{IsSound}
use Rattle.dt_tree.specs.TreeData.{TreeData, IsTree}
use Rattle.dt_blob.specs.BigEndian.{double_word}
use Rattle.dt_blob.specs.SourceText.{hex_of, reserve_line, reserve_lines, node_lines, text_of}
use Rattle.dt_text.specs.declared.lexeme.lexeme.Kind.TheVariants as kinds
use Rattle.dt_text.specs.Lexeme.Contexts.{start, step}
use Rattle.dt_text.specs.Lexeme.Lexemes.{Left, Lexemes}
use Rattle.dtman_engine.specs.Canonical.Bytes.{are_bytes, have_bytes, hold_bytes, HasBytes}
use Rattle.dtman_engine.specs.Canonical.Private.Lexed.{Segment, Blanks, Word, written, placed, stop_parts, properties_parts, brace_parts, sibling_parts, end_parts, root_parts, long_parts, memreserve_parts, reserve_parts, reserves_parts, header_parts, parts_of, lexemes_of}
use Rattle.dtman_engine.proofs.CanonicalLemmas.Lexing.Segments.{Stands, written_append, lexed}
use Rattle.dtman_engine.proofs.CanonicalLemmas.Lexing.Marks.{at_name, semicolon, version, mem_reserve, slash}
use Rattle.dtman_engine.proofs.CanonicalLemmas.Lexing.Numbers.{StopsAt, literal_before}
use Rattle.dtman_engine.proofs.CanonicalLemmas.Lexing.Lines.{properties_stand, properties_written, brace_stands, end_stands, siblings_stand, siblings_written}

-- ---- reservations

byte_small : (k n : ℕ) → byte_at k n < 256
byte_small zero n = omega arith
byte_small (suc k) n = omega arith

long_bytes : (k n : ℕ) → are_bytes (bytes_high_first k n) ≡ true
long_bytes zero n = refl
long_bytes (suc k) n = and_from (ltb (byte_at k n) 256) (are_bytes (bytes_high_first k n)) (lt-ltb (byte_at k n) 256 (byte_small k n)) (long_bytes k n)

pub double_word_bytes : (n : ℕ) → are_bytes (double_word n) ≡ true
unfolding double_word
double_word_bytes n = long_bytes 8 n

long_stands : (n : ℕ) (rest : List Segment) → StopsAt (written rest) → Stands (start Profile) rest → Stands (start Profile) (long_parts n ++ rest)
unfolding Stands step double_word
long_stands n rest g h = (refl, (literal_before 0 (byte_at 7 n) (bytes_high_first 7 n) (written rest) (long_bytes 8 n) g, h))

stop_at_top : (rest : List Segment) → Stands (start Profile) rest → Stands (start Profile) (stop_parts ++ rest)
unfolding Stands step
stop_at_top rest h = (semicolon 0 (written (Blanks (codes "\n") ∷ rest)), (refl, h))

stop_front : (rest : List Segment) → StopsAt (written (stop_parts ++ rest))
unfolding written
stop_front rest = record { no_hex = refl; no_u = refl; no_ell = refl }

long_front : (n : ℕ) (rest : List Segment) → StopsAt (written (long_parts n ++ rest))
unfolding written
long_front n rest = record { no_hex = refl; no_u = refl; no_ell = refl }

mem_stands : (rest : List Segment) → Stands (start Profile) rest → Stands (start Profile) (memreserve_parts ++ rest)
unfolding Stands step
mem_stands rest h = (mem_reserve (written rest), h)

four : (a b c d rest : List Segment) → (a ++ (b ++ (c ++ d))) ++ rest ≡ a ++ (b ++ (c ++ (d ++ rest)))
four a b c d rest = simp append_assoc

reserve_stands : (r : ℕ × ℕ) (rest : List Segment) → Stands (start Profile) rest → Stands (start Profile) (reserve_parts r ++ rest)
reserve_stands r rest h =
    let last = stop_at_top rest h in
    let size = long_stands r.1 (stop_parts ++ rest) (stop_front rest) last in
    let address = long_stands r.0 (long_parts r.1 ++ (stop_parts ++ rest)) (long_front r.1 (stop_parts ++ rest)) size in
    mem_stands (long_parts r.0 ++ (long_parts r.1 ++ (stop_parts ++ rest))) address

reserves_stand : (rs : List (ℕ × ℕ)) (rest : List Segment) → Stands (start Profile) rest → Stands (start Profile) (reserves_parts rs ++ rest)
reserves_stand [] rest h = h
reserves_stand (r ∷ rs) rest h =
    let turn = append_assoc (reserve_parts r) (reserves_parts rs) rest in
    subst (λ (x : List Segment). Stands (start Profile) x) (sym turn) (reserve_stands r (reserves_parts rs ++ rest) (reserves_stand rs rest h))

-- ---- the root

end_at_top : Stands (at_name 1) (end_parts 0)
unfolding Stands
end_at_top = end_stands 0 0 [] (stop_at_top [] tt)

slash_stands : (rest : List Segment) → Stands (start Profile) rest → Stands (start Profile) (Word kinds.Slash (codes "/") ∷ Blanks (codes " ") ∷ rest)
unfolding Stands step written
slash_stands rest h = (slash (written rest), (refl, h))

header_stands : (rest : List Segment) → Stands (start Profile) rest → Stands (start Profile) (header_parts ++ rest)
unfolding Stands step
header_stands rest h = (version (written (Word kinds.Semicolon (codes ";") ∷ Blanks (codes "\n\n") ∷ rest)), (semicolon 0 (written (Blanks (codes "\n\n") ∷ rest)), (refl, h)))

root_stands : (root : NodeData) → IsSound root → have_bytes root.properties ≡ true → hold_bytes root.children ≡ true → Stands (start Profile) (root_parts root)
unfolding Stands
root_stands root h f g =
    let inner = siblings_stand 0 1 root.children (end_parts 0) h.siblings.named h.below g end_at_top in
    let body = properties_stand 0 1 root.properties (sibling_parts 1 root.children ++ end_parts 0) h.properties.named f inner in
    let braced : Stands (start Profile) (brace_parts ++ (properties_parts 1 root.properties ++ (sibling_parts 1 root.children ++ end_parts 0))) = brace_stands 0 (properties_parts 1 root.properties ++ (sibling_parts 1 root.children ++ end_parts 0)) body in
    slash_stands (Word kinds.Brace (codes "{") ∷ Blanks (codes "\n") ∷ (properties_parts 1 root.properties ++ (sibling_parts 1 root.children ++ end_parts 0))) braced.1

parts_stand : (t : TreeData) → IsTree t → HasBytes t → Stands (start Profile) (parts_of t)
parts_stand t h f =
    let p = and_parts (have_bytes t.root.properties) (hold_bytes t.root.children) f in
    header_stands (reserves_parts t.reserves ++ root_parts t.root) (reserves_stand t.reserves (root_parts t.root) (root_stands t.root h.sound p.0 p.1))

-- ---- the text

long_written : (n : ℕ) → written (long_parts n) ≡ 32 ∷ 48 ∷ 120 ∷ hex_of (double_word n)
unfolding written
long_written n = ap (λ (t : List ℕ). 32 ∷ 48 ∷ 120 ∷ t) (append-nil (hex_of (double_word n)))

reserve_written : (r : ℕ × ℕ) → written (reserve_parts r) ≡ reserve_line r
unfolding written
reserve_written r = refl

reserves_written : (rs : List (ℕ × ℕ)) → written (reserves_parts rs) ≡ reserve_lines rs
unfolding written
reserves_written [] = refl
reserves_written (r ∷ rs) =
    let k = written_append (reserve_parts r) (reserves_parts rs) in
    k ∙ ap (λ (t : List ℕ). reserve_line r ++ t) (reserves_written rs)

root_written : (root : NodeData) → written (root_parts root) ≡ node_lines 0 (codes "/") root
unfolding written
root_written root =
    let k = written_append (properties_parts 1 root.properties) (sibling_parts 1 root.children ++ end_parts 0) in
    let l = written_append (sibling_parts 1 root.children) (end_parts 0) in
    let p = properties_written 1 root.properties in
    let q = siblings_written 1 root.children in
    rw (k, l, p, q) refl

pub parts_written : (t : TreeData) → written (parts_of t) ≡ text_of t
unfolding written
parts_written t =
    let k = written_append (reserves_parts t.reserves) (root_parts t.root) in
    let a = reserves_written t.reserves in
    let b = root_written t.root in
    rw (k, a, b) refl

-- The parts' lexemes are those of the canonical source.
pub canonical_lexemes : (t : TreeData) → IsTree t → HasBytes t → Lexemes Profile (text_of t) (lexemes_of t)
unfolding Lexemes
canonical_lexemes t h f =
    let e = parts_written t in
    subst (λ (text : List ℕ). Left (length text) (start Profile) text (placed 0 (parts_of t))) e (lexed (length (written (parts_of t))) 0 (start Profile) (parts_of t) (parts_stand t h f) (omega arith))

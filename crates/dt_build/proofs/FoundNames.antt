-- The labels of references that have no node are names, where all labels are.
use Rattle.std.proofs.Common.{◌≡◌, Bool, true, false, List, [], ◌∷◌, Option, Some, None, Ok, ℕ, subst}
use Rattle.std.specs.Prelude.{All}
use Rattle.dt_tree.specs.Steps.{then_do, each}
use Rattle.dt_tree.specs.Phandle.{is_reserved}
use Rattle.dt_source.specs.TreeMeaning.Paths.{Path, same_path}
use Rattle.dt_source.specs.TreeMeaning.Syntax.{OfLabel, OfPath, Piece, Plain, PhandleOf, PathOf, Stored}
use Rattle.dt_source.specs.TreeMeaning.Edits.{Definition, definition, State, label_path}
use Rattle.dt_source.specs.TreeMeaning.Statements.{ReservedName, found}
use Rattle.dt_source.specs.TreeMeaning.References.{Found, Bytes, Cell, Open, PathText, cell_at, cell_of, cell_of_label, found_in, found_value, held, in_order, preorder, references}
use Rattle.dt_live.proofs.Each.{Each, each-all, each-flat, each-kept, each-more}
use Rattle.dt_build.specs.Private.Ready.{IsNamedFound}
use Rattle.dt_build.proofs.ApartLists.{each-any}
use Rattle.dt_build.proofs.NamedEdits.{IsNamedPiece, IsNamedValue, did, not-refused, ok-is}
use Rattle.dt_build.proofs.NamedSources.{IsName}

cell-so : (p : Path) (f : Found) → cell_at p ≡ Ok f → IsNamedFound f
cell-so p f e = subst IsNamedFound (ok-is (Cell p) f (not-refused (is_reserved p) ReservedName (Ok (Cell p)) f e).1) tt

label-so : (plugin : Bool) (l : List ℕ) (o : Option Path) (f : Found) → IsName l → cell_of_label plugin l o ≡ Ok f → IsNamedFound f
label-so true l (Some p) f h e = cell-so p f e
label-so true l None f h e = subst IsNamedFound (ok-is (Open l) f e) h
label-so false l (Some p) f h e = cell-so p f e
label-so false l None f h e = absurd (cc)

path-so : (plugin : Bool) (s : State (List Piece)) (t : List ℕ) (f : Found) → cell_of plugin s (OfPath t) ≡ Ok f → IsNamedFound f
path-so true s t f e = absurd (cc)
path-so false s t f e =
    let a = did (found (OfPath t) s) cell_at f e in
    cell-so a.0 f a.2

module _ (plugin : Bool) (s : State (List Piece)) where
  piece-so : (v : Piece) (f : Found) → IsNamedPiece IsName v → found_in plugin s v ≡ Ok f → IsNamedFound f
  piece-so (Plain b) f h e = subst IsNamedFound (ok-is (Bytes b) f e) tt
  piece-so (Stored at offset length) f h e = subst IsNamedFound (ok-is (Bytes []) f e) tt
  piece-so (PathOf t) f h e =
      let a = did (found t s) (λ p. Ok (PathText p)) f e in
      subst IsNamedFound (ok-is (PathText a.0) f a.2) tt
  piece-so (PhandleOf (OfLabel l)) f h e = label-so plugin l (label_path l s.labels) f h e
  piece-so (PhandleOf (OfPath t)) f h e = path-so plugin s t f e

  value-so : (vs : List Piece) (fs : List Found) → IsNamedValue IsName vs → each (found_in plugin s) vs ≡ Ok fs → Each IsNamedFound fs
  value-so [] fs h e = subst (Each IsNamedFound) (ok-is [] fs e) tt
  value-so (v ∷ vs) fs h e =
      let a = did (found_in plugin s v) (λ b. then_do (each (found_in plugin s) vs) (λ bs. Ok (b ∷ bs))) fs e in
      let b = did (each (found_in plugin s) vs) (λ bs. Ok (a.0 ∷ bs)) fs a.2 in
      subst (Each IsNamedFound) (ok-is (a.0 ∷ b.0) fs b.2) (piece-so v a.0 h.0 a.1, value-so vs b.0 h.1 b.1)

  values-so : (es : List (Definition (List Piece))) (fs : List (Definition (List Found))) → Each (λ e. IsNamedValue IsName e.value) es → each (found_value plugin s) es ≡ Ok fs
      → Each (λ e. Each IsNamedFound e.value) fs
  values-so [] fs h e = subst (Each (λ d. Each IsNamedFound d.value)) (ok-is [] fs e) tt
  values-so (x ∷ es) fs h e =
      let a = did (found_value plugin s x) (λ b. then_do (each (found_value plugin s) es) (λ bs. Ok (b ∷ bs))) fs e in
      let b = did (each (found_value plugin s) es) (λ bs. Ok (a.0 ∷ bs)) fs a.2 in
      let v = did (each (found_in plugin s) x.value) (λ w. Ok (definition x.path x.name w)) a.0 a.1 in
      subst (Each (λ d. Each IsNamedFound d.value)) (ok-is (a.0 ∷ b.0) fs b.2)
      (subst (λ (g : Definition (List Found)). Each IsNamedFound g.value) (ok-is (definition x.path x.name v.0) a.0 v.2) (value-so x.value v.0 h.0 v.1), values-so es b.0 h.1 b.1)

-- what is true of each property is so of each in the order of the walk
pub each-walked : {V : Type 0} (P : Definition V → Type 0) (s : State V) → Each P s.properties → Each P (in_order s)
each-walked P s h =
    each-flat (λ q. Unit {0}) P (held s.properties) (preorder s.nodes) (λ q _. each-kept P (λ e. same_path q e.path) s.properties h) (each-any (λ q. Unit {0}) (preorder s.nodes) (λ q. tt))

pub founds-named : (plugin : Bool) (s : State (List Piece)) (fs : List (Definition (List Found))) → Each (λ e. IsName e.name × IsNamedValue IsName e.value) s.properties → references plugin s ≡ Ok fs
    → All (λ e. All IsNamedFound e.value) fs
founds-named plugin s fs h e =
    each-all (λ d. All IsNamedFound d.value) fs
    (each-more (λ d. Each IsNamedFound d.value) (λ d. All IsNamedFound d.value) fs (λ d k. each-all IsNamedFound d.value k)
    (values-so plugin s (in_order s) fs
    (each-walked (λ d. IsNamedValue IsName d.value) s (each-more (λ d. IsName d.name × IsNamedValue IsName d.value) (λ d. IsNamedValue IsName d.value) s.properties (λ d k. k.1) h)) e))

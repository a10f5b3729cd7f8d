-- The labelled nodes by rows are those by paths.
use Rattle.std.proofs.Common.{◌≡◌, ℕ, ◌==◌, not, ◌&&◌, ◌||◌, Bool, true, false, List, [], ◌∷◌, ◌++◌, map, if◌then◌else◌, refl, sym, ap, ◌∙◌, true≢false}
use Rattle.std.specs.Prelude.{filter}
use Rattle.std.specs.List.{list_any}
use Rattle.dt_tree.specs.Phandle.{is_reserved}
use Rattle.dt_source.specs.TreeMeaning.Paths.{Path, same_path}
use Rattle.dt_source.specs.TreeMeaning.Edits.{Label, labelled_at}
use Rattle.dt_live.specs.declared.live_tree.NodeRow.{NodeRow}
use Rattle.dt_live.specs.declared.live_tree.LabelRow.{LabelRow}
use Rattle.dt_live.specs.Rows.{Found, path_of, stands, worn, IsGrown, IsNodeIndex}
use Rattle.dt_live.proofs.StandingRows.{same-node}
use Rattle.dt_build.proofs.EditLemmas.Steps.{not-stamp}
use Rattle.dt_build.proofs.ResolveLemmas.PathPhandles.{EachStands, turned}

module _ (rows : List NodeRow) (index : Found) (grown : IsGrown rows) (indexed : IsNodeIndex rows index) where
  abbrev pub wears : List Label → Path → Bool
  wears ls p = list_any (λ l. same_path p l.path) ls

  one-worn : (r : LabelRow) (n : ℕ) (b : Bool) (rest : List Label) → stands rows n ≡ true → stands rows r.node ≡ b
      → ((r.node == n) || wears rest (path_of rows n)) ≡ wears ((if b then labelled_at r.label.now (path_of rows r.node) ∷ [] else []) ++ rest) (path_of rows n)
  one-worn r n true rest up stood = ap (λ b. b || wears rest (path_of rows n)) (turned r.node n ∙ sym (same-node rows index grown indexed n r.node up stood))
  one-worn r n false rest up stood = ap (λ b. b || wears rest (path_of rows n)) (not-stamp r.node n (λ e. true≢false (sym up ∙ ap (λ k. stands rows k) (sym e) ∙ stood)) (r.node == n) refl)

  pub marks-worn : (ls : List LabelRow) (n : ℕ) → stands rows n ≡ true → list_any (λ r. r.node == n) ls ≡ wears (worn (path_of rows) (stands rows) ls) (path_of rows n)
  marks-worn [] n up = refl
  marks-worn (r ∷ ls) n up = ap (λ b. (r.node == n) || b) (marks-worn ls n up) ∙ one-worn r n (stands rows r.node) (worn (path_of rows) (stands rows) ls) up refl

  module _ (ls : List LabelRow) where
    abbrev by_row : ℕ → Bool
    by_row n = list_any (λ r. r.node == n) ls && not (is_reserved (path_of rows n))

    abbrev by_path : Path → Bool
    by_path p = wears (worn (path_of rows) (stands rows) ls) p && not (is_reserved p)

    one-kept : (n : ℕ) (ns : List ℕ) (b : Bool) → map (path_of rows) (filter by_row ns) ≡ filter by_path (map (path_of rows) ns)
        → by_row n ≡ b → by_path (path_of rows n) ≡ b → map (path_of rows) (filter by_row (n ∷ ns)) ≡ filter by_path (map (path_of rows) (n ∷ ns))
    one-kept n ns true rest a b = rw (a, b) (ap (λ ps. path_of rows n ∷ ps) rest)
    one-kept n ns false rest a b = rw (a, b) rest

    pub labelled-same : (ns : List ℕ) → EachStands rows ns → map (path_of rows) (filter by_row ns) ≡ filter by_path (map (path_of rows) ns)
    labelled-same [] up = refl
    labelled-same (n ∷ ns) up =
        one-kept n ns (by_row n) (labelled-same ns up.1) refl (ap (λ b. b && not (is_reserved (path_of rows n))) (sym (marks-worn ls n up.0)))

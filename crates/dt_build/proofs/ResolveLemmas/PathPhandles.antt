-- Phandles by rows are phandles by paths.
use Rattle.std.proofs.Common.{◌≡◌, ℕ, zero, suc, ◌+◌, ◌==◌, ◌||◌, Bool, true, false, List, [], ◌∷◌, length, map, if◌then◌else◌, refl, sym, ap, ap₂, ◌∙◌}
use Rattle.std.specs.Prelude.{All}
use Rattle.std.specs.List.{list_any}
use Rattle.std.proofs.lemmas.Bool.{eqb-true, eq-eqb}
use Rattle.dt_source.specs.TreeMeaning.Paths.{Path, is_listed}
use Rattle.dt_source.specs.TreeMeaning.Phandles.{PathPhandle, path_phandle, has_phandle, new_ones, next_free, assigned}
use Rattle.dt_live.specs.declared.live_tree.NodeRow.{NodeRow}
use Rattle.dt_live.specs.Rows.{Found, path_of, stands, IsGrown, IsNodeIndex}
use Rattle.dt_live.proofs.Each.{Each, each-of, each-same}
use Rattle.dt_live.proofs.StandingRows.{same-node}
use Rattle.dt_build.specs.declared.resolve.node_phandles.NodePhandle.{NodePhandle}
use Rattle.dt_build.specs.Resolve.NodePhandles.{path_phandle_of}
use Rattle.dt_build.specs.Resolve.Private.Wanted.{free_after, new_rows, assigned_rows}

-- ---- stamps
free-same : (taken : ℕ → Bool) (xs : List PathPhandle) → ((n : ℕ) → taken n ≡ has_phandle n xs) → (tries n : ℕ) → free_after taken tries n ≡ next_free tries xs n
free-same taken xs same zero n = refl
free-same taken xs same (suc tries) n =
    ap₂ (λ b m. if b then m else n + 1) (same (n + 1)) (free-same taken xs same tries (n + 1))

pub phandles-same : (rows : List NodeRow) (taken : ℕ → Bool) (xs : List PathPhandle) (tries : ℕ) → ((n : ℕ) → taken n ≡ has_phandle n xs) → tries ≡ length xs → (n : ℕ) (ks : List ℕ)
    → map (path_phandle_of rows) (assigned_rows taken tries n ks) ≡ assigned xs n (map (path_of rows) ks)
phandles-same rows taken xs tries same e n [] = refl
phandles-same rows taken xs tries same e n (k ∷ ks) =
    let m = free_after taken tries n in
    let is : m ≡ next_free (length xs) xs n = free-same taken xs same tries n ∙ ap (λ t. next_free t xs n) e in
    ap (λ l. path_phandle (path_of rows k) m ∷ l) (phandles-same rows taken xs tries same e m ks)
    ∙ ap (λ j. path_phandle (path_of rows k) j ∷ assigned xs j (map (path_of rows) ks)) is

-- ---- nodes, each once
turned-by : (a b : ℕ) (s t : Bool) → (a == b) ≡ s → (b == a) ≡ t → s ≡ t
turned-by a b true true d e = refl
turned-by a b true false d e = sym (eq-eqb b a (sym (eqb-true a b d))) ∙ e
turned-by a b false true d e = sym d ∙ eq-eqb a b (sym (eqb-true b a e))
turned-by a b false false d e = refl

pub turned : (a b : ℕ) → (a == b) ≡ (b == a)
turned a b = turned-by a b (a == b) (b == a) refl refl

abbrev pub EachStands : List NodeRow → List ℕ → Type 0
EachStands rows ns = Each (λ n. stands rows n ≡ true) ns

pub each-assigned : (rows : List NodeRow) (xs : List NodePhandle) → All (λ x. stands rows x.node ≡ true) xs → EachStands rows (map (λ x. x.node) xs)
each-assigned rows xs all = each-same (λ n. stands rows n ≡ true) (λ (x : NodePhandle). x.node) xs (each-of (λ (x : NodePhandle). stands rows x.node ≡ true) xs all)

module _ (rows : List NodeRow) (index : Found) (grown : IsGrown rows) (indexed : IsNodeIndex rows index) where
  new-by : (known : ℕ → Bool) (seen : List Path) (n : ℕ) (ns : List ℕ) (b : Bool) → map (path_of rows) (new_rows known ns) ≡ new_ones seen (map (path_of rows) ns)
      → map (path_of rows) (new_rows (λ m. (m == n) || known m) ns) ≡ new_ones (path_of rows n ∷ seen) (map (path_of rows) ns)
      → map (path_of rows) (if b then new_rows known ns else n ∷ new_rows (λ m. (m == n) || known m) ns)
      ≡ (if b then new_ones seen (map (path_of rows) ns) else path_of rows n ∷ new_ones (path_of rows n ∷ seen) (map (path_of rows) ns))
  new-by known seen n ns true a b = a
  new-by known seen n ns false a b = ap (λ ps. path_of rows n ∷ ps) b

  pub news-same : (known : ℕ → Bool) (seen : List Path) → ((n : ℕ) → stands rows n ≡ true → known n ≡ is_listed (path_of rows n) seen) → (ns : List ℕ) → EachStands rows ns
      → map (path_of rows) (new_rows known ns) ≡ new_ones seen (map (path_of rows) ns)
  news-same known seen same [] there = refl
  news-same known seen same (n ∷ ns) there =
      new-by known seen n ns (known n) (news-same known seen same ns there.1)
      (news-same (λ m. (m == n) || known m) (path_of rows n ∷ seen)
      (λ m up. ap₂ (λ a b. a || b) (sym (same-node rows index grown indexed m n up there.0)) (same m up)) ns there.1)
      ∙ ap (λ b. if b then new_ones seen (map (path_of rows) ns) else path_of rows n ∷ new_ones (path_of rows n ∷ seen) (map (path_of rows) ns)) (same n there.0)

  -- the nodes that have a phandle from the source
  pub given-same : (xs : List NodePhandle) → EachStands rows (map (λ x. x.node) xs) → (n : ℕ) → stands rows n ≡ true
      → list_any (λ x. x.node == n) xs ≡ is_listed (path_of rows n) (map (λ x. x.path) (map (path_phandle_of rows) xs))
  given-same [] there n up = refl
  given-same (x ∷ xs) there n up =
      ap₂ (λ a b. a || b) (turned x.node n ∙ sym (same-node rows index grown indexed n x.node up there.0)) (given-same xs there.1 n up)

-- What the meaning gathers, part by part, and its rows (Devicetree Specification v0.4, sections 2.3.3 and 6.3).
use Rattle.std.proofs.Common.{◌≡◌, Bool, true, false, not, ◌||◌, List, [], ◌∷◌, ◌++◌, Result, Ok, refl, sym, ap, ◌∙◌, subst, true≢false}
use Rattle.std.specs.List.{filter, list_any}
use Rattle.dt_tree.specs.Steps.{then_do}
use Rattle.dt_source.specs.TreeMeaning.Paths.{Path, same_path, is_listed, is_within}
use Rattle.dt_source.specs.TreeMeaning.Edits.{Definition}
use Rattle.dt_source.specs.TreeMeaning.Phandles.{PathPhandle, named_in_cells, new_ones}
use Rattle.dt_source.specs.TreeMeaning.References.{Found, references}
use Rattle.dt_source.specs.TreeMeaning.Resolved.{names_taken, when}
use Rattle.dt_source.specs.TreeMeaning.Statements.{Fault, ReservedName}
use Rattle.dt_source.specs.TreeMeaning.Places.{what_stands}
use Rattle.dt_source.specs.TreeMeaning.DtcEdits.{DtcTree}
use Rattle.dt_source.specs.TreeMeaning.DtcPhandles.{given_by_both, number_before_last, numbers_of_cells, numbers_of_symbols}
use Rattle.dt_source.specs.TreeMeaning.DtcResolved as meaning
use Rattle.dt_source.specs.TreeMeaning.DtcResolved.{fixed_up, goes, is_left, rest_of, symbol_nodes}
use Rattle.dt_source.specs.TreeMeaning.DtcStatements.{dtc_state}
use Rattle.dt_live.proofs.Each.{Each, each-kept}
use Rattle.dt_live.proofs.PathTests.{same-is}
use Rattle.dt_build.specs.Resolve.Gathered.{all_gathered}
use Rattle.dt_build.proofs.ResolveLemmas.Without.{map-left}
use Rattle.dt_build.proofs.ApartLists.{InPairs, each-any, each-passed}
use Rattle.dt_build.proofs.ApartPhandles.{IsOtherPath, assigned-paths, ones-apart, ones-unseen, paths}
use Rattle.dt_build.proofs.DtcNumbers.{added-apart, added-unseen}
use Rattle.dt_build.proofs.LocalOrder.{listed-kept}
use Rattle.dt_build.proofs.NamedEdits.{did, not-refused, ok-is}

-- the root never goes
root-stays : (gone : List Path) → Each (λ g. not (same_path g []) ≡ true) gone → list_any (λ g. is_within g []) gone ≡ false
root-stays [] h = refl
root-stays ([] ∷ gs) h = absurd (true≢false (sym h.0))
root-stays ((n ∷ ns) ∷ gs) h = root-stays gs h.1

paths-append : (xs ys : List PathPhandle) → paths (xs ++ ys) ≡ paths xs ++ paths ys
paths-append [] ys = refl
paths-append (x ∷ xs) ys = ap (λ ps. x.path ∷ ps) (paths-append xs ys)

paths-kept : (L : Path → Bool) (xs : List PathPhandle) → paths (filter (λ x. L x.path) xs) ≡ filter L (paths xs)
paths-kept L xs = map-left (λ (x : PathPhandle). x.path) (λ x. L x.path) L xs (each-any (λ (x : PathPhandle). L x.path ≡ L x.path) xs (λ x. refl))

module _ (symbols plugin : Bool) (t : DtcTree) (meant : meaning.Gathered) (is : all_gathered symbols plugin t ≡ Ok meant) where
  abbrev whole : List (Definition (List Found)) → Result meaning.Gathered Fault
  whole es = then_do (given_by_both es []) (λ given. meaning.gathered symbols plugin t es given)

  abbrev gone_of : List (Definition (List Found)) → List Path
  gone_of es = filter (goes symbols t es) (dtc_state t).nodes

  free-parts : (names_taken symbols plugin (dtc_state t) ≡ false) × (then_do (references plugin (dtc_state t)) whole ≡ Ok meant)
  free-parts = not-refused (names_taken symbols plugin (dtc_state t)) ReservedName (then_do (references plugin (dtc_state t)) whole) meant is

  pub names-free : names_taken symbols plugin (dtc_state t) ≡ false
  names-free = free-parts.0

  pub found-parts : (es : List (Definition (List Found))) × (references plugin (dtc_state t) ≡ Ok es) × (whole es ≡ Ok meant)
  found-parts = did (references plugin (dtc_state t)) whole meant free-parts.1

  abbrev es : List (Definition (List Found))
  es = found-parts.0

  abbrev pub gone : List Path
  gone = gone_of es

  given-parts : (given : List PathPhandle) × (given_by_both es [] ≡ Ok given) × (meaning.gathered symbols plugin t es given ≡ Ok meant)
  given-parts = did (given_by_both es []) (λ given. meaning.gathered symbols plugin t es given) meant found-parts.2

  abbrev given : List PathPhandle
  given = given-parts.0

  abbrev cells : List PathPhandle
  cells = numbers_of_cells given es

  abbrev kept : List PathPhandle
  kept = filter (λ x. is_left gone x.path) (given ++ cells)

  abbrev of_symbols : List PathPhandle
  of_symbols = numbers_of_symbols kept cells (when symbols (symbol_nodes t (rest_of gone (dtc_state t))))

  abbrev made : List (Definition (List Found)) → meaning.Gathered
  made fixed = record {
    rest = rest_of gone (dtc_state t);
    values = filter (λ e. is_left gone e.path) es;
    fixed = fixed;
    given = given;
    new = cells ++ of_symbols;
  }

  abbrev done : meaning.Gathered → Result meaning.Gathered Fault
  done g = Ok g

  fixed-parts : (fixed : List (Definition (List Found))) × (fixed_up plugin (rest_of gone (dtc_state t)) ≡ Ok fixed) × (done (made fixed) ≡ done meant)
  fixed-parts = did (fixed_up plugin (rest_of gone (dtc_state t))) (λ fixed. done (made fixed)) meant given-parts.2

  meant-is : made fixed-parts.0 ≡ meant
  meant-is = ok-is (made fixed-parts.0) meant fixed-parts.2

  pub rest-is : meant.rest ≡ rest_of gone (dtc_state t)
  rest-is = ap (λ g. g.rest) (sym meant-is)

  pub fixed-is : fixed_up plugin meant.rest ≡ Ok meant.fixed
  fixed-is = ap (fixed_up plugin) rest-is ∙ fixed-parts.1 ∙ ap (λ g. Ok g.fixed) meant-is

  given-is : meant.given ≡ given
  given-is = ap (λ g. g.given) (sym meant-is)

  new-is : paths meant.new ≡ paths cells ++ paths of_symbols
  new-is = ap (λ g. paths g.new) (sym meant-is) ∙ paths-append cells of_symbols

  -- ---- a node of what is left is left
  no-root : Each (λ g. not (same_path g []) ≡ true) gone
  no-root = each-kept (λ g. not (same_path g []) ≡ true) (goes symbols t es) (dtc_state t).nodes (each-passed (λ g. not (same_path g []) ≡ true) (λ p. not (same_path p [])) (what_stands t.nodes) (λ p h. h))

  left-root : is_left gone [] ≡ true
  left-root = ap not (root-stays gone no-root)

  pub still-left : (q : Path) → is_listed q ([] ∷ meant.rest.nodes) ≡ true → is_left gone q ≡ true
  still-left q there = by (same_path q []) refl (ap (λ s. is_listed q ([] ∷ s.nodes)) (sym rest-is) ∙ there) where
    by : (b : Bool) → same_path q [] ≡ b → (b || is_listed q (filter (is_left gone) (dtc_state t).nodes)) ≡ true → is_left gone q ≡ true
    by true same l = ap (is_left gone) (same-is q [] same) ∙ left-root
    by false other l = listed-kept (is_left gone) q (dtc_state t).nodes l

  -- ---- numbers
  cells-paths : paths cells ≡ new_ones (paths given) (named_in_cells es)
  cells-paths = assigned-paths given 0 (new_ones (paths given) (named_in_cells es))

  symbols-paths : paths of_symbols ≡ new_ones (paths kept) (when symbols (symbol_nodes t (rest_of gone (dtc_state t))))
  symbols-paths = assigned-paths kept (number_before_last cells) (new_ones (paths kept) (when symbols (symbol_nodes t (rest_of gone (dtc_state t)))))

  kept-paths : paths kept ≡ filter (is_left gone) (paths given ++ paths cells)
  kept-paths = paths-kept (is_left gone) (given ++ cells) ∙ ap (filter (is_left gone)) (paths-append given cells)

  module _ (here : Path → Bool) (left : (q : Path) → here q ≡ true → is_listed q ([] ∷ meant.rest.nodes) ≡ true) where
    abbrev news : List Path
    news = paths (filter (λ x. here x.path) meant.new)

    news-are : news ≡ filter here (paths cells ++ paths of_symbols)
    news-are = paths-kept here meant.new ∙ ap (filter here) new-is

    seen-before : Each (λ q. is_listed q (filter (is_left gone) (paths given ++ paths cells)) ≡ false) (paths of_symbols)
    seen-before =
        subst (λ (ks : List Path). Each (λ q. is_listed q ks ≡ false) (paths of_symbols)) kept-paths
        (subst (λ (qs : List Path). Each (λ q. is_listed q (paths kept) ≡ false) qs) (sym symbols-paths) (ones-unseen (paths kept) (when symbols (symbol_nodes t (rest_of gone (dtc_state t))))))

    unseen-cells : Each (λ q. is_listed q (paths given) ≡ false) (paths cells)
    unseen-cells = subst (λ (qs : List Path). Each (λ q. is_listed q (paths given) ≡ false) qs) (sym cells-paths) (ones-unseen (paths given) (named_in_cells es))

    apart-cells : InPairs IsOtherPath (paths cells)
    apart-cells = subst (InPairs IsOtherPath) (sym cells-paths) (ones-apart (paths given) (named_in_cells es))

    apart-symbols : InPairs IsOtherPath (paths of_symbols)
    apart-symbols = subst (InPairs IsOtherPath) (sym symbols-paths) (ones-apart (paths kept) (when symbols (symbol_nodes t (rest_of gone (dtc_state t)))))

    -- no node that is left gets two, and none that is given one
    pub news-apart : InPairs IsOtherPath news
    news-apart =
        subst (InPairs IsOtherPath) (sym news-are)
        (added-apart (paths given) (paths cells) (paths of_symbols) (is_left gone) here (λ q is. still-left q (left q is)) apart-cells unseen-cells apart-symbols seen-before)

    pub news-unseen : (q : Path) → is_listed q news ≡ true → is_listed q (paths meant.given) ≡ false
    news-unseen q there =
        ap (λ xs. is_listed q (paths xs)) given-is
        ∙ added-unseen (paths given) (paths cells) (paths of_symbols) (is_left gone) here (λ r is. still-left r (left r is)) apart-cells unseen-cells apart-symbols seen-before q (ap (is_listed q) (sym news-are) ∙ there)

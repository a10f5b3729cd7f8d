-- What is made of a draft in dtc's language is its resolved tree.
use Rattle.std.proofs.Common.{◌≡◌, ℕ, Bool, true, false, not, ◌||◌, List, [], ◌∷◌, ◌++◌, map, reverse, subst, if◌then◌else◌, refl, sym, ap, ap₂, ◌∙◌, append-nil, true≢false}
use Rattle.std.specs.List.{filter, list_any}
use mathlib.Core.List.{reverse_aux}
use Rattle.std.proofs.lemmas.Bool.{or_right}
use Rattle.dt_source.specs.TreeMeaning.Names.{symbols_name}
use Rattle.dt_source.specs.TreeMeaning.Paths.{Path, same_path}
use Rattle.dt_source.specs.TreeMeaning.Edits.{Definition, Label, has_node}
use Rattle.dt_source.specs.TreeMeaning.Fixups.{Site, sites, fixups, local_fixups}
use Rattle.dt_source.specs.TreeMeaning.Places.{Row, has_place, what_stands}
use Rattle.dt_source.specs.TreeMeaning.References.{Found, preorder}
use Rattle.dt_source.specs.TreeMeaning.Resolved.{Resolved, phandle_property, symbol, when, with_bytes, with_more}
use Rattle.dt_source.specs.TreeMeaning.DtcEdits.{DtcTree, ever_labelled, in_preorder}
use Rattle.dt_source.specs.TreeMeaning.DtcPhandles.{asks_for_own}
use Rattle.dt_source.specs.TreeMeaning.DtcResolved as meaning
use Rattle.dt_source.specs.TreeMeaning.DtcResolved.{all_numbers, gathered_tree, is_left, symbols_node, with_numbers, with_symbols}
use Rattle.dt_source.specs.TreeMeaning.DtcStatements.{dtc_labels}
use Rattle.dt_live.proofs.Each.{Each, each-flat, each-kept, each-more}
use Rattle.dt_live.proofs.PathTests.{same-itself}
use Rattle.dt_build.specs.Edit.Said.{tree_of}
use Rattle.dt_build.specs.declared.resolve.gathered.Gathered.{Gathered}
use Rattle.dt_build.specs.Resolve.Founds.{found_properties}
use Rattle.dt_build.specs.Resolve.Gathered.{IsGathered, targets_anew}
use Rattle.dt_live.specs.Rows.{node_path}
use Rattle.dt_build.specs.declared.draft.Draft.{Draft}
use Rattle.dt_build.specs.Private.Made.{added_phandles, all_phandles, bare_node, fixed, founds, is_fixed, lists, made_sites, plain_lists, symbol_lists, with_nodes}
use Rattle.dt_build.proofs.DtcFounds.{is_kept, sites-kept}
use Rattle.dt_build.proofs.DtcGathered.{gone, rest-is}
use Rattle.dt_build.proofs.DtcReady.{IsDtcGathered, added-are, fixed-are, founds-are, here, left-is, p}
use Rattle.dt_build.proofs.LocalDepth.{one-listed}
use Rattle.dt_build.proofs.SymbolsLast.{nodes-none, with-none, with-symbols}
use Rattle.dt_build.proofs.WalkOrder.{in-walk}

-- ---- a label that stands is at a node that ever had one
each-reverse : {A : Type 0} (P : A → Type 0) (xs ys : List A) → Each P xs → Each P ys → Each P (reverse_aux xs ys)
each-reverse P [] ys a b = b
each-reverse P (x ∷ xs) ys a b = each-reverse P xs (x ∷ ys) a.1 (a.0, b)

abbrev IsPlaced : List (Row Label) → Label → Type 0
IsPlaced rows l = has_place (λ m. same_path l.path m.path) rows ≡ true

stands-placed : (rows : List (Row Label)) → Each (IsPlaced rows) (what_stands rows)
stands-placed [] = tt
stands-placed (r ∷ rs) = by r.stands (each-more (IsPlaced rs) (IsPlaced (r ∷ rs)) (what_stands rs) (λ l h. or_right (same_path l.path r.what.path) (has_place (λ m. same_path l.path m.path) rs) h) (stands-placed rs)) where
  by : (b : Bool) → Each (IsPlaced (r ∷ rs)) (what_stands rs) → Each (IsPlaced (r ∷ rs)) (map (λ x. x.what) (if b then r ∷ filter (λ x. x.stands) rs else filter (λ x. x.stands) rs))
  by true h = (ap (λ a. a || has_place (λ m. same_path r.what.path m.path) rs) (same-itself r.what.path), h)
  by false h = h

labels-had : (t : DtcTree) → Each (λ l. ever_labelled t l.path ≡ true) (dtc_labels t)
labels-had t =
    each-flat (λ q. Unit {0}) (IsPlaced t.labels) (λ q. filter (λ l. same_path q l.path) (reverse (what_stands t.labels))) (in_preorder t)
    (λ q _. each-kept (IsPlaced t.labels) (λ l. same_path q l.path) (reverse (what_stands t.labels)) (each-reverse (IsPlaced t.labels) (what_stands t.labels) [] (stands-placed t.labels) tt)) (every (in_preorder t)) where
      every : (qs : List Path) → Each (λ q. Unit {0}) qs
      every [] = tt
      every (q ∷ qs) = (tt, every qs)

abbrev listed : List Path → List (Definition (List ℕ)) → Resolved
listed ns ps = record { nodes = ns; properties = ps }

module _ {symbols plugin : Bool} {processor : ℕ} {t : DtcTree} {meant : meaning.Gathered} {x : Gathered} (g : IsDtcGathered symbols plugin processor t meant x) where
  abbrev draft : Draft
  draft = p g

  abbrev is : IsGathered plugin t meant x
  is = g.is

  abbrev labels : List Label
  labels = (tree_of x.live).labels

  labels-same : meant.rest.labels ≡ labels
  labels-same = ap (λ s. s.labels) is.rest

  had-all : Each (λ l. ever_labelled t l.path ≡ true) meant.rest.labels
  had-all =
      let r = rest-is symbols plugin t meant g.all in
      subst (λ (ks : List Label). Each (λ l. ever_labelled t l.path ≡ true) ks) (sym (ap (λ s. s.labels) r))
      (each-kept (λ l. ever_labelled t l.path ≡ true) (λ l. is_left (gone symbols plugin t meant g.all) l.path) (dtc_labels t) (labels-had t))

  -- where a label stands, their node is there
  labelled-so : (l : Label) (ls : List Label) → meant.rest.labels ≡ l ∷ ls → list_any (ever_labelled t) (preorder meant.rest.nodes) ≡ true
  labelled-so l ls e =
      let at = subst (λ (ks : List Label). Each (λ k. has_node k.path meant.rest ≡ true) ks) e g.at_nodes in
      let had = subst (λ (ks : List Label). Each (λ k. ever_labelled t k.path ≡ true) ks) e had-all in
      one-listed (ever_labelled t) l.path (preorder meant.rest.nodes) (in-walk meant.rest.nodes g.nodes l.path ∙ at.0) had.0

  -- ---- numbers
  numbers-same : all_numbers meant ≡ all_phandles draft
  numbers-same = ap₂ (λ a b. a ++ b) (sym is.given) (sym is.new)

  numbered : with_numbers meant ≡ plain_lists draft
  numbered = λ i. record { nodes = left-is g i; properties = made i } where
    made : map (with_bytes (all_numbers meant)) (filter is_kept meant.values) ++ map phandle_property (filter (λ y. here g y.path) meant.new)
        ≡ map (with_bytes (all_phandles draft)) (founds draft) ++ map phandle_property (added_phandles draft)
    made =
        ap₂ (λ a b. a ++ map phandle_property b)
        (ap₂ (λ ns fs. map (with_bytes ns) fs) numbers-same (ap (filter is_kept) is.values ∙ sym (founds-are g)))
        (sym (added-are g))

  -- ---- symbols
  symbols-by : (b : Bool) (ls : List Label) (r : Resolved) → ((l : Label) (ks : List Label) → ls ≡ l ∷ ks → b ≡ true)
      → listed (r.nodes ++ (if b then (symbols_name ∷ []) ∷ [] else [])) (r.properties ++ map symbol ls) ≡ with_nodes (bare_node b ls) (with_more (map symbol ls) r)
  symbols-by false [] r so = sym (nodes-none (with_more [] r))
  symbols-by true [] r so = λ i. record { nodes = sym (append-nil r.nodes) i ++ (symbols_name ∷ []) ∷ []; properties = r.properties ++ [] }
  symbols-by false (l ∷ ls) r so = absurd (true≢false (sym (so l ls refl)))
  symbols-by true (l ∷ ls) r so = with-path r.nodes (r.properties ++ map symbol (l ∷ ls)) (sym (with-symbols r l ls)) ∙ sym (nodes-none (with_more (map symbol (l ∷ ls)) r)) where
    with-path : (ns : List Path) {ms : List Path} (ps : List (Definition (List ℕ))) → ns ++ (symbols_name ∷ []) ∷ [] ≡ ms → listed (ns ++ (symbols_name ∷ []) ∷ []) ps ≡ listed ms ps
    with-path ns ps e = λ i. record { nodes = e i; properties = ps }

  symbols-of : (wanted : Bool) (r : Resolved) → with_symbols wanted t meant.rest r ≡ with_nodes (when wanted (bare_node x.labelled labels)) (with_more (when wanted (map symbol labels)) r)
  symbols-of false r = sym (nodes-none (with_more [] r) ∙ with-none r)
  symbols-of true r =
      symbols-by (list_any (ever_labelled t) (preorder meant.rest.nodes)) meant.rest.labels r (λ l ks e. labelled-so l ks e)
      ∙ ap₂ (λ b ls. with_nodes (bare_node b ls) (with_more (map symbol ls) r)) (sym is.labelled) labels-same

  symbols-are : with_symbols symbols t meant.rest (with_numbers meant) ≡ symbol_lists symbols draft
  symbols-are = ap (with_symbols symbols t meant.rest) numbered ∙ symbols-of symbols (plain_lists draft)

  -- ---- fixups
  abbrev all-anew : List (Definition (List Found))
  all-anew = found_properties (node_path x.live) x.in_preorder.properties.items (targets_anew x.targets.items x.anew)

  sites-by : (b : Bool) → when b (sites (all_numbers meant) (when b (filter (λ e. not (asks_for_own e)) all-anew))) ≡ when b (sites (all_phandles draft) (fixed draft))
  sites-by false = refl
  sites-by true =
      ap (λ ns. sites ns (filter (is_fixed true) all-anew)) numbers-same ∙ sym (sites-kept (all_phandles draft) (is_fixed true) all-anew)
      ∙ ap (sites (all_phandles draft)) (sym (fixed-are g))

  sites-are : when plugin (sites (all_numbers meant) meant.fixed) ≡ made_sites draft
  sites-are = ap (λ fs. when plugin (sites (all_numbers meant) fs)) is.fixed ∙ sites-by plugin

  when-fixups : (b : Bool) (ss : List Site) → when b (fixups ss []) ≡ fixups (when b ss) []
  when-fixups true ss = refl
  when-fixups false ss = refl

  when-local : (b : Bool) (ss : List Site) → when b (local_fixups ss []) ≡ local_fixups (when b ss) []
  when-local true ss = refl
  when-local false ss = refl

  pub lists-are : gathered_tree symbols plugin t meant ≡ lists symbols draft
  lists-are =
      let ss = sites (all_numbers meant) meant.fixed in
      ap₂ (λ es r. with_more es r) (when-local plugin ss ∙ ap (λ zs. local_fixups zs []) sites-are)
      (ap₂ (λ es r. with_more es r) (when-fixups plugin ss ∙ ap (λ zs. fixups zs []) sites-are) symbols-are)

-- What is found in the properties of a tree in dtc's language, without those that repeat the names of their nodes.
use Rattle.std.proofs.Common.{◌≡◌, ℕ, ◌==◌, Bool, true, false, not, ◌&&◌, List, [], ◌∷◌, ◌++◌, map, drop, get_or, Option, Some, None, if◌then◌else◌, codes, refl, sym, ap, ap₂, ◌∙◌, true≢false}
use Rattle.std.specs.List.{before_first, filter, flat_map}
use Rattle.std.specs.Str.{bytes_eq}
use Rattle.std.proofs.lemmas.Bool.{and_parts}
use Rattle.dt_source.specs.declared.tree.Part.{Part}
use Rattle.dt_source.specs.declared.tree.Part.TheVariants as parts
use Rattle.dt_source.specs.TreeMeaning.Paths.{Path, same_path}
use Rattle.dt_source.specs.TreeMeaning.Edits.{Definition}
use Rattle.dt_source.specs.TreeMeaning.Fixups.{Site, sites, sites_in}
use Rattle.dt_source.specs.TreeMeaning.Phandles.{PathPhandle}
use Rattle.dt_source.specs.TreeMeaning.References.{Found, Bytes, Cell, Open, PathText, held, in_order, preorder}
use Rattle.dt_source.specs.TreeMeaning.DtcResolved.{is_string_of, last_name, repeats_name}
use Rattle.dt_live.specs.declared.live_tree.LiveTree.{LiveTree}
use Rattle.dt_live.specs.declared.live_tree.NodeRow.{NodeRow}
use Rattle.dt_live.specs.declared.preorder.properties.NodeProperty.{NodeProperty}
use Rattle.dt_live.specs.Rows.{node_path, path_of}
use Rattle.dt_build.specs.Edit.Said.{Parts, tree_of}
use Rattle.dt_live.specs.Builder.Standing.{AreNodes}
use Rattle.dt_live.proofs.BuilderLemmas.InTurn.{each-once}
use Rattle.dt_build.specs.Resolve.Founds.{all_uses, found_of, found_property, found_properties, founds_of, text_for}
use Rattle.dt_build.specs.Resolve.Private.ReadProperty.{read_property}
use Rattle.dt_build.specs.Private.DtcDrafts.{kept_properties, repeats}
use Rattle.dt_build.proofs.ApartPhandles.{bare}
use Rattle.dt_build.proofs.WalkOrder.{walked-made}

-- ---- lists
kept-by : {A : Type 0} (f : A → Bool) (x : A) (xs : List A) (b : Bool) → f x ≡ b → filter f (x ∷ xs) ≡ (if b then x ∷ filter f xs else filter f xs)
kept-by f x xs b e = ap (λ t. if t then x ∷ filter f xs else filter f xs) e

pub kept-append : {A : Type 0} (f : A → Bool) (xs ys : List A) → filter f (xs ++ ys) ≡ filter f xs ++ filter f ys
kept-append f [] ys = refl
kept-append f (x ∷ xs) ys = by (f x) (kept-append f xs ys) where
  by : (b : Bool) → filter f (xs ++ ys) ≡ filter f xs ++ filter f ys → (if b then x ∷ filter f (xs ++ ys) else filter f (xs ++ ys)) ≡ (if b then x ∷ filter f xs else filter f xs) ++ filter f ys
  by true rest = ap (λ zs. x ∷ zs) rest
  by false rest = rest

pub kept-turned : {A : Type 0} (f g : A → Bool) (xs : List A) → filter f (filter g xs) ≡ filter g (filter f xs)
kept-turned f g [] = refl
kept-turned f g (x ∷ xs) = by (f x) refl (g x) refl (kept-turned f g xs) where
  by : (a : Bool) → f x ≡ a → (b : Bool) → g x ≡ b → filter f (filter g xs) ≡ filter g (filter f xs)
      → filter f (if b then x ∷ filter g xs else filter g xs) ≡ filter g (if a then x ∷ filter f xs else filter f xs)
  by true e true h rest = kept-by f x (filter g xs) true e ∙ ap (λ zs. x ∷ zs) rest ∙ sym (kept-by g x (filter f xs) true h)
  by true e false h rest = rest ∙ sym (kept-by g x (filter f xs) false h)
  by false e true h rest = kept-by f x (filter g xs) false e ∙ rest
  by false e false h rest = rest

-- what is kept of properties is walked as they are
pub walk-kept : {V : Type 0} (f : Definition V → Bool) (es : List (Definition V)) (qs : List Path) → flat_map (held (filter f es)) qs ≡ filter f (flat_map (held es) qs)
walk-kept f es [] = refl
walk-kept f es (q ∷ qs) = ap₂ (λ xs ys. xs ++ ys) (kept-turned (λ e. same_path q e.path) f es) (walk-kept f es qs) ∙ sym (kept-append f (held es q) (flat_map (held es) qs))

-- ---- properties that repeat the name
module _ (path : ℕ → Path) where
  -- the value of such a property is bytes, whatever the targets are
  string-same : (text : List ℕ) (v : List Part) (ts us : List (Option ℕ)) → is_string_of text (founds_of path v ts) ≡ is_string_of text (founds_of path v us)
  string-same text [] ts us = refl
  string-same text (parts.Bytes b ∷ []) ts us = refl
  string-same text (parts.Bytes b ∷ y ∷ v) ts us = refl
  string-same text (parts.File f ∷ []) ts us = refl
  string-same text (parts.File f ∷ y ∷ v) ts us = refl
  string-same text (parts.Phandle r ∷ v) ts us = no-cell (get_or ts 0 None) _ ∙ sym (no-cell (get_or us 0 None) _) where
    no-cell : (t : Option ℕ) (fs : List Found) → is_string_of text (found_of path (parts.Phandle r) t ∷ fs) ≡ false
    no-cell None fs = refl
    no-cell (Some n) fs = refl
  string-same text (parts.Path r ∷ v) ts us = no-text (get_or ts 0 None) v _ ∙ sym (no-text (get_or us 0 None) v _) where
    no-empty : (s : List ℕ) → bytes_eq [] (s ++ 0 ∷ []) ≡ false
    no-empty [] = refl
    no-empty (c ∷ cs) = refl

    no-text : (t : Option ℕ) (v : List Part) (us : List (Option ℕ)) → is_string_of text (text_for path t ∷ founds_of path v us) ≡ false
    no-text None [] us = no-empty text
    no-text None (y ∷ v) us = refl
    no-text (Some n) v us = refl

  -- and it has no targets
  string-bare : (text : List ℕ) (v : List Part) (ts : List (Option ℕ)) → is_string_of text (founds_of path v ts) ≡ true → all_uses v ≡ 0
  string-bare text [] ts is = absurd (true≢false (sym is))
  string-bare text (parts.Bytes b ∷ []) ts is = refl
  string-bare text (parts.Bytes b ∷ y ∷ v) ts is = absurd (true≢false (sym is))
  string-bare text (parts.File f ∷ []) ts is = refl
  string-bare text (parts.File f ∷ y ∷ v) ts is = absurd (true≢false (sym is))
  string-bare text (parts.Phandle r ∷ v) ts is = no-cell (get_or ts 0 None) _ is where
    no-cell : (t : Option ℕ) (fs : List Found) → is_string_of text (found_of path (parts.Phandle r) t ∷ fs) ≡ true → all_uses (parts.Phandle r ∷ v) ≡ 0
    no-cell None fs is = absurd (true≢false (sym is))
    no-cell (Some n) fs is = absurd (true≢false (sym is))
  string-bare text (parts.Path r ∷ v) ts is = no-text (get_or ts 0 None) v _ is where
    no-empty : (s : List ℕ) → bytes_eq [] (s ++ 0 ∷ []) ≡ false
    no-empty [] = refl
    no-empty (c ∷ cs) = refl

    no-text : (t : Option ℕ) (w : List Part) (us : List (Option ℕ)) → is_string_of text (text_for path t ∷ founds_of path w us) ≡ true → all_uses (parts.Path r ∷ v) ≡ 0
    no-text None [] us is = absurd (true≢false (sym is ∙ no-empty text))
    no-text None (y ∷ w) us is = absurd (true≢false (sym is))
    no-text (Some n) w us is = absurd (true≢false (sym is))

abbrev pub is_kept : Definition (List Found) → Bool
is_kept e = not (repeats_name e)

module _ (d : LiveTree Parts) where
  pub repeats-same : (x : NodeProperty Parts) (ts : List (Option ℕ)) → repeats_name (found_property (node_path d) x ts) ≡ repeats d x
  repeats-same x ts =
      ap (λ b. bytes_eq x.name.now (codes "name") && b) (string-same (node_path d) (before_first (λ c. c == 64) (last_name (node_path d x.node))) x.value.now.parts.items ts [])

  repeats-bare : (x : NodeProperty Parts) → repeats d x ≡ true → all_uses x.value.now.parts.items ≡ 0
  repeats-bare x is =
      string-bare (node_path d) (before_first (λ c. c == 64) (last_name (node_path d x.node))) x.value.now.parts.items []
      (and_parts (bytes_eq x.name.now (codes "name")) (is_string_of (before_first (λ c. c == 64) (last_name (node_path d x.node))) (founds_of (node_path d) x.value.now.parts.items [])) is).1

  -- the targets of the others stay where they are
  pub kept-founds : (xs : List (NodeProperty Parts)) (ts : List (Option ℕ)) → found_properties (node_path d) (kept_properties d xs) ts ≡ filter is_kept (found_properties (node_path d) xs ts)
  kept-founds [] ts = refl
  kept-founds (x ∷ xs) ts = by (λ us. kept-founds xs us) (repeats d x) refl where
    by : ((us : List (Option ℕ)) → found_properties (node_path d) (kept_properties d xs) us ≡ filter is_kept (found_properties (node_path d) xs us)) → (b : Bool) → repeats d x ≡ b
        → found_properties (node_path d) (if not b then x ∷ kept_properties d xs else kept_properties d xs) ts
        ≡ filter is_kept (found_property (node_path d) x ts ∷ found_properties (node_path d) xs (drop (all_uses x.value.now.parts.items) ts))
    by so true is =
        so ts ∙ ap (λ k. filter is_kept (found_properties (node_path d) xs (drop k ts))) (sym (repeats-bare x is))
        ∙ sym (kept-by is_kept (found_property (node_path d) x ts) (found_properties (node_path d) xs (drop (all_uses x.value.now.parts.items) ts)) false (ap not (repeats-same x ts ∙ is)))
    by so false is =
        ap (λ es. found_property (node_path d) x ts ∷ es) (so (drop (all_uses x.value.now.parts.items) ts))
        ∙ sym (kept-by is_kept (found_property (node_path d) x ts) (found_properties (node_path d) xs (drop (all_uses x.value.now.parts.items) ts)) true (ap not (repeats-same x ts ∙ is)))

-- ---- they have no sites
string-sites : (ns : List PathPhandle) (p : Path) (n text : List ℕ) (v : List Found) → is_string_of text v ≡ true → sites_in ns p n 0 v ≡ []
string-sites ns p n text [] is = absurd (true≢false (sym is))
string-sites ns p n text (Bytes b ∷ []) is = refl
string-sites ns p n text (Bytes b ∷ f ∷ fs) is = absurd (true≢false (sym is))
string-sites ns p n text (Cell q ∷ fs) is = absurd (true≢false (sym is))
string-sites ns p n text (Open l ∷ fs) is = absurd (true≢false (sym is))
string-sites ns p n text (PathText q ∷ fs) is = absurd (true≢false (sym is))

module _ (ns : List PathPhandle) (g : Definition (List Found) → Bool) where
  abbrev own_sites : Definition (List Found) → List Site
  own_sites e = sites_in ns e.path e.name 0 e.value

  sites-by : (e : Definition (List Found)) (es : List (Definition (List Found))) (b : Bool) → sites ns (if b then e ∷ es else es) ≡ (if b then own_sites e else []) ++ sites ns es
  sites-by e es true = refl
  sites-by e es false = refl

  pub sites-kept : (es : List (Definition (List Found))) → sites ns (filter g (filter (λ e. not (repeats_name e)) es)) ≡ sites ns (filter g es)
  sites-kept [] = refl
  sites-kept (e ∷ es) = by (repeats_name e) refl (sites-kept es) where
    none-by : own_sites e ≡ [] → (b : Bool) → (if b then own_sites e else []) ≡ []
    none-by is true = is
    none-by is false = refl

    by : (b : Bool) → repeats_name e ≡ b → sites ns (filter g (filter (λ y. not (repeats_name y)) es)) ≡ sites ns (filter g es) → sites ns (filter g (if not b then e ∷ filter (λ y. not (repeats_name y)) es else filter (λ y. not (repeats_name y)) es)) ≡ sites ns (filter g (e ∷ es))
    by true is rest =
        let text = before_first (λ c. c == 64) (last_name e.path) in
        let bare = string-sites ns e.path e.name text e.value (and_parts (bytes_eq e.name (codes "name")) (is_string_of text e.value) is).1 in
        rest ∙ ap (λ xs. xs ++ sites ns (filter g es)) (sym (none-by bare (g e))) ∙ sym (sites-by e (filter g es) (g e))
    by false is rest =
        sites-by e (filter g (filter (λ y. not (repeats_name y)) es)) (g e) ∙ ap (λ ss. (if g e then own_sites e else []) ++ ss) rest ∙ sym (sites-by e (filter g es) (g e))

-- ---- nodes and names as they are read
pub bare-read : (rows : List NodeRow) (xs : List (NodeProperty Parts)) (ts : List (Option ℕ)) → map bare (found_properties (path_of rows) xs ts) ≡ map bare (map (read_property rows) xs)
bare-read rows [] ts = refl
bare-read rows (x ∷ xs) ts = ap (λ ks. bare (read_property rows x) ∷ ks) (bare-read rows xs (drop (all_uses x.value.now.parts.items) ts))

paths-read : (rows : List NodeRow) (xs : List (NodeProperty Parts)) (ts : List (Option ℕ)) → map (λ e. e.path) (map (read_property rows) xs) ≡ map (λ e. e.path) (found_properties (path_of rows) xs ts)
paths-read rows [] ts = refl
paths-read rows (x ∷ xs) ts = ap (λ ks. path_of rows x.node ∷ ks) (paths-read rows xs (drop (all_uses x.value.now.parts.items) ts))

-- what is found stands in the order of the walk
pub walked-found : (d : LiveTree Parts) → AreNodes (tree_of d).nodes → (xs : List (NodeProperty Parts)) → map (read_property d.nodes.items) xs ≡ in_order (tree_of d) → (ts : List (Option ℕ))
    → flat_map (held (found_properties (node_path d) xs ts)) (preorder (tree_of d).nodes) ≡ found_properties (node_path d) xs ts
walked-found d are xs read ts =
    walked-made (preorder (tree_of d).nodes) (each-once (tree_of d).nodes are) (tree_of d).properties (found_properties (node_path d) xs ts)
    (ap (map (λ e. e.path)) (sym read) ∙ paths-read d.nodes.items xs ts)

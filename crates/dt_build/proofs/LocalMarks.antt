-- The nodes that have local fixups, and the properties of each.
use Rattle.std.proofs.Common.{◌≡◌, ◌≢◌, ℕ, suc, ◌+◌, ◌-◌, ◌<◌, Bool, true, false, not, ◌==◌, ◌&&◌, ◌||◌, List, [], ◌∷◌, ◌++◌, length, get_or, set, cond, if◌then◌else◌, refl, sym, ap, ap₂, ◌∙◌, subst, append_assoc, arith}
use Rattle.std.proofs.lemmas.Bool.{and_parts, eqb-true, eq-eqb}
use Rattle.std.proofs.lemmas.List.{get_or-set_same, get_or-set_other, get_or_default}
use Rattle.dt_tree.specs.declared.property.Property.{Property}
use Rattle.dt_source.specs.TreeMeaning.Names.{local_fixups_name}
use Rattle.dt_source.specs.TreeMeaning.Paths.{Path, same_path, is_within, is_listed}
use Rattle.dt_source.specs.TreeMeaning.Edits.{Definition, definition}
use Rattle.dt_source.specs.TreeMeaning.References.{held}
use Rattle.dt_source.specs.TreeMeaning.Resolved.{fronts}
use Rattle.dt_live.specs.declared.live_tree.NodeRow.{NodeRow}
use Rattle.dt_live.specs.declared.preorder.properties.NodeProperty.{NodeProperty}
use Rattle.dt_build.specs.Edit.Said.{Parts}
use Rattle.dt_live.specs.Index.{row_of}
use Rattle.dt_live.specs.Rows.{IsNode, no_row, path_of, row_at, stands}
use Rattle.dt_live.proofs.Climbs.{path-step, stands-step}
use Rattle.dt_live.proofs.PathTests.{within-snoc}
use Rattle.dt_live.proofs.StandingRows.{same-node}
use Rattle.dt_build.specs.declared.draft.Draft.{Draft}
use Rattle.dt_live.specs.Builder.Lists.{defined_at}
use Rattle.dt_live.proofs.BuilderLemmas.PathFacts.{bytes-itself}
use Rattle.dt_live.proofs.BuilderLemmas.MakingWalk.{one-more}
use Rattle.dt_build.specs.declared.local_properties.LocalFixup.{LocalFixup}
use Rattle.dt_build.specs.Private.FixupSites.{key_at}
use Rattle.dt_build.specs.Private.LocalFixups.{IsAtNode, local_definitions, local_path}
use Rattle.dt_build.specs.Private.Ready.{IsReady}
use Rattle.dt_build.proofs.MoreLists.{listed-fronts}

-- ---- one name more
fronts-last : (q p : Path) (m : List ℕ) → is_listed q (fronts (p ++ m ∷ [])) ≡ (is_listed q (fronts p) || same_path q (p ++ m ∷ []))
fronts-last q p m = listed-fronts q (p ++ m ∷ []) ∙ by_first q p ∙ ap (λ b. b || same_path q (p ++ m ∷ [])) (sym (listed-fronts q p)) where
  by_first : (q p : Path) → (not (same_path q []) && is_within q (p ++ m ∷ [])) ≡ ((not (same_path q []) && is_within q p) || same_path q (p ++ m ∷ []))
  by_first [] [] = refl
  by_first [] (x ∷ xs) = refl
  by_first (y ∷ ys) p = within-snoc (y ∷ ys) p m

-- ---- lists by node
pub at-set : {A : Type 0} (xs : List A) (i k : ℕ) (a d : A) → i < length xs → get_or (set xs i a) k d ≡ (if k == i then a else get_or xs k d)
at-set xs i k a d within = by_test (k == i) refl where
  by_test : (b : Bool) → (k == i) ≡ b → get_or (set xs i a) k d ≡ (if b then a else get_or xs k d)
  by_test true e = ap (λ j. get_or (set xs i a) j d) (eqb-true k i e) ∙ get_or-set_same xs i a d within
  by_test false e = let other : k ≢ i = λ is. absurd (cc (eq-eqb k i is)) in get_or-set_other xs i k a d other

module _ (p : Draft) (ready : IsReady p) where
  abbrev rows : List NodeRow
  rows = p.live.nodes.items

  -- nodes that stand have one path where they are one
  one-path : (k m : ℕ) → stands rows k ≡ true → stands rows m ≡ true → same_path (path_of rows k) (path_of rows m) ≡ (k == m)
  one-path k m a b = same-node rows (row_of p.live.node_rows) ready.sound.grown ready.sound.nodes k m a b

  -- the node of a property stands
  pub node-stands : (i : ℕ) (x : NodeProperty Parts) → i < length p.in_preorder.properties.items → x ≡ get_or p.in_preorder.properties.items i x → IsAtNode p x.node
  node-stands i x below at = record {
    known = subst (λ (y : NodeProperty Parts). IsNode p.live y.node) (sym at) (ready.owners i x below);
    there = ap (λ (y : NodeProperty Parts). stands rows y.node) at ∙ ready.stand i x below;
  }

  -- ---- one level up
  module _ (all : List NodeRow) (same : all ≡ rows) (at : ℕ) (d : NodeRow) (some : at ≢ 0) (known : at < length rows + 1) (up : stands rows at ≡ true) where
    abbrev above : ℕ
    above = (get_or all (at - 1) d).parent

    is : at ≡ suc (at - 1)
    is = omega (arith, some)

    row-is : get_or all (at - 1) d ≡ row_at rows (at - 1)
    row-is = ap (λ (xs : List NodeRow). get_or xs (at - 1) d) same ∙ get_or_default rows (at - 1) d no_row (omega (arith, some, known))

    pub above-less : above < at
    above-less = let e : above ≡ (row_at rows (at - 1)).parent = ap (λ x. x.parent) row-is in omega (arith, some, e, ready.sound.grown (at - 1))

    pub above-stands : stands rows above ≡ true
    above-stands =
        ap (λ x. stands rows x.parent) row-is
        ∙ (and_parts (not (row_at rows (at - 1)).removed) (stands rows (row_at rows (at - 1)).parent) (sym (ap (stands rows) is ∙ stands-step rows ready.sound.grown (at - 1)) ∙ up)).1

    parts : path_of rows at ≡ path_of rows above ++ (row_at rows (at - 1)).name.now ∷ []
    parts = ap (path_of rows) is ∙ path-step rows ready.sound.grown (at - 1) ∙ ap (λ (x : NodeRow). path_of rows x.parent ++ (row_at rows (at - 1)).name.now ∷ []) (sym row-is)

    pub mark-up : (old new : List Bool) (k : ℕ) (whole : Bool) → new ≡ set old at true → at < length old → stands rows k ≡ true → (get_or old k false || is_listed (path_of rows k) (fronts (path_of rows at))) ≡ whole
        → (get_or new k false || is_listed (path_of rows k) (fronts (path_of rows above))) ≡ whole
    mark-up old new k whole put within there so =
        ap (λ (xs : List Bool). get_or xs k false || is_listed (path_of rows k) (fronts (path_of rows above))) put
        ∙ ap (λ b. b || is_listed (path_of rows k) (fronts (path_of rows above))) (at-set old at k true false within)
        ∙ by_test (k == at) (get_or old k false) (is_listed (path_of rows k) (fronts (path_of rows above)))
        ∙ ap (λ b. get_or old k false || b)
        (sym (ap (λ q. is_listed (path_of rows k) (fronts q)) parts ∙ fronts-last (path_of rows k) (path_of rows above) (row_at rows (at - 1)).name.now
        ∙ ap (λ b. is_listed (path_of rows k) (fronts (path_of rows above)) || b) (ap (same_path (path_of rows k)) (sym parts) ∙ one-path k at there up)))
        ∙ so where
          by_test : (t a b : Bool) → ((if t then true else a) || b) ≡ (a || (b || t))
          by_test true true b = refl
          by_test true false true = refl
          by_test true false false = refl
          by_test false true b = refl
          by_test false false true = refl
          by_test false false false = refl

  -- at the root
  pub mark-all : (at k : ℕ) (a whole : Bool) → at ≡ 0 → (a || is_listed (path_of rows k) (fronts (path_of rows at))) ≡ whole → a ≡ whole
  mark-all at k a whole top so = no-more a ∙ ap (λ m. a || is_listed (path_of rows k) (fronts (path_of rows m))) (sym top) ∙ so where
    no-more : (b : Bool) → b ≡ (b || false)
    no-more true = refl
    no-more false = refl

  -- ---- a property of a node
  module _ (x : LocalFixup) (n : ℕ) (up : stands rows n ≡ true) (at : (key_at p x.property).path ≡ path_of rows n) (y : Property) (name : y.name ≡ (key_at p x.property).name) (value : y.value ≡ x.cells.items)
      (rest : List LocalFixup) (old : List (List Property)) (within : n < length old) (k : ℕ) (there : stands rows k ≡ true) where
    abbrev q : Path
    q = local_path (path_of rows k)

    abbrev more : List (Definition (List ℕ))
    more = held (local_definitions p rest) q

    same : same_path q (local_path (key_at p x.property).path) ≡ (k == n)
    same = ap (λ r. same_path q (local_path r)) at ∙ ap (λ b. b && same_path (path_of rows k) (path_of rows n)) (bytes-itself local_fixups_name) ∙ one-path k n there up

    by_test : (t : Bool) → (k == n) ≡ t
        → defined_at q (if t then get_or old n [] ++ y ∷ [] else get_or old k []) ++ more
        ≡ defined_at q (get_or old k []) ++ cond t (definition (local_path (key_at p x.property).path) (key_at p x.property).name x.cells.items ∷ more) more
    by_test true e =
        let m : k ≡ n = eqb-true k n e in
        ap (λ j. defined_at q (get_or old j [] ++ y ∷ []) ++ more) (sym m)
        ∙ ap (λ ds. ds ++ more) (one-more q (get_or old k []) y)
        ∙ append_assoc (defined_at q (get_or old k [])) (definition q y.name y.value ∷ []) more
        ∙ ap (λ r. defined_at q (get_or old k []) ++ definition (local_path r) y.name y.value ∷ more) (ap (path_of rows) m ∙ sym at)
        ∙ ap₂ (λ a b. defined_at q (get_or old k []) ++ definition (local_path (key_at p x.property).path) a b ∷ more) name value
    by_test false e = refl

    pub list-more : (new : List (List Property)) (left : List LocalFixup) (whole : List (Definition (List ℕ))) → left ≡ x ∷ rest → new ≡ set old n (get_or old n [] ++ y ∷ [])
        → defined_at q (get_or old k []) ++ held (local_definitions p left) q ≡ whole → defined_at q (get_or new k []) ++ more ≡ whole
    list-more new left whole first put so =
        ap (λ (ls : List (List Property)). defined_at q (get_or ls k []) ++ more) put ∙ ap (λ ps. defined_at q ps ++ more) (at-set old n k (get_or old n [] ++ y ∷ []) [] within)
        ∙ by_test (k == n) refl
        ∙ ap (λ t. defined_at q (get_or old k []) ++ cond t (definition (local_path (key_at p x.property).path) (key_at p x.property).name x.cells.items ∷ more) more) (sym same)
        ∙ ap (λ ms. defined_at q (get_or old k []) ++ held (local_definitions p ms) q) (sym first) ∙ so

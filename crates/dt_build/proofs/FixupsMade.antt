-- The node of fixups, made of the sites by label.
use Rattle.std.proofs.Common.{◌≡◌, ℕ, ◌<◌, Bool, true, false, List, [], ◌∷◌, ◌++◌, length, map, refl, sym, ap, ap₂, ◌∙◌, subst, append_assoc, arith}
use Rattle.dt_tree.specs.declared.property.Property.{Property}
use Rattle.dt_tree.specs.NodeData.{NodeData, property_names}
use Rattle.dt_tree.specs.Sound.{are_distinct}
use Rattle.dt_source.specs.TreeMeaning.Names.{fixups_name}
use Rattle.dt_source.specs.TreeMeaning.Paths.{Path, is_listed}
use Rattle.dt_source.specs.TreeMeaning.Edits.{Definition, definition}
use Rattle.dt_source.specs.TreeMeaning.References.{held}
use Rattle.dt_source.specs.TreeMeaning.Fixups.{fixups, sites}
use Rattle.dt_source.specs.TreeMeaning.Resolved.{names_taken, when, with_more}
use Rattle.dt_live.proofs.Each.{Each}
use Rattle.dt_live.specs.Builder.Lists.{defined_at, with_last}
use Rattle.dt_live.specs.Builder.Builders.{built_lists}
use Rattle.dt_live.specs.Builder.Standing.{walked}
use Rattle.dt_live.proofs.BuilderLemmas.Orders.{there-same}
use Rattle.dt_live.proofs.BuilderLemmas.MakingWalk.{names-defined, one-more}
use Rattle.dt_build.specs.Edit.Said.{tree_of}
use Rattle.dt_build.specs.declared.draft.Draft.{Draft}
use Rattle.dt_build.specs.declared.fixups_by_label.LabelFixups.{LabelFixups}
use Rattle.dt_build.specs.Private.ByLabel.{fixups_path, given}
use Rattle.dt_build.specs.Private.Made.{all_phandles, fixed, fixup_lists, made_sites, symbol_lists}
use Rattle.dt_build.specs.Private.Ready.{IsReady}
use Rattle.dt_build.proofs.FixupLists.{fixups-at, fixups-distinct, fixups-names}
use Rattle.dt_build.proofs.ListsOfPrepared.{fixups-new, symbols-whole}
use Rattle.dt_build.proofs.MoreWalked.{child-walked}
use Rattle.dt_build.proofs.NamedSources.{IsName}
use Rattle.dt_build.proofs.SiteNames.{made-labelled}
use Rattle.dt_build.proofs.HeldProperties.{held-own}
use Rattle.dt_build.proofs.SymbolsLast.{with-none}

-- ---- a property of each label
pub label_fixups-put : (old new : List Property) (x : Property) (left rest : List LabelFixups) (g : LabelFixups) (whole : List (Definition (List ℕ))) → left ≡ g ∷ rest → new ≡ old ++ x ∷ [] → x.name ≡ g.label.now → x.value ≡ g.text.items
    → defined_at fixups_path old ++ given left ≡ whole → defined_at fixups_path new ++ given rest ≡ whole
label_fixups-put old new x left rest g whole first more name value so =
    ap (λ ps. defined_at fixups_path ps ++ given rest) more
    ∙ ap (λ es. es ++ given rest) (one-more fixups_path old x)
    ∙ append_assoc (defined_at fixups_path old) (definition fixups_path x.name x.value ∷ []) (given rest)
    ∙ ap₂ (λ n v. defined_at fixups_path old ++ definition fixups_path n v ∷ given rest) name value
    ∙ ap (λ gs. defined_at fixups_path old ++ given gs) (sym first) ∙ so

-- its label is a name
label-of : (es : List (Definition (List ℕ))) (g : LabelFixups) (gs : List LabelFixups) → Each (λ e. IsName e.name) (es ++ given (g ∷ gs)) → IsName g.label.now
label-of [] g gs h = h.0
label-of (e ∷ es) g gs h = label-of es g gs h.1

pub label_fixups-named : (p : Draft) → IsReady p → (old : List Property) (left rest : List LabelFixups) (g : LabelFixups) → left ≡ g ∷ rest → defined_at fixups_path old ++ given left ≡ fixups (made_sites p) [] → IsName g.label.now
label_fixups-named p ready old left rest g first so =
    label-of (defined_at fixups_path old) g rest
    (subst (Each (λ e. IsName e.name)) (sym so ∙ ap (λ gs. defined_at fixups_path old ++ given gs) first) (fixups-names IsName (made_sites p) (made-labelled p ready)))

-- ---- no name stands twice
held-all : (q : Path) (es : List (Definition (List ℕ))) → Each (λ e. e.path ≡ q) es → held es q ≡ es
held-all q [] at = refl
held-all q (e ∷ es) at = held-own e es q at.0 ∙ ap (λ ds. e ∷ ds) (held-all q es at.1)

module _ (p : Draft) (ps : List Property) (is : defined_at fixups_path ps ≡ fixups (made_sites p) []) where
  pub distinct-labels : are_distinct (property_names ps) ≡ true
  distinct-labels =
      ap are_distinct (names-defined fixups_path ps ∙ ap (map (λ e. e.name)) (is ∙ sym (held-all fixups_path (fixups (made_sites p) []) (fixups-at (made_sites p)))))
      ∙ fixups-distinct (made_sites p) fixups_path

  -- only a plugin has fixups
  of-plugin : 0 < length ps → p.plugin ≡ true
  of-plugin some = by_plugin p.plugin ps is some where
    by_plugin : (b : Bool) (qs : List Property) → defined_at fixups_path qs ≡ fixups (when b (sites (all_phandles p) (fixed p))) [] → 0 < length qs → b ≡ true
    by_plugin true qs is some = refl
    by_plugin false [] is some = absurd (omega arith)
    by_plugin false (q ∷ qs) is some = absurd (cc)

  module _ (symbols : Bool) (ready : IsReady p) (free : names_taken symbols p.plugin (tree_of p.live) ≡ false) (bs : List NodeData) (made : built_lists bs ≡ walked (symbol_lists symbols p)) where
    pub node-new : 0 < length ps → (name : List ℕ) → name ≡ fixups_name → is_listed (name ∷ []) (built_lists bs).nodes ≡ false
    node-new some name named =
        ap (λ n. is_listed (n ∷ []) (built_lists bs).nodes) named ∙ ap (λ l. is_listed (fixups_name ∷ []) l.nodes) made
        ∙ sym (there-same (symbol_lists symbols p) (symbols-whole symbols p ready free).nodes (fixups_name ∷ [])) ∙ fixups-new symbols p ready free (of-plugin some)

    pub no-fixups : ps ≡ [] → built_lists bs ≡ walked (fixup_lists symbols p)
    no-fixups none =
        made ∙ ap walked (sym (ap (λ es. with_more es (symbol_lists symbols p)) (sym is ∙ ap (defined_at fixups_path) none) ∙ with-none (symbol_lists symbols p)))

    pub whole-fixups : 0 < length ps → with_last fixups_path ps (built_lists bs) ≡ walked (fixup_lists symbols p)
    whole-fixups some =
        ap (with_last fixups_path ps) made
        ∙ ap (λ es. record { nodes = (walked (symbol_lists symbols p)).nodes ++ fixups_path ∷ []; properties = (walked (symbol_lists symbols p)).properties ++ es }) is
        ∙ sym (by_list (of-plugin some) ps (fixups (made_sites p) []) is some (fixups-at (made_sites p))) where
          by_list : p.plugin ≡ true → (qs : List Property) (es : List (Definition (List ℕ))) → defined_at fixups_path qs ≡ es → 0 < length qs → Each (λ e. e.path ≡ fixups_path) es
              → walked (with_more es (symbol_lists symbols p))
              ≡ record { nodes = (walked (symbol_lists symbols p)).nodes ++ fixups_path ∷ []; properties = (walked (symbol_lists symbols p)).properties ++ es }
          by_list plugin [] es e some at = absurd (omega arith)
          by_list plugin (q ∷ qs) [] e some at = absurd (cc)
          by_list plugin (q ∷ qs) (d ∷ ds) e some at = child-walked fixups_name (symbol_lists symbols p) (symbols-whole symbols p ready free) (fixups-new symbols p ready free plugin) d ds at

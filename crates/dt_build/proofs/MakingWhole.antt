-- The whole tree: with the labels' node behind all others, and with what is made of it.
use Rattle.std.proofs.Common.{◌≡◌, ℕ, ◌==◌, Bool, true, false, not, ◌||◌, List, [], ◌∷◌, ◌++◌, length, map, refl, sym, ap, ◌∙◌, true≢false}
use Rattle.std.specs.List.{flat_map}
use Rattle.dt_tree.specs.declared.property.Property.{Property}
use Rattle.dt_tree.specs.NodeData.{NodeData}
use Rattle.dt_source.specs.TreeMeaning.Names.{symbols_name}
use Rattle.dt_source.specs.TreeMeaning.Paths.{is_listed}
use Rattle.dt_source.specs.TreeMeaning.Edits.{Label}
use Rattle.dt_source.specs.TreeMeaning.References.{preorder}
use Rattle.dt_source.specs.TreeMeaning.Resolved.{names_taken, symbol}
use Rattle.dt_live.specs.Builder.Lists.{defined_at, with_last}
use Rattle.dt_live.specs.Builder.Builders.{built_lists}
use Rattle.dt_live.specs.Builder.Standing.{behind_root, walked}
use Rattle.dt_live.proofs.BuilderLemmas.Orders.{there-same}
use Rattle.dt_live.proofs.BuilderLemmas.PathFacts.{or-false}
use Rattle.dt_build.specs.Edit.Said.{tree_of}
use Rattle.dt_build.proofs.ResolveLemmas.LeftRows.{not-false}
use Rattle.dt_build.proofs.ResolveLemmas.Without.{nothing-in}
use Rattle.dt_build.specs.declared.draft.Draft.{Draft}
use Rattle.dt_build.specs.Private.Made.{bare_node, own, plain_lists, symbol_lists}
use Rattle.dt_build.specs.Private.Ready.{IsReady}
use Rattle.dt_build.proofs.ListsOfPrepared.{lists-bare, walked-bare, walked-lists}
use Rattle.dt_build.proofs.Shallow.{symbols-free}

-- ---- the labels' node
module _ (p : Draft) (r : IsReady p) (free : names_taken true p.plugin (tree_of p.live) ≡ false) (bs : List NodeData) (made : built_lists bs ≡ walked (plain_lists p)) where
  abbrev labels : List Label
  labels = (tree_of p.live).labels

  pub symbols-new : (name : List ℕ) → name ≡ symbols_name → is_listed (name ∷ []) (built_lists bs).nodes ≡ false
  symbols-new name is =
      ap (λ n. is_listed (n ∷ []) (built_lists bs).nodes) is ∙ ap (λ l. is_listed (symbols_name ∷ []) l.nodes) made
      ∙ sym (there-same (plain_lists p) r.standing (symbols_name ∷ [])) ∙ symbols-free p.plugin (tree_of p.live) free

  pub no-symbols : (ps : List Property) → defined_at (symbols_name ∷ []) ps ≡ map symbol labels → (p.labelled || not (length ps == 0)) ≡ false → built_lists bs ≡ walked (symbol_lists true p)
  no-symbols ps is none =
      let parts = or-false p.labelled (not (length ps == 0)) none in
      made ∙ ap walked (sym (lists-bare true p (sym is ∙ ap (defined_at (symbols_name ∷ [])) (nothing-in ps (not-false (length ps == 0) parts.1))) (ap (λ b. bare_node b labels) parts.0)))

  pub whole : (ps : List Property) → defined_at (symbols_name ∷ []) ps ≡ map symbol labels → (p.labelled || not (length ps == 0)) ≡ true → with_last (symbols_name ∷ []) ps (built_lists bs) ≡ walked (symbol_lists true p)
  whole ps is some =
      ap (with_last (symbols_name ∷ []) ps) made
      ∙ ap (λ es. record {
        nodes = behind_root (preorder (tree_of p.live).nodes) ++ (symbols_name ∷ []) ∷ [];
        properties = flat_map (own p) (preorder (tree_of p.live).nodes) ++ es;
      }) is
      ∙ sym (by_labels p.labelled ps labels is some refl refl) where
        by_labels : (b : Bool) (qs : List Property) (ls : List Label) → defined_at (symbols_name ∷ []) qs ≡ map symbol ls → (b || not (length qs == 0)) ≡ true → p.labelled ≡ b → (tree_of p.live).labels ≡ ls
            → walked (symbol_lists true p)
            ≡ record {
              nodes = behind_root (preorder (tree_of p.live).nodes) ++ (symbols_name ∷ []) ∷ [];
              properties = flat_map (own p) (preorder (tree_of p.live).nodes) ++ map symbol (tree_of p.live).labels;
            }
        by_labels true [] [] e some labelled are = walked-bare p r free labelled are
        by_labels false [] ls e some labelled are = absurd (true≢false (sym some))
        by_labels true [] (l ∷ ls) e some labelled are = absurd (cc)
        by_labels b (q ∷ qs) [] e some labelled are = absurd (cc)
        by_labels b (q ∷ qs) (l ∷ ls) e some labelled are = walked-lists p r free l ls are

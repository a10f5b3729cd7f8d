-- A draft is what its tree is made of.
use Rattle.std.proofs.Common.{◌≡◌, Option, ℕ, Bool, true, false, List, [], ◌∷◌, ◌++◌, map, drop, cond, refl, sym, ap, ap₂, ◌∙◌, arith}
use Rattle.std.specs.List.{flat_map}
use Rattle.std.proofs.lemmas.List.{map-append}
use Rattle.dt_source.specs.TreeMeaning.Paths.{Path, same_path}
use Rattle.dt_source.specs.TreeMeaning.Edits.{Definition, definition}
use Rattle.dt_source.specs.TreeMeaning.References.{Found, held, preorder}
use Rattle.dt_source.specs.TreeMeaning.Phandles.{PathPhandle}
use Rattle.dt_source.specs.TreeMeaning.Fixups.{value_bytes}
use Rattle.dt_source.specs.TreeMeaning.Resolved.{with_bytes}
use Rattle.dt_live.specs.Rows.{node_path}
use Rattle.dt_live.specs.declared.preorder.properties.NodeProperty.{NodeProperty}
use Rattle.dt_live.specs.Making.Made.{IsInPreorder, IsRest, entries, values_in}
use Rattle.dt_build.specs.Edit.Said.{Parts, tree_of}
use Rattle.dt_build.specs.declared.draft.Draft.{Draft}
use Rattle.dt_build.specs.declared.node_phandles.NodePhandles.{NodePhandles}
use Rattle.dt_build.specs.Private.NodePhandles.{AreNodePhandles}
use Rattle.dt_build.specs.Private.Made.{all_phandles, founds, plain_properties}
use Rattle.dt_build.specs.Private.Ready.{IsReady}
use Rattle.dt_build.specs.Private.SourceValues.{source_made}
use Rattle.dt_build.specs.Resolve.Founds.{found_properties}
use Rattle.dt_build.specs.Private.Values.{all_uses, founds_of, values_of}
use Rattle.dt_build.proofs.MakingNodes.{lawful}
use Rattle.dt_build.proofs.NewPhandles.{own-is}

-- ---- what is found in the values of properties, as bytes
all-bytes : (path : ℕ → Path) (ns : List PathPhandle) (xs : List (NodeProperty Parts)) (ts : List (Option ℕ)) → entries path xs (values_of ns path (values_in xs) ts) ≡ map (with_bytes ns) (found_properties path xs ts)
all-bytes path ns [] ts = refl
all-bytes path ns (x ∷ xs) ts =
    ap (λ ds. definition (path x.node) x.name.now (value_bytes ns (founds_of path x.value.now.parts.items ts)) ∷ ds) (all-bytes path ns xs (drop (all_uses x.value.now.parts.items) ts))

-- ---- what is found, as bytes
held-bytes : (ns : List PathPhandle) (es : List (Definition (List Found))) (q : Path) → map (with_bytes ns) (held es q) ≡ held (map (with_bytes ns) es) q
held-bytes ns [] q = refl
held-bytes ns (e ∷ es) q = by_test (same_path q e.path) (held-bytes ns es q) where
  by_test : (t : Bool) → map (with_bytes ns) (held es q) ≡ held (map (with_bytes ns) es) q
      → map (with_bytes ns) (cond t (e ∷ held es q) (held es q)) ≡ cond t (with_bytes ns e ∷ held (map (with_bytes ns) es) q) (held (map (with_bytes ns) es) q)
  by_test true ih = ap (λ ds. with_bytes ns e ∷ ds) ih
  by_test false ih = ih

walk-bytes : (ns : List PathPhandle) (es : List (Definition (List Found))) (qs : List Path) → map (with_bytes ns) (flat_map (held es) qs) ≡ flat_map (held (map (with_bytes ns) es)) qs
walk-bytes ns es [] = refl
walk-bytes ns es (q ∷ qs) = map-append (with_bytes ns) (held es q) (flat_map (held es) qs) ∙ ap₂ (λ xs ys. xs ++ ys) (held-bytes ns es q) (walk-bytes ns es qs)

-- ---- of a draft
module _ (p : Draft) (ready : IsReady p) where
  pub source-bytes : entries (node_path p.live) p.in_preorder.properties.items (values_of (all_phandles p) (node_path p.live) (values_in p.in_preorder.properties.items) p.targets.items) ≡ plain_properties p
  source-bytes = all-bytes (node_path p.live) (all_phandles p) p.in_preorder.properties.items p.targets.items

  module _ (n : NodePhandles) where
    pub source-rest : IsRest p.live p.in_preorder (source_made p n) (λ vs. values_of (all_phandles p) (node_path p.live) vs p.targets.items) 0 0
    source-rest = record {
      within = omega arith;
      bytes = source-bytes ∙ ap (map (with_bytes (all_phandles p))) (sym ready.walked) ∙ walk-bytes (all_phandles p) (founds p) (preorder (tree_of p.live).nodes);
    }

    pub source-order : AreNodePhandles p n → IsInPreorder p.live p.in_preorder (source_made p n)
    source-order is = record {
      sound = ready.sound;
      nodes = ready.nodes;
      standing = ready.standing;
      known = ready.known;
      there = ready.there;
      stand = ready.stand;
      named_nodes = λ k n some below here. lawful p ready k some below n here;
      named = ready.named.properties;
      apart = ready.apart;
      own = own-is p ready n is;
    }

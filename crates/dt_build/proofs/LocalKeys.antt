-- Properties of a draft differ in node or name.
use Rattle.std.proofs.Common.{◌≡◌, ℕ, Bool, true, false, not, ◌||◌, List, [], ◌∷◌, ◌++◌, map, drop, Option, cond, refl, sym, ap, ◌∙◌, subst}
use Rattle.std.specs.Str.{bytes_eq}
use Rattle.std.proofs.lemmas.Bool.{and_parts}
use Rattle.dt_tree.specs.Sound.{is_among, are_distinct}
use Rattle.dt_source.specs.TreeMeaning.Paths.{Path, same_path}
use Rattle.dt_source.specs.TreeMeaning.Edits.{Definition, is_of}
use Rattle.dt_source.specs.TreeMeaning.References.{held}
use Rattle.dt_source.specs.TreeMeaning.Resolved.{phandle_property, with_bytes}
use Rattle.dt_live.proofs.Each.{Each}
use Rattle.dt_live.specs.Rows.{node_path}
use Rattle.dt_live.specs.declared.preorder.properties.NodeProperty.{NodeProperty}
use Rattle.dt_build.specs.Edit.Said.{Parts}
use Rattle.dt_build.specs.Resolve.Founds.{all_uses, found_properties}
use Rattle.dt_build.specs.declared.draft.Draft.{Draft}
use Rattle.dt_live.proofs.BuilderLemmas.PathFacts.{not-both, not-true, same-is, same-itself}
use Rattle.dt_build.specs.Private.FixupSites.{key_of, keys}
use Rattle.dt_build.specs.Private.Made.{all_phandles, founds, made_properties, added_phandles}
use Rattle.dt_build.specs.Private.Ready.{IsReady}
use Rattle.dt_build.proofs.ApartLists.{InPairs, pairs-from, pairs-same}
use Rattle.dt_build.proofs.ApartPhandles.{bare}
use Rattle.dt_build.proofs.NamedEdits.{HasOtherKey}

module _ {V : Type 0} where
  abbrev names : List (Definition V) → List (List ℕ)
  names es = map (λ e. e.name) es

  rest-distinct : (e : Definition V) (es : List (Definition V)) (q : Path) → are_distinct (names (held (e ∷ es) q)) ≡ true → are_distinct (names (held es q)) ≡ true
  rest-distinct e es q = by_test (same_path q e.path) where
    by_test : (t : Bool) → are_distinct (names (cond t (e ∷ held es q) (held es q))) ≡ true → are_distinct (names (held es q)) ≡ true
    by_test true h = (and_parts (not (is_among e.name (names (held es q)))) (are_distinct (names (held es q))) h).1
    by_test false h = h

  first-alone : (e : Definition V) (es : List (Definition V)) → are_distinct (names (held (e ∷ es) e.path)) ≡ true → is_among e.name (names (held es e.path)) ≡ false
  first-alone e es h =
      not-true (is_among e.name (names (held es e.path)))
      (and_parts (not (is_among e.name (names (held es e.path)))) (are_distinct (names (held es e.path))) (sym (ap (λ t. are_distinct (names (cond t (e ∷ held es e.path) (held es e.path)))) (same-itself e.path)) ∙ h)).0

  each-other : (e : Definition V) (es : List (Definition V)) → is_among e.name (names (held es e.path)) ≡ false → Each (HasOtherKey e) es
  each-other e [] h = tt
  each-other e (x ∷ xs) h = (by_key (is_of x.path x.name e) refl, each-other e xs (later (same_path e.path x.path) h)) where
    later : (t : Bool) → is_among e.name (names (cond t (x ∷ held xs e.path) (held xs e.path))) ≡ false → is_among e.name (names (held xs e.path)) ≡ false
    later true g = by_name (bytes_eq x.name e.name) g where
      by_name : (s : Bool) → (s || is_among e.name (names (held xs e.path))) ≡ false → is_among e.name (names (held xs e.path)) ≡ false
      by_name true g = not-both true refl g
      by_name false g = g
    later false g = g

    by_key : (t : Bool) → is_of x.path x.name e ≡ t → t ≡ false
    by_key true is =
        let parts = and_parts (same_path x.path e.path) (bytes_eq x.name e.name) is in
        let here : same_path e.path x.path ≡ true = ap (λ p. same_path e.path p) (same-is x.path e.path parts.0) ∙ same-itself e.path in
        not-both true refl (sym (ap (λ t. is_among e.name (names (cond t (x ∷ held xs e.path) (held xs e.path)))) here ∙ ap (λ s. s || is_among e.name (names (held xs e.path))) parts.1) ∙ h)
    by_key false is = refl

  pub pairs-of-distinct : (es : List (Definition V)) → ((q : Path) → are_distinct (names (held es q)) ≡ true) → InPairs HasOtherKey es
  pairs-of-distinct [] h = tt
  pairs-of-distinct (e ∷ es) h = (each-other e es (first-alone e es (h e.path)), pairs-of-distinct es (λ q. rest-distinct e es q (h q)))

  pub pairs-before : (xs ys : List (Definition V)) → InPairs HasOtherKey (xs ++ ys) → InPairs HasOtherKey xs
  pairs-before [] ys h = tt
  pairs-before (x ∷ xs) ys h = (before xs h.0, pairs-before xs ys h.1) where
    before : (zs : List (Definition V)) → Each (HasOtherKey x) (zs ++ ys) → Each (HasOtherKey x) zs
    before [] g = tt
    before (z ∷ zs) g = (g.0, before zs g.1)

bare-founds : (p : Draft) (xs : List (NodeProperty Parts)) (ts : List (Option ℕ)) → map bare (found_properties (node_path p.live) xs ts) ≡ map bare (map (key_of p) xs)
bare-founds p [] ts = refl
bare-founds p (x ∷ xs) ts = ap (λ ks. bare (key_of p x) ∷ ks) (bare-founds p xs (drop (all_uses x.value.now.parts.items) ts))

module _ (p : Draft) (ready : IsReady p) where
  founds-apart : InPairs HasOtherKey (founds p)
  founds-apart =
      pairs-from HasOtherKey (with_bytes (all_phandles p)) (founds p)
      (pairs-before (map (with_bytes (all_phandles p)) (founds p)) (map phandle_property (added_phandles p)) (pairs-of-distinct (made_properties p) ready.apart))

  -- in preorder
  pub keys-apart : InPairs HasOtherKey (keys p)
  keys-apart =
      pairs-from HasOtherKey bare (keys p)
      (subst (InPairs HasOtherKey) (bare-founds p p.in_preorder.properties.items p.targets.items) (pairs-same HasOtherKey bare (founds p) founds-apart))

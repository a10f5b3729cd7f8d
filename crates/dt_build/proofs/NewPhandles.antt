-- A phandle that is added stands behind a node's other properties.
use Rattle.std.proofs.Common.{◌≡◌, ℕ, Bool, true, false, not, ◌||◌, List, [], ◌∷◌, ◌++◌, get_or, map, if◌then◌else◌, cond, codes, refl, sym, ap, ap₂, ◌∙◌}
use Rattle.std.specs.Int.{to_be_bytes, w32}
use Rattle.std.specs.Prelude.{None, Some}
use Rattle.std.specs.Str.{bytes_eq}
use Rattle.std.proofs.lemmas.Bool.{and_parts}
use Rattle.std.proofs.lemmas.List.{map-append}
use Rattle.dt_tree.specs.Sound.{is_among, are_distinct}
use Rattle.dt_source.specs.TreeMeaning.Paths.{Path, same_path, is_listed}
use Rattle.dt_source.specs.TreeMeaning.Edits.{Definition, definition}
use Rattle.dt_source.specs.TreeMeaning.References.{held}
use Rattle.dt_source.specs.TreeMeaning.Phandles.{PathPhandle}
use Rattle.dt_source.specs.TreeMeaning.Fixups.{phandle_of}
use Rattle.dt_source.specs.TreeMeaning.Resolved.{phandle_property}
use Rattle.dt_live.specs.Index.{row_of}
use Rattle.dt_live.specs.Rows.{IsNode, is_standing, node_path}
use Rattle.dt_live.proofs.BuilderLemmas.Orders.{held-append}
use Rattle.dt_live.proofs.BuilderLemmas.PathFacts.{not-both, or-false, not-true, same-is, bytes-itself}
use Rattle.dt_build.specs.declared.draft.Draft.{Draft}
use Rattle.dt_build.proofs.ResolveLemmas.PathPhandles.{given-same}
use Rattle.dt_live.specs.Making.Made.{phandle_at}
use Rattle.dt_build.specs.declared.node_phandles.NodePhandles.{NodePhandles}
use Rattle.dt_build.specs.Private.Made.{added_phandles, own, plain_properties}
use Rattle.dt_build.specs.Private.NodePhandles.{AreNodePhandles}
use Rattle.dt_build.specs.Private.Ready.{IsReady}
use Rattle.dt_build.proofs.ResolveLemmas.PathPhandles.{each-assigned}

-- ---- new phandles
abbrev phandle_name : List ℕ
phandle_name = codes "phandle"

abbrev names_in : List (Definition (List ℕ)) → List (List ℕ)
names_in es = map (λ e. e.name) es

module _ (q : Path) where
  abbrev phandles : List PathPhandle → List (Definition (List ℕ))
  phandles xs = held (map phandle_property xs) q

  -- a second one would have the name of the first
  none-more : (xs : List PathPhandle) → is_among phandle_name (names_in (phandles xs)) ≡ false → phandles xs ≡ []
  none-more [] e = refl
  none-more (x ∷ xs) e = by_test (same_path q x.path) e (none-more xs) where
    by_test : (t : Bool) → is_among phandle_name (names_in (cond t (phandle_property x ∷ phandles xs) (phandles xs))) ≡ false
        → (is_among phandle_name (names_in (phandles xs)) ≡ false → phandles xs ≡ []) → cond t (phandle_property x ∷ phandles xs) (phandles xs) ≡ []
    by_test true e ih = not-both (bytes_eq phandle_name phandle_name) (bytes-itself phandle_name) (or-false (bytes_eq phandle_name phandle_name) (is_among phandle_name (names_in (phandles xs))) e).0
    by_test false e ih = ih e

  one-phandle : (xs : List PathPhandle) → are_distinct (names_in (phandles xs)) ≡ true
      → phandles xs ≡ (if is_listed q (map (λ x. x.path) xs) then definition q phandle_name (to_be_bytes w32 (phandle_of xs q)) ∷ [] else [])
  one-phandle [] d = refl
  one-phandle (x ∷ xs) d = by_test (same_path q x.path) refl d (one-phandle xs) where
    by_test : (t : Bool) → same_path q x.path ≡ t → are_distinct (names_in (cond t (phandle_property x ∷ phandles xs) (phandles xs))) ≡ true
        → (are_distinct (names_in (phandles xs)) ≡ true → phandles xs ≡ (if is_listed q (map (λ x. x.path) xs) then definition q phandle_name (to_be_bytes w32 (phandle_of xs q)) ∷ [] else []))
        → cond t (phandle_property x ∷ phandles xs) (phandles xs)
        ≡ (if t || is_listed q (map (λ x. x.path) xs) then definition q phandle_name (to_be_bytes w32 (if t then x.phandle else phandle_of xs q)) ∷ [] else [])
    by_test true same d ih =
        let parts = and_parts (not (is_among phandle_name (names_in (phandles xs)))) (are_distinct (names_in (phandles xs))) d in
        ap₂ (λ p es. definition p phandle_name (to_be_bytes w32 x.phandle) ∷ es) (sym (same-is q x.path same)) (none-more xs (not-true (is_among phandle_name (names_in (phandles xs))) parts.0))
    by_test false same d ih = ih d

distinct-behind : (ms ns : List (List ℕ)) → are_distinct (ms ++ ns) ≡ true → are_distinct ns ≡ true
distinct-behind [] ns d = d
distinct-behind (m ∷ ms) ns d = distinct-behind ms ns (and_parts (not (is_among m (ms ++ ns))) (are_distinct (ms ++ ns)) d).1

-- ---- of a draft
module _ (p : Draft) (ready : IsReady p) (node_phandles : NodePhandles) (is : AreNodePhandles p node_phandles) (n : ℕ) (known : IsNode p.live n) (up : is_standing p.live n ≡ true) where
  abbrev q : Path
  q = node_path p.live n

  abbrev plain : List (Definition (List ℕ))
  plain = held (plain_properties p) q

  abbrev phandle : ℕ
  phandle = get_or node_phandles.phandles.items n 0

  whole : own p q ≡ plain ++ held (map phandle_property (added_phandles p)) q
  whole = held-append q (plain_properties p) (map phandle_property (added_phandles p))

  apart : are_distinct (names_in (held (map phandle_property (added_phandles p)) q)) ≡ true
  apart =
      distinct-behind (names_in plain) (names_in (held (map phandle_property (added_phandles p)) q))
      (ap are_distinct (sym (map-append (λ e. e.name) plain (held (map phandle_property (added_phandles p)) q)) ∙ ap names_in (sym whole)) ∙ ready.apart q)

  marked : get_or node_phandles.added.items n false ≡ is_listed q (map (λ x. x.path) (added_phandles p))
  marked =
      is.added n
      ∙ given-same p.live.nodes.items (row_of p.live.node_rows) ready.sound.grown ready.sound.nodes p.added.items (each-assigned p.live.nodes.items p.added.items ready.added.stand) n up

  by_mark : (b : Bool) → is_listed q (map (λ x. x.path) (added_phandles p)) ≡ b
      → (if b then definition q phandle_name (to_be_bytes w32 (phandle_of (added_phandles p) q)) ∷ [] else []) ≡ phandle_at q (if b then Some phandle else None)
  by_mark true new =
      ap (λ bs. definition q phandle_name bs ∷ [])
      (sym (ap (to_be_bytes w32) (is.phandles n known) ∙ ready.added_numbers n up new))
  by_mark false new = refl

  pub own-is : own p q ≡ plain ++ phandle_at q (if get_or node_phandles.added.items n false then Some phandle else None)
  own-is =
      whole
      ∙ ap (λ es. plain ++ es)
      (one-phandle q (added_phandles p) apart ∙ by_mark (is_listed q (map (λ x. x.path) (added_phandles p))) refl
      ∙ ap (λ b. phandle_at q (if b then Some phandle else None)) (sym marked))

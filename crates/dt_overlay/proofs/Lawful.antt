-- Names of lists stay lawful.
use Rattle.std.proofs.Common.{◌≡◌, ℕ, zero, suc, ◌+◌, ◌≤◌, Bool, true, false, ◌&&◌, List, [], ◌∷◌, ◌++◌, length, map, drop, Option, Some, None, Ok, Err, if◌then◌else◌, refl, sym, ap, ◌∙◌, arith}
use Rattle.std.specs.Prelude.{Result}
use Rattle.std.specs.List.{All, filter, list_all, list_any}
use Rattle.std.proofs.lemmas.Bool.{and_parts, and_from}
use Rattle.std.proofs.lemmas.List.Folds.{list_all-append}
use Rattle.dt_tree.specs.Name.{is_name, are_names}
use Rattle.dt_source.specs.TreeMeaning.Paths.{Path, is_listed}
use Rattle.dt_source.specs.TreeMeaning.Edits.{Definition, definition, is_of, put}
use Rattle.dt_source.specs.TreeMeaning.Resolved.{Resolved, is_too_deep}
use Rattle.dt_live.specs.declared.live_tree.LiveTree.{LiveTree}
use Rattle.dt_live.specs.declared.live_tree.PropertyRow.{PropertyRow}
use Rattle.dt_live.specs.Rows.{no_property, no_row, node_path, path_of, row_at}
use Rattle.dt_live.proofs.Climbs.{path-step}
use Rattle.dt_live.specs.ByRow.{is_named}
use Rattle.dt_live.specs.Flattened.{IsWhole, Lent, lists}
use Rattle.dt_live.proofs.WholeTrees.{whole-nodes-named, whole-properties-named}
use Rattle.dt_overlay.specs.declared.fixup.patched_overlay.PatchedOverlay.{PatchedOverlay}
use Rattle.dt_overlay.specs.Fixup.PatchedData.{IsPatched}
use Rattle.dt_overlay.specs.Fixup.PatchedOverlay.{patched_lists, patched_from, value_at}
use Rattle.dt_source.specs.OverlayMeaning.Fault.{Fault, PhandleClash, TooDeep}
use Rattle.dt_source.specs.OverlayMeaning.Applied.{clashes, merged, moved, moved_value, with_node, with_nodes, with_values}
use Rattle.dt_overlay.specs.Private.Merging.{merged_at, part_below}

abbrev Value : Type 0
Value = Definition (List ℕ)

pub record IsLawful (r : Resolved) : Type 0 where
  pub nodes : list_all are_names r.nodes ≡ true
  pub properties : list_all is_named r.properties ≡ true

-- ---- lists
all-filter : {A : Type 0} (test keep : A → Bool) (xs : List A) → list_all test xs ≡ true → list_all test (filter keep xs) ≡ true
all-filter test keep [] e = refl
all-filter test keep (x ∷ xs) e =
    let parts = and_parts (test x) (list_all test xs) e in
    one (keep x) parts.0 (all-filter test keep xs parts.1) where
      one : (t : Bool) → test x ≡ true → list_all test (filter keep xs) ≡ true → list_all test (if t then x ∷ filter keep xs else filter keep xs) ≡ true
      one true first ih = and_from (test x) (list_all test (filter keep xs)) first ih
      one false first ih = ih

all-snoc : {A : Type 0} (test : A → Bool) (xs : List A) (x : A) → list_all test xs ≡ true → test x ≡ true → list_all test (xs ++ x ∷ []) ≡ true
all-snoc test xs x e f = list_all-append test xs (x ∷ []) ∙ and_from (list_all test xs) (test x && true) e (and_from (test x) true f refl)

all-both : {A : Type 0} (test : A → Bool) (xs ys : List A) → list_all test xs ≡ true → list_all test ys ≡ true → list_all test (xs ++ ys) ≡ true
all-both test xs ys e f = list_all-append test xs ys ∙ and_from (list_all test xs) (list_all test ys) e f

pub node-lawful : (p : Path) (ps : List Path) → are_names p ≡ true → list_all are_names ps ≡ true → list_all are_names (with_node p ps) ≡ true
node-lawful p ps e f = one (is_listed p ps) where
  one : (t : Bool) → list_all are_names (if t then ps else ps ++ p ∷ []) ≡ true
  one true = f
  one false = all-snoc are_names ps p f e

nodes-lawful : (qs ps : List Path) → list_all are_names qs ≡ true → list_all are_names ps ≡ true → list_all are_names (with_nodes qs ps) ≡ true
nodes-lawful [] ps e f = f
nodes-lawful (q ∷ qs) ps e f =
    let parts = and_parts (are_names q) (list_all are_names qs) e in
    nodes-lawful qs (with_node q ps) parts.1 (node-lawful q ps parts.0 f)

pub put-lawful : (p : Path) (n v : List ℕ) (es : List Value) → is_name n ≡ true → list_all is_named es ≡ true → list_all is_named (put p n v es) ≡ true
put-lawful p n v [] e f = and_from (is_name n) true e refl
put-lawful p n v (d ∷ ds) e f =
    let parts = and_parts (is_named d) (list_all is_named ds) f in
    one (is_of p n d) parts.0 parts.1 (put-lawful p n v ds e parts.1) where
      one : (t : Bool) → is_named d ≡ true → list_all is_named ds ≡ true → list_all is_named (put p n v ds) ≡ true → list_all is_named (if t then definition p n v ∷ ds else d ∷ put p n v ds) ≡ true
      one true first rest ih = and_from (is_name n) (list_all is_named ds) e rest
      one false first rest ih = and_from (is_named d) (list_all is_named (put p n v ds)) first ih

values-lawful : (ds es : List Value) → list_all is_named ds ≡ true → list_all is_named es ≡ true → list_all is_named (with_values ds es) ≡ true
values-lawful [] es e f = f
values-lawful (d ∷ ds) es e f =
    let parts = and_parts (is_named d) (list_all is_named ds) e in
    values-lawful ds (put d.path d.name d.value es) parts.1 (put-lawful d.path d.name d.value es parts.0 f)

-- ---- a part
drop-lawful : (q : Path) → are_names q ≡ true → are_names (drop 2 q) ≡ true
drop-lawful [] e = refl
drop-lawful (x ∷ []) e = refl
drop-lawful (x ∷ y ∷ q) e = (and_parts (is_name y) (are_names q) (and_parts (is_name x) (are_names (y ∷ q)) e).1).1

all-moved : (t : Path) (qs : List Path) → are_names t ≡ true → list_all are_names qs ≡ true → list_all are_names (map (moved t) qs) ≡ true
all-moved t [] e f = refl
all-moved t (q ∷ qs) e f =
    let parts = and_parts (are_names q) (list_all are_names qs) f in
    and_from (are_names (moved t q)) (list_all are_names (map (moved t) qs)) (all-both is_name t (drop 2 q) e (drop-lawful q parts.0)) (all-moved t qs e parts.1)

all-moved-values : (t : Path) (es : List Value) → list_all is_named es ≡ true → list_all is_named (map (moved_value t) es) ≡ true
all-moved-values t [] f = refl
all-moved-values t (e ∷ es) f =
    let parts = and_parts (is_named e) (list_all is_named es) f in
    and_from (is_named e) (list_all is_named (map (moved_value t) es)) parts.0 (all-moved-values t es parts.1)

part-lawful : (over : Resolved) (b t : Path) → IsLawful over → are_names t ≡ true → IsLawful (part_below over b t)
part-lawful over b t lawful e = record {
  nodes = all-moved t (filter _ over.nodes) e (all-filter are_names _ over.nodes lawful.nodes);
  properties = all-moved-values t (filter _ over.properties) (all-filter is_named _ over.properties lawful.properties);
}

abbrev done : Resolved → Result Resolved Fault
done t = Ok t

ok-is : (a b : Resolved) → done a ≡ done b → a ≡ b
ok-is a b e = cc

abbrev union : Resolved → Resolved → Resolved
union part t = record { nodes = with_nodes part.nodes t.nodes; properties = with_values part.properties t.properties }

union-lawful : (part t r : Resolved) → IsLawful part → IsLawful t → union part t ≡ r → IsLawful r
union-lawful part t r pl tl same = record {
  nodes = ap (λ x. list_all are_names x.nodes) (sym same) ∙ nodes-lawful part.nodes t.nodes pl.nodes tl.nodes;
  properties = ap (λ x. list_all is_named x.properties) (sym same) ∙ values-lawful part.properties t.properties pl.properties tl.properties;
}

by-tests : (part t r : Resolved) (a b : Bool) → IsLawful part → IsLawful t → (if a then Err PhandleClash else (if b then Err TooDeep else Ok (union part t))) ≡ Ok r → IsLawful r
by-tests part t r true b pl tl e = absurd (cc)
by-tests part t r false true pl tl e = absurd (cc)
by-tests part t r false false pl tl e = union-lawful part t r pl tl (ok-is (union part t) r e)

merged-lawful : (part t r : Resolved) → IsLawful part → IsLawful t → merged part t ≡ Ok r → IsLawful r
merged-lawful part t r pl tl e = by-tests part t r (list_any (clashes t.properties) part.properties) (list_any is_too_deep part.nodes) pl tl e

pub merged-at-lawful : (over : Resolved) (b : Path) (target : Option Path) (t r : Resolved) → IsLawful over → ((p : Path) → target ≡ Some p → are_names p ≡ true) → IsLawful t
    → merged_at over b target t ≡ Ok r → IsLawful r
merged-at-lawful over b None t r ol named tl e = absurd (cc)
merged-at-lawful over b (Some p) t r ol named tl e = merged-lawful (part_below over b p) t r (part-lawful over b p ol (named p refl)) tl e

-- ---- rows
module _ (d : LiveTree Lent) (whole : IsWhole d) where
  pub path-named : (f n : ℕ) → n ≤ f → n ≤ length d.nodes.items → are_names (node_path d n) ≡ true
  path-named f zero le known = refl
  path-named zero (suc k) le known = absurd (omega arith)
  path-named (suc f) (suc k) le known =
      let r = row_at d.nodes.items k in
      let up = whole.sound.grown k in
      ap are_names (path-step d.nodes.items whole.sound.grown k)
      ∙ all-snoc is_name (node_path d r.parent) r.name.now (path-named f r.parent (omega (arith, up)) (omega (arith, up))) (whole.named_nodes k no_row (omega arith))

  pub whole-lawful : IsLawful (lists d)
  whole-lawful = record { nodes = whole-nodes-named d whole; properties = whole-properties-named d whole }

patched_lists-named : (path : ℕ → Path) (value : ℕ → List ℕ) (k : ℕ) (rs : List (PropertyRow Lent)) → All (λ r. is_name r.name.now ≡ true) rs → list_all is_named (patched_from path value k rs) ≡ true
patched_lists-named path value k [] all = refl
patched_lists-named path value k (r ∷ rs) all =
    and_from (is_name r.name.now) (list_all is_named (patched_from path value (k + 1) rs)) (all 0 no_property (omega arith)) (patched_lists-named path value (k + 1) rs (λ j x lt. all (suc j) x (omega arith)))

pub patched-lawful : (s : PatchedOverlay) → IsPatched s → IsLawful (patched_lists s)
patched-lawful s sound = record {
  nodes = (whole-lawful s.live sound.whole).nodes;
  properties = patched_lists-named (path_of s.live.nodes.items) (value_at s) 0 s.live.properties.items sound.whole.named_properties;
}

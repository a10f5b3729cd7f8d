-- What a value's references are, by their targets.
use Rattle.std.proofs.Common.{◌≡◌, Option, Some, None, ℕ, Bool, true, false, List, [], ◌∷◌, ◌++◌, get_or, drop, map, Result, Ok, Err, if◌then◌else◌, refl, sym, ap, ap₂, ◌∙◌, append_assoc}
use Rattle.std.specs.Option.{option_map}
use Rattle.std.specs.List.{flat_map}
use Rattle.std.proofs.lemmas.List.{drop-drop}
use Rattle.dt_tree.specs.Steps.{then_do, each}
use Rattle.dt_tree.specs.Phandle.{is_reserved}
use Rattle.dt_source.specs.declared.tree.Part.{Part}
use Rattle.dt_source.specs.declared.tree.Part.TheVariants as parts
use Rattle.dt_source.specs.declared.tree.Reference.{Reference}
use Rattle.dt_source.specs.declared.tree.Reference.TheVariants as references
use Rattle.dt_source.specs.Tree.{part_view, target_view}
use Rattle.dt_source.specs.TreeMeaning.Paths.{Path}
use Rattle.dt_source.specs.TreeMeaning.Syntax.{OfPath, Piece}
use Rattle.dt_source.specs.TreeMeaning.Edits.{Definition, definition, State, label_path}
use Rattle.dt_source.specs.TreeMeaning.Statements.{Fault, ReservedName, found}
use Rattle.dt_source.specs.TreeMeaning.References.{Found, Bytes, Cell, Open, PathText, cell_at, cell_of, cell_of_label, found_in}
use Rattle.dt_build.specs.Resolve.Targets.{target_path}
use Rattle.dt_build.specs.Resolve.Founds.{uses, all_uses, label_in, cell_for, text_for, found_of, founds_of}

-- ---- what was found
by_kept : (q : Path) (f : Found) (b : Bool) → (if b then Err ReservedName else Ok (Cell q)) ≡ Ok f → (p : Path) × (f ≡ Cell p)
by_kept q f true h = absurd (cc)
by_kept q f false h = let e : f ≡ Cell q = cc in (q, e)

cell-is : (r : Result Path Fault) (f : Found) → then_do r cell_at ≡ Ok f → (q : Path) × (f ≡ Cell q)
cell-is (Err e) f h = absurd (cc)
cell-is (Ok q) f h = by_kept q f (is_reserved q) h

path-is : (r : Result Path Fault) (f : Found) → then_do r (λ q. Ok (PathText q)) ≡ Ok f → (q : Path) × (f ≡ PathText q)
path-is (Err e) f h = absurd (cc)
path-is (Ok q) f h = let e : f ≡ PathText q = cc in (q, e)

pub each-split : {A : Type 0} (r : Result A Fault) (rs : Result (List A) Fault) (xs : List A) → then_do r (λ b. then_do rs (λ bs. Ok (b ∷ bs))) ≡ Ok xs
    → (b : A) × (bs : List A) × (r ≡ Ok b) × (rs ≡ Ok bs) × (xs ≡ b ∷ bs)
each-split (Err e) rs xs h = absurd (cc)
each-split (Ok b) (Err e) xs h = absurd (cc)
each-split (Ok b) (Ok bs) xs h = let e : xs ≡ b ∷ bs = cc in (b, bs, refl, refl, e)

pub value-is : (r : Result (List Found) Fault) (p : Path) (n : List ℕ) (f : Definition (List Found)) → then_do r (λ v. Ok (definition p n v)) ≡ Ok f → (r ≡ Ok f.value) × (f.path ≡ p) × (f.name ≡ n)
value-is (Err e) p n f h = absurd (cc)
value-is (Ok v) p n f h =
    let e : definition p n v ≡ f = cc in
    (ap (λ (g : Definition (List Found)). Ok g.value) e, sym (ap (λ (g : Definition (List Found)). g.path) e), sym (ap (λ (g : Definition (List Found)). g.name) e))

-- ---- targets
module _ (path : ℕ → Path) where
  first-some : (ts : List (Option ℕ)) (q : Path) (rest : List (Option Path)) → map (option_map path) ts ≡ Some q ∷ rest
      → (n : ℕ) × (get_or ts 0 None ≡ Some n) × (path n ≡ q) × (map (option_map path) (drop 1 ts) ≡ rest)
  first-some [] q rest e = absurd (cc)
  first-some (None ∷ ts) q rest e = absurd (cc)
  first-some (Some n ∷ ts) q rest e =
      let a : path n ≡ q = cc in
      let b : map (option_map path) ts ≡ rest = cc in
      (n, refl, a, b)

  first-none : (ts : List (Option ℕ)) (rest : List (Option Path)) → map (option_map path) ts ≡ None ∷ rest → (get_or ts 0 None ≡ None) × (map (option_map path) (drop 1 ts) ≡ rest)
  first-none [] rest e = absurd (cc)
  first-none (None ∷ ts) rest e = let b : map (option_map path) ts ≡ rest = cc in (refl, b)
  first-none (Some n ∷ ts) rest e = absurd (cc)

  -- the node of a reference, and the targets behind it
  abbrev IsFirst : (Option ℕ → Found) → Found → List (Option ℕ) → List (Option Path) → Type 0
  IsFirst make f ts rest = (make (get_or ts 0 None) ≡ f) × (map (option_map path) (drop 1 ts) ≡ rest)

  cell-first : (t : Reference) (f : Found) (q : (p : Path) × (f ≡ Cell p)) (ts : List (Option ℕ)) (rest : List (Option Path)) → map (option_map path) ts ≡ target_path f ++ rest → IsFirst (cell_for path t) f ts rest
  cell-first t f q ts rest at =
      let n = first-some ts q.0 rest (at ∙ ap (λ g. target_path g ++ rest) q.1) in
      (ap (cell_for path t) n.1 ∙ ap Cell n.2 ∙ sym q.1, n.3)

  open-first : (t : Reference) (f : Found) → f ≡ Open (label_in t) → (ts : List (Option ℕ)) (rest : List (Option Path)) → map (option_map path) ts ≡ target_path f ++ rest → IsFirst (cell_for path t) f ts rest
  open-first t f is ts rest at =
      let n = first-none ts rest (at ∙ ap (λ g. target_path g ++ rest) is) in
      (ap (cell_for path t) n.0 ∙ sym is, n.1)

  path-first : (f : Found) (q : (p : Path) × (f ≡ PathText p)) (ts : List (Option ℕ)) (rest : List (Option Path)) → map (option_map path) ts ≡ target_path f ++ rest → IsFirst (text_for path) f ts rest
  path-first f q ts rest at =
      let n = first-some ts q.0 rest (at ∙ ap (λ g. target_path g ++ rest) q.1) in
      (ap (text_for path) n.1 ∙ ap PathText n.2 ∙ sym q.1, n.3)

module _ (plugin : Bool) (s : State (List Piece)) (path : ℕ → Path) where
  by_label : (t : Reference) (plugin : Bool) (o : Option Path) (f : Found) (ts : List (Option ℕ)) (rest : List (Option Path)) → cell_of_label plugin (label_in t) o ≡ Ok f → map (option_map path) ts ≡ target_path f ++ rest
      → IsFirst path (cell_for path t) f ts rest
  by_label t plugin (Some q) f ts rest h at = cell-first path t f (by_kept q f (is_reserved q) h) ts rest at
  by_label t true None f ts rest h at = let e : f ≡ Open (label_in t) = cc in open-first path t f e ts rest at
  by_label t false None f ts rest h at = absurd (cc)

  by_plugin : (t : List ℕ) (r : Reference) (plugin : Bool) (f : Found) (ts : List (Option ℕ)) (rest : List (Option Path))
      → cell_of plugin s (OfPath t) ≡ Ok f → map (option_map path) ts ≡ target_path f ++ rest → IsFirst path (cell_for path r) f ts rest
  by_plugin t r true f ts rest h at = absurd (cc)
  by_plugin t r false f ts rest h at = cell-first path r f (cell-is (found (OfPath t) s) f h) ts rest at

  cell-found : (t : Reference) (f : Found) (ts : List (Option ℕ)) (rest : List (Option Path)) → cell_of plugin s (target_view t) ≡ Ok f → map (option_map path) ts ≡ target_path f ++ rest
      → IsFirst path (cell_for path t) f ts rest
  cell-found (references.Label i l) f ts rest h at = by_label (references.Label i l) plugin (label_path l.now s.labels) f ts rest h at
  cell-found (references.Path i t) f ts rest h at = by_plugin t.now (references.Path i t) plugin f ts rest h at

  part-found : (x : Part) (f : Found) (ts : List (Option ℕ)) (rest : List (Option Path)) → found_in plugin s (part_view x) ≡ Ok f → map (option_map path) ts ≡ target_path f ++ rest
      → (found_of path x (get_or ts 0 None) ≡ f) × (map (option_map path) (drop (uses x) ts) ≡ rest)
  part-found (parts.Bytes b) f ts rest h at =
      let e : f ≡ Bytes b.items = cc in
      (sym e, at ∙ ap (λ g. target_path g ++ rest) e)
  part-found (parts.File g) f ts rest h at =
      let e : f ≡ Bytes [] = cc in
      (sym e, at ∙ ap (λ g. target_path g ++ rest) e)
  part-found (parts.Phandle t) f ts rest h at = cell-found t f ts rest h at
  part-found (parts.Path t) f ts rest h at = path-first path f (path-is (found (target_view t) s) f h) ts rest at

  -- a value, and the targets behind its own
  pub value-found : (v : List Part) (fs : List Found) (ts : List (Option ℕ)) (rest : List (Option Path)) → each (found_in plugin s) (map part_view v) ≡ Ok fs
      → map (option_map path) ts ≡ flat_map target_path fs ++ rest → (founds_of path v ts ≡ fs) × (map (option_map path) (drop (all_uses v) ts) ≡ rest)
  value-found [] fs ts rest h at =
      let e : fs ≡ [] = cc in
      (sym e, at ∙ ap (λ gs. flat_map target_path gs ++ rest) e)
  value-found (x ∷ v) fs ts rest h at =
      let split = each-split (found_in plugin s (part_view x)) (each (found_in plugin s) (map part_view v)) fs h in
      let first = part-found x split.0 ts (flat_map target_path split.1 ++ rest) split.2
      (at ∙ ap (λ gs. flat_map target_path gs ++ rest) split.4 ∙ append_assoc (target_path split.0) (flat_map target_path split.1) rest) in
      let more = value-found v split.1 (drop (uses x) ts) rest split.3 first.1 in
      (ap₂ (λ f gs. f ∷ gs) first.0 more.0 ∙ sym split.4, ap (map (option_map path)) (sym (drop-drop (all_uses v) (uses x) ts)) ∙ more.1)

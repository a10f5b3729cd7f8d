-- Reading the values of a state commutes with each edit.
use Rattle.std.proofs.Common.{◌≡◌, ℕ, Bool, true, false, not, List, [], ◌∷◌, map, Option, Some, None, Result, Ok, Err, if◌then◌else◌, refl, ap, ◌∙◌}
use Rattle.std.specs.List.{filter}
use Rattle.dt_tree.specs.Steps.{then_do}
use Rattle.dt_source.specs.TreeMeaning.Paths.{Path, same_path, is_within, is_listed}
use Rattle.dt_source.specs.TreeMeaning.Syntax.{Piece}
use Rattle.dt_source.specs.TreeMeaning.Edits.{State, Definition, definition, put, is_of, with_node, without_node, with_property, without_property, with_label, label_path, counted}
use Rattle.dt_source.specs.TreeMeaning.Statements.{Fault, DuplicateLabel, give_label, give_labels}
use Rattle.dt_build.specs.Edit.Said.{Parts, pieces, read_definition, read}

module _ {A B : Type 0} (h : A → B) (t : B → Bool) where
  one-filter : (x : A) (xs : List A) (b : Bool) → t (h x) ≡ b → filter t (map h xs) ≡ map h (filter (λ y. t (h y)) xs)
      → filter t (map h (x ∷ xs)) ≡ map h (filter (λ y. t (h y)) (x ∷ xs))
  one-filter x xs true e rest = rw e (ap (λ ys. h x ∷ ys) rest)
  one-filter x xs false e rest = rw e rest

  pub filter-read : (xs : List A) → filter t (map h xs) ≡ map h (filter (λ y. t (h y)) xs)
  filter-read [] = refl
  filter-read (x ∷ xs) = one-filter x xs (t (h x)) refl (filter-read xs)

pub put-read : (p : Path) (n : List ℕ) (v : Parts) (es : List (Definition Parts)) → put p n (pieces v) (map read_definition es) ≡ map read_definition (put p n v es)
put-read p n v [] = refl
put-read p n v (e ∷ es) = put-by (is_of p n e) (put-read p n v es) where
  put-by : (b : Bool) → put p n (pieces v) (map read_definition es) ≡ map read_definition (put p n v es)
      → (if b then definition p n (pieces v) ∷ map read_definition es else read_definition e ∷ put p n (pieces v) (map read_definition es))
      ≡ map read_definition (if b then definition p n v ∷ es else e ∷ put p n v es)
  put-by true rest = refl
  put-by false rest = ap (λ ys. read_definition e ∷ ys) rest

abbrev with_properties : List (Definition (List Piece)) → State Parts → State (List Piece)
with_properties es s = record { nodes = s.nodes; properties = es; labels = s.labels; fragments = s.fragments }

pub with_property-read : (p : Path) (n : List ℕ) (v : Parts) (s : State Parts) → with_property p n (pieces v) (read s) ≡ read (with_property p n v s)
with_property-read p n v s = ap (λ es. with_properties es s) (put-read p n v s.properties)

pub without_property-read : (p : Path) (n : List ℕ) (s : State Parts) → without_property p n (read s) ≡ read (without_property p n s)
without_property-read p n s = ap (λ es. with_properties es s) (filter-read read_definition (λ e. not (is_of p n e)) s.properties)

pub without_node-read : (p : Path) (s : State Parts) → without_node p (read s) ≡ read (without_node p s)
without_node-read p s = by-listed (is_listed p s.nodes) where
  gone : State Parts
  gone = record s { nodes = filter (λ q. not (is_within p q)) s.nodes; properties = filter (λ e. not (is_within p e.path)) s.properties; labels = filter (λ l. not (is_within p l.path)) s.labels }

  by-listed : (b : Bool) → (if b then record { nodes = filter (λ q. not (is_within p q)) s.nodes; properties = filter (λ e. not (is_within p e.path)) (map read_definition s.properties); labels = filter (λ l. not (is_within p l.path)) s.labels; fragments = s.fragments } else read s)
      ≡ read (if b then gone else s)
  by-listed true = ap (λ es. with_properties es gone) (filter-read read_definition (λ e. not (is_within p e.path)) s.properties)
  by-listed false = refl

-- ---- labels
-- what changes neither labels nor what a label adds
pub record KeepsLabels {A B : Type 0} (f : State A → State B) : Type 0 where
  pub labels : (s : State A) → (f s).labels ≡ s.labels
  pub given : (l : List ℕ) (p : Path) (s : State A) → with_label l p (f s) ≡ f (with_label l p s)

module _ {A B : Type 0} (f : State A → State B) (keeps : KeepsLabels f) where
  one-label : (l : List ℕ) (p : Path) (o : Option Path) (s : State A) → give_label l p o (f s) ≡ then_do (give_label l p o s) (λ t. Ok (f t))
  one-label l p None s = ap (λ t. Ok t) (keeps.given l p s)
  one-label l p (Some q) s = by-same (same_path p q) where
    by-same : (b : Bool) → (if b then Ok (f s) else Err DuplicateLabel) ≡ then_do (if b then Ok s else Err DuplicateLabel) (λ t. Ok (f t))
    by-same true = refl
    by-same false = refl

  then-labels : (ls : List (List ℕ)) (p : Path) (r : Result (State A) Fault) → ((s : State A) → give_labels ls p (f s) ≡ then_do (give_labels ls p s) (λ t. Ok (f t)))
      → then_do (then_do r (λ t. Ok (f t))) (give_labels ls p) ≡ then_do (then_do r (give_labels ls p)) (λ t. Ok (f t))
  then-labels ls p (Ok s) rest = rest s
  then-labels ls p (Err e) rest = refl

  pub give_labels-kept : (ls : List (List ℕ)) (p : Path) (s : State A) → give_labels ls p (f s) ≡ then_do (give_labels ls p s) (λ t. Ok (f t))
  give_labels-kept [] p s = refl
  give_labels-kept (l ∷ ls) p s =
      ap (λ r. then_do r (give_labels ls p)) (ap (λ xs. give_label l p (label_path l xs) (f s)) (keeps.labels s) ∙ one-label l p (label_path l s.labels) s)
      ∙ then-labels ls p (give_label l p (label_path l s.labels) s) (give_labels-kept ls p)

pub with_node-keeps : {A : Type 0} (q : Path) → KeepsLabels {A = A} {B = A} (with_node q)
with_node-keeps q = record { labels = λ s. refl; given = λ l p s. refl }

-- ---- the same, after so many fragments
abbrev pub read_state : ℕ → State Parts → State (List Piece)
read_state made s = counted made (read s)

pub without_node-counted : {V : Type 0} (made : ℕ) (p : Path) (s : State V) → without_node p (counted made s) ≡ counted made (without_node p s)
without_node-counted {V} made p s = by-listed (is_listed p s.nodes) where
  gone : State V
  gone = record s { nodes = filter (λ q. not (is_within p q)) s.nodes; properties = filter (λ e. not (is_within p e.path)) s.properties; labels = filter (λ l. not (is_within p l.path)) s.labels }

  by-listed : (b : Bool) → (if b then counted made gone else counted made s) ≡ counted made (if b then gone else s)
  by-listed true = refl
  by-listed false = refl

pub without_node-read_state : (made : ℕ) (p : Path) (s : State Parts) → without_node p (read_state made s) ≡ read_state made (without_node p s)
without_node-read_state made p s = without_node-counted made p (read s) ∙ ap (counted made) (without_node-read p s)

pub showing-keeps : (made : ℕ) → KeepsLabels (read_state made)
showing-keeps made = record { labels = λ s. refl; given = λ l p s. refl }

-- One property after the other.
use Rattle.std.proofs.Common.{◌≡◌, ℕ, ◌+◌, ◌<◌, Bool, true, false, List, [], ◌∷◌, length, get_or, drop, map, Result, Ok, Err, if◌then◌else◌, refl, sym, ap, ◌∙◌}
use Rattle.std.proofs.lemmas.List.{at_drop_more}
use Rattle.dt_tree.specs.Steps.{then_do}
use Rattle.dt_source.specs.TreeMeaning.Syntax.{Piece}
use Rattle.dt_source.specs.TreeMeaning.Edits.{Definition}
use Rattle.dt_source.specs.TreeMeaning.Statements.{Fault}
use Rattle.dt_source.specs.TreeMeaning.Phandles.{PathPhandle, is_phandle, phandle_value, given_one, given_of}
use Rattle.dt_build.specs.declared.resolve.error.BuildErrorKind.{BuildErrorKind}
use Rattle.dt_build.specs.Resolve.BuildFault.{IsFault}
use Rattle.dt_build.proofs.ResolveLemmas.Faults.{fault-then, fault-same}

one-ok : (r : Result (List PathPhandle) Fault) (es : List (Definition (List Piece))) → then_do r (given_of es) ≡ then_do (then_do r (given_of [])) (given_of es)
one-ok (Ok xs) es = refl
one-ok (Err f) es = refl

split-by : (b : Bool) (r : Result (List PathPhandle) Fault) (es : List (Definition (List Piece))) (xs : List PathPhandle)
    → (if b then then_do r (given_of es) else given_of es xs) ≡ then_do (if b then then_do r (given_of []) else given_of [] xs) (given_of es)
split-by true r es xs = one-ok r es
split-by false r es xs = refl

-- the first property, then the others
pub given-split : (e : Definition (List Piece)) (es : List (Definition (List Piece))) (xs : List PathPhandle) → given_of (e ∷ es) xs ≡ then_do (given_of (e ∷ []) xs) (given_of es)
given-split e es xs = split-by (is_phandle e) (given_one e.path (phandle_value e.value) xs) es xs

module _ {A : Type 0} (read : A → Definition (List Piece)) (items : List A) (i : ℕ) (x : A) (within : i < length items) (is : x ≡ get_or items i x) (xs : List PathPhandle) (whole : Result (List PathPhandle) Fault)
    (rest : given_of (map read (drop i items)) xs ≡ whole) where
  at-item : given_of (map read (drop i items)) xs ≡ then_do (given_of (read x ∷ []) xs) (given_of (map read (drop (i + 1) items)))
  at-item =
      at_drop_more (λ (ys : List A). given_of (map read ys) xs) items i x within
      ∙ ap (λ (y : A). given_of (read y ∷ map read (drop (i + 1) items)) xs) (sym is)
      ∙ given-split (read x) (map read (drop (i + 1) items)) xs

  pub given-goes-on : (ys : List PathPhandle) → given_of (read x ∷ []) xs ≡ Ok ys → given_of (map read (drop (i + 1) items)) ys ≡ whole
  given-goes-on ys step = sym (ap (λ r. then_do r (given_of (map read (drop (i + 1) items)))) step) ∙ sym at-item ∙ rest

  pub given-stops : (e : BuildErrorKind) → IsFault e (given_of (read x ∷ []) xs) → IsFault e whole
  given-stops e fault =
      fault-same e (then_do (given_of (read x ∷ []) xs) (given_of (map read (drop (i + 1) items)))) whole (sym rest ∙ at-item)
      (fault-then e (given_of (read x ∷ []) xs) (given_of (map read (drop (i + 1) items))) fault)

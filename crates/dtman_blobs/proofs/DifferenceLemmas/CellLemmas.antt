-- A value in cells, the first of them taken.
use Rattle.std.proofs.Common.{◌≡◌, ℕ, ◌-◌, ◌<◌, ◌≤◌, Bool, true, false, if◌then◌else◌, List, [], ◌∷◌, ◌++◌, length, take, drop, Option, Some, refl, ap, sym, ◌∙◌, arith}
use Rattle.std.specs.Prelude.{◌==◌}
use Rattle.std.specs.Option.{option_map_or}
use Rattle.std.specs.Int.{from_be_bytes, w32}
use Rattle.std.proofs.lemmas.Bool.Decides.{Decides-eqb}
use Rattle.dtman_blobs.specs.declared.difference.parts.Seen.{Seen}
use Rattle.dtman_blobs.specs.declared.difference.form.Form.{Form as CodeForm}
use Rattle.dtman_blobs.specs.Difference.Named.{NamedNode, named_by}
use Rattle.dtman_blobs.specs.Difference.Private.Left.{seen_left}
use Rattle.dtman_blobs.specs.Difference.Private.FormView.{form_data}
use Rattle.dtman_blobs.specs.Difference.Forms.{Form}
use Rattle.dtman_blobs.specs.Difference.Seen.{Part, number, plain, phandle_part, cells_behind, cells_seen}

module _ (names : ℕ → Option NamedNode) (form : Form) where
  -- what stands first, and what behind it
  abbrev pub next_seen : ℕ → List ℕ → List ℕ → List Part
  next_seen left cell more =
      if left == 0
      then (let named = names (from_be_bytes w32 cell) in phandle_part cell named ∷ cells_seen names form (cells_behind form named) more)
      else number cell ∷ cells_seen names form (left - 1) more

  of-cell : (left : ℕ) (cell more : List ℕ) → length cell ≡ 4 → cells_seen names form left (cell ++ more) ≡ next_seen left cell more
  of-cell left [] more h = absurd (omega arith)
  of-cell left (a ∷ []) more h = absurd (omega arith)
  of-cell left (a ∷ b ∷ []) more h = absurd (omega arith)
  of-cell left (a ∷ b ∷ c ∷ []) more h = absurd (omega arith)
  of-cell left (a ∷ b ∷ c ∷ d ∷ []) more h = refl
  of-cell left (a ∷ b ∷ c ∷ d ∷ e ∷ others) more h = absurd (omega arith)

  pub cells-next : (left : ℕ) (bytes cell more : List ℕ) → bytes ≡ cell ++ more → length cell ≡ 4 → cells_seen names form left bytes ≡ next_seen left cell more
  cells-next left bytes cell more is h = ap (cells_seen names form left) is ∙ of-cell left cell more h

  pub cells-short : (left : ℕ) (bytes : List ℕ) → length bytes < 4 → cells_seen names form left bytes ≡ plain bytes
  cells-short left [] h = refl
  cells-short left (a ∷ []) h = refl
  cells-short left (a ∷ b ∷ []) h = refl
  cells-short left (a ∷ b ∷ c ∷ []) h = refl
  cells-short left (a ∷ b ∷ c ∷ d ∷ others) h = absurd (omega arith)

  pub inside-next : (left : ℕ) (cell more : List ℕ) → 0 < left → next_seen left cell more ≡ number cell ∷ cells_seen names form (left - 1) more
  inside-next left cell more h = by_test (left == 0) refl where
    by_test : (t : Bool) → (left == 0) ≡ t
        → (if t then (let named = names (from_be_bytes w32 cell) in phandle_part cell named ∷ cells_seen names form (cells_behind form named) more) else number cell ∷ cells_seen names form (left - 1) more)
        ≡ number cell ∷ cells_seen names form (left - 1) more
    by_test true e = absurd (let z : left ≡ 0 = (Decides-eqb left 0).0 e in omega arith)
    by_test false e = refl

  pub first-next : (left : ℕ) (cell more : List ℕ) (part : Part) (cells : ℕ) (named : Option NamedNode) → left ≤ 0 → named ≡ names (from_be_bytes w32 cell) → part ≡ phandle_part cell named
      → cells ≡ cells_behind form named → next_seen left cell more ≡ part ∷ cells_seen names form cells more
  first-next left cell more part cells named h found is behind =
      let z : (left == 0) ≡ true = (Decides-eqb left 0).1 (omega arith) in
      ap (λ (t : Bool). if t then (let named = names (from_be_bytes w32 cell) in phandle_part cell named ∷ cells_seen names form (cells_behind form named) more) else number cell ∷ cells_seen names form (left - 1) more) z
      ∙ ap (λ (o : Option NamedNode). phandle_part cell o ∷ cells_seen names form (cells_behind form o) more) (sym found)
      ∙ (λ i. sym is i ∷ cells_seen names form (sym behind i) more)

pub cell-whole : (cell : List ℕ) → length cell ≡ 4 → take 4 (drop 0 cell) ≡ cell
cell-whole [] h = absurd (omega arith)
cell-whole (a ∷ []) h = absurd (omega arith)
cell-whole (a ∷ b ∷ []) h = absurd (omega arith)
cell-whole (a ∷ b ∷ c ∷ []) h = absurd (omega arith)
cell-whole (a ∷ b ∷ c ∷ d ∷ []) h = refl
cell-whole (a ∷ b ∷ c ∷ d ∷ e ∷ others) h = absurd (omega arith)

-- a value with cells in it
pub left-of : (s : Seen) (form : CodeForm) → s.form ≡ Some form → seen_left s ≡ cells_seen (named_by s.naming.now) (form_data form) s.left s.rest.now
left-of s form is = ap (λ (o : Option CodeForm). option_map_or (λ f. cells_seen (named_by s.naming.now) (form_data f) s.left s.rest.now) o (plain s.rest.now)) is

pub left-next : (s : Seen) (form : CodeForm) (cell more : List ℕ) → s.form ≡ Some form → s.rest.now ≡ cell ++ more → length cell ≡ 4 → seen_left s ≡ next_seen (named_by s.naming.now) (form_data form) s.left cell more
left-next s form cell more is split h = left-of s form is ∙ cells-next (named_by s.naming.now) (form_data form) s.left s.rest.now cell more split h

-- A value that is a text as a string, and the names of nodes.
use Rattle.std.proofs.Common.{◌≡◌, ◌≢◌, ◌<◌, ℕ, zero, suc, ◌+◌, Bool, true, false, None, List, [], ◌∷◌, ◌++◌, length, get_or, take, refl, sym, ap, ◌∙◌, length-append, arith}
use Rattle.std.specs.Str.{bytes_eq}
use Rattle.dt_source.specs.declared.tree.FilePart.{FilePart}
use Rattle.dt_source.specs.declared.tree.Part.{Part}
use Rattle.dt_source.specs.declared.tree.Part.TheVariants as parts
use Rattle.dt_source.specs.declared.tree.Reference.{Reference}
use Rattle.dt_source.specs.TreeMeaning.Paths.{Path}
use Rattle.dt_source.specs.TreeMeaning.DtcResolved.{is_string_of, last_name}
use Rattle.dt_source.specs.TreeMeaning.References.{Found, Bytes, Cell, Open, PathText}
use Rattle.dt_live.specs.declared.live_tree.NodeRow.{NodeRow}
use Rattle.dt_live.specs.Rows.{IsGrown, no_row, path_of, row_at}
use Rattle.dt_live.proofs.Climbs.{path-step}
use Rattle.dt_build.specs.Resolve.Founds.{found_of, founds_of}
use Rattle.std.proofs.lemmas.List.{get_or_default}
use Rattle.std.proofs.lemmas.Slice.Eq.{bytes_eq-Decides}

-- a test that would say more than is so
not-same : (xs ys : List ℕ) → (xs ≡ ys → ⊥) → bytes_eq xs ys ≡ false
not-same xs ys apart = by (bytes_eq xs ys) refl where
  by : (b : Bool) → bytes_eq xs ys ≡ b → b ≡ false
  by true e = absurd (apart ((bytes_eq-Decides xs ys).0 e))
  by false e = refl

last-is : (text : List ℕ) (d : ℕ) → get_or (text ++ 0 ∷ []) (length text) d ≡ 0
last-is [] d = refl
last-is (c ∷ cs) d = last-is cs d

pub other-length : (value text : List ℕ) → length value ≢ length text + 1 → bytes_eq value (text ++ 0 ∷ []) ≡ false
other-length value text other = not-same value (text ++ 0 ∷ []) (λ e. other (ap length e ∙ length-append text (0 ∷ [])))

pub other-last : (value text : List ℕ) (d : ℕ) → get_or value (length text) d ≢ 0 → bytes_eq value (text ++ 0 ∷ []) ≡ false
other-last value text d other = not-same value (text ++ 0 ∷ []) (λ e. other (ap (λ (xs : List ℕ). get_or xs (length text) d) e ∙ last-is text d))

same-tests : (a b : Bool) → (a ≡ true → b ≡ true) → (b ≡ true → a ≡ true) → a ≡ b
same-tests true b f g = sym (f refl)
same-tests false true f g = g refl
same-tests false false f g = refl

-- a value of this length is what stands before its last byte and that byte
split : (value : List ℕ) (n d : ℕ) → length value ≡ n + 1 → value ≡ take n value ++ get_or value n d ∷ []
split [] n d long = absurd (omega (arith, long))
split (v ∷ []) zero d long = refl
split (v ∷ w ∷ vs) zero d long = absurd (omega (arith, long))
split (v ∷ vs) (suc n) d long = ap (λ xs. v ∷ xs) (split vs n d (omega (arith, long)))

front-is : (xs ys : List ℕ) (z : ℕ) → length xs ≡ length ys → xs ++ z ∷ [] ≡ ys ++ z ∷ [] → xs ≡ ys
front-is [] [] z long e = refl
front-is [] (y ∷ ys) z long e = absurd (omega (arith, long))
front-is (x ∷ xs) [] z long e = absurd (omega (arith, long))
front-is (x ∷ xs) (y ∷ ys) z long e =
    let first : x ≡ y = cc in
    let rest : xs ++ z ∷ [] ≡ ys ++ z ∷ [] = cc in
    ap (λ c. c ∷ xs) first ∙ ap (λ zs. y ∷ zs) (front-is xs ys z (omega (arith, long)) rest)

pub string-is : (value text : List ℕ) (d : ℕ) → length value ≡ length text + 1 → get_or value (length text) d ≡ 0 → bytes_eq (take (length text) value) text ≡ bytes_eq value (text ++ 0 ∷ [])
string-is value text d long last =
    let n = length text in
    let whole : value ≡ take n value ++ 0 ∷ [] = split value n d long ∙ ap (λ z. take n value ++ z ∷ []) last in
    let short : length (take n value) ≡ n = omega (arith, ap length whole, length-append (take n value) (0 ∷ []), long) in
    same-tests (bytes_eq (take n value) text) (bytes_eq value (text ++ 0 ∷ []))
    (λ e. (bytes_eq-Decides value (text ++ 0 ∷ [])).1 (whole ∙ ap (λ xs. xs ++ 0 ∷ []) ((bytes_eq-Decides (take n value) text).0 e)))
    (λ e. (bytes_eq-Decides (take n value) text).1 (front-is (take n value) text 0 short (sym whole ∙ (bytes_eq-Decides value (text ++ 0 ∷ [])).0 e)))

-- ---- parts
two-parts : (text : List ℕ) (f g : Found) (fs : List Found) → is_string_of text (f ∷ g ∷ fs) ≡ false
two-parts text (Bytes b) g fs = refl
two-parts text (Cell q) g fs = refl
two-parts text (Open l) g fs = refl
two-parts text (PathText q) g fs = refl

module _ (text : List ℕ) (path : ℕ → Path) where
  pub not-alone : (v : List Part) → length v ≢ 1 → is_string_of text (founds_of path v []) ≡ false
  not-alone [] h = refl
  not-alone (x ∷ []) h = absurd (h refl)
  not-alone (x ∷ y ∷ v) h = two-parts text (found_of path x None) _ _

  no-empty : (s : List ℕ) → bytes_eq [] (s ++ 0 ∷ []) ≡ false
  no-empty [] = refl
  no-empty (c ∷ cs) = refl

  -- the text of a path has its node, or no bytes
  pub not-path : (r : Reference) → is_string_of text (founds_of path (parts.Path r ∷ []) []) ≡ false
  not-path r = no-empty text

module _ (text : List ℕ) where
  none-empty : (s : List ℕ) → bytes_eq [] (s ++ 0 ∷ []) ≡ false
  none-empty [] = refl
  none-empty (c ∷ cs) = refl

  -- a file that wasn't read has no bytes
  pub not-file : (path : ℕ → Path) (f : FilePart) → is_string_of text (founds_of path (parts.File f ∷ []) []) ≡ false
  not-file path f = none-empty text

-- ---- the last name of a node's path
pub last-behind : (p : Path) (n : List ℕ) → last_name (p ++ n ∷ []) ≡ n
last-behind [] n = refl
last-behind (m ∷ []) n = refl
last-behind (m ∷ k ∷ ks) n = last-behind (k ∷ ks) n

pub node-name : (rows : List NodeRow) → IsGrown rows → (n k : ℕ) → n ≡ suc k → (b : NodeRow) → k < length rows → (get_or rows k b).name.now ≡ last_name (path_of rows n)
node-name rows grown n k is b below =
    ap (λ (r : NodeRow). r.name.now) (get_or_default rows k b no_row below)
    ∙ sym (ap (λ m. last_name (path_of rows m)) is ∙ ap last_name (path-step rows grown k) ∙ last-behind (path_of rows (row_at rows k).parent) (row_at rows k).name.now)

-- The lists of what stands, after one edit of the rows.
use Rattle.std.proofs.Common.{◌≡◌, ◌≢◌, ◌⊎◌, inl, inr, ℕ, zero, suc, ◌<◌, ◌≤◌, Bool, true, false, not, ◌&&◌, ◌||◌, List, [], ◌∷◌, ◌++◌, length, slice_set, Option, Some, None, if◌then◌else◌, refl, sym, ap, ap₂, ◌∙◌, true≢false, append_assoc, arith}
use Rattle.std.specs.List.{filter}
use Rattle.std.proofs.lemmas.Bool.{and_parts, and_from, cases_eq}
use Rattle.std.proofs.lemmas.List.Elements.{filter-append}
use Rattle.std.specs.Str.{bytes_eq}
use Rattle.std.proofs.lemmas.Slice.Eq.{bytes_eq-Decides}
use Rattle.dt_live.specs.declared.live_tree.PropertyRow.{PropertyRow}
use Rattle.dt_source.specs.TreeMeaning.Paths.{Path, same_path, is_listed}
use Rattle.dt_source.specs.TreeMeaning.Edits.{Definition, definition, is_of, put}
use Rattle.dt_live.specs.Rows.{standing, standing_properties, valued, property_at}
use Rattle.dt_live.proofs.PathTests.{same-is, same-itself}

-- ---- paths of nodes that stand

pub standing-same : (p p' : ℕ → Path) (g g' : ℕ → Bool) (n : ℕ) → ((k : ℕ) → k ≤ n → p' k ≡ p k) → ((k : ℕ) → k ≤ n → g' k ≡ g k) → standing p' g' n ≡ standing p g n
standing-same p p' g g' zero ps gs = refl
standing-same p p' g g' (suc k) ps gs =
    ap₂ (λ xs ys. xs ++ ys)
    (standing-same p p' g g' k (λ j le. ps j (omega arith)) (λ j le. gs j (omega arith)))
    (ap₂ (λ b q. if b then q ∷ [] else []) (gs (suc k) (omega arith)) (ps (suc k) (omega arith)))

kept-one : (t : Path → Bool) (b : Bool) (q : Path) → filter t (if b then q ∷ [] else []) ≡ (if b && t q then q ∷ [] else [])
kept-one t false q = refl
kept-one t true q = kept-by (t q) refl where
  kept-by : (b : Bool) → t q ≡ b → filter t (q ∷ []) ≡ (if b then q ∷ [] else [])
  kept-by true e = rw e refl
  kept-by false e = rw e refl

pub standing-filter : (p : ℕ → Path) (g g' : ℕ → Bool) (t : Path → Bool) (n : ℕ) → ((k : ℕ) → g' k ≡ (g k && t (p k))) → standing p g' n ≡ filter t (standing p g n)
standing-filter p g g' t zero gs = refl
standing-filter p g g' t (suc k) gs =
    ap₂ (λ xs ys. xs ++ ys)
    (standing-filter p g g' t k gs)
    (ap (λ b. if b then p (suc k) ∷ [] else []) (gs (suc k)) ∙ sym (kept-one t (g (suc k)) (p (suc k))))
    ∙ sym (filter-append t (standing p g k) (if g (suc k) then p (suc k) ∷ [] else []))

or-assoc : (a b c : Bool) → (a || (b || c)) ≡ ((a || b) || c)
or-assoc true b c = refl
or-assoc false b c = refl

listed-append : (q : Path) (xs ys : List Path) → is_listed q (xs ++ ys) ≡ (is_listed q xs || is_listed q ys)
listed-append q [] ys = refl
listed-append q (x ∷ xs) ys = ap (λ c. same_path q x || c) (listed-append q xs ys) ∙ or-assoc (same_path q x) (is_listed q xs) (is_listed q ys)

or-right : (a b : Bool) → b ≡ true → (a || b) ≡ true
or-right true b e = refl
or-right false b e = e

or-left : (a b : Bool) → a ≡ true → (a || b) ≡ true
or-left true b e = refl
or-left false b e = absurd (true≢false (sym e))

or-either : (a b : Bool) → (a || b) ≡ true → (a ≡ true) ⊎ (b ≡ true)
or-either true b e = inl refl
or-either false b e = inr e

cases_last : (k m : ℕ) → suc k ≤ suc m → (k ≡ m) ⊎ (suc k ≤ m)
cases_last k m le = elim (cases_eq k m) [ inl same ↦ inl same | inr other ↦ inr (omega (arith, other)) ]

-- a node that stands is listed
pub listed-standing : (p : ℕ → Path) (g : ℕ → Bool) (n k : ℕ) → suc k ≤ n → g (suc k) ≡ true → is_listed (p (suc k)) (standing p g n) ≡ true
listed-standing p g zero k le there = absurd (omega arith)
listed-standing p g (suc m) k le there =
    listed-append (p (suc k)) (standing p g m) (if g (suc m) then p (suc m) ∷ [] else []) ∙ (elim (cases_last k m le) [
      | inl same ↦ or-right (is_listed (p (suc k)) (standing p g m)) (is_listed (p (suc k)) (if g (suc m) then p (suc m) ∷ [] else []))
          (ap (λ j. is_listed (p (suc k)) (if g (suc j) then p (suc j) ∷ [] else [])) (sym same)
          ∙ ap (λ b. is_listed (p (suc k)) (if b then p (suc k) ∷ [] else [])) there
          ∙ or-left (same_path (p (suc k)) (p (suc k))) false (same-itself (p (suc k))))
      | inr below ↦ or-left (is_listed (p (suc k)) (standing p g m)) (is_listed (p (suc k)) (if g (suc m) then p (suc m) ∷ [] else [])) (listed-standing p g m k below there)
    ])

last-listed : (x q : Path) (b : Bool) → is_listed q (if b then x ∷ [] else []) ≡ true → (b ≡ true) × (q ≡ x)
last-listed x q false e = absurd (true≢false (sym e))
last-listed x q true e = (refl, elim (or-either (same_path q x) false e) [ inl same ↦ same-is q x same | inr none ↦ absurd (true≢false (sym none)) ])

-- what is listed is the path of a node that stands
pub standing-listed : (p : ℕ → Path) (g : ℕ → Bool) (n : ℕ) (q : Path) → is_listed q (standing p g n) ≡ true → (k : ℕ) × (suc k ≤ n) × (g (suc k) ≡ true) × (q ≡ p (suc k))
standing-listed p g zero q e = absurd (true≢false (sym e))
standing-listed p g (suc m) q e =
    elim (or-either (is_listed q (standing p g m)) (is_listed q (if g (suc m) then p (suc m) ∷ [] else [])) (sym (listed-append q (standing p g m) (if g (suc m) then p (suc m) ∷ [] else [])) ∙ e)) [
      | inl before ↦ let r = standing-listed p g m q before in (r.0, omega (arith, r.1), r.2, r.3)
      | inr last ↦ let r = last-listed (p (suc m)) q (g (suc m)) last in (m, omega arith, r.0, r.1)
    ]

-- ---- properties

pub standing_properties-append : {V : Type 0} (p : ℕ → Path) (g : ℕ → Bool) (rs ss : List (PropertyRow V)) → standing_properties p g (rs ++ ss) ≡ standing_properties p g rs ++ standing_properties p g ss
standing_properties-append p g [] ss = refl
standing_properties-append p g (r ∷ rs) ss =
    ap (λ xs. (if g r.node then valued (p r.node) r.name.now r.value else []) ++ xs) (standing_properties-append p g rs ss)
    ∙ sym (append_assoc (if g r.node then valued (p r.node) r.name.now r.value else []) (standing_properties p g rs) (standing_properties p g ss))

-- the same nodes stand at the same paths, as far as the properties name them
pub standing_properties-same : {V : Type 0} (p p' : ℕ → Path) (g g' : ℕ → Bool) (m : ℕ) (rs : List (PropertyRow V)) → ((k : ℕ) → k ≤ m → p' k ≡ p k) → ((k : ℕ) → k ≤ m → g' k ≡ g k)
    → ((i : ℕ) → (property_at rs i).node ≤ m) → standing_properties p' g' rs ≡ standing_properties p g rs
standing_properties-same p p' g g' m [] ps gs known = refl
standing_properties-same p p' g g' m (r ∷ rs) ps gs known =
    ap₂ (λ xs ys. xs ++ ys)
    (ap₂ (λ b q. if b then valued q r.name.now r.value else []) (gs r.node (known 0)) (ps r.node (known 0)))
    (standing_properties-same p p' g g' m rs ps gs (λ i. known (suc i)))

none-either : {V : Type 0} (b : Bool) → [] ≡ (if b then valued {V = V} [] [] None else [])
none-either true = refl
none-either false = refl

kept-valued-by : {V : Type 0} (t : Path → Bool) (q : Path) (n : List ℕ) (v : V) (b : Bool) → t q ≡ b → filter (λ e. t e.path) (definition q n v ∷ []) ≡ (if b then definition q n v ∷ [] else [])
kept-valued-by t q n v true e = rw e refl
kept-valued-by t q n v false e = rw e refl

kept-valued : {V : Type 0} (t : Path → Bool) (b : Bool) (q : Path) (n : List ℕ) (v : Option V) → filter (λ e. t e.path) (if b then valued q n v else []) ≡ (if b && t q then valued q n v else [])
kept-valued t false q n v = refl
kept-valued t true q n None = none-either (t q)
kept-valued t true q n (Some v) = kept-valued-by t q n v (t q) refl

pub standing_properties-filter : {V : Type 0} (p : ℕ → Path) (g g' : ℕ → Bool) (t : Path → Bool) (rs : List (PropertyRow V)) → ((k : ℕ) → g' k ≡ (g k && t (p k))) → standing_properties p g' rs ≡ filter (λ e. t e.path) (standing_properties p g rs)
standing_properties-filter p g g' t [] gs = refl
standing_properties-filter p g g' t (r ∷ rs) gs =
    ap₂ (λ xs ys. xs ++ ys)
    (ap (λ b. if b then valued (p r.node) r.name.now r.value else []) (gs r.node) ∙ sym (kept-valued t (g r.node) (p r.node) r.name.now r.value))
    (standing_properties-filter p g g' t rs gs)
    ∙ sym (filter-append (λ e. t e.path) (if g r.node then valued (p r.node) r.name.now r.value else []) (standing_properties p g rs))

-- the same at paths that are the same
pub standing_properties-paths : {V : Type 0} (p p' : ℕ → Path) (g : ℕ → Bool) (rs : List (PropertyRow V)) → ((k : ℕ) → p' k ≡ p k) → standing_properties p' g rs ≡ standing_properties p g rs
standing_properties-paths p p' g [] ps = refl
standing_properties-paths p p' g (r ∷ rs) ps = ap₂ (λ q xs. (if g r.node then valued q r.name.now r.value else []) ++ xs) (ps r.node) (standing_properties-paths p p' g rs ps)

-- ---- a property is put
-- the row's property isn't this one, where it is shown
abbrev pub IsApart : {V : Type 0} → (ℕ → Path) → (ℕ → Bool) → Path → List ℕ → PropertyRow V → Type 0
IsApart {V} p g q n r = g r.node ≡ true → (v : V) → r.value ≡ Some v → (q ≡ p r.node) → (n ≡ r.name.now) → ⊥

is-of-apart : {V : Type 0} (q : Path) (n : List ℕ) (e : Definition V) (b : Bool) → is_of q n e ≡ b → (q ≡ e.path → n ≡ e.name → ⊥) → b ≡ false
is-of-apart q n e true is apart =
    let parts = and_parts (same_path q e.path) (bytes_eq n e.name) is in
    absurd (apart (same-is q e.path parts.0) ((bytes_eq-Decides n e.name).0 parts.1))
is-of-apart q n e false is apart = refl

put-behind : {V : Type 0} (p : ℕ → Path) (g : ℕ → Bool) (q : Path) (n : List ℕ) (v : V) (r : PropertyRow V) (b : Bool) (w : Option V) (rest : List (Definition V))
    → g r.node ≡ b → r.value ≡ w → IsApart p g q n r
    → put q n v ((if b then valued (p r.node) r.name.now w else []) ++ rest) ≡ (if b then valued (p r.node) r.name.now w else []) ++ put q n v rest
put-behind p g q n v r false w rest gb rw' apart = refl
put-behind p g q n v r true None rest gb rw' apart = refl
put-behind p g q n v r true (Some u) rest gb rw' apart =
    let e = definition (p r.node) r.name.now u in
    ap (λ b. if b then definition q n v ∷ rest else e ∷ put q n v rest)
    (is-of-apart q n e (is_of q n e) refl (λ paths names. apart gb u rw' paths names))

-- where no row has it, it goes last
pub put-last : {V : Type 0} (p : ℕ → Path) (g : ℕ → Bool) (q : Path) (n : List ℕ) (v : V) (rs : List (PropertyRow V)) → ((i : ℕ) → i < length rs → IsApart p g q n (property_at rs i))
    → put q n v (standing_properties p g rs) ≡ standing_properties p g rs ++ definition q n v ∷ []
put-last p g q n v [] apart = refl
put-last p g q n v (r ∷ rs) apart =
    put-behind p g q n v r (g r.node) r.value (standing_properties p g rs) refl refl (apart 0 (omega arith))
    ∙ ap (λ xs. (if g r.node then valued (p r.node) r.name.now r.value else []) ++ xs) (put-last p g q n v rs (λ i below. apart (suc i) (omega arith)))
    ∙ sym (append_assoc (if g r.node then valued (p r.node) r.name.now r.value else []) (standing_properties p g rs) (definition q n v ∷ []))

-- where a row has it and none before, it keeps its place
pub put-there : {V : Type 0} (p : ℕ → Path) (g : ℕ → Bool) (n : List ℕ) (v : V) (new : PropertyRow V) (rs : List (PropertyRow V)) (i : ℕ) → i < length rs
    → g (property_at rs i).node ≡ true → (property_at rs i).name.now ≡ n → (w : V) → (property_at rs i).value ≡ Some w
    → new.node ≡ (property_at rs i).node → new.name.now ≡ n → new.value ≡ Some v
    → ((j : ℕ) → j < i → IsApart p g (p (property_at rs i).node) n (property_at rs j))
    → put (p (property_at rs i).node) n v (standing_properties p g rs) ≡ standing_properties p g (slice_set rs i new)
put-there p g n v new [] i below there named w valued' node name value apart = absurd (omega arith)
put-there p g n v new (r ∷ rs) zero below there named w valued' node name value apart =
    let q = p r.node in
    ap₂ (λ b u. put q n v ((if b then valued q r.name.now u else []) ++ standing_properties p g rs)) there valued'
    ∙ ap (λ b. if b then definition q n v ∷ standing_properties p g rs else definition q r.name.now w ∷ put q n v (standing_properties p g rs)) (and_from (same_path q q) (bytes_eq n r.name.now) (same-itself q) ((bytes_eq-Decides n r.name.now).1 (sym named)))
    ∙ sym (ap (λ m. (if g m then valued (p m) new.name.now new.value else []) ++ standing_properties p g rs) node
    ∙ ap (λ b. (if b then valued q new.name.now new.value else []) ++ standing_properties p g rs) there
    ∙ ap₂ (λ k u. valued q k u ++ standing_properties p g rs) name value)
put-there p g n v new (r ∷ rs) (suc i) below there named w valued' node name value apart =
    put-behind p g (p (property_at rs i).node) n v r (g r.node) r.value (standing_properties p g rs) refl refl (apart 0 (omega arith))
    ∙ ap (λ xs. (if g r.node then valued (p r.node) r.name.now r.value else []) ++ xs)
    (put-there p g n v new rs i (omega arith) there named w valued' node name value (λ j under. apart (suc j) (omega arith)))

-- ---- a property is taken out
kept-behind : {V : Type 0} (p : ℕ → Path) (g : ℕ → Bool) (q : Path) (n : List ℕ) (r : PropertyRow V) (b : Bool) (w : Option V) (rest : List (Definition V))
    → g r.node ≡ b → r.value ≡ w → IsApart p g q n r
    → filter (λ e. not (is_of q n e)) ((if b then valued (p r.node) r.name.now w else []) ++ rest) ≡ (if b then valued (p r.node) r.name.now w else []) ++ filter (λ e. not (is_of q n e)) rest
kept-behind p g q n r false w rest gb rw' apart = refl
kept-behind p g q n r true None rest gb rw' apart = refl
kept-behind p g q n r true (Some u) rest gb rw' apart =
    let e = definition (p r.node) r.name.now u in
    rw (is-of-apart q n e (is_of q n e) refl (λ paths names. apart gb u rw' paths names)) refl

pub taken-nowhere : {V : Type 0} (p : ℕ → Path) (g : ℕ → Bool) (q : Path) (n : List ℕ) (rs : List (PropertyRow V)) → ((i : ℕ) → i < length rs → IsApart p g q n (property_at rs i))
    → filter (λ e. not (is_of q n e)) (standing_properties p g rs) ≡ standing_properties p g rs
taken-nowhere p g q n [] apart = refl
taken-nowhere p g q n (r ∷ rs) apart =
    kept-behind p g q n r (g r.node) r.value (standing_properties p g rs) refl refl (apart 0 (omega arith))
    ∙ ap (λ xs. (if g r.node then valued (p r.node) r.name.now r.value else []) ++ xs) (taken-nowhere p g q n rs (λ i below. apart (suc i) (omega arith)))

none-standing_properties : {V : Type 0} (p : ℕ → Path) (g : ℕ → Bool) (new : PropertyRow V) (b : Bool) → new.value ≡ None → [] ≡ (if b then valued (p new.node) new.name.now new.value else [])
none-standing_properties p g new true none = ap (λ w. valued (p new.node) new.name.now w) (sym none)
none-standing_properties p g new false none = refl

pub taken-there : {V : Type 0} (p : ℕ → Path) (g : ℕ → Bool) (n : List ℕ) (new : PropertyRow V) (rs : List (PropertyRow V)) (i : ℕ) → i < length rs
    → g (property_at rs i).node ≡ true → (property_at rs i).name.now ≡ n → (w : V) → (property_at rs i).value ≡ Some w → new.value ≡ None
    → ((j : ℕ) → j < length rs → j ≢ i → IsApart p g (p (property_at rs i).node) n (property_at rs j))
    → filter (λ e. not (is_of (p (property_at rs i).node) n e)) (standing_properties p g rs) ≡ standing_properties p g (slice_set rs i new)
taken-there p g n new [] i below there named w valued' none apart = absurd (omega arith)
taken-there {V} p g n new (r ∷ rs) zero below there named w valued' none apart =
    let q = p r.node in
    let t : Definition V → Bool = λ e. not (is_of q n e) in
    ap₂ (λ b u. filter t ((if b then valued q r.name.now u else []) ++ standing_properties p g rs)) there valued'
    ∙ ap (λ b. if not b then definition q r.name.now w ∷ filter t (standing_properties p g rs) else filter t (standing_properties p g rs)) (and_from (same_path q q) (bytes_eq n r.name.now) (same-itself q) ((bytes_eq-Decides n r.name.now).1 (sym named)))
    ∙ taken-nowhere p g q n rs (λ j under. apart (suc j) (omega arith) (λ e. absurd (omega (arith, e))))
    ∙ ap (λ xs. xs ++ standing_properties p g rs) (none-standing_properties p g new (g new.node) none)
taken-there p g n new (r ∷ rs) (suc i) below there named w valued' none apart =
    kept-behind p g (p (property_at rs i).node) n r (g r.node) r.value (standing_properties p g rs) refl refl (apart 0 (omega arith) (λ e. absurd (omega (arith, e))))
    ∙ ap (λ xs. (if g r.node then valued (p r.node) r.name.now r.value else []) ++ xs)
    (taken-there p g n new rs i (omega arith) there named w valued' none (λ j under other. apart (suc j) (omega arith) (λ e. other (omega (arith, e)))))

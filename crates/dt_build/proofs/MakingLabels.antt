-- The labels of nodes that stand, one row after the other.
use Rattle.std.proofs.Common.{◌≡◌, ℕ, zero, suc, ◌+◌, ◌-◌, ◌^◌, ◌<◌, min, Bool, true, false, List, [], ◌∷◌, ◌++◌, length, map, take, if◌then◌else◌, refl, sym, ap, ap₂, ◌∙◌, append-nil, true≢false, arith}
use Rattle.std.proofs.lemmas.List.{take_more, map-append}
use Rattle.dt_tree.specs.declared.property.Property.{Property}
use Rattle.dt_tree.specs.Name.{is_name}
use Rattle.dt_tree.specs.NodeData.{property_names}
use Rattle.dt_tree.specs.Path.{path_text}
use Rattle.dt_tree.specs.Sound.{are_distinct}
use Rattle.dt_source.specs.TreeMeaning.Names.{symbols_name}
use Rattle.dt_source.specs.TreeMeaning.Paths.{Path}
use Rattle.dt_source.specs.TreeMeaning.Edits.{Definition, definition, Label, labelled_at}
use Rattle.dt_source.specs.TreeMeaning.Resolved.{symbol}
use Rattle.dt_live.specs.declared.live_tree.LabelRow.{LabelRow}
use Rattle.dt_live.specs.Rows.{label_at, worn}
use Rattle.dt_live.proofs.Worn.{worn-append}
use Rattle.dt_live.proofs.Each.{Each}
use Rattle.dt_live.specs.Builder.Lists.{defined_at}
use Rattle.dt_live.specs.Builder.Sizes.{size_in}
use Rattle.dt_live.proofs.BuilderLemmas.MakingWalk.{names-defined}

defined-append : (q : Path) (xs ys : List Property) → defined_at q (xs ++ ys) ≡ defined_at q xs ++ defined_at q ys
defined-append q [] ys = refl
defined-append q (x ∷ xs) ys = ap (λ es. definition q x.name x.value ∷ es) (defined-append q xs ys)

size-behind : (xs : List (Definition (List ℕ))) (e : Definition (List ℕ)) → size_in (xs ++ e ∷ []) ≡ size_in xs + length e.value
size-behind [] e = omega arith
size-behind (x ∷ xs) e = omega (arith, size-behind xs e)

-- no label stands twice, so no property does
pub distinct-symbols : (ls : List Label) (ps : List Property) → are_distinct (map (λ l. l.label) ls) ≡ true → defined_at (symbols_name ∷ []) ps ≡ map symbol ls → are_distinct (property_names ps) ≡ true
distinct-symbols ls ps apart is = ap are_distinct (names-defined (symbols_name ∷ []) ps ∙ ap (map (λ e. e.name)) is ∙ labels ls) ∙ apart where
  labels : (xs : List Label) → map (λ e. e.name) (map symbol xs) ≡ map (λ l. l.label) xs
  labels [] = refl
  labels (x ∷ xs) = ap (λ ns. x.label ∷ ns) (labels xs)

module _ (path : ℕ → Path) (there : ℕ → Bool) where
  abbrev one : LabelRow → Bool → List Label
  one r b = if b then labelled_at r.label.now (path r.node) ∷ [] else []

  -- the labels of nodes that stand are lawful
  pub lawful-label : (rows : List LabelRow) → Each (λ l. is_name l.label ≡ true) (worn path there rows) → (k : ℕ) → k < length rows → there (label_at rows k).node ≡ true → is_name (label_at rows k).label.now ≡ true
  lawful-label [] h k below up = absurd (omega arith)
  lawful-label (r ∷ rs) h zero below up = first (there r.node) up h where
    first : (b : Bool) → b ≡ true → Each (λ l. is_name l.label ≡ true) (one r b ++ worn path there rs) → is_name r.label.now ≡ true
    first true e g = g.0
    first false e g = absurd (true≢false (sym e))
  lawful-label (r ∷ rs) h (suc k) below up = lawful-label rs (others (there r.node) h) k (omega arith) up where
    others : (b : Bool) → Each (λ l. is_name l.label ≡ true) (one r b ++ worn path there rs) → Each (λ l. is_name l.label ≡ true) (worn path there rs)
    others true g = g.1
    others false g = g

  module _ (rows : List LabelRow) (k : ℕ) (below : k < length rows) where
    worn-more : (b : Bool) → there (label_at rows k).node ≡ b → worn path there (take (k + 1) rows) ≡ worn path there (take k rows) ++ one (label_at rows k) b
    worn-more b stood =
        ap (worn path there) (take_more rows k _ below)
        ∙ worn-append path there (take k rows) (label_at rows k ∷ [])
        ∙ ap (λ ls. worn path there (take k rows) ++ ls) (append-nil (one (label_at rows k) (there (label_at rows k).node)) ∙ ap (one (label_at rows k)) stood)

    pub symbols-more : there (label_at rows k).node ≡ true → map symbol (worn path there (take (k + 1) rows)) ≡ map symbol (worn path there (take k rows)) ++ symbol (labelled_at (label_at rows k).label.now (path (label_at rows k).node)) ∷ []
    symbols-more stood = ap (map symbol) (worn-more true stood) ∙ map-append symbol (worn path there (take k rows)) (one (label_at rows k) true)

    pub symbols-same : there (label_at rows k).node ≡ false → map symbol (worn path there (take (k + 1) rows)) ≡ map symbol (worn path there (take k rows))
    symbols-same stood = ap (map symbol) (worn-more false stood ∙ append-nil (worn path there (take k rows)))

    pub property-more : there (label_at rows k).node ≡ true → (old new : List Property) (made : Property) → defined_at (symbols_name ∷ []) old ≡ map symbol (worn path there (take k rows))
        → defined_at (symbols_name ∷ []) (made ∷ []) ≡ symbol (labelled_at (label_at rows k).label.now (path (label_at rows k).node)) ∷ [] → new ≡ old ++ made ∷ []
        → defined_at (symbols_name ∷ []) new ≡ map symbol (worn path there (take (k + 1) rows))
    property-more stood old new made so is more =
        ap (defined_at (symbols_name ∷ [])) more ∙ defined-append (symbols_name ∷ []) old (made ∷ []) ∙ ap₂ (λ a b. a ++ b) so is ∙ sym (symbols-more stood)

    pub size-more : there (label_at rows k).node ≡ true → (old one_size new : ℕ) → old ≡ min (size_in (map symbol (worn path there (take k rows)))) (2 ^ 64 - 1)
        → one_size ≡ min (length (path_text (path (label_at rows k).node) ++ 0 ∷ [])) (2 ^ 64 - 1) → new ≡ min (old + one_size) (2 ^ 64 - 1)
        → new ≡ min (size_in (map symbol (worn path there (take (k + 1) rows)))) (2 ^ 64 - 1)
    size-more stood old one_size new a b e =
        let behind = size-behind (map symbol (worn path there (take k rows))) (symbol (labelled_at (label_at rows k).label.now (path (label_at rows k).node))) in
        omega (arith, ap size_in (symbols-more stood), behind)

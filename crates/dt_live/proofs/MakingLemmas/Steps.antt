-- The properties of a run, one more, and a phandle behind them.
use Rattle.std.proofs.Common.{◌≡◌, ℕ, ◌+◌, ◌<◌, ◌≤◌, List, [], ◌∷◌, ◌++◌, length, get_or, drop, map, refl, sym, ap, ap₂, ◌∙◌, append-nil, append_assoc}
use Rattle.std.specs.Prelude.{codes, None, Some, Vec}
use Rattle.std.specs.Global.{Global}
use Rattle.std.specs.Int.{to_be_bytes, w32}
use Rattle.std.proofs.Math.ListN.{drop_of_length-le}
use Rattle.std.proofs.lemmas.List.{at_drop_more, length-map, map-append}
use Rattle.dt_tree.specs.declared.property.Property.{Property}
use Rattle.dt_source.specs.TreeMeaning.Paths.{Path}
use Rattle.dt_source.specs.TreeMeaning.Edits.{definition}
use Rattle.dt_live.specs.Builder.Lists.{defined_at}
use Rattle.dt_live.proofs.BuilderLemmas.MakingWalk.{one-more}
use Rattle.dt_live.specs.declared.preorder.properties.NodeProperty.{NodeProperty}
use Rattle.dt_live.specs.Making.Made.{IsNext, entries, values_in}
use Rattle.dt_live.specs.Making.Private.Walks.{AreNext, AreOfNode}

abbrev pub names_in : List Property → List (List ℕ)
names_in ps = map (λ p. p.name) ps

abbrev pub bytes_in : List Property → List (List ℕ)
bytes_in ps = map (λ p. p.value) ps

module _ {V : Type 0} where
  abbrev pub names_of : List (NodeProperty V) → List (List ℕ)
  names_of xs = map (λ x. x.name.now) xs

  -- ---- one more
  module _ (run : List (NodeProperty V)) (i : ℕ) (x : NodeProperty V) (below : i < length run) (is : x ≡ get_or run i x) (old new : List Property) (y : Property) (step : new ≡ old ++ y ∷ []) where
    pub names-more : (whole : List (List ℕ)) → y.name ≡ x.name.now → names_in old ++ names_of (drop i run) ≡ whole → names_in new ++ names_of (drop (i + 1) run) ≡ whole
    names-more whole name so =
        let more = names_of (drop (i + 1) run) in
        ap (λ ps. names_in ps ++ more) step ∙ ap (λ ns. ns ++ more) (map-append (λ p. p.name) old (y ∷ [])) ∙ append_assoc (names_in old) (y.name ∷ []) more
        ∙ ap (λ n. names_in old ++ n ∷ more) (name ∙ ap (λ z. z.name.now) is)
        ∙ ap (λ ns. names_in old ++ ns) (sym (at_drop_more names_of run i x below)) ∙ so

    pub bytes-more : (was is_new : List V → List (List ℕ)) (b : List ℕ) → IsNext was is_new x.value b → y.value ≡ b → (vs : List V) (whole : List (List ℕ))
        → whole ≡ bytes_in old ++ was (values_in (drop i run) ++ vs) → whole ≡ bytes_in new ++ is_new (values_in (drop (i + 1) run) ++ vs)
    bytes-more was is_new b next value vs whole so =
        let more = is_new (values_in (drop (i + 1) run) ++ vs) in
        so
        ∙ ap (λ bs. bytes_in old ++ bs)
        (at_drop_more (λ ys. was (values_in ys ++ vs)) run i x below ∙ ap (λ z. was (z.value ∷ values_in (drop (i + 1) run) ++ vs)) (sym is) ∙ next (values_in (drop (i + 1) run) ++ vs)
        ∙ ap (λ c. c ∷ more) (sym value))
        ∙ sym (append_assoc (bytes_in old) (y.value ∷ []) more) ∙ ap (λ bs. bs ++ more) (sym (map-append (λ p. p.value) old (y ∷ []))) ∙ ap (λ ps. bytes_in ps ++ more) (sym step)

  -- ---- at the end
  pub names-all : (run : List (NodeProperty V)) (i : ℕ) (ns whole : List (List ℕ)) → length run ≤ i → ns ++ names_of (drop i run) ≡ whole → ns ≡ whole
  names-all run i ns whole over so = sym (append-nil ns) ∙ ap (λ ys. ns ++ names_of ys) (sym (drop_of_length-le run over)) ∙ so

  pub bytes-all : (run : List (NodeProperty V)) (i : ℕ) (f : List V → List (List ℕ)) (bs : List (List ℕ)) (vs : List V) (whole : List (List ℕ)) → length run ≤ i
      → whole ≡ bs ++ f (values_in (drop i run) ++ vs) → whole ≡ bs ++ f vs
  bytes-all run i f bs vs whole over so = so ∙ ap (λ ys. bs ++ f (values_in ys ++ vs)) (drop_of_length-le run over)

  -- ---- as properties of a node
  named-entries : (q : Path) (ps : List Property) (run : List (NodeProperty V)) → names_in ps ≡ names_of run → defined_at q ps ≡ entries (λ _. q) run (bytes_in ps)
  named-entries q [] [] e = refl
  named-entries q [] (x ∷ run) e = absurd (cc)
  named-entries q (p ∷ ps) [] e = absurd (cc)
  named-entries q (p ∷ ps) (x ∷ run) e =
      let name : p.name ≡ x.name.now = cc in
      let others : names_in ps ≡ names_of run = cc in
      ap₂ (λ n es. definition q n p.value ∷ es) name (named-entries q ps run others)

  module _ (old new : List V → List (List ℕ)) (run : List (NodeProperty V)) (list : Vec Property Global) (names : names_in list.items ≡ names_of run) (bytes : AreNext old new run (bytes_in list.items)) where
    abbrev ps : List Property
    ps = list.items

    long : length (bytes_in ps) ≡ length run
    long = length-map ps (λ p. p.value) ∙ sym (length-map ps (λ p. p.name)) ∙ ap length names ∙ length-map run (λ x. x.name.now)

    pub of-plain : AreOfNode old new run None list
    of-plain = record { values = bytes_in ps; count = long; next = bytes; properties = λ q. named-entries q ps run names ∙ sym (append-nil (entries (λ _. q) run (bytes_in ps))) }

  pub of-phandle : (old new : List V → List (List ℕ)) (run : List (NodeProperty V)) (ps more : Vec Property Global) → AreOfNode old new run None ps → (n : ℕ) (y : Property)
      → more.items ≡ ps.items ++ y ∷ [] → y.name ≡ codes "phandle" → y.value ≡ to_be_bytes w32 n → AreOfNode old new run (Some n) more
  of-phandle old new run ps more of n y step name value = record {
    values = of.values;
    count = of.count;
    next = of.next;
    properties = λ q. ap (defined_at q) step ∙ one-more q ps.items y
        ∙ ap₂ (λ es d. es ++ d ∷ []) (of.properties q ∙ append-nil (entries (λ _. q) run of.values)) (ap₂ (definition q) name value);
  }

-- The properties of one node are a run in the order of the walk.
use Rattle.std.proofs.Common.{◌≡◌, ℕ, zero, suc, ◌+◌, ◌<◌, ◌≤◌, ◌==◌, true, false, not, List, [], ◌∷◌, ◌++◌, length, get_or, take, drop, map, cond, refl, sym, ap, ap₂, ◌∙◌, subst, length-append, arith}
use Rattle.std.specs.Prelude.{All, Vec}
use Rattle.std.specs.Global.{Global}
use Rattle.std.specs.List.{flat_map, prefix_len}
use Rattle.std.proofs.Math.Seq.{take-append_seam, drop-append_seam}
use Rattle.std.proofs.lemmas.Bool.{and_parts}
use Rattle.std.proofs.lemmas.List.{drop-drop, drop-map, drop_more, length-drop, length-take, map-append}
use Rattle.dt_tree.specs.Name.{is_name}
use Rattle.dt_tree.specs.NodeData.{property_names}
use Rattle.dt_tree.specs.Sound.{are_distinct}
use Rattle.dt_tree.specs.declared.property.Property.{Property}
use Rattle.dt_source.specs.TreeMeaning.Paths.{Path, same_path, is_listed}
use Rattle.dt_source.specs.TreeMeaning.Edits.{Definition, definition}
use Rattle.dt_source.specs.TreeMeaning.References.{held, preorder}
use Rattle.dt_live.specs.Builder.Lists.{defined_at}
use Rattle.dt_live.specs.Builder.Standing.{are_apart}
use Rattle.dt_live.proofs.BuilderLemmas.InTurn.{each-once}
use Rattle.dt_live.proofs.BuilderLemmas.MakingWalk.{names-defined}
use Rattle.dt_live.proofs.BuilderLemmas.PathFacts.{not-true, same-is}
use Rattle.dt_live.specs.declared.live_tree.LiveTree.{LiveTree}
use Rattle.dt_live.specs.declared.preorder.Preorder.{Preorder}
use Rattle.dt_live.specs.declared.preorder.properties.NodeProperty.{NodeProperty}
use Rattle.dt_live.specs.Index.{row_of}
use Rattle.dt_live.specs.Rows.{is_standing, node_path}
use Rattle.dt_live.proofs.Each.{Each, each-all, each-drop, each-of, each-take}
use Rattle.dt_live.proofs.MakingNodes.{AreInOrder}
use Rattle.dt_live.proofs.Runs.{IsOther, Owns, apart-drop, each-held, none-held}
use Rattle.dt_live.proofs.StandingRows.{same-node}
use Rattle.dt_live.specs.Making.Made.{IsInPreorder, IsRest, Made, entries, phandle_at, values_in}
use Rattle.dt_live.specs.Making.Private.Walks.{AreOfNode}

abbrev Entry : Type 0
Entry = Definition (List ℕ)

module _ {V : Type 0} where
  entries-long : (path : ℕ → Path) (xs : List (NodeProperty V)) (bs : List (List ℕ)) → length (entries path xs bs) ≡ length xs
  entries-long path [] bs = refl
  entries-long path (x ∷ xs) bs = ap (λ n. suc n) (entries-long path xs (drop 1 bs))

  entries-append : (path : ℕ → Path) (xs ys : List (NodeProperty V)) (bs cs : List (List ℕ)) → length bs ≡ length xs → entries path (xs ++ ys) (bs ++ cs) ≡ entries path xs bs ++ entries path ys cs
  entries-append path [] ys [] cs long = refl
  entries-append path [] ys (b ∷ bs) cs long = absurd (omega (arith, long))
  entries-append path (x ∷ xs) ys [] cs long = absurd (omega (arith, long))
  entries-append path (x ∷ xs) ys (b ∷ bs) cs long = ap (λ es. definition (path x.node) x.name.now b ∷ es) (entries-append path xs ys bs cs (omega (arith, long)))

  -- those that are all of one path
  entries-at : (path : ℕ → Path) (q : Path) (xs : List (NodeProperty V)) (bs : List (List ℕ)) → Each (Owns q) (entries path xs bs) → entries (λ _. q) xs bs ≡ entries path xs bs
  entries-at path q [] bs own = refl
  entries-at path q (x ∷ xs) bs own =
      ap₂ (λ p es. definition p x.name.now (get_or bs 0 []) ∷ es) (same-is q (path x.node) own.0) (entries-at path q xs (drop 1 bs) own.1)

  take-all : (k : ℕ) (xs : List (NodeProperty V)) → take k xs ++ drop k xs ≡ xs
  take-all zero xs = refl
  take-all (suc k) [] = refl
  take-all (suc k) (x ∷ xs) = ap (λ ys. x ∷ ys) (take-all k xs)

module _ {V : Type 0} (d : LiveTree V) (y : Preorder V) (m : Made) (order : IsInPreorder d y m) where
  pub order-of : AreInOrder d y.nodes.items m.lists
  order-of = record { order = order.nodes; standing = order.standing; known = order.known }

  pub distinct-own : (q : Path) (ps : List Property) → defined_at q ps ≡ held m.lists.properties q → are_distinct (property_names ps) ≡ true
  distinct-own q ps e = ap are_distinct (names-defined q ps ∙ ap (map (λ x. x.name)) e) ∙ order.apart q

  abbrev Stands : NodeProperty V → Type 0
  Stands x = is_standing d x.node ≡ true

  tests : (n : ℕ) → is_standing d n ≡ true → (x : NodeProperty V) → Stands x → (n == x.node) ≡ same_path (node_path d n) (node_path d x.node)
  tests n up x stood = sym (same-node d.nodes.items (row_of d.node_rows) order.sound.grown order.sound.nodes n x.node up stood)

  run-long : (n : ℕ) → is_standing d n ≡ true → (ds os : List Entry) (xs : List (NodeProperty V)) (bs : List (List ℕ)) → entries (node_path d) xs bs ≡ ds ++ os
      → Each (Owns (node_path d n)) ds → Each (IsOther (node_path d n)) os → Each Stands xs → prefix_len (λ x. n == x.node) xs ≡ length ds
  run-long n up [] os [] bs e own other stand = refl
  run-long n up (a ∷ ds) os [] bs e own other stand = absurd (cc)
  run-long n up [] [] (x ∷ xs) bs e own other stand = absurd (cc)
  run-long n up [] (o ∷ os) (x ∷ xs) bs e own other stand =
      let first : definition (node_path d x.node) x.name.now (get_or bs 0 []) ≡ o = cc in
      ap (λ c. cond c (1 + prefix_len (λ z. n == z.node) xs) 0) (tests n up x stand.0 ∙ ap (λ (f : Entry). same_path (node_path d n) f.path) first ∙ other.0)
  run-long n up (a ∷ ds) os (x ∷ xs) bs e own other stand =
      let first : definition (node_path d x.node) x.name.now (get_or bs 0 []) ≡ a = cc in
      let others : entries (node_path d) xs (drop 1 bs) ≡ ds ++ os = cc in
      let more : prefix_len (λ z. n == z.node) xs ≡ length ds = run-long n up ds os xs (drop 1 bs) others own.1 other stand.1 in
      ap (λ c. cond c (1 + prefix_len (λ z. n == z.node) xs) 0) (tests n up x stand.0 ∙ ap (λ (f : Entry). same_path (node_path d n) f.path) first ∙ own.0) ∙ omega arith

  -- ---- the run of a node
  module _ (bytes_of : List V → List (List ℕ)) (k : ℕ) (below : k < length y.nodes.items) (j : ℕ) (rest : IsRest d y m bytes_of k j) (n : ℕ) (here : n ≡ get_or y.nodes.items k 0) where
    abbrev xs : List (NodeProperty V)
    xs = drop j y.properties.items

    abbrev q : Path
    q = node_path d n

    abbrev behind : List Path
    behind = map (node_path d) (drop (k + 1) y.nodes.items)

    abbrev mine : List Entry
    mine = held m.plain q

    abbrev others : List Entry
    others = flat_map (held m.plain) behind

    walk-here : drop k (preorder m.lists.nodes) ≡ q ∷ behind
    walk-here =
        ap (drop k) (sym order.nodes) ∙ drop-map (node_path d) k y.nodes.items ∙ ap (map (node_path d)) (drop_more y.nodes.items k 0 below)
        ∙ ap (λ i. node_path d i ∷ behind) (sym here)

    walk-behind : drop (k + 1) (preorder m.lists.nodes) ≡ behind
    walk-behind = ap (drop (k + 1)) (sym order.nodes) ∙ drop-map (node_path d) (k + 1) y.nodes.items

    split : entries (node_path d) xs (bytes_of (values_in xs)) ≡ mine ++ others
    split = rest.bytes ∙ ap (flat_map (held m.plain)) walk-here

    once : is_listed q behind ≡ false
    once =
        let apart = apart-drop k (preorder m.lists.nodes) (each-once m.lists.nodes order.standing) in
        not-true (is_listed q behind) (and_parts (not (is_listed q behind)) (are_apart behind) (ap are_apart (sym walk-here) ∙ apart)).0

    up : is_standing d n ≡ true
    up = ap (is_standing d) here ∙ order.there k 0 below

    long : prefix_len (λ x. n == x.node) xs ≡ length mine
    long =
        run-long n up mine others xs (bytes_of (values_in xs)) split (each-held m.plain q) (none-held m.plain q behind once)
        (each-drop Stands j y.properties.items (each-of Stands y.properties.items order.stand))

    within : length mine ≤ length xs
    within = omega (arith, sym (entries-long (node_path d) xs (bytes_of (values_in xs))), ap length split, length-append mine others)

    module _ (run : List (NodeProperty V)) (taken : run ≡ take (prefix_len (λ x. n == x.node) xs) xs) where
      pub run-named : All (λ x. is_name x.name.now ≡ true) run
      run-named =
          let P : NodeProperty V → Type 0 = λ x. is_name x.name.now ≡ true in
          subst (All P) (sym taken) (each-all P (take (prefix_len (λ x. n == x.node) xs) xs) (each-take P (prefix_len (λ x. n == x.node) xs) xs (each-drop P j y.properties.items (each-of P y.properties.items order.named))))

      length-run : length run ≡ length mine
      length-run = omega (arith, ap length taken, length-take (prefix_len (λ x. n == x.node) xs) xs, long, within)

      pub run-within : j + length run ≤ length y.properties.items
      run-within = omega (arith, rest.within, length-run, within, length-drop j y.properties.items)

      abbrev left : List (NodeProperty V)
      left = drop (j + length run) y.properties.items

      parts : xs ≡ run ++ left
      parts =
          sym (take-all (length mine) xs)
          ∙ ap₂ (λ a b. a ++ b) (sym (taken ∙ ap (λ c. take c xs) long)) (ap (λ c. drop c xs) (sym length-run) ∙ drop-drop (length run) j y.properties.items)

      module _ (new : List V → List (List ℕ)) (list : Vec Property Global) (of : AreOfNode bytes_of new run (m.new_phandle n) list) where
        both : mine ++ others ≡ entries (node_path d) run of.values ++ entries (node_path d) left (new (values_in left))
        both =
            sym split ∙ ap (λ zs. entries (node_path d) zs (bytes_of (values_in zs))) parts
            ∙ ap (λ vs. entries (node_path d) (run ++ left) (bytes_of vs)) (map-append (λ x. x.value) run left)
            ∙ ap (entries (node_path d) (run ++ left)) (of.next (values_in left)) ∙ entries-append (node_path d) run left of.values (new (values_in left)) of.count

        same-long : length mine ≡ length (entries (node_path d) run of.values)
        same-long = sym length-run ∙ sym (entries-long (node_path d) run of.values)

        own-is : entries (node_path d) run of.values ≡ mine
        own-is =
            sym (take-append_seam (entries (node_path d) run of.values) (entries (node_path d) left (new (values_in left))))
            ∙ ap₂ take (sym same-long) (sym both) ∙ take-append_seam mine others

        pub defined : defined_at (node_path d (get_or y.nodes.items k 0)) list.items ≡ held m.lists.properties (node_path d (get_or y.nodes.items k 0))
        defined =
            subst (λ (i : ℕ). defined_at (node_path d i) list.items ≡ held m.lists.properties (node_path d i)) here
            (of.properties q
            ∙ ap (λ es. es ++ phandle_at q (m.new_phandle n))
            (entries-at (node_path d) q run of.values (subst (λ (es : List Entry). Each (Owns q) es) (sym own-is) (each-held m.plain q)) ∙ own-is)
            ∙ sym (order.own n (subst (λ (i : ℕ). i ≤ length d.nodes.items) (sym here) (order.known k 0 below)) up))

        pub rest-next : (i : ℕ) → i ≡ j + length run → IsRest d y m new (k + 1) i
        rest-next i is = record {
          within = omega (arith, is, run-within);
          bytes = ap (λ c. entries (node_path d) (drop c y.properties.items) (new (values_in (drop c y.properties.items)))) is
              ∙ sym (drop-append_seam (entries (node_path d) run of.values) (entries (node_path d) left (new (values_in left))))
              ∙ ap₂ drop (sym same-long) (sym both) ∙ drop-append_seam mine others ∙ ap (flat_map (held m.plain)) (sym walk-behind);
        }

use Rattle.std.proofs.Common.{◌≡◌, ℕ, Bool, true, false, ◌&&◌, ◌==◌, List, [], ◌∷◌, ◌++◌, length, Some, None, ap, sym, ◌∙◌, arith}
use Rattle.std.specs.Prelude.{if◌then◌else◌}
use Rattle.dt_tree.specs.Name.{is_name}
use Rattle.dt_tree.specs.declared.property.Property.{Property}
use Rattle.dt_blob.specs.Steps.NodeBuilders.{NodeSoFar, State, node_so_far, so_far_of, inside, property_in}
use Rattle.dt_blob.proofs.read_nodes.add.Goals as goal

some_is : {A : Type 0} (x y : A) → Some x ≡ Some y → x ≡ y
some_is x y e = cc

put_by : (t : Bool) (n : ℕ) (s p : Property) (f : Property → State) → n ≡ 0 → (if t then Some s else None) ≡ Some p → (if t && n == 0 then Some (f s) else None) ≡ Some (f p)
put_by true n s p f e m = rw e (ap (λ (q : Property). Some (f q)) (some_is s p m))
put_by false n s p f e m = absurd (let bad : None ≡ Some p = m in cc)

property_put : (name value : List ℕ) (top : NodeSoFar) (ps : List Property) (p : Property) (outer : List NodeSoFar) → length top.children ≡ 0 → (if is_name name then Some (record { name = name; value = value }) else None) ≡ Some p → ps ≡ top.properties ++ p ∷ []
    → property_in (inside top outer) name value ≡ Some (inside (node_so_far top.name ps top.children) outer)
property_put name value top ps p outer none made is =
    put_by (is_name name) (length top.children) (record { name = name; value = value }) p (λ (q : Property). inside (node_so_far top.name (top.properties ++ q ∷ []) top.children) outer) none made
    ∙ ap (λ (qs : List Property). Some (inside (node_so_far top.name qs top.children) outer)) (sym is)

pub returns : goal.returns
returns c outer =
    let none : length c.args.top.now.children.items ≡ 0 = omega arith in
    property_put c.args.name.now c.args.value.now (so_far_of c.args.top.now) _ c.in_ok-property.property outer none c.in_ok-property.ensures c.in_ok-push.ensures.items

-- The endpoints of each device, node by node.
use Rattle.std.proofs.Common.{◌≡◌, ◌≢◌, ◌∙◌, ap, sym, refl, ℕ, ◌+◌, ◌<◌, ◌≤◌, Bool, true, false, List, [], ◌∷◌, ◌++◌, length, get_or, set, drop, replicate, Option, Some, None, append_assoc, append-nil, arith}
use Rattle.std.specs.Prelude.{if◌then◌else◌, ◌==◌, ◌&&◌, codes, is_some}
use Rattle.std.specs.Option.{option_map_or}
use Rattle.std.proofs.lemmas.Bool.{eqb-true, ne_eqb, eq-eqb}
use Rattle.std.proofs.lemmas.List.{get_or-set_same, get_or-set_other, length-set, get_or-replicate, length-replicate}
use Rattle.dt_tree.specs.PathMap.{value_of}
use Rattle.bus_links.specs.Bindings.Endpoints.{own_ends, ends_from, ends_of}
use Rattle.bus_links.specs.Bindings.LinkNodes.{LinkNode, node_at}
use Rattle.bus_links.specs.Bindings.Private.Ends.{end_device, GainsEnd}

module _ (nodes : List LinkNode) (place : ℕ) (node : LinkNode) where
  -- ---- the device of a node that is an endpoint
  own_ends-none : (d : ℕ) → end_device nodes node ≡ None → own_ends nodes d place node ≡ []
  own_ends-none d e = by (is_some (value_of node.properties (codes "remote-endpoint"))) node.usable (node_at nodes node.above).device e where
    by : (has usable : Bool) (o : Option ℕ) → (if has && usable then o else None) ≡ None → (if has && usable && option_map_or (λ x. x == d) o false then place ∷ [] else []) ≡ []
    by true true None h = refl
    by true true (Some x) h = absurd (cc h)
    by true false o h = refl
    by false true o h = refl
    by false false o h = refl

  own_ends-some : (d device : ℕ) → end_device nodes node ≡ Some device → own_ends nodes d place node ≡ (if device == d then place ∷ [] else [])
  own_ends-some d device e = by (is_some (value_of node.properties (codes "remote-endpoint"))) node.usable (node_at nodes node.above).device e where
    by : (has usable : Bool) (o : Option ℕ) → (if has && usable then o else None) ≡ Some device
        → (if has && usable && option_map_or (λ x. x == d) o false then place ∷ [] else []) ≡ (if device == d then place ∷ [] else [])
    by true true None h = absurd (cc h)
    by true true (Some x) h = let same : x ≡ device = cc in ap (λ (y : ℕ). if y == d then place ∷ [] else []) same
    by true false o h = absurd (cc h)
    by false true o h = absurd (cc h)
    by false false o h = absurd (cc h)

  -- ---- one node
  pub gains-none : (lists : List (List ℕ)) → end_device nodes node ≡ None → GainsEnd nodes place node lists lists
  gains-none lists e = record {
    count = refl;
    lists = λ d h. sym (ap (λ (l : List ℕ). get_or lists d [] ++ l) (own_ends-none d e) ∙ append-nil (get_or lists d []));
  }

  pub gains-past : (lists : List (List ℕ)) (device : ℕ) → end_device nodes node ≡ Some device → length lists ≤ device → GainsEnd nodes place node lists lists
  gains-past lists device e past = record {
    count = refl;
    lists = λ d h.
        let other : (device == d) ≡ false = ne_eqb device d (λ same. absurd (omega (arith, same, h, past))) in
        sym (ap (λ (l : List ℕ). get_or lists d [] ++ l) (own_ends-some d device e ∙ ap (λ (t : Bool). if t then place ∷ [] else []) other) ∙ append-nil (get_or lists d []));
  }

  pub gains-one : (old new : List (List ℕ)) (device : ℕ) → end_device nodes node ≡ Some device → device < length old → new ≡ set old device (get_or old device [] ++ place ∷ [])
      → GainsEnd nodes place node old new
  gains-one old new device e within put = record {
    count = ap length put ∙ length-set old device (get_or old device [] ++ place ∷ []);
    lists = λ d h. by d (device == d) refl;
  }
    where
      by : (d : ℕ) (t : Bool) → (device == d) ≡ t → get_or new d [] ≡ get_or old d [] ++ own_ends nodes d place node
      by d true is =
          let same : device ≡ d = eqb-true device d is in
          ap (λ (ls : List (List ℕ)). get_or ls d []) put ∙ ap (λ (k : ℕ). get_or (set old k (get_or old k [] ++ place ∷ [])) d []) same
          ∙ get_or-set_same old d (get_or old d [] ++ place ∷ []) [] (omega (arith, same, within))
          ∙ ap (λ (l : List ℕ). get_or old d [] ++ l) (sym (own_ends-some d device e ∙ ap (λ (t : Bool). if t then place ∷ [] else []) is))
      by d false is =
          let other : d ≢ device = λ same. absurd (let bad : true ≡ false = sym (eq-eqb device d (sym same)) ∙ is in cc bad) in
          ap (λ (ls : List (List ℕ)). get_or ls d []) put ∙ get_or-set_other old device d (get_or old device [] ++ place ∷ []) [] other
          ∙ sym (append-nil (get_or old d [])) ∙ ap (λ (l : List ℕ). get_or old d [] ++ l) (sym (own_ends-some d device e ∙ ap (λ (t : Bool). if t then place ∷ [] else []) is))

-- ---- all nodes before a place
pub record AreGathered (nodes : List LinkNode) (count place : ℕ) (lists : List (List ℕ)) : Type 0 where
  pub long : length lists ≡ count
  pub are : (d : ℕ) → d < count → get_or lists d [] ++ ends_from nodes d place (drop place nodes) ≡ ends_of nodes d

pub gathered-none : (nodes : List LinkNode) (count : ℕ) (lists : List (List ℕ)) → lists ≡ replicate count [] → AreGathered nodes count 0 lists
gathered-none nodes count lists empty = record {
  long = ap length empty ∙ length-replicate count [];
  are = λ d h. ap (λ (l : List ℕ). l ++ ends_of nodes d) (ap (λ (ls : List (List ℕ)). get_or ls d []) empty ∙ get_or-replicate count d [] [] h);
}

pub gathered-more : (nodes : List LinkNode) (count place : ℕ) (node : LinkNode) (old new : List (List ℕ)) → drop place nodes ≡ node ∷ drop (place + 1) nodes
    → AreGathered nodes count place old → GainsEnd nodes place node old new → AreGathered nodes count (place + 1) new
gathered-more nodes count place node old new next before gains = record {
  long = gains.count ∙ before.long;
  are = λ d h.
      let left : List ℕ = ends_from nodes d (place + 1) (drop (place + 1) nodes) in
      ap (λ (l : List ℕ). l ++ left) (gains.lists d (omega (arith, h, before.long)))
      ∙ append_assoc (get_or old d []) (own_ends nodes d place node) left
      ∙ ap (λ (l : List LinkNode). get_or old d [] ++ ends_from nodes d place l) (sym next) ∙ before.are d h;
}

pub gathered-all : (nodes : List LinkNode) (count place : ℕ) (lists : List (List ℕ)) → drop place nodes ≡ [] → AreGathered nodes count place lists
    → (d : ℕ) → d < count → get_or lists d [] ≡ ends_of nodes d
gathered-all nodes count place lists end before d h =
    sym (append-nil (get_or lists d [])) ∙ ap (λ (l : List LinkNode). get_or lists d [] ++ ends_from nodes d place l) (sym end) ∙ before.are d h

use Rattle.std.proofs.Common.{◌≡◌, ◌<◌, ◌++◌, ◌∷◌, ◌∙◌, [], suc, List, length, map, get_or, set, ap, sym, subst, arith}
use Rattle.std.specs.Prelude.{All}
use Rattle.std.proofs.lemmas.List.{map-set, get_or-map, length-map, length-set}
use Rattle.dt_tree.specs.declared.property.Property.{Property}
use Rattle.dt_build.specs.declared.local_properties.LocalFixup.{LocalFixup}
use Rattle.dt_build.proofs.LocalMarks.{list-more, node-stands}
use Rattle.dt_build.proofs.SiteNames.{property-named}
use Rattle.dt_build.proofs.Sites.{key-read}
use Rattle.dt_build.proofs.local_nodes.local_lists.Goals as goal

pub lawful_name-requires : goal.lawful_name-requires
lawful_name-requires c =
    let p = c.args.draft.now in
    let x = c.in-Some.one in
    let places = subst (λ (xs : List LocalFixup). All (λ z. z.property < length p.in_preorder.properties.items) xs) c.in-Some.ensures.steps.0 c.loop-one.invariant.places in
    property-named p c.requires.ready x.property c.index-property.result.now (places 0 x (omega arith)) c.index-property.ensures

pub loop-one-preserved : goal.loop-one-preserved
loop-one-preserved c =
    let p = c.args.draft.now in
    let inv = c.loop-one.invariant in
    let x = c.in-Some.one in
    let y = c.index-property.result.now in
    let lists = c.loop-one.lists.items in
    let kept = map (λ list. list.items) lists in
    let rest = c.next.new.self.rest.items in
    let first : c.loop-one.one-iterator.rest.items ≡ x ∷ rest = c.in-Some.ensures.steps.0 in
    let places = subst (λ (xs : List LocalFixup). All (λ z. z.property < length p.in_preorder.properties.items) xs) first inv.places in
    let known = places 0 x (omega arith) in
    let here = node-stands p c.requires.ready x.property y known c.index-property.ensures in
    let key = key-read p x.property y known c.index-property.ensures in
    let below : y.node < length lists = omega (arith, inv.count, here.known) in
    let within : y.node < length kept = omega (arith, below, length-map lists (λ list. list.items)) in
    let before : c.index_mut.result.now.items ≡ get_or kept y.node [] = ap (λ list. list.items) c.index_mut.ensures.value ∙ sym (get_or-map (λ list. list.items) lists y.node _ [] below) in
    let made : Property = record { name = c.in_ok-lawful_name.field-0; value = c.from_vec.result } in
    let put : c.push.new.self.items ≡ get_or kept y.node [] ++ made ∷ [] = c.in_ok-push.ensures.items ∙ ap (λ l. l ++ made ∷ []) before in
    record {
      count = length-set lists y.node _ ∙ inv.count;
      places = λ i d less. places (suc i) d (omega (arith, less));
      lists = λ k there. list-more p c.requires.ready x y.node here.there (ap (λ e. e.path) key) made (c.in_ok-lawful_name.ensures ∙ ap (λ e. e.name) (sym key)) c.from_vec.ensures rest kept within k there _ c.loop-one.one-iterator.rest.items _ first
          (map-set (λ list. list.items) lists y.node c.push.new.self ∙ ap (set kept y.node) put) (inv.lists k there);
    }

use Rattle.std.proofs.Common.{◌≡◌, ◌<◌, ◌∷◌, ◌∙◌, [], true, List, length, map, get_or, set, refl, ap, ap₂, sym, subst, arith}
use Rattle.std.proofs.lemmas.Bool.Decides.{nat_tests}
use Rattle.std.proofs.lemmas.List.{map-set, get_or-map, get_or_default, length-map, length-set}
use Rattle.dt_source.specs.TreeMeaning.Names.{local_fixups_name}
use Rattle.dt_source.specs.TreeMeaning.Paths.{is_listed}
use Rattle.dt_source.specs.TreeMeaning.References.{held}
use Rattle.dt_live.specs.Builder.Lists.{defined_at, with_last}
use Rattle.dt_live.specs.Builder.Builders.{built_lists}
use Rattle.dt_build.specs.Private.LocalFixups.{AreMarks, all_local, first_local, has_local, local_path, with_locals}
use Rattle.dt_build.specs.Private.NodePhandles.{path_at}
use Rattle.dt_live.proofs.MakingNodes.{below-root, root-at}
use Rattle.dt_build.proofs.MakingNodes.{order-of}
use Rattle.dt_build.proofs.LocalLoop.{first-node, lists-kept, marks-are, not-zero}
use Rattle.dt_build.proofs.LocalPushes.{no-local, plugin-locals, none-locals, distinct-local, local-all, local-more, local-none, top-new, top-there, last_node-more}
use Rattle.dt_build.proofs.local_nodes.with_local_fixups.Goals as goal

pub returns-then-is_empty : goal.returns-then-is_empty
returns-then-is_empty c =
    let p = c.args.draft.now in
    let locals = c.in_ok-locals.locals.items in
    let none : length locals ≡ 0 = grind (arith, nat_tests, c.is_empty.ensures, c.if-is_empty.true) in
    no-local c.args.symbols p c.args.builder c.requires.made (none-locals p locals c.in_ok-locals.ensures.all none)

pub index_mut-requires : goal.index_mut-requires
index_mut-requires c = omega (arith, c.in_ok-lists.ensures.count)

pub push-requires-clause-new : goal.push-requires-clause-new
push-requires-clause-new c =
    let p = c.args.draft.now in
    let r = c.requires.ready in
    let locals = c.in_ok-locals.locals.items in
    let are = c.in_ok-locals.ensures.all in
    let nonempty : 0 < length locals = grind (arith, nat_tests, c.is_empty.ensures, c.if-is_empty.false) in
    let plugin = plugin-locals p locals are nonempty in
    let named : c.in_ok-name.name ≡ local_fixups_name = c.in_ok-name.ensures ∙ c.as_slice-2.ensures in
    ap (λ m. is_listed (m ∷ []) (built_lists c.args.builder).nodes) named ∙ ap (λ l. is_listed (local_path []) l.nodes) c.requires.made ∙ top-new c.args.symbols p r c.requires.free c.requires.shallow plugin

pub push-requires-clause-properties : goal.push-requires-clause-properties
push-requires-clause-properties c =
    let p = c.args.draft.now in
    let are = c.in_ok-locals.ensures.all in
    let ls = c.in_ok-lists.lists.items in
    let kept = map (λ list. list.items) ls in
    let long : 0 < length ls = omega (arith, c.in_ok-lists.ensures.count) in
    let ps = c.replace-properties.result.items in
    let taken : ps ≡ get_or kept 0 [] = ap (λ list. list.items) (c.replace-properties.ensures.value ∙ c.index_mut.ensures.value) ∙ sym (get_or-map (λ list. list.items) ls 0 _ [] long) in
    let own : defined_at (local_path []) ps ≡ held (all_local p) (local_path []) =
    ap (defined_at (local_path [])) taken ∙ c.in_ok-lists.ensures.lists 0 refl ∙ ap (λ es. held es (local_path [])) are in
    distinct-local p [] ps own

pub each-init : goal.each-init
each-init c =
    let p = c.args.draft.now in
    let r = c.requires.ready in
    let locals = c.in_ok-locals.locals.items in
    let are = c.in_ok-locals.ensures.all in
    let nonempty : 0 < length locals = grind (arith, nat_tests, c.is_empty.ensures, c.if-is_empty.false) in
    let plugin = plugin-locals p locals are nonempty in
    let named : c.in_ok-name.name ≡ local_fixups_name = c.in_ok-name.ensures ∙ c.as_slice-2.ensures in
    let ls = c.in_ok-lists.lists.items in
    let kept = map (λ list. list.items) ls in
    let long : 0 < length ls = omega (arith, c.in_ok-lists.ensures.count) in
    let ps = c.replace-properties.result.items in
    let taken : ps ≡ get_or kept 0 [] = ap (λ list. list.items) (c.replace-properties.ensures.value ∙ c.index_mut.ensures.value) ∙ sym (get_or-map (λ list. list.items) ls 0 _ [] long) in
    let own : defined_at (local_path []) ps ≡ held (all_local p) (local_path []) =
    ap (defined_at (local_path [])) taken ∙ c.in_ok-lists.ensures.lists 0 refl ∙ ap (λ es. held es (local_path [])) are in
    let top = root-at (order-of p r) in
    let any : 0 < length p.in_preorder.nodes.items = omega (arith, first-node p r) in
    let on : has_local p (path_at p 0) ≡ true = ap (has_local p) top ∙ top-there c.args.symbols p r c.requires.free c.requires.shallow plugin locals are nonempty in
    let own_top : defined_at (local_path (path_at p 0)) ps ≡ held (all_local p) (local_path (path_at p 0)) = ap (λ q. defined_at (local_path q) ps) top ∙ own ∙ ap (λ q. held (all_local p) (local_path q)) (sym top) in
    record {
      some = omega arith;
      lists = record {
        count = length-map (set ls 0 c.replace-properties.new.dest) (λ list. list.items) ∙ length-set ls 0 _ ∙ c.in_ok-lists.ensures.count;
        lists = λ j past less.
            let m = get_or p.in_preorder.nodes.items j 0 in
            ap (λ (vs : List (List _)). defined_at (local_path (path_at p j)) (get_or vs m [])) (map-set (λ list. list.items) ls 0 c.replace-properties.new.dest)
            ∙ ap (defined_at (local_path (path_at p j)))
            (lists-kept kept 0 m _ (omega (arith, long, length-map ls (λ list. list.items))) (not-zero m (below-root (order-of p r) j past less m (get_or_default p.in_preorder.nodes.items j 0 m less))))
            ∙ c.in_ok-lists.ensures.lists m (r.there j 0 less) ∙ ap (λ es. held es (local_path (path_at p j))) are;
      };
      made = record {
        made = c.in_ok-builder.ensures.nodes ∙ ap₂ (λ m a. with_last (m ∷ []) ps a) named (c.requires.made ∙ local-none c.args.symbols p r c.requires.free c.requires.shallow plugin)
            ∙ ap (λ q. with_last (local_path q) ps (with_locals c.args.symbols p (first_local p 0))) (sym top) ∙ local-more c.args.symbols p r c.requires.free c.requires.shallow plugin 0 any on ps own_top;
        last_node = c.in_ok-builder.ensures.last_node ∙ ap (λ m. m ∷ []) named ∙ ap local_path (sym top) ∙ last_node-more c.args.symbols p r c.requires.free c.requires.shallow plugin 0 any on;
      };
    }

pub with_local_node-requires-clause-plugin : goal.with_local_node-requires-clause-plugin
with_local_node-requires-clause-plugin c =
    let locals = c.in_ok-locals.locals.items in
    let nonempty : 0 < length locals = grind (arith, nat_tests, c.is_empty.ensures, c.if-is_empty.false) in
    plugin-locals c.args.draft.now locals c.in_ok-locals.ensures.all nonempty

pub with_local_node-requires-clause-below : goal.with_local_node-requires-clause-below
with_local_node-requires-clause-below c = omega (arith, c.each-test.true, c.len.ensures)

pub with_local_node-requires-clause-marks : goal.with_local_node-requires-clause-marks
with_local_node-requires-clause-marks c =
    subst (AreMarks c.args.draft.now) (sym c.as_slice-in-each.ensures.value)
    (marks-are c.args.draft.now c.in_ok-marks.marks.items c.in_ok-locals.locals.items c.as_slice.result.now c.in_ok-locals.ensures.all c.as_slice.ensures.value c.in_ok-marks.ensures.count c.in_ok-marks.ensures.marks)

pub each-preserved : goal.each-preserved
each-preserved c = record { some = omega (arith, c.each.invariant.some); lists = c.in_ok-builder-2.ensures.lists; made = c.in_ok-builder-2.ensures.made }

pub returns : goal.returns
returns c =
    let p = c.args.draft.now in
    let r = c.requires.ready in
    let locals = c.in_ok-locals.locals.items in
    let are = c.in_ok-locals.ensures.all in
    let nonempty : 0 < length locals = grind (arith, nat_tests, c.is_empty.ensures, c.if-is_empty.false) in
    let plugin = plugin-locals p locals are nonempty in
    c.each.invariant.made.made ∙ local-all c.args.symbols p r c.requires.free c.requires.shallow plugin c.each.place (omega (arith, c.each-test.false, c.len.ensures))

use Rattle.std.proofs.Common.{◌≡◌, ◌<◌, ◌+◌, ◌||◌, ◌∙◌, ℕ, zero, suc, Bool, false, List, length, get_or, replicate, take, refl, sym, ap, subst, arith}
use Rattle.std.specs.List.{list_any}
use Rattle.std.proofs.lemmas.List.{length-replicate, take_all}
use Rattle.std.proofs.lemmas.List.Folds.{list_any_more}
use Rattle.dt_source.specs.TreeMeaning.Paths.{is_listed}
use Rattle.dt_source.specs.TreeMeaning.Resolved.{fronts}
use Rattle.dt_live.specs.Rows.{node_path}
use Rattle.dt_build.specs.declared.local_properties.LocalFixup.{LocalFixup}
use Rattle.dt_build.specs.Private.FixupSites.{key_at}
use Rattle.dt_build.proofs.LocalMarks.{node-stands}
use Rattle.dt_build.proofs.Sites.{key-read}
use Rattle.dt_build.proofs.local_nodes.local_marks.Goals as goal

none-marked : (n k : ℕ) → get_or (replicate n false) k false ≡ false
none-marked zero k = refl
none-marked (suc n) zero = refl
none-marked (suc n) (suc k) = none-marked n k

pub loop-one-init : goal.loop-one-init
loop-one-init c =
    let filled = c.in_ok-marks.ensures.items_if_clones_equal (λ y e. e) in
    let count = length c.nodes.result.now + 1 in
    record {
      count = ap length filled ∙ length-replicate count false ∙ ap (λ n. n + 1) (ap length c.nodes.ensures);
      marks = λ k there. ap (λ (xs : List Bool). get_or xs k false) filled ∙ none-marked count k;
    }

pub index-property-requires : goal.index-property-requires
index-property-requires c =
    let p = c.args.draft.now in
    let known = subst (λ (x : LocalFixup). x.property < length p.in_preorder.properties.items) (sym c.one-item.is) (c.requires.places c.loop-one.one-index c.one-item.result c.loop-one-test.true) in
    omega (arith, known, p.in_preorder.properties.ok.0)

pub mark-requires-clause-node : goal.mark-requires-clause-node
mark-requires-clause-node c =
    let below = subst (λ (x : LocalFixup). x.property < length c.args.draft.now.in_preorder.properties.items) (sym c.one-item.is) (c.requires.places c.loop-one.one-index c.one-item.result c.loop-one-test.true) in
    node-stands c.args.draft.now c.requires.ready c.one-item.result.property c.index-property.result.now below c.index-property.ensures

pub loop-one-preserved : goal.loop-one-preserved
loop-one-preserved c =
    let p = c.args.draft.now in
    let xs = c.args.locals.now in
    let i = c.loop-one.one-index in
    let x = c.one-item.result in
    let below = subst (λ (y : LocalFixup). y.property < length p.in_preorder.properties.items) (sym c.one-item.is) (c.requires.places i x c.loop-one-test.true) in
    let key = key-read p x.property c.index-property.result.now below c.index-property.ensures in
    record {
      count = c.mark.ensures.count ∙ c.loop-one.invariant.count;
      marks = λ k there.
          let marked = λ (y : LocalFixup). is_listed (node_path p.live k) (fronts (key_at p y.property).path) in
          c.mark.ensures.marks k there ∙ ap (λ e. get_or c.loop-one.marks.items k false || is_listed (node_path p.live k) (fronts e.path)) (sym key) ∙ ap (λ b. b || marked x) (c.loop-one.invariant.marks k there)
          ∙ ap (λ (y : LocalFixup). list_any marked (take i xs) || marked y) c.one-item.is ∙ sym (list_any_more marked xs i x c.loop-one-test.true);
    }

pub returns-clause-marks : goal.returns-clause-marks
returns-clause-marks c k there =
    let p = c.args.draft.now in
    c.loop-one.invariant.marks k there
    ∙ ap (list_any (λ (y : LocalFixup). is_listed (node_path p.live k) (fronts (key_at p y.property).path))) (take_all c.loop-one.one-index c.args.locals.now c.loop-one-test.false)

use Rattle.std.proofs.Common.{◌≡◌, ℕ, List, [], ◌∷◌, length, take, refl, ap, sym, subst, ◌∙◌, arith}
use Rattle.std.proofs.lemmas.List.{length-take}
use Rattle.dt_tree.specs.Path.{path_names}
use Rattle.dt_blob.specs.HeaderWords.{strings_of}
use Rattle.dt_blob.specs.Token.{begin_node, end_node}
use Rattle.dt_patch.specs.Adding.{IsWithNode}
use Rattle.dt_patch.specs.Private.Cutting.{IsSpliced, node_bytes}
use Rattle.dt_patch.proofs.Fills.{apart_of, by_answer, enough, header_of, made, on_ok, short_by, wanted_as}
use Rattle.dt_patch.proofs.Named.{short_name}
use Rattle.dt_patch.proofs.Nodes.{front_put, length-node, node_spelled, node_wide}
use Rattle.dt_patch.proofs.adding.add_node.Goals as goal

pub put_node-requires-clause-room : goal.put_node-requires-clause-room
put_node-requires-clause-room c =
    let w = length-node c.args.name.now in
    let short = short_name c.args.name.now c.in_ok-plan.ensures.named in
    omega (arith, w, short)

pub node_size-size-requires : goal.node_size-size-requires
node_size-size-requires c = short_name c.args.name.now c.in_ok-plan.ensures.named

pub first_bytes-requires : goal.first_bytes-requires
first_bytes-requires c =
    let short = short_name c.args.name.now c.in_ok-plan.ensures.named in
    let size = c.node_size-size.ensures in
    omega (arith, short, size)

pub splice-requires-clause-apart : goal.splice-requires-clause-apart
splice-requires-clause-apart c = apart_of (IsWithNode (path_names c.args.path.now) c.args.name.now) c.args.blob.now c.in_ok-plan.plan (begin_node c.args.name.now ∷ end_node ∷ []) c.in_ok-plan.ensures.plan

pub splice-requires-clause-header : goal.splice-requires-clause-header
splice-requires-clause-header c = header_of (IsWithNode (path_names c.args.path.now) c.args.name.now) c.args.blob.now c.in_ok-plan.plan (begin_node c.args.name.now ∷ end_node ∷ []) c.in_ok-plan.ensures.plan

pub splice-requires-clause-few : goal.splice-requires-clause-few
splice-requires-clause-few c =
    let short = short_name c.args.name.now c.in_ok-plan.ensures.named in
    let size = c.node_size-size.ensures in
    let wide = ap length c.first_bytes.ensures in
    omega (arith, short, size, wide, length-take c.node_size-size.result c.put_node.new.blob)

pub returns-clause-held : goal.returns-clause-held
returns-clause-held c = on_ok _ _ c.splice.result c.splice.ensures.made (λ s tree h.
    let same : c.first_bytes.result.now ≡ node_bytes c.args.name.now =
    c.first_bytes.ensures ∙ ap (take c.node_size-size.result) c.put_node.ensures ∙ front_put _ (node_bytes c.args.name.now) c.node_size-size.result (node_wide c.args.name.now ∙ sym c.node_size-size.ensures) in
    let news = begin_node c.args.name.now ∷ end_node ∷ [] in
    let m = made (IsWithNode (path_names c.args.path.now) c.args.name.now) c.args.blob.now c.splice.new.blob (node_bytes c.args.name.now) c.in_ok-plan.plan news c.in_ok-plan.ensures.plan
    (subst (λ (x : List ℕ). IsSpliced c.args.blob.now c.in_ok-plan.plan x c.splice.new.blob) same s)
    (node_spelled (strings_of c.args.blob.now) c.args.name.now c.in_ok-plan.ensures.named) refl tree h in
    record { changed = m.changed; with_it = m.is; held = m.held })

pub returns-clause-fault : goal.returns-clause-fault
returns-clause-fault c = λ tree h.
    let same : c.first_bytes.result.now ≡ node_bytes c.args.name.now =
    c.first_bytes.ensures ∙ ap (take c.node_size-size.result) c.put_node.ensures ∙ front_put _ (node_bytes c.args.name.now) c.node_size-size.result (node_wide c.args.name.now ∙ sym c.node_size-size.ensures) in
    let wide = ap length same ∙ node_wide c.args.name.now in
    let wanted = wanted_as (IsWithNode (path_names c.args.path.now) c.args.name.now) c.args.blob.now c.in_ok-plan.plan (begin_node c.args.name.now ∷ end_node ∷ []) c.in_ok-plan.ensures.plan c.in_ok-plan.ensures.empty _ _ wide in
    by_answer _ _ _ _ c.splice.result (c.splice.ensures.short) (λ x w. enough _ _ _ _ (c.in_ok-plan.ensures.fault tree h) wanted w) (λ e w. short_by _ _ _ _ e (c.in_ok-plan.ensures.fault tree h) wanted w.0 w.1)

use Rattle.std.proofs.Common.{◌≡◌, ◌∙◌, ◌++◌, ◌∷◌, ◌&&◌, [], ℕ, Bool, true, false, not, cond, get_or, append-nil, sym, ap, ap₂}
use Rattle.std.specs.List.{filter}
use Rattle.std.proofs.lemmas.List.{take_all}
use Rattle.std.proofs.lemmas.List.Elements.{filter_more}
use Rattle.dt_tree.specs.Phandle.{is_reserved}
use Rattle.dt_live.specs.Rows.{node_path, path_of}
use Rattle.dt_build.specs.Resolve.Private.Gone.{is_marked}
use Rattle.dt_build.specs.Resolve.Private.Wanted.{marked_rows}
use Rattle.dt_build.proofs.resolve.labelled.marked_nodes.Goals as goal
use Rattle.dt_build.proofs.resolve.labelled.marked_nodes.Goals.{then-marks-node+then-not-is_reserved+in_ok-push, then-marks-node+else-not-is_reserved, else-marks-node}

pub loop-node-preserved : goal.loop-node-preserved
loop-node-preserved c =
    let live = c.args.live.now in
    let order = c.args.order.now in
    let i = c.loop-node.node-index in
    let node = get_or order i 0 in
    let before = c.loop-node.nodes.items in
    let marks = c.args.marks.now in
    let test : ℕ → Bool = λ n. is_marked marks n && not (is_reserved (node_path live n)) in
    let more = sym (filter_more test order i 0 c.loop-node-test.true) in
    let join : (b : Bool) → test node ≡ b → before ++ cond b (node ∷ []) [] ≡ filter test _ = λ b e. ap₂ (λ xs t. xs ++ cond t (node ∷ []) []) c.loop-node.invariant (sym e) ∙ more in
    elim c.if-marks-node.branch [
      | then-marks-node+then-not-is_reserved+in_ok-push w ↦
          ap (λ l. l.items) w.nodes-is ∙ w.in_ok-push.ensures.items
          ∙ join true (ap₂ (λ a b. a && b) (w.if-marks-node.true)
          (ap not (sym (w.is_reserved.ensures ∙ ap (λ rows. is_reserved (path_of rows node)) w.nodes.ensures) ∙ w.if-not-is_reserved.true)))
      | then-marks-node+else-not-is_reserved w ↦
          ap (λ l. l.items) w.nodes-is ∙ sym (append-nil before)
          ∙ join false (ap₂ (λ a b. a && b) (w.if-marks-node.true)
          (ap not (sym (w.is_reserved.ensures ∙ ap (λ rows. is_reserved (path_of rows node)) w.nodes.ensures) ∙ w.if-not-is_reserved.false)))
      | else-marks-node w ↦
          ap (λ l. l.items) w.nodes-is ∙ sym (append-nil before)
          ∙ join false (ap (λ a. a && not (is_reserved (node_path live node))) (w.if-marks-node.false))
    ]

pub returns : goal.returns
returns c = c.loop-node.invariant ∙ ap (marked_rows c.args.live.now (is_marked c.args.marks.now)) (take_all c.loop-node.node-index c.args.order.now c.loop-node-test.false)

use Rattle.std.proofs.Common.{◌≡◌, ◌<◌, ◌∷◌, [], true, length, map, sym, ap, ◌∙◌, arith}
use Rattle.std.proofs.lemmas.List.{take_all}
use Rattle.dt_tree.specs.Name.{is_name}
use Rattle.dt_source.specs.TreeMeaning.Names.{symbols_name}
use Rattle.dt_source.specs.TreeMeaning.Resolved.{symbol}
use Rattle.dt_live.specs.Builder.Lists.{defined_at}
use Rattle.dt_live.specs.Rows.{is_standing, label_at, node_path, worn}
use Rattle.dt_live.proofs.Each.{each-of}
use Rattle.dt_build.specs.Edit.Said.{tree_of}
use Rattle.dt_build.proofs.MakingLabels.{lawful-label, property-more, symbols-same}
use Rattle.dt_build.proofs.symbols.symbols_of.Goals as goal
use Rattle.dt_build.proofs.symbols.symbols_of.Goals.{then-is_in_tree+in_ok-symbol_of+in_ok-push, else-is_in_tree}

pub symbol_of-requires-clause-named : goal.symbol_of-requires-clause-named
symbol_of-requires-clause-named c =
    let d = c.args.draft.now.live in
    let k = c.loop-row.row-index in
    let rows = c.labels-row-items.ensures in
    let below : k < length d.labels.items = omega (arith, c.loop-row-test.true, ap length rows) in
    ap (λ rs. is_name (label_at rs k).label.now) rows
    ∙ lawful-label (node_path d) (is_standing d) d.labels.items (each-of (λ l. is_name l.label ≡ true) (tree_of d).labels c.requires.named.labels) k below
    (ap (λ rs. is_standing d (label_at rs k).node) (sym rows) ∙ sym c.is_in_tree.ensures ∙ c.if-is_in_tree.true)

pub loop-row-preserved : goal.loop-row-preserved
loop-row-preserved c =
    let d = c.args.draft.now.live in
    let rows = c.labels-row-items.result.now in
    let k = c.loop-row.row-index in
    elim c.if-is_in_tree.branch [
      | then-is_in_tree+in_ok-symbol_of+in_ok-push w ↦
          property-more (node_path d) (is_standing d) rows k c.loop-row-test.true (sym c.is_in_tree.ensures ∙ w.if-is_in_tree.true)
          c.loop-row.symbols.items c.if-is_in_tree.symbols.items w.in_ok-symbol_of.field-0 c.loop-row.invariant w.in_ok-symbol_of.ensures
          (ap (λ v. v.items) w.symbols-is ∙ w.in_ok-push.ensures.items)
      | else-is_in_tree w ↦
          ap (λ v. defined_at (symbols_name ∷ []) v.items) w.symbols-is ∙ c.loop-row.invariant
          ∙ sym (symbols-same (node_path d) (is_standing d) rows k c.loop-row-test.true (sym c.is_in_tree.ensures ∙ w.if-is_in_tree.false))
    ]

pub returns : goal.returns
returns c =
    let d = c.args.draft.now.live in
    c.loop-row.invariant
    ∙ ap (λ rs. map symbol (worn (node_path d) (is_standing d) rs))
    (take_all c.loop-row.row-index c.labels-row-items.result.now c.loop-row-test.false ∙ c.labels-row-items.ensures)

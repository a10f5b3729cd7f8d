use Rattle.std.proofs.Common.{ℕ, [], ◌∷◌, map, Option, Some, None, option_map, sym, ap, ◌∙◌, subst, append-nil}
use Rattle.std.proofs.lemmas.List.{map-append}
use Rattle.dt_source.specs.Tree.{part_view, target_view}
use Rattle.dt_source.specs.TreeMeaning.References.{Bytes, Cell, Open, PathText, cell_of, found_in}
use Rattle.dt_live.specs.Rows.{node_path}
use Rattle.dt_build.specs.Edit.Said.{tree_of}
use Rattle.dt_build.specs.Resolve.Private.Targets.{IsCell}
use Rattle.dt_build.proofs.ResolveLemmas.FindingSteps.{adds-bytes, text-found}
use Rattle.dt_build.proofs.resolve.references.find_part.Goals as goal

pub returns-in-Bytes-clause-step : goal.returns-in-Bytes-clause-step
returns-in-Bytes-clause-step c =
    let d = c.args.live.now in
    let b = c.in-Bytes.field-0.items in
    (Bytes b, ap (λ p. found_in c.args.plugin (tree_of d) (part_view p)) c.in-Bytes.is, adds-bytes d b c.args.targets.now)

pub returns-in-File-clause-step : goal.returns-in-File-clause-step
returns-in-File-clause-step c =
    let d = c.args.live.now in
    (Bytes [], ap (λ p. found_in c.args.plugin (tree_of d) (part_view p)) c.in-File.is, adds-bytes d [] c.args.targets.now)

pub returns-in_ok-push-in-Path-clause-step : goal.returns-in_ok-push-in-Path-clause-step
returns-in_ok-push-in-Path-clause-step c =
    let d = c.args.live.now in
    let plugin = c.args.plugin in
    let p = node_path d c.in-Ok.node in (
      PathText p,
      ap (λ x. found_in plugin (tree_of d) (part_view x)) c.in-Path.is ∙ text-found plugin (tree_of d) (target_view c.in-Path.target) p c.in-Ok.ensures.node,
      record {
        all = ap (map (option_map (node_path d))) c.in_ok-push-in-Path.ensures.items ∙ map-append (option_map (node_path d)) c.args.targets.now.all.items (Some c.in-Ok.node ∷ []);
        cells = sym (append-nil (map (node_path d) c.args.targets.now.cells.items));
      },
    )

pub returns-in-Ok-None-clause-step : goal.returns-in-Ok-None-clause-step
returns-in-Ok-None-clause-step c =
    let d = c.args.live.now in
    let plugin = c.args.plugin in
    let opened = subst (λ (o : Option ℕ). IsCell d o (cell_of plugin (tree_of d) (target_view c.in-Phandle.target))) c.in-Ok-None.field-0-is c.in-Ok-None.ensures.cell in (
      Open opened.0,
      ap (λ x. found_in plugin (tree_of d) (part_view x)) c.in-Phandle.is ∙ opened.1,
      record {
        all = ap (map (option_map (node_path d))) c.in_ok-push-in-Ok-None.ensures.items ∙ map-append (option_map (node_path d)) c.args.targets.now.all.items (None ∷ []);
        cells = sym (append-nil (map (node_path d) c.args.targets.now.cells.items));
      },
    )

pub returns-in_ok-push-in-Phandle-2-clause-step : goal.returns-in_ok-push-in-Phandle-2-clause-step
returns-in_ok-push-in-Phandle-2-clause-step c =
    let d = c.args.live.now in
    let plugin = c.args.plugin in
    let node = c.in-Ok-Some.node in
    let cell = subst (λ (o : Option ℕ). IsCell d o (cell_of plugin (tree_of d) (target_view c.in-Phandle.target))) c.in-Ok-Some.field-0-is c.in-Ok-Some.ensures.cell in (
      Cell (node_path d node),
      ap (λ x. found_in plugin (tree_of d) (part_view x)) c.in-Phandle.is ∙ cell,
      record {
        all = ap (map (option_map (node_path d))) c.in_ok-push-in-Phandle.ensures.items ∙ map-append (option_map (node_path d)) c.args.targets.now.all.items (Some node ∷ []);
        cells = ap (map (node_path d)) c.in_ok-push-in-Phandle-2.ensures.items ∙ map-append (node_path d) c.args.targets.now.cells.items (node ∷ []);
      },
    )

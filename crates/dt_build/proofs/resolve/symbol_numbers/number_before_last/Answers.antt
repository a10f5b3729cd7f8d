use Rattle.std.proofs.Common.{◌≡◌, ◌∙◌, ◌+◌, ◌-◌, ◌<◌, ℕ, zero, suc, List, [], ◌∷◌, length, get_or, map, ap, arith}
use Rattle.dt_source.specs.TreeMeaning.DtcPhandles.{number_before_last}
use Rattle.dt_live.specs.declared.live_tree.NodeRow.{NodeRow}
use Rattle.dt_build.specs.declared.resolve.node_phandles.NodePhandle.{NodePhandle}
use Rattle.dt_build.specs.Resolve.NodePhandles.{path_phandle_of}
use Rattle.dt_build.proofs.resolve.symbol_numbers.number_before_last.Goals as goal

last-number : (rows : List NodeRow) (xs : List NodePhandle) (j : ℕ) (x : NodePhandle) → j + 1 ≡ length xs → x ≡ get_or xs j x → x.phandle - 1 ≡ number_before_last (map (path_phandle_of rows) xs)
last-number rows [] j x e is = absurd (omega (arith, e))
last-number rows (y ∷ []) zero x e is = ap (λ (z : NodePhandle). z.phandle - 1) is
last-number rows (y ∷ []) (suc j) x e is = absurd (omega (arith, e))
last-number rows (y ∷ z ∷ xs) zero x e is = absurd (omega (arith, e))
last-number rows (y ∷ z ∷ xs) (suc j) x e is = last-number rows (z ∷ xs) j x (omega (arith, e)) is

pub returns-in-Some : goal.returns-in-Some
returns-in-Some c rows =
    let xs = c.args.of_cells.now in
    let some : 0 < length xs = c.in-Some.ensures.item.3.0 in
    c.saturating_sub.ensures ∙ last-number rows xs (length xs - 1) c.in-Some.one.now (omega (arith, some)) c.in-Some.ensures.item.1

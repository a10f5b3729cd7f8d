use Rattle.std.proofs.Common.{◌≡◌, ◌∙◌, ◌&&◌, ◌++◌, [], not, true, ℕ, List, Vec, sym, ap, ap₂, subst, append-nil, arith}
use Rattle.std.specs.Global.{Global}
use Rattle.dt_tree.specs.Phandle.{is_reserved}
use Rattle.dt_live.specs.Rows.{IsNode, is_standing, node_path}
use Rattle.dt_live.proofs.Each.{Each, each-all, each-kept, each-of}
use Rattle.dt_build.specs.declared.resolve.node_phandles.NodePhandle.{NodePhandle}
use Rattle.dt_build.specs.Resolve.Private.Gone.{is_marked}
use Rattle.dt_build.proofs.resolve.gathered.number_symbols.Goals as goal
use Rattle.dt_build.proofs.resolve.gathered.number_symbols.Goals.{then-symbols+in_ok-nodes+in_ok-of_symbols+in_ok-extend_from_slice, else-symbols}

pub numbers_of_symbols-requires-clause-known : goal.numbers_of_symbols-requires-clause-known
numbers_of_symbols-requires-clause-known c =
    let d = c.args.live.now in
    let order = c.args.order.now in
    each-all (λ n. IsNode d n) c.as_slice.result.now (subst (λ (ns : List ℕ). Each (λ n. IsNode d n) ns) (sym (c.as_slice.ensures.value ∙ c.in_ok-nodes.ensures))
    (each-kept (λ n. IsNode d n) (λ n. is_marked c.args.labelled.now n && not (is_reserved (node_path d n))) order (each-of (λ n. IsNode d n) order c.requires.known)))

pub numbers_of_symbols-requires-clause-there : goal.numbers_of_symbols-requires-clause-there
numbers_of_symbols-requires-clause-there c =
    let d = c.args.live.now in
    let order = c.args.order.now in
    each-all (λ n. is_standing d n ≡ true) c.as_slice.result.now (subst (λ (ns : List ℕ). Each (λ n. is_standing d n ≡ true) ns) (sym (c.as_slice.ensures.value ∙ c.in_ok-nodes.ensures))
    (each-kept (λ n. is_standing d n ≡ true) (λ n. is_marked c.args.labelled.now n && not (is_reserved (node_path d n))) order (each-of (λ n. is_standing d n ≡ true) order c.requires.there)))

pub returns-clause-extends : goal.returns-clause-extends
returns-clause-extends c =
    elim c.if-symbols.branch [
      | then-symbols+in_ok-nodes+in_ok-of_symbols+in_ok-extend_from_slice w ↦ record {
        more = w.in_ok-of_symbols.of_symbols.items;
        items = ap (λ (v : Vec NodePhandle Global). v.items) w.new-is ∙ w.in_ok-extend_from_slice.ensures.items
            ∙ ap₂ (λ (xs : List NodePhandle) (ys : List NodePhandle). xs ++ ys) c.in_ok-new.ensures.items w.as_slice-then-symbols.ensures.value;
        standing = w.in_ok-of_symbols.ensures.stand;
      }
      | else-symbols w ↦ record {
        more = [];
        items = ap (λ (v : Vec NodePhandle Global). v.items) w.new-is ∙ c.in_ok-new.ensures.items ∙ sym (append-nil c.args.of_cells.now);
        standing = record { known = λ k y below. absurd (omega (arith, below)); stand = λ k y below. absurd (omega (arith, below)) };
      }
    ]

use Rattle.std.proofs.Common.{◌≡◌, List, Option, true, map, Vec, Global, ap, subst, sym, ◌∙◌, arith}
use Rattle.std.specs.Prelude.{All}
use Rattle.dt_tree.specs.Name.{is_name}
use Rattle.dt_live.specs.Flattened.{lists}
use Rattle.dt_overlay.specs.Fixup.PatchedOverlay.{patched_lists}
use Rattle.dt_overlay.specs.declared.symbols.Symbol.{Symbol}
use Rattle.dt_overlay.specs.Private.Additions.{AreSymbols}
use Rattle.dt_overlay.specs.Private.Symbols.{applied_over, symbol_value, symbols_of}
use Rattle.dt_overlay.proofs.ApplySteps.{applied-is, applied-shallow, root-of}
use Rattle.dt_overlay.proofs.Shallows.{whole-nodes}
use Rattle.dt_overlay.proofs.SymbolSizes.{has-symbols}
use Rattle.dt_overlay.proofs.applying.merged_root.Goals as goal

pub returns-in-None : goal.returns-in-None
returns-in-None c =
    let base = lists c.args.rows in
    let s = c.args.patched.now in
    let es = symbols_of base (patched_lists s) in
    let longer = subst (λ (o : Option (Vec Symbol Global)). AreSymbols es c.args.limit o) c.in-None.is c.requires.symbols in
    let h = has-symbols base s c.check.ensures c.merge_fragments.new.live c.in_ok-merge_fragments.ensures.whole c.in_ok-merge_fragments.ensures.merged in
    record { lists = h.lists; result = h.result; longer = omega (arith, longer.0, h.symbols); passable = longer.1; trees = h.trees }

pub put_symbols-requires-clause-named : goal.put_symbols-requires-clause-named
put_symbols-requires-clause-named c =
    let es = symbols_of (lists c.args.rows) (patched_lists c.args.patched.now) in
    let made = subst (λ (o : Option (Vec Symbol Global)). AreSymbols es c.args.limit o) c.in-Some.is c.requires.symbols in
    subst (λ (xs : List Symbol). All (λ x. is_name x.name.now ≡ true) xs) (sym c.as_slice-symbols.ensures.value) made.1

pub root_within-requires-clause-nodes : goal.root_within-requires-clause-nodes
root_within-requires-clause-nodes c =
    let base = lists c.args.rows in
    let over = patched_lists c.args.patched.now in
    let es = symbols_of base over in
    let d = c.put_symbols.new.live in
    let made = subst (λ (o : Option (Vec Symbol Global)). AreSymbols es c.args.limit o) c.in-Some.is c.requires.symbols in
    let symbols : map symbol_value c.as_slice-symbols.result.now ≡ es = ap (map symbol_value) c.as_slice-symbols.ensures.value ∙ made.0 in
    whole-nodes d c.in_ok-put_symbols.ensures.whole
    (applied-shallow base over (lists c.merge_fragments.new.live) (lists d) (map symbol_value c.as_slice-symbols.result.now)
    c.in_ok-merge_fragments.ensures.merged symbols c.in_ok-put_symbols.ensures.put c.requires.nodes.shallow)

pub returns : goal.returns
returns c =
    let base = lists c.args.rows in
    let over = patched_lists c.args.patched.now in
    let es = symbols_of base over in
    let d = c.put_symbols.new.live in
    let made = subst (λ (o : Option (Vec Symbol Global)). AreSymbols es c.args.limit o) c.in-Some.is c.requires.symbols in
    let symbols : map symbol_value c.as_slice-symbols.result.now ≡ es = ap (map symbol_value) c.as_slice-symbols.ensures.value ∙ made.0 in
    let applied =
    applied-is base over (lists c.merge_fragments.new.live) (lists d) (map symbol_value c.as_slice-symbols.result.now)
    c.in_ok-merge_fragments.ensures.merged symbols c.in_ok-put_symbols.ensures.put in
    root-of (applied_over base over) c.args.limit d c.in_ok-put_symbols.ensures.whole applied
    c.in_ok-root.root c.in_ok-root.ensures.name c.in_ok-root.ensures.map c.in_ok-root.ensures.fits

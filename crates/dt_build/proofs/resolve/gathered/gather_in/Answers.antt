use Rattle.std.proofs.Common.{◌≡◌, ◌∙◌, ℕ, Bool, List, Option, is_some, sym, ap, ap₂, subst}
use Rattle.std.specs.Prelude.{All}
use Rattle.std.specs.List.{list_any}
use Rattle.dt_live.proofs.Each.{Each, each-all, each-of}
use Rattle.dt_build.specs.declared.resolve.node_phandles.NodePhandle.{NodePhandle}
use Rattle.dt_build.specs.Resolve.Private.Gathering.{Extends, IsAsFound, all_numbers}
use Rattle.dt_build.specs.Resolve.Private.Gone.{IsThereIn, gone_rows, is_marked}
use Rattle.dt_build.proofs.ResolveLemmas.Gathering.{anew-fault, as-found, cells-fault, extends-known, extends-stood, gathers}
use Rattle.dt_build.proofs.ResolveLemmas.GoneNodes.{gone-there}
use Rattle.dt_build.proofs.resolve.gathered.gather_in.Goals as goal

pub returns-in-Err : goal.returns-in-Err
returns-in-Err c t of =
    cells-fault c.args.symbols c.args.plugin t c.args.standing.now of (sym c.name_taken.ensures ∙ ap is_some c.in_default.is) c.in-Err.error.kind c.in-Err.ensures

pub leave-requires-clause-gone : goal.leave-requires-clause-gone
leave-requires-clause-gone c =
    let s = c.args.standing.now in
    each-all (IsThereIn s.live) c.as_slice-2.result.now
    (subst (λ (ns : List ℕ). Each (IsThereIn s.live) ns) (sym (c.as_slice-2.ensures.value ∙ c.in_ok-gone.ensures)) (gone-there s c.args.symbols c.as_slice.result.now c.requires.sound))

pub returns-in-Err-find_anew : goal.returns-in-Err-find_anew
returns-in-Err-find_anew c t of =
    let s = c.args.standing.now in
    let gone = c.as_slice-2.result.now in
    let free = sym c.name_taken.ensures ∙ ap is_some c.in_default.is in
    let rows : gone ≡ gone_rows s c.in-Ok.numbered.rest.targets.items c.args.symbols =
    c.as_slice-2.ensures.value ∙ c.in_ok-gone.ensures ∙ ap (λ (ts : List (Option ℕ)). gone_rows s ts c.args.symbols) c.as_slice.ensures.value in
    let each = each-of (IsThereIn s.live) gone (subst (λ (ns : List ℕ). All (IsThereIn s.live) ns) (sym (c.as_slice-2.ensures.value ∙ c.in_ok-gone.ensures)) (each-all (IsThereIn s.live) (gone_rows s c.as_slice.result.now c.args.symbols) (gone-there s c.args.symbols c.as_slice.result.now c.requires.sound))) in
    let found = as-found c.args.symbols c.args.plugin t s of free c.in-Ok.numbered c.in-Ok.ensures gone rows each c.leave.new.live c.leave.new.rest c.in_ok-leave.ensures.left in
    let again = subst (λ (ns : List ℕ). IsAsFound c.args.plugin ns c.leave.new.live c.leave.new.rest) (c.as_slice-2.ensures.value ∙ sym c.as_slice-3.ensures.value) found in
    anew-fault c.args.symbols c.args.plugin t s of free c.in-Ok.numbered c.in-Ok.ensures gone rows each c.leave.new.live c.leave.new.rest c.in_ok-leave.ensures.left c.in-Err-find_anew.error.kind
    (c.in-Err-find_anew.ensures again)

pub returns : goal.returns
returns c t of =
    let s = c.args.standing.now in
    let gone = c.as_slice-2.result.now in
    let free = sym c.name_taken.ensures ∙ ap is_some c.in_default.is in
    let rows : gone ≡ gone_rows s c.in-Ok.numbered.rest.targets.items c.args.symbols =
    c.as_slice-2.ensures.value ∙ c.in_ok-gone.ensures ∙ ap (λ (ts : List (Option ℕ)). gone_rows s ts c.args.symbols) c.as_slice.ensures.value in
    let each = each-of (IsThereIn s.live) gone (subst (λ (ns : List ℕ). All (IsThereIn s.live) ns) (sym (c.as_slice-2.ensures.value ∙ c.in_ok-gone.ensures)) (each-all (IsThereIn s.live) (gone_rows s c.as_slice.result.now c.args.symbols) (gone-there s c.args.symbols c.as_slice.result.now c.requires.sound))) in
    let found = as-found c.args.symbols c.args.plugin t s of free c.in-Ok.numbered c.in-Ok.ensures gone rows each c.leave.new.live c.leave.new.rest c.in_ok-leave.ensures.left in
    let again = subst (λ (ns : List ℕ). IsAsFound c.args.plugin ns c.leave.new.live c.leave.new.rest) (c.as_slice-2.ensures.value ∙ sym c.as_slice-3.ensures.value) found in
    let extends = subst (λ (cs : List NodePhandle). Extends c.leave.new.live cs c.in_ok-new.new.items) c.as_slice-7.ensures.value c.in_ok-new.ensures.extends in
    gathers c.args.symbols c.args.plugin t s of free c.in-Ok.numbered c.in-Ok.ensures gone rows each c.leave.new.live c.leave.new.rest c.in_ok-leave.ensures.left
    c.in_ok-leave.ensures.sound c.in-Ok-find_anew.anew (c.in-Ok-find_anew.ensures again) c.in_ok-new.new
    (c.in_ok-new.ensures.numbers
    ∙ ap₂ (λ (os : List ℕ) (ls : List Bool). all_numbers c.leave.new.live os ls c.as_slice-6.result.now c.as_slice-7.result.now c.args.symbols) c.as_slice-order.ensures.value c.as_slice-5.ensures.value
    ∙ ap₂ (λ (gs : List NodePhandle) (cs : List NodePhandle). all_numbers c.leave.new.live c.leave.new.rest.in_preorder.nodes.items s.labelled.items gs cs c.args.symbols) c.as_slice-6.ensures.value c.as_slice-7.ensures.value)
    (extends-known s.live c.leave.new.live c.in-Ok.numbered c.in-Ok.ensures c.in_ok-leave.ensures.left.rows.rows c.in_ok-new.new.items extends)
    (extends-stood s.live c.leave.new.live c.in-Ok.numbered c.in-Ok.ensures c.in_ok-leave.ensures.left.rows.rows c.in_ok-new.new.items extends) c.is_one_marked-labelled.result
    (c.is_one_marked-labelled.ensures ∙ ap₂ (λ (ls : List Bool) (os : List ℕ). list_any (is_marked ls) os) c.as_slice-4.ensures.value c.as_slice-order.ensures.value)

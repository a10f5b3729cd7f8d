use Rattle.std.proofs.Common.{◌≡◌, not, ◌||◌, false, Bool, option_copied, ap, sym, ◌∙◌}
use Rattle.dt_tree.specs.PathMap.{value_of}
use Rattle.dtman_blobs.specs.Difference.Named.{named_by}
use Rattle.dtman_blobs.specs.Difference.SameBoard.{is_own_phandle}
use Rattle.dtman_blobs.specs.Difference.Private.Tests.{is_same_value}
use Rattle.dtman_blobs.proofs.difference.comparing.is_alone.Goals as goal

pub returns : goal.returns
returns c =
    let p = c.args.property.now in
    let qs = c.args.theirs.now.node.now.properties in
    let mine = named_by c.args.ours.now.naming.now in
    let yours = named_by c.args.theirs.now.naming.now in
    let own : is_own_phandle p.name ≡ false = ap is_own_phandle (sym c.as_bytes-name.ensures.value) ∙ sym c.is_own_phandle.ensures ∙ c.if-is_own_phandle.false in
    let found : option_copied (option_copied c.get.result) ≡ value_of qs p.name = ap option_copied c.get.ensures.value ∙ c.requires c.as_bytes-name.result.now ∙ ap (value_of qs) c.as_bytes-name.ensures.value in
    ap not (c.is_same_value.ensures ∙ ap (is_same_value mine yours p) found ∙ ap (λ (t : Bool). t || is_same_value mine yours p (value_of qs p.name)) (sym own))

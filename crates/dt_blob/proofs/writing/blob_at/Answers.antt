use Rattle.std.proofs.Common.{◌≡◌, ◌≤◌, ◌-◌, ◌++◌, ℕ, List, [], length, ap, ◌∙◌, inr, arith}
use Rattle.dt_blob.specs.Blob.{limit, header, reservations, blob_of}
use Rattle.dt_blob.specs.Strings.{with_names}
use Rattle.dt_blob.specs.Steps.Table.{placed}
use Rattle.dt_blob.specs.Token.{tree_tokens}
use Rattle.dt_blob.specs.Steps.Written.{all_bytes}
use Rattle.dt_blob.proofs.Blocks.{blob-size, blob-is, no-room}
use Rattle.dt_blob.proofs.writing.blob_at.Goals as goal

pub returns-in_err-size : goal.returns-in_err-size
returns-in_err-size c =
    no-room c.from_residual.result (λ blob. (blob.items ≡ blob_of c.args.tree.now) × (length blob.items ≤ limit)) _ _ (blob_of c.args.tree.now) c.from_residual.ensures.1 (inr c.in_err-size.ensures)
    (omega (arith, blob-size c.args.tree.now c.check.ensures, c.requires.structure, c.requires.strings, c.size.ensures.value, ap (λ ns. length (with_names [] ns)) c.requires.names))

pub returns : goal.returns
returns c =
    let tree = c.args.tree.now in
    let names = c.args.strings.now in
    let block = ap (λ ns. length (with_names [] ns)) c.requires.names in
    let all : c.put_blocks.new.out.items ≡ ((header tree.boot_cpu (c.args.structure_at - 40) (c.args.strings_at - c.args.structure_at) c.size-2.result ++ reservations tree.reserves) ++ all_bytes (placed names) (tree_tokens tree.root)) ++ with_names [] names =
    c.in_ok-put_blocks.ensures ∙ ap (λ (before : List ℕ). (((before ++ header tree.boot_cpu (c.args.structure_at - 40) (c.args.strings_at - c.args.structure_at) c.size-2.result) ++ reservations tree.reserves) ++ all_bytes (placed names) (tree_tokens tree.root)) ++ with_names [] names) c.in_ok-bytes.ensures.items in
    let e : c.put_blocks.new.out.items ≡ blob_of tree =
    blob-is tree c.check.ensures names c.put_blocks.new.out.items (c.args.structure_at - 40) (c.args.strings_at - c.args.structure_at) c.size-2.result c.requires.names
    (omega (arith, c.requires.structure)) (omega (arith, c.requires.strings)) c.size-2.ensures.value all in
    (e, omega (arith, ap length e, blob-size tree c.check.ensures, block, c.requires.structure, c.requires.strings, c.in_ok-size.ensures.0, c.in_ok-size.ensures.1, c.size.ensures.value))

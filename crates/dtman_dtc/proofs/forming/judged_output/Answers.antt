use Rattle.std.proofs.Common.{◌∙◌, ℕ, List, subst, sym}
use Rattle.dtman_engine.specs.Sort.{IsSortedBlob}
use Rattle.dtman_dtc.specs.DtcOutput.{IsBlobFor}
use Rattle.dtman_dtc.proofs.DtcLemmas.{output-by-name}
use Rattle.dtman_dtc.proofs.forming.judged_output.Goals as goal

pub returns-in_ok-sorted-in-ByName : goal.returns-in_ok-sorted-in-ByName
returns-in_ok-sorted-in-ByName g c = λ to tree b.
    let read = sym (c.as_slice-in-ByName.ensures.value ∙ c.blob-blob.ensures) in
    let sorted = c.in_ok-sorted-in-ByName.ensures tree (subst (λ (bytes : List ℕ). IsBlobFor tree bytes) read b) in
    output-by-name c.args.options.now tree c.as_slice-in-ByName-2.result.now c.formed-in-ByName.result c.in-ByName.is
    (subst (λ (bytes : List ℕ). IsSortedBlob tree bytes) (sym c.as_slice-in-ByName-2.ensures.value) sorted)
    (c.formed-in-ByName.ensures to)

-- A name is that of the first list that has the number.
use Rattle.std.specs.Prelude.{◌++◌}
use Rattle.dtman_engine.specs.Explain.{memory_faults, source_faults, build_faults, blob_faults, overlay_faults, text_faults, event_faults, run_faults, file_faults, preprocess_faults}
use Rattle.dtman_engine.proofs.ExplainLemmas.{named-or}
use Rattle.dtman_engine.proofs.explaining.texts_of.Goals as goal

pub returns : goal.returns
returns c =
    let number = c.args.number in
    let of-source = named-or _ _ _ _ memory_faults source_faults number c.or.ensures c.of_memory.ensures c.of_source.ensures in
    let of-build = named-or _ _ _ _ (memory_faults ++ source_faults) build_faults number c.or-2.ensures of-source c.of_build.ensures in
    let to-build = (memory_faults ++ source_faults) ++ build_faults in
    let of-blob = named-or _ _ _ _ to-build blob_faults number c.or-3.ensures of-build c.of_blob.ensures in
    let to-blob = to-build ++ blob_faults in
    let of-overlay = named-or _ _ _ _ to-blob overlay_faults number c.or-4.ensures of-blob c.of_overlay.ensures in
    let to-overlay = to-blob ++ overlay_faults in
    let of-text = named-or _ _ _ _ to-overlay text_faults number c.or-5.ensures of-overlay c.of_text.ensures in
    let to-text = to-overlay ++ text_faults in
    let of-event = named-or _ _ _ _ to-text event_faults number c.or-6.ensures of-text c.of_event.ensures in
    let to-event = to-text ++ event_faults in
    let of-run = named-or _ _ _ _ to-event run_faults number c.or-7.ensures of-event c.of_run.ensures in
    let to-run = to-event ++ run_faults in
    let of-file = named-or _ _ _ _ to-run file_faults number c.or-8.ensures of-run c.of_file.ensures in
    named-or _ _ _ _ (to-run ++ file_faults) preprocess_faults number c.or-9.ensures of-file c.of_preprocessor.ensures

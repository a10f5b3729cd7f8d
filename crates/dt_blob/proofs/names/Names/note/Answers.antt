use Rattle.std.proofs.Common.{List, ℕ, true, set, length, ap, subst, sym, ◌∙◌}
use Rattle.std.specs.Prelude.{map, min}
use Rattle.dt_blob.specs.Steps.Table.{AreKept, with_sight}
use Rattle.dt_blob.proofs.Kept.{kept-sight}
use Rattle.dt_blob.proofs.Tables.{sight-insert_key}
use Rattle.dt_blob.proofs.names.Names.note.Goals as goal

pub invariant_of-self-2 : goal.invariant_of-self-2
invariant_of-self-2 c =
    let keys = c.self.inside.set.keys in
    let name = c.as_bytes-name in
    let is = ap (map (λ k. k.bytes.now)) c.in_ok-insert.ensures.keys ∙ sight-insert_key (λ k. k.bytes.now) keys (record { bytes = name.result }) ∙ ap (with_sight (map (λ k. k.bytes.now) keys)) name.ensures.value in
    let place = c.place_of_length.ensures.value ∙ ap (λ (n : List ℕ). min (length n) 255) name.ensures.value in
    subst (λ (ns : List (List ℕ)). AreKept ns (set c.self.inside.lengths c.place_of_length.result true)) (sym is)
    (kept-sight (map (λ k. k.bytes.now) keys) c.self.inside.lengths c.args.name.now c.place_of_length.result c.self.invariant c.check.ensures place c.place_of_length.ensures.inside)

pub returns : goal.returns
returns c =
    let keys = c.self.inside.set.keys in
    ap (map (λ k. k.bytes.now)) c.in_ok-insert.ensures.keys ∙ sight-insert_key (λ k. k.bytes.now) keys (record { bytes = c.as_bytes-name.result }) ∙ ap (with_sight (map (λ k. k.bytes.now) keys)) c.as_bytes-name.ensures.value
    ∙ ap (λ (ns : List (List ℕ)). with_sight ns c.args.name.now) c.self.view_is

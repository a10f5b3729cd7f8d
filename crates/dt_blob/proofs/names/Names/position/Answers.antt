use Rattle.std.proofs.Common.{◌∙◌, ap, sym, map, get_or, false}
use Rattle.std.specs.Prelude.{position}
use Rattle.std.specs.Str.{bytes_eq}
use Rattle.dt_blob.proofs.Kept.{unseen}
use Rattle.dt_blob.proofs.Tables.{position-map}
use Rattle.dt_blob.proofs.names.Names.position.Goals as goal

pub returns-then-not-self-place_of_length : goal.returns-then-not-self-place_of_length
returns-then-not-self-place_of_length c =
    unseen (map (λ k. k.bytes.now) c.self.inside.set.keys) c.self.inside.lengths c.args.name.now c.self.invariant (ap (λ n. get_or c.self.inside.lengths n false) (sym c.place_of_length.ensures.value) ∙ c.if-not-self-place_of_length.true)
    ∙ ap (position (bytes_eq c.args.name.now)) c.self.view_is

pub returns : goal.returns
returns c =
    c.get_index_of.ensures.index ∙ position-map (λ k. k.bytes.now) (bytes_eq c.args.name.now) c.self.inside.set.keys
    ∙ ap (position (bytes_eq c.args.name.now)) c.self.view_is

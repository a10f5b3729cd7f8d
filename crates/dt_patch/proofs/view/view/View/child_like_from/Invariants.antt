use Rattle.std.proofs.Common.{◌≡◌, ◌-◌, true, List, length}
use Rattle.dt_tree.specs.declared.property.Property.{Property}
use Rattle.dt_tree.specs.NodeData.{Siblings}
use Rattle.dt_blob.specs.Token.{Token}
use Rattle.dt_patch.specs.View.Alike.{child_like}
use Rattle.dt_patch.specs.View.Private.Reading.{inside_tokens}
use Rattle.dt_patch.specs.View.Standing.{Ahead, ends}
use Rattle.dt_patch.proofs.ViewLemmas.Alikes.{AlikeLeft}
use Rattle.dt_patch.proofs.view.view.View.child_like_from.Given as goal

abbrev pub invariant-tokens : goal.invariant-tokens
invariant-tokens l = (ps : List Property) (nodes : Siblings) (last : Token) → ends last ≡ true → Ahead l.self l.from (inside_tokens ps nodes last) → AlikeLeft l.self l.at last l.name (child_like nodes l.name)

abbrev pub decreases-tokens : goal.decreases-tokens
decreases-tokens l = length l.self.structure.now - l.at

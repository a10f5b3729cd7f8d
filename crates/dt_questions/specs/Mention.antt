-- This entry of this property of the node at the place `user` names the node at the place `node`, with a specifier of these bytes.
use Rattle.std.specs.Prelude.{ℕ, List}

pub record MentionData : Type 0 where
  pub user : ℕ
  pub property : List ℕ
  pub entry : ℕ
  pub node : ℕ
  pub cells : List ℕ

-- What a clause sees of a seat with its board.
use Rattle.bus_board.specs.Shown.{Posted, Seated}

pub record Placed : Type 0 where
  pub board : Posted
  pub seat : Seated

-- Claims that were lost on the way to one that is won.
use Rattle.std.specs.Prelude.{◌≡◌, ℕ, List}
use Rattle.bus_core.specs.History.{IsBusHistory}
use Rattle.bus_board.specs.Outcomes.{History, IsFront}
use Rattle.bus_board.specs.Views.{made, passed_all}
use Rattle.bus_board.specs.declared.view.View.{View}

-- claims were lost, and nothing else was done
pub record HasTried (v w : View) : Type 0 where
  pub log : History
  pub lost : List (ℕ × ℕ)
  pub view : w ≡ passed_all v log lost
  pub front : IsFront v.seen log
  pub lawful : IsBusHistory v.plan log
  pub made : made w ≡ made v

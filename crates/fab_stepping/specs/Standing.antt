-- Boards that stand for states of a text.
use Rattle.std.specs.Prelude.{◌≡◌, ℕ, List}
use Rattle.fab_syntax.specs.Plain.{PlainModule}
use Rattle.fab_systems_laws.specs.Ternary.{known}
use Rattle.fab_meaning.specs.Points.{Point, Driver, Drives, IsStored}
use Rattle.fab_meaning.specs.Activation.{State}
use Rattle.fab_equations.specs.Equations.{IsPoint}
use Rattle.fab_network.specs.Passes.{kept_tern}
use Rattle.fab_stepping.specs.declared.board.Board.{Board}

-- By number the points have what they have in the state, and flip-flops and latches hold what they hold there.
pub record StandsFor (text : List PlainModule) (board : Board) (state : State) : Type 0 where
  pub shown : (number : ℕ) (p : Point) → IsPoint text number p → kept_tern board.terns.items number ≡ known (state.now p)
  pub held : (number : ℕ) (p : Point) (d : Driver) → IsPoint text number p → Drives text p d → IsStored d →
      kept_tern board.held.items number ≡ known (state.held p)

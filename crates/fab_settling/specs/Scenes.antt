-- What holds of points while they come to be known.
use Rattle.std.specs.Prelude.{◌≡◌, ◌≤◌, ◌^◌, List, length}
use Rattle.fab_ternary.specs.declared.Tern.{Tern}
use Rattle.fab_compiled.specs.Terns.{seen, IsView}
use Rattle.fab_settling.specs.declared.run_values.RunValues.{RunValues}
use Rattle.fab_settling.specs.declared.scene.Scene.{Scene}
use Rattle.fab_network.specs.declared.sharing.KeptValues.{KeptValues}
use Rattle.fab_settling.specs.declared.spreading.Spread.{Spread}
use Rattle.fab_network.specs.Forms.{HasForms}
use Rattle.fab_network.specs.Network.{AreFit}
use Rattle.fab_network.specs.Passes.{AreBacked, AreOwn}
use Rattle.fab_settling.specs.Visits.{Scene as PlainScene}
use Rattle.fab_network.specs.Sharing.{AreShared}
use Rattle.fab_settling.specs.Spreading.{IsKeptOfRun, IsSpread}

-- all that stays the same
abbrev pub scene_of : Scene → PlainScene
scene_of scene = record {
  trees = scene.network.now.trees.items;
  drives = scene.network.now.drives.items;
  held = scene.held.now;
  order = scene.order.now;
  leads = scene.leads.now;
}

-- Points that stand for themselves may be looked at, and none of them has more than it shows.
pub record IsReady (scene : PlainScene) (terns : List Tern) : Type 0 where
  pub fit : AreFit scene.trees scene.drives
  pub points : length scene.drives ≡ length scene.leads
  pub long : length terns ≡ length scene.leads
  pub latches : length scene.held ≡ length scene.leads
  pub view : IsView terns scene.leads
  pub small : length scene.leads ≤ 2 ^ 32
  pub own : AreOwn scene.order scene.leads
  pub backed : AreBacked scene.trees scene.drives scene.held scene.order (seen terns scene.leads)

-- its forms are right of what is kept now
abbrev pub AreFormsOf : Scene → List Tern → Type 0
AreFormsOf scene terns = HasForms scene.network.now.trees.items scene.network.now.drives.items scene.order.now scene.leads.now terns scene.forms.now

-- What is kept of expressions is right of what is known now.
abbrev pub AreSharedOver : Scene → List Tern → KeptValues → Type 0
AreSharedOver scene terns values = AreShared scene.network.now.trees.items (length scene.leads.now) (seen terns scene.leads.now) values

abbrev pub IsKeptOver : Scene → List Tern → RunValues → Type 0
IsKeptOver scene terns values = IsKeptOfRun scene.network.now.trees.items (length scene.leads.now) (seen terns scene.leads.now) values

abbrev pub IsSpreadOver : Scene → List Tern → Spread → Type 0
IsSpreadOver scene terns spread = IsSpread scene.network.now.trees.items (length scene.leads.now) (seen terns scene.leads.now) spread

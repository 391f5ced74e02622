-- What the text of a fabric is.
use Rattle.std.specs.Prelude.{◌≡◌, ℕ, List, [], ◌∷◌}
use Rattle.fab_syntax.specs.Plain.{PlainModule}
use Rattle.fab_syntax.specs.Sound.{IsSound}
use Rattle.fab_gen_tile.specs.fab_model.specs.declared.mode.Mode.{Mode}
use Rattle.fab_gen_tile.specs.fab_model.specs.declared.mode.Mode.TheVariants as modes
use Rattle.fab_gen_tile.specs.fab_model.specs.Grid.{PlainFabric}
use Rattle.fab_gen_loader.specs.Loader.{IsLoader}
use Rattle.fab_gen_loader.specs.Bounds.{IsSmall}
use Rattle.fab_gen_loader.specs.Expressions.{loader_module}
use Rattle.fab_fabric_text_defs.specs.Mode.{text_mode}
use Rattle.fab_fabric_text_defs.specs.Text.{fabric_text}

-- The loaders of a text by what keeps the configuration: frames have one, a chain none. Its expressions alone are free, within bounds of
-- size and depth.
pub data AreLoaders (rows : ℕ) : Mode → List PlainModule → Type 0 where
  one : {loader : PlainModule} → IsLoader rows loader → IsSmall loader → AreLoaders rows modes.Frames (loader ∷ [])
  none : AreLoaders rows modes.Chain []

-- A sound text whose modules are those that the tables give, and loaders.
pub record IsFabricText (fabric : PlainFabric) (text : List PlainModule) : Type 0 where
  pub loaders : List PlainModule
  pub are : AreLoaders fabric.rows (text_mode fabric) loaders
  pub is : text ≡ fabric_text fabric loaders
  pub sound : IsSound text

-- the loaders that the generator makes
abbrev pub loaders_of : Mode → (rows : ℕ) → List PlainModule
loaders_of modes.Frames rows = loader_module rows ∷ []
loaders_of modes.Chain rows = []

-- the text that the generator makes
abbrev pub generated_text : PlainFabric → List PlainModule
generated_text fabric = fabric_text fabric (loaders_of (text_mode fabric) fabric.rows)

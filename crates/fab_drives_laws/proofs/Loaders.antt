-- The loaders of a text have the name by which the top has an instance of one.
use Rattle.std.proofs.Common.{◌≡◌, ℕ, List, [], All, ap}
use Rattle.std.proofs.lemmas.List.Elements.{All-cons, All-nil}
use Rattle.fab_syntax.specs.Plain.{PlainModule}
use Rattle.fab_fabric_text_defs.specs.fab_model_mode_Mode.{Mode}
use Rattle.fab_fabric_text_defs.specs.fab_gen_loader_Loader.{loader_module_name}
use Rattle.fab_fabric_text_defs.specs.Texts.{AreLoaders, one, none}

abbrev HasLoaderName : PlainModule → Type 0
HasLoaderName loader = loader.name ≡ loader_module_name

pub loaders_named : {rows : ℕ} {mode : Mode} {loaders : List PlainModule} → AreLoaders rows mode loaders → All (λ loader. loader.name ≡ loader_module_name) loaders
loaders_named (one {loader} is_loader small) = All-cons HasLoaderName loader [] (ap (λ (m : PlainModule). m.name) is_loader.is) (All-nil HasLoaderName)
loaders_named none = All-nil HasLoaderName

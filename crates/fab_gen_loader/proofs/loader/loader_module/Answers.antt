use Rattle.std.proofs.Common.{◌≡◌, ℕ, List}
use Rattle.fab_syntax.specs.declared.tree.Port.{Port}
use Rattle.fab_syntax.specs.Plain.{PlainItem, PlainModule}
use Rattle.fab_gen_loader.specs.Loader.{loader_module_name, loader_ports}
use Rattle.fab_gen_loader.specs.Expressions.{loader_module}
use Rattle.fab_gen_loader.proofs.Loads.{is_loader}
use Rattle.fab_gen_loader.proofs.Small.{is_small}
use Rattle.fab_gen_loader.proofs.loader.loader_module.Goals as goal

abbrev module_of : (name : List ℕ) → List Port → List PlainItem → PlainModule
module_of name ports items = record { name = name; ports = ports; items = items }

-- a module with these parts
made : (rows : ℕ) (name : List ℕ) (ports : List Port) (items : List PlainItem) → name ≡ loader_module_name → ports ≡ loader_ports rows →
    items ≡ (loader_module rows).items → module_of name ports items ≡ loader_module rows
made rows name ports items named with_ports with_items = λ j. module_of (named j) (with_ports j) (with_items j)

pub returns-clause-loader : goal.returns-clause-loader
returns-clause-loader c =
    is_loader c.args.rows _ c.requires.few (made c.args.rows _ _ _ c.in_ok-name.ensures c.in_ok-ports.ensures c.in_ok-items.ensures)

pub returns-clause-small : goal.returns-clause-small
returns-clause-small c =
    is_small c.args.rows _ c.requires.few (made c.args.rows _ _ _ c.in_ok-name.ensures c.in_ok-ports.ensures c.in_ok-items.ensures)

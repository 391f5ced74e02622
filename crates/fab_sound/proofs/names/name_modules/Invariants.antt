use Rattle.std.proofs.Common.{◌≡◌, ◌++◌, ℕ, drop, List, [], map}
use Rattle.std.specs.Prelude.{All}
use Rattle.fab_syntax.specs.Plain.{PlainModule, plain_module}
use Rattle.fab_syntax.specs.Sound.{text_refusals}
use Rattle.fab_sound.specs.declared.tables.Known.{Known}
use Rattle.fab_sound.specs.inner.Checks.{found, Numbers, HasNets, known_module, place_named}
use Rattle.fab_sound.proofs.names.name_modules.Given as goal

abbrev pub invariant-loop-module : goal.invariant-loop-module
invariant-loop-module l =
    ((before : List PlainModule) × Numbers l.numbers before
    × (text_refusals [] (map plain_module l.modules) ≡ text_refusals before (map plain_module (drop l.module-index l.modules))))
    × (map known_module l.known.items ++ map plain_module (drop l.module-index l.modules) ≡ map plain_module l.modules)
    × All (λ (known : Known). HasNets known.names (known_module known)) l.known.items
    × ((name : List ℕ) → found l.numbers name ≡ place_named (map known_module l.known.items) name)

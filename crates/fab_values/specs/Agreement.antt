-- The bits of an instance and the assignments of a text.
use Rattle.std.specs.Prelude.{◌≡◌, ℕ, List, map}
use Rattle.fab_syntax.specs.Plain.{PlainModule}
use Rattle.fab_meaning.specs.Points.{Path, module_at}
use Rattle.fab_meaning.specs.Settled.{Assignment, names_at}
use Rattle.fab_values.specs.Declarations.{bits_named, declared_at, declared_points}

-- Where the bits of an instance are what an assignment gives its points, in their order, each name has the bits that the
-- meaning of the text gives it.
abbrev pub BitsAreNames : Type 0
BitsAreNames =
    (text : List PlainModule) (now : Assignment) (path : Path) (name : List ℕ) →
    bits_named (declared_at (module_at text path)) (map now (declared_points path (declared_at (module_at text path)))) name ≡ names_at text now path name

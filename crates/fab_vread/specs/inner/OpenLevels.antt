-- The brackets that are open, as plain data.
use Rattle.std.specs.Prelude.{List}
use Rattle.fab_vread.specs.declared.levels.Levels.{Levels}
use Rattle.fab_vread.specs.inner.Expressions.{PlainLevel, plain_levels}

-- the innermost first
abbrev pub levels_of : Levels → List PlainLevel
levels_of levels = plain_levels levels.kept.items levels.passed.items

-- Boxes around sites.
use Rattle.std.specs.Prelude.{ℕ, ◌+◌, ◌-◌, ◌≢◌, AllPairs, max, min}
use Rattle.fab_fabric.specs.declared.wire.Site.{Site}
use Rattle.fab_implementation.specs.Plain.{PlainImplementation}
use Rattle.fab_ways_laws.specs.fab_legal_Lines.{named}
use Rattle.fab_place.specs.declared.bounding.BoundingBox.{BoundingBox}

-- the box of one site, and the least box around a box and a site
abbrev pub around : Site → BoundingBox
around site = record { left = site.x; right = site.x; top = site.y; bottom = site.y }

abbrev pub included : BoundingBox → Site → BoundingBox
included area site = record { left = min area.left site.x; right = max area.right site.x; top = min area.top site.y; bottom = max area.bottom site.y }

-- width plus height
abbrev pub half : BoundingBox → ℕ
half area = (area.right - area.left) + (area.bottom - area.top)

-- no two lines name one thing
pub record NamesOnce (implementation : PlainImplementation) : Type 0 where
  pub cells : AllPairs (λ first second. first ≢ second) (named implementation.cells)
  pub ins : AllPairs (λ first second. first ≢ second) (named implementation.ins)
  pub outs : AllPairs (λ first second. first ≢ second) (named implementation.outs)

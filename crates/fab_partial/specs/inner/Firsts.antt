-- First items as they are found: a cell by its site, an edge by the wire that it enters.
use Rattle.std.specs.Prelude.{◌≡◌, ℕ, Bool, true, List}
use Rattle.fab_implementation.specs.fab_fabric.specs.declared.wire.Site.{Site}
use Rattle.fab_implementation.specs.fab_fabric.specs.declared.wire.Wire.{Wire}
use Rattle.fab_implementation.specs.Plain.{Edge}
use Rattle.fab_partial.specs.Use.{IsFirst}

-- the first cell in the columns stands on this site
pub record IsFirstCell (cells : List (ℕ × Site)) (there : ℕ → Bool) (site : Site) : Type 0 where
  pub line : ℕ × Site
  pub site_is : line.1 ≡ site
  pub first : IsFirst (λ (line : ℕ × Site). there line.1.x ≡ true) cells line

-- the first edge that has a property enters this wire
pub record EntersFirst (Holds : Edge → Type 0) (edges : List Edge) (wire : Wire) : Type 0 where
  pub edge : Edge
  pub wire_is : edge.1 ≡ wire
  pub first : IsFirst Holds edges edge

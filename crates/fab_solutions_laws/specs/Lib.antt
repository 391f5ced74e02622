pub mod Solutions
pub mod Laws
pub use Rattle.fab_load_runs_laws.specs.fab_meaning_Points as fab_meaning_Points
pub use Rattle.fab_load_runs_laws.specs.fab_meaning_Value as fab_meaning_Value
pub use Rattle.fab_ternary_laws.specs.Operators as fab_ternary_laws_Operators
pub use Rattle.fab_ternary_laws.specs.Shown as fab_ternary_laws_Shown
pub use Rattle.fab_ternary_laws.specs.Values as fab_ternary_laws_Values

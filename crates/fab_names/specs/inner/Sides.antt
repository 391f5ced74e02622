-- Whether the sides of a row bring a name again, as a test.
use Rattle.std.specs.Prelude.{Bool, false, Option, Some, None}
use Rattle.std.specs.List.{list_any}
use Rattle.fab_names.specs.Names.{PlainFamily, PlainNames, has_bit, meet, all_names}

abbrev pub opt_meets : PlainNames → Option PlainFamily → Bool
opt_meets names None = false
opt_meets names (Some family) = list_any (has_bit family) (all_names names)

abbrev pub sides_meet : (source dest : Option PlainFamily) → Bool
sides_meet None dest = false
sides_meet (Some source) None = false
sides_meet (Some source) (Some dest) = meet source dest

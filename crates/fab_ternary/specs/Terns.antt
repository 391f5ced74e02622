-- Bits that may be unknown, as plain ternary values.
use Rattle.std.specs.Prelude.{Bool, true, false}
use Rattle.fab_systems_laws.specs.Ternary.{no, yes, unknown}
use Rattle.fab_systems_laws.specs.Ternary.{Tern as PlainTern}
use Rattle.fab_ternary.specs.declared.Tern.{Tern}
use Rattle.fab_ternary.specs.declared.Tern.TheVariants.{No, Yes, Open}

abbrev pub plain_tern : Tern → PlainTern
plain_tern No = no
plain_tern Yes = yes
plain_tern Open = unknown

abbrev pub is_known : PlainTern → Bool
is_known no = true
is_known yes = true
is_known unknown = false

abbrev pub is_one : PlainTern → Bool
is_one no = false
is_one yes = true
is_one unknown = false

-- How two bits make one.
use Rattle.fab_systems_laws.specs.Ternary.{Tern as PlainTern}
use Rattle.fab_solutions_laws.specs.fab_ternary_laws_Operators.{both, either, differs, agreed}
use Rattle.fab_compiled.specs.declared.whole_values.Pairing.{Pairing}
use Rattle.fab_compiled.specs.declared.whole_values.Pairing.TheVariants.{Both, Either, Differs, Agreed}

abbrev pub by : Pairing → PlainTern → PlainTern → PlainTern
by Both = both
by Either = either
by Differs = differs
by Agreed = agreed

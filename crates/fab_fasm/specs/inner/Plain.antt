-- The parts of a line as the code holds them, with texts in place of references.
use Rattle.fab_fasm.specs.declared.address.Addressed.{Addressed as CodedAddress}
use Rattle.fab_fasm.specs.declared.literal.Literal.{Literal as CodedLiteral}
use Rattle.fab_fasm.specs.declared.value.Valued.{Valued as CodedValue}
use Rattle.fab_fasm.specs.Parts.{Addressed}
use Rattle.fab_fasm.specs.Values.{Literal, Valued}

abbrev pub plain_address : CodedAddress → Addressed
plain_address address = record { high = address.high; low = address.low; reason = address.reason; rest = address.rest.now }

abbrev pub plain_literal : CodedLiteral → Literal
plain_literal literal = record { width = literal.width; base = literal.base; digits = literal.digits.now }

abbrev pub plain_value : CodedValue → Valued
plain_value value = record { value = value.value; reason = value.reason; rest = value.rest.now }

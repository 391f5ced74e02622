-- What a row of a switch list says, as plain data.
use Rattle.fab_tables.specs.declared.list_row.ListBody.{ListBody}
use Rattle.fab_tables.specs.declared.list_row.ListBody.TheVariants as bodies
use Rattle.fab_tables.specs.Lists.{PlainBody, PairsOf, IncludeOf}

abbrev pub plain_body : ListBody → PlainBody
plain_body (bodies.Pairs pairs) = PairsOf pairs.items
plain_body (bodies.Include path) = IncludeOf path

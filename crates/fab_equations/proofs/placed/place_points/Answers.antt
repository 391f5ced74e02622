use Rattle.std.proofs.Common.{◌≡◌, sym, ap, ◌∙◌, arith}
use Rattle.std.proofs.lemmas.Option.{slice_get_within}
use Rattle.fab_values.specs.Declarations.{bits_of}
use Rattle.fab_equations.specs.declared.placed.PlacedInstance.{PlacedInstance}
use Rattle.fab_equations.specs.declared.tables.Table.{Table}
use Rattle.fab_equations.proofs.Placing.{bits_within, one_pointed}
use Rattle.fab_equations.proofs.placed.place_points.Goals as goal

abbrev blank : PlacedInstance
blank = record { «module» = 0; first = 0; parent = 0; child = 0 }

pub overflow_add-first : goal.overflow_add-first
overflow_add-first c =
    let table = c.index-tables-here.result in
    let within = bits_within c.args.tables.now c.args.placed.now c.loop-here.placed c.loop-here.here-index c.loop-here.first c.loop-here.invariant
    (omega arith) c.requires.modules blank table c.index-tables-here.is in
    let bits : c.bits-first.result ≡ bits_of table.names = c.bits-first.ensures ∙ ap (λ (t : Table). bits_of t.names) (sym c.index-tables-here.is) in
    omega (arith, within, bits, c.requires.small)

pub loop-here-preserved : goal.loop-here-preserved
loop-here-preserved c =
    let table = c.index-tables-here.result in
    let pointed = one_pointed c.args.tables.now c.args.placed.now c.loop-here.placed c.loop-here.here-index c.loop-here.first c.loop-here.invariant
    (omega arith) c.requires.modules blank table c.index-tables-here.is in
    let bits : c.bits-first.result ≡ bits_of table.names = c.bits-first.ensures ∙ ap (λ (t : Table). bits_of t.names) (sym c.index-tables-here.is) in
    rw bits pointed

pub returns : goal.returns
returns c number p is =
    let within = slice_get_within c.args.placed.now number p is in
    c.loop-here.invariant.done number p (omega arith) is

use Rattle.std.proofs.Common.{rules, arith, ◌≡◌, ◌<◌, ◌+◌, ◌∙◌, sym, ap, subst, Some, length, set, get_or, vec_len}
use Rattle.std.proofs.lemmas.List.{get_or_read}
use Rattle.fab_netlist.specs.Plain.{PlainCover, cover_at, no_cover}
use Rattle.fab_netlist.specs.inner.Search.{HasDrivers}
use Rattle.fab_netlist.proofs.Marks.{few_covers}
use Rattle.fab_netlist.proofs.Finds.{drivers_more, output_in_table}
use Rattle.fab_netlist.proofs.walk.driver_table.Goals as goal

pub overflow_cast-place : goal.overflow_cast-place
overflow_cast-place c =
    let covers : c.netlist.inside.covers.now ≡ c.args.netlist.now.covers = search rules in
    let small : c.loop-place.place < length c.args.netlist.now.covers = omega (arith, c.loop-place-test.true, ap length covers) in
    omega (arith, few_covers c.args.netlist.now c.requires, small)

pub index_mut-requires : goal.index_mut-requires
index_mut-requires c =
    let covers : c.netlist.inside.covers.now ≡ c.args.netlist.now.covers = search rules in
    let small : c.loop-place.place < length c.args.netlist.now.covers = omega (arith, c.loop-place-test.true, ap length covers) in
    let cover : c.cover-item.result ≡ cover_at c.args.netlist.now c.loop-place.place =
    get_or_read c.args.netlist.now.covers c.loop-place.place c.cover-item.result small (c.cover-item.is ∙ ap (λ list. get_or list c.loop-place.place c.cover-item.result) covers) no_cover in
    let seen : c.cover.inside.output ≡ c.cover-item.result.output = search rules in
    let output : c.cover.inside.output ≡ (cover_at c.args.netlist.now c.loop-place.place).output = seen ∙ ap (λ (z : PlainCover). z.output) cover in
    let length_is : vec_len c.loop-place.drivers ≡ length c.loop-place.drivers.items = search rules in
    omega (arith, output, length_is, c.loop-place.invariant.fits, output_in_table c.args.netlist.now c.requires c.loop-place.place small)

pub loop-place-preserved : goal.loop-place-preserved
loop-place-preserved c =
    let covers : c.netlist.inside.covers.now ≡ c.args.netlist.now.covers = search rules in
    let small : c.loop-place.place < length c.args.netlist.now.covers = omega (arith, c.loop-place-test.true, ap length covers) in
    let cover : c.cover-item.result ≡ cover_at c.args.netlist.now c.loop-place.place =
    get_or_read c.args.netlist.now.covers c.loop-place.place c.cover-item.result small (c.cover-item.is ∙ ap (λ list. get_or list c.loop-place.place c.cover-item.result) covers) no_cover in
    let seen : c.cover.inside.output ≡ c.cover-item.result.output = search rules in
    let output : c.cover.inside.output ≡ (cover_at c.args.netlist.now c.loop-place.place).output = seen ∙ ap (λ (z : PlainCover). z.output) cover in
    subst (λ net. HasDrivers c.args.netlist.now (c.loop-place.place + 1) (set c.loop-place.drivers.items net (Some c.loop-place.place))) (sym output)
    (drivers_more c.args.netlist.now c.requires c.loop-place.place c.loop-place.drivers.items small c.loop-place.invariant)

pub returns : goal.returns
returns c =
    let covers : c.netlist.inside.covers.now ≡ c.args.netlist.now.covers = search rules in
    let ends : c.loop-place.place ≡ length c.args.netlist.now.covers = omega (arith, c.loop-place-test.false, c.loop-place.auto.place-end, ap length covers) in
    subst (λ count. HasDrivers c.args.netlist.now count c.loop-place.drivers.items) ends c.loop-place.invariant

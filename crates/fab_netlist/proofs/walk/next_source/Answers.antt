use Rattle.std.proofs.Common.{rules, ◌≡◌, ◌∙◌, ap, get_or}
use Rattle.std.proofs.lemmas.List.{get_or_read}
use Rattle.fab_netlist.specs.Plain.{PlainCover, cover_at, no_cover}
use Rattle.fab_netlist.specs.inner.Search.{unfinished}
use Rattle.fab_netlist.proofs.Finds.{cover_nets_small, drivers_small}
use Rattle.fab_netlist.proofs.walk.next_source.Goals as goal

pub unfinished-requires-clause-nets : goal.unfinished-requires-clause-nets
unfinished-requires-clause-nets c =
    let read : c.index-netlist-reader.result ≡ get_or c.args.netlist.now.covers c.args.reader c.index-netlist-reader.result = search rules in
    let cover : c.index-netlist-reader.result ≡ cover_at c.args.netlist.now c.args.reader = get_or_read c.args.netlist.now.covers c.args.reader c.index-netlist-reader.result c.requires.within read no_cover in
    let nets : c.deref.result.now ≡ c.index-netlist-reader.result.inputs = search rules in
    cover_nets_small c.args.netlist.now c.requires.wired c.args.drivers.now c.requires.table c.args.reader c.requires.within c.deref.result.now (nets ∙ ap (λ (z : PlainCover). z.inputs) cover)

pub unfinished-requires-clause-drivers : goal.unfinished-requires-clause-drivers
unfinished-requires-clause-drivers c = drivers_small c.args.netlist.now c.args.drivers.now c.requires.table c.args.marks.now c.requires.fits

pub returns : goal.returns
returns c =
    let read : c.index-netlist-reader.result ≡ get_or c.args.netlist.now.covers c.args.reader c.index-netlist-reader.result = search rules in
    let cover : c.index-netlist-reader.result ≡ cover_at c.args.netlist.now c.args.reader = get_or_read c.args.netlist.now.covers c.args.reader c.index-netlist-reader.result c.requires.within read no_cover in
    let nets : c.deref.result.now ≡ c.index-netlist-reader.result.inputs = search rules in
    c.unfinished.ensures ∙ ap (unfinished c.args.drivers.now c.args.marks.now) (nets ∙ ap (λ (z : PlainCover). z.inputs) cover)

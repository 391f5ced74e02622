use Rattle.std.proofs.Common.{ℕ}
use Rattle.fab_compiled.specs.Leading.{PointTerns, bit_under}
use Rattle.fab_compiled.specs.declared.parts.Part.{Part}
use Rattle.fab_network.specs.Leading.{bits_of_source}
use Rattle.fab_compiled.specs.Parts.{TellsBits}
use Rattle.fab_network.proofs.Parted.{ok_map, source_tells}
use Rattle.fab_network.proofs.Shares.{read_there}
use Rattle.fab_network.proofs.leading.part_of_source.Goals as goal

pub returns : goal.returns
returns c =
    let fit = c.requires.fit in
    let tree = c.index-trees-source.result in
    let there = read_there c.args.trees.now c.args.source.tree fit.tree tree fit.is c.index-trees-source.is in
    let terns = c.args.view.now.terns.now in
    let leads = c.args.view.now.leads.now in
    ok_map c.part_of.result (λ (part : Part). TellsBits terns leads c.args.marks.now (λ (t : PointTerns) (place : ℕ). bit_under t c.args.source.first tree place) part)
    (λ (part : Part). TellsBits terns leads c.args.marks.now (bits_of_source c.args.trees.now c.args.source) part)
    c.part_of.ensures.tells (λ part tells. source_tells terns leads c.args.marks.now c.args.trees.now c.args.source tree part there tells)

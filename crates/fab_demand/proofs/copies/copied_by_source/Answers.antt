use Rattle.std.proofs.Common.{ℕ}
use Rattle.fab_compiled.specs.Leading.{PointTerns, bit_under}
use Rattle.fab_demand.specs.declared.copies.Copied.{Copied}
use Rattle.fab_network.specs.Leading.{bits_of_source}
use Rattle.fab_demand.specs.inner.Copies.{CopiesPoints}
use Rattle.fab_demand.proofs.Beside.{some_map}
use Rattle.fab_demand.proofs.Copied.{source_copies}
use Rattle.fab_network.proofs.Shares.{read_there}
use Rattle.fab_demand.proofs.copies.copied_by_source.Goals as goal

pub returns : goal.returns
returns c =
    let fit = c.requires.fit in
    let tree = c.index-trees-source.result in
    let there = read_there c.args.trees.now c.args.source.tree fit.tree tree fit.is c.index-trees-source.is in
    let terns = c.args.view.now.terns.now in
    let leads = c.args.view.now.leads.now in
    some_map c.copied_by.result (λ (copied : Copied). CopiesPoints terns leads (λ (t : PointTerns) (place : ℕ). bit_under t c.args.source.first tree place) copied)
    (λ (copied : Copied). CopiesPoints terns leads (bits_of_source c.args.trees.now c.args.source) copied)
    c.copied_by.ensures.copies (λ copied copies. source_copies terns leads c.args.trees.now c.args.source tree copied there copies)

use Rattle.std.proofs.Common.{◌≡◌, ◌+◌, ◌++◌, ◌∷◌, ◌∙◌, get_or, take, drop}
use Rattle.fab_netlist.specs.Cycles.{cycle_words}
use Rattle.fab_netlist.specs.Plain.{cover_at}
use Rattle.fab_netlist.proofs.Rounds.{cycle_small, cycle_some, named_from, words_turned}
use Rattle.fab_netlist.proofs.refusal.fault_of.Goals as goal

pub first_of-first-requires-clause-within : goal.first_of-first-requires-clause-within
first_of-first-requires-clause-within c = cycle_small c.args.netlist.now c.args.round.now c.requires.cycle

pub first_of-first-requires-clause-some : goal.first_of-first-requires-clause-some
first_of-first-requires-clause-some c = cycle_some c.args.netlist.now c.args.round.now c.requires.cycle

pub words_from-requires-clause-within : goal.words_from-requires-clause-within
words_from-requires-clause-within c = cycle_small c.args.netlist.now c.args.round.now c.requires.cycle

pub line_of-line-requires : goal.line_of-line-requires
line_of-line-requires c = cycle_small c.args.netlist.now c.args.round.now c.requires.cycle c.first_of-first.result 0 c.first_of-first.ensures.within

pub returns : goal.returns
returns c =
    let round = c.args.round.now in
    let index = c.first_of-first.result in
    let first = get_or round index 0 in
    let rest = drop (index + 1) round ++ take index round in
    let words : c.in_ok-words.words ≡ cycle_words c.args.netlist.now (first ∷ rest) = c.in_ok-words.ensures ∙ words_turned c.args.netlist.now round index c.first_of-first.ensures.within in
    let line : c.line_of-line.result ≡ (cover_at c.args.netlist.now first).line = c.line_of-line.ensures in
    let file : c.in_ok-file.file ≡ c.args.file.now = c.in_ok-file.ensures in
    (first, rest, named_from c.args.netlist.now round index c.first_of-first.ensures.within c.requires.cycle c.first_of-first.ensures.first, cc)

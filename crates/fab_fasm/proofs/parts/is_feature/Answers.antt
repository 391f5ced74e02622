use Rattle.std.proofs.Common.{rules, tests, eqb}
use Rattle.std.proofs.lemmas.Iterator.Search.{all_from_yields_List}
use Rattle.std.proofs.lemmas.Iterator.Splits.{YieldsList-from_slice_split}
use Rattle.fab_lines.specs.Names.{is_identifier}
use Rattle.fab_fasm.proofs.parts.is_feature.Goals as goal

pub returns : goal.returns
returns c =
    all_from_yields_List is_identifier _ _ _ c.all.ensures.ran
    (YieldsList-from_slice_split _ (λ byte. eqb byte 46) c.args.word.now c.split.ensures.rest c.split.ensures.done c.split.ensures.closure (λ x b q k. search (rules, tests)))
    (λ x b q k. search (rules, tests))

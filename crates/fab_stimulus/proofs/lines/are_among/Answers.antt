use Rattle.std.proofs.Common.{◌∙◌, sym, List, ℕ, Bor}
use Rattle.std.proofs.lemmas.List.Folds.{list_all-map}
use Rattle.fab_lines.specs.Items.{is_among}
use Rattle.fab_stimulus.proofs.lines.are_among.Goals as goal

pub returns : goal.returns
returns c = c.is_each_among.ensures ∙ sym (list_all-map (is_among c.args.others.now) (λ (w : Bor (List ℕ)). w.now) c.args.words.now)

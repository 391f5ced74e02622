use Rattle.std.proofs.Common.{◌∙◌, ap, ℕ, List}
use Rattle.fab_lines.specs.Items.{is_among}
use Rattle.fab_texts.proofs.Sets.{any_of_names}
use Rattle.fab_texts.proofs.words_seen.WordSet.contains.Goals as goal

pub returns : goal.returns
returns c = c.contains.ensures ∙ any_of_names c.args.word.now c.self.inside.words.keys ∙ ap (λ (l : List (List ℕ)). is_among l c.args.word.now) c.self.view_is

use Rattle.std.proofs.Common.{◌∙◌, ap, ℕ, List, position}
use Rattle.std.specs.Str.{bytes_eq}
use Rattle.fab_texts.proofs.Sets.{place_of_name}
use Rattle.fab_texts.proofs.words_seen.WordSet.place_of.Goals as goal

pub returns-clause-place : goal.returns-clause-place
returns-clause-place c = c.get_index_of.ensures.index ∙ place_of_name c.args.word.now c.self.inside.words.keys ∙ ap (λ (l : List (List ℕ)). position (bytes_eq c.args.word.now) l) c.self.view_is

use Rattle.fab_texts.proofs.Sets.{key_added}
use Rattle.fab_texts.proofs.words_seen.WordSet.add.Goals as goal

pub returns : goal.returns
returns c = key_added c.self.inside.words.keys c.insert.new.self.keys c.in_ok-key.key c.args.self.now c.args.word.now c.self.view_is c.in_ok-insert.ensures.keys c.in_ok-key.ensures.items c.requires

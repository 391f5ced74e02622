use Rattle.fab_blif_models.proofs.reader.ReaderLineReader.take_line.Goals as goal

pub returns : goal.returns
returns c = rw (← c.self.view_is) c.take_text.ensures

use Rattle.std.proofs.Common.{sym, ◌∙◌}
use Rattle.fab_vread.proofs.Feeding.{going_closes, refused_closes}
use Rattle.fab_vread.proofs.reader.Reader.close.Goals as goal

pub returns-in-Going-clause-given : goal.returns-in-Going-clause-given
returns-in-Going-clause-given c = λ file bytes has. going_closes c.args.self.now file bytes c.end.result has (sym c.replace.ensures.value ∙ c.in-Going.is) c.end.ensures

pub returns-in-Refused-clause-given : goal.returns-in-Refused-clause-given
returns-in-Refused-clause-given c = λ file bytes has. refused_closes c.args.self.now file bytes c.in-Refused.fault has (sym c.replace.ensures.value ∙ c.in-Refused.is)

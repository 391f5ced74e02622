use Rattle.std.proofs.Common.{sym, subst}
use Rattle.std.specs.Str.Lines.{lines}
use Rattle.std.proofs.lemmas.Result.{IfOk-weaker}
use Rattle.fab_lines.proofs.Judging.{gives_fine, gives_first, fine_gives}
use Rattle.fab_fasm.specs.Spelled.{SpellsFasm}
use Rattle.fab_fasm.proofs.PartsLaw.{fine_spelled}
use Rattle.fab_fasm.proofs.Following.{follows_fasm}
use Rattle.fab_fasm.proofs.reading.read_fasm.Goals as goal

pub returns-clause-spelled : goal.returns-clause-spelled
returns-clause-spelled c =
    IfOk-weaker c.read.result _ _ (λ features read. subst (SpellsFasm (lines c.args.bytes.now)) (sym read.1) (fine_spelled (lines c.args.bytes.now) read.0))
    (gives_fine follows_fasm (λ features. features.items) c.args.file.now (lines c.args.bytes.now) c.read.result c.read.ensures)

pub returns-clause-refusal : goal.returns-clause-refusal
returns-clause-refusal c = gives_first follows_fasm (λ features. features.items) c.args.file.now (lines c.args.bytes.now) c.read.result c.read.ensures

pub returns-clause-reads : goal.returns-clause-reads
returns-clause-reads c = fine_gives follows_fasm (λ features. features.items) c.args.file.now (lines c.args.bytes.now) c.read.result c.read.ensures

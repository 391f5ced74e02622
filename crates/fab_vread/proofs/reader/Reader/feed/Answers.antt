use Rattle.std.proofs.Common.{arith, length-append}
use Rattle.fab_vread.specs.inner.Progress.{plain_progress}
use Rattle.fab_vread.proofs.Feeding.{fed_more, on_ok, passed_over}
use Rattle.fab_vread.proofs.reader.Reader.feed.Goals as goal

pub returns-in-Going-clause-read : goal.returns-in-Going-clause-read
returns-in-Going-clause-read c = λ file bytes has.
    on_ok c.take.result c.take.ensures.stands (λ stands. fed_more c.args.self.now c.take.new.self file bytes c.args.piece.now has c.in-Going.is c.take.ensures.file c.take.ensures.fed stands)

pub returns-in-Refused-clause-read : goal.returns-in-Refused-clause-read
returns-in-Refused-clause-read c = λ file bytes has.
    let before = has.counted in
    let both = length-append bytes c.args.piece.now in
    record {
      of_file = has.of_file;
      counted = omega (arith, before, both);
      stands = passed_over c.args.self.now.standing (plain_progress c.args.self.now.progress) file _ bytes c.args.piece.now c.in-Refused.is has.stands;
    }

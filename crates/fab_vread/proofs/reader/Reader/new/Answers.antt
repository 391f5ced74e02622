use Rattle.std.proofs.Common.{ap, refl, sym, Ok, Result}
use Rattle.fab_base.specs.declared.fault.Fault.{Fault}
use Rattle.fab_vread.specs.inner.Machine.{Progress, read_from}
use Rattle.fab_vread.proofs.reader.Reader.new.Goals as goal

pub returns : goal.returns
unfolding read_from
returns c = record {
  of_file = c.in_ok-copy.ensures;
  counted = refl;
  stands = ap (λ (p : Progress). let r : Result Progress Fault = Ok p in r) (sym c.new.ensures.first);
}

use Rattle.std.proofs.Common.{ℕ, List, ap, sym, arith, ◌∙◌}
use Rattle.std.proofs.lemmas.List.{nil_from_length}
use Rattle.std.proofs.lemmas.Result.{err_from_is_err_and}
use Rattle.fab_vread.specs.inner.Machine.{read_from}
use Rattle.fab_vread.specs.inner.Progress.{plain_progress}
use Rattle.fab_vread.proofs.Looping.{byte_taken, byte_fails, bytes_end}
use Rattle.fab_vread.proofs.progress.Progress.take_bytes.Goals as goal

pub returns-in_err-take_byte-clause-given : goal.returns-in_err-take_byte-clause-given
returns-in_err-take_byte-clause-given c =
    let told = err_from_is_err_and c.from_residual.result c.from_residual.ensures.1 in
    let file = c.args.file.now in
    let p = plain_progress c.loop-byte.self in
    let so_far = ap (λ (bytes : List ℕ). read_from file p bytes) (sym c.in-Some.ensures.cases.0) ∙ c.loop-byte.invariant.so_far in
    rw (told.1, told.2) (byte_fails c.in_err-take_byte.field-0.0 file p c.in-Some.byte.now c.in-Some.after.now (read_from file (plain_progress c.args.self.now) c.args.bytes.now)
    c.in_err-take_byte.ensures.given so_far)

pub loop-byte-preserved : goal.loop-byte-preserved
loop-byte-preserved c =
    let file = c.args.file.now in
    let p = plain_progress c.loop-byte.self in
    let so_far = ap (λ (bytes : List ℕ). read_from file p bytes) (sym c.in-Some.ensures.cases.0) ∙ c.loop-byte.invariant.so_far in
    let shorter = c.in-Some.ensures.cases.1 in
    let near = c.in_ok-take_byte.ensures.line in
    let lines = c.loop-byte.invariant.lines in
    let left = c.in_ok-rest.ensures.shorter in
    let same = c.in_ok-rest.ensures.line in
    record {
      so_far = sym (c.in_ok-rest.ensures.read file)
          ∙ byte_taken file p (plain_progress c.take_byte.new.self) c.in-Some.byte.now c.in-Some.after.now (read_from file (plain_progress c.args.self.now) c.args.bytes.now)
          c.in_ok-take_byte.ensures.given so_far;
      lines = omega arith;
    }

pub returns-clause-given : goal.returns-clause-given
returns-clause-given c =
    bytes_end c.args.file.now (plain_progress c.loop-byte.self) c.loop-byte.rest.now (read_from c.args.file.now (plain_progress c.args.self.now) c.args.bytes.now)
    (nil_from_length c.loop-byte.rest.now c.in_default.ensures.cases) c.loop-byte.invariant.so_far

use Rattle.std.proofs.Common.{◌≡◌, ℕ, ◌+◌, ◌-◌, ◌≤◌, List, ◌++◌, length, take, drop, sym, ap, subst, ◌∙◌, arith, length-take}
use Rattle.std.proofs.KnownBytes.{Appends-trans}
use Rattle.std.specs.Io.KnownBytes.{Appends}
use lib.Seq.{take-add, take-take}
use Rattle.fab_desk.proofs.write.write_whole.Goals as goal

-- a front, and then a part of what follows it, is a longer front
front_grows : (bytes : List ℕ) (written count : ℕ)
    → count ≤ length bytes - written
    → take written bytes ++ take count (take (length bytes - written) (drop written bytes)) ≡ take (written + count) bytes
front_grows bytes written count fits =
    ap (λ piece. take written bytes ++ piece) (take-take count (length bytes - written) (drop written bytes) fits)
    ∙ sym (take-add written count bytes)

pub loop-written-preserved : goal.loop-written-preserved
loop-written-preserved g c =
    let bytes = c.args.bytes.now in
    let written = c.loop-written.written in
    let so_far = c.loop-written.invariant in
    let offered = length-take (length bytes - written) (drop written bytes) in
    let taken = c.in-Ok.ensures.bound in (
      omega arith,
      subst (Appends _ _) (front_grows bytes written c.in-Ok.count (omega arith)) (Appends-trans _ _ _ _ _ so_far.1 c.in-Ok.ensures.bytes),
    )

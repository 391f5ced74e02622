use Rattle.std.proofs.Common.{◌≡◌, ℕ, ◌+◌, ◌-◌, ◌<◌, ◌≤◌, length, take, drop, slice_index, ap, ◌∙◌, subst, arith}
use Rattle.fab_compiled.specs.Terns.{seen}
use Rattle.fab_compiled.proofs.Rows.{AreInRow, length_range, range_row, row_within, row_seen}
use Rattle.fab_compiled.proofs.TreesGrow.{same_first}
use Rattle.fab_compiled.proofs.Written.{plain}
use Rattle.fab_compiled.proofs.reading.read_points.Goals as goal

pub returns-in-Some : goal.returns-in-Some
returns-in-Some c =
    let terns : _ = c.args.view.now.terns.now in
    let leads : _ = c.args.view.now.leads.now in
    let begin : ℕ = c.args.first + c.args.place in
    let count : ℕ = length c.args.bits.now in
    let low : ℕ = c.in-Some.low in
    let long : begin + count - begin ≡ count = omega arith in
    let inside : begin + count ≤ length leads = omega (arith, c.requires.inside) in
    let Told : ℕ → Type 0 = λ n.
    (0 < length (take n (drop begin leads))) × ((k : ℕ) → k < length (take n (drop begin leads)) → slice_index (take n (drop begin leads)) k ≡ low + k) in
    let told : Told count = subst Told long c.in-Some.ensures in
    let row : AreInRow leads begin low count = range_row leads begin low count inside told.1 in
    let some : 0 < count = omega (arith, told.0, length_range leads begin count inside) in
    let within : low + count ≤ length terns = row_within terns leads begin low count c.requires.view inside some row in
    ap plain c.copy_from_slice.ensures.after
    ∙ ap (λ n. plain (take n (drop low terns))) (omega arith)
    ∙ row_seen terns leads begin low count within row
    ∙ same_first count (λ k. seen terns leads (begin + k)) (λ k. seen terns leads (c.args.first + (c.args.place + k))) (λ k l. ap (seen terns leads) (omega arith))

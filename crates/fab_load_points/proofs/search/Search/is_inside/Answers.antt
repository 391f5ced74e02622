use Rattle.std.proofs.Common.{◌<◌, length, inl, inr, arith}
use Rattle.fab_load_points.specs.declared.search.Status.TheVariants.{New, Waiting, Inside, Outside}
use Rattle.fab_load_points.proofs.Looking.{status_read}
use Rattle.fab_load_points.proofs.search.Search.is_inside.Goals as goal

pub returns-in-Inside-clause-told : goal.returns-in-Inside-clause-told
returns-in-Inside-clause-told c scene p stands s =
    let statuses = c.look.new.self.statuses.items in
    let name = c.args.name in
    let within : name < length statuses = omega (arith, c.in_ok-look.ensures.long, c.requires.long, c.requires.name) in
    (c.in_ok-look.ensures.search scene p stands s, status_read statuses name c.index.result.now Inside within c.index.ensures c.in-Inside.is)

pub returns-in-New-clause-told : goal.returns-in-New-clause-told
returns-in-New-clause-told c scene p stands s =
    let statuses = c.look.new.self.statuses.items in
    let name = c.args.name in
    let within : name < length statuses = omega (arith, c.in_ok-look.ensures.long, c.requires.long, c.requires.name) in
    let after = c.in_ok-look.ensures.search scene p stands s in
    elim c.in-New.is [
      | inl new ↦ absurd (c.in_ok-look.ensures.known (status_read statuses name c.index.result.now New within c.index.ensures new))
      | inr known ↦ elim known [
        | inl waiting ↦ absurd (after.waiting name (status_read statuses name c.index.result.now Waiting within c.index.ensures waiting))
        | inr outside ↦ (after, status_read statuses name c.index.result.now Outside within c.index.ensures outside)
      ]
    ]

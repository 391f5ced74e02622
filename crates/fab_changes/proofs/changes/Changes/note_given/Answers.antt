use Rattle.std.proofs.Common.{◌≡◌, ◌+◌, ◌-◌, ◌<◌, ℕ, Some, length, sym, ap, ◌∙◌, subst, inl, inr, arith, slice_get}
use Rattle.std.proofs.lemmas.Option.{slice_get-get_or}
use Rattle.fab_network.specs.Passes.{IsListed}
use Rattle.fab_changes.specs.declared.changes.Changes.{Changes}
use Rattle.fab_changes.proofs.Noted.{changes_noted}
use Rattle.fab_changes.proofs.changes.Changes.note_given.Goals as goal

pub returns-then-behind-gt0-clause-changes : goal.returns-then-behind-gt0-clause-changes
returns-then-behind-gt0-clause-changes c network asked are =
    let self = c.args.self.now in
    let places = self.places.items in
    let behind = c.index-behind.result.now in
    let inside : c.args.point < length places = omega (arith, c.if-point-len.false, c.len.ensures, self.places.ok) in
    let same : behind ≡ behind - 1 + 1 = omega (arith, c.if-behind-gt0.true) in
    let at : slice_get places c.args.point ≡ Some (behind - 1 + 1) =
    slice_get-get_or places c.args.point behind inside ∙ ap (λ (n : ℕ). Some n) (sym c.index-behind.ensures ∙ same) in
    changes_noted network asked self c.wait.new.self c.wait.ensures.same
    (λ other listed. elim (c.wait.ensures.among other listed) [
      | inl early ↦ are.waiting.among other early
      | inr e ↦ subst (IsListed self.taken.items) (sym e) (are.waiting.placed c.args.point (behind - 1) at).0
    ]) are

pub returns-then-behind-gt0-clause-waits : goal.returns-then-behind-gt0-clause-waits
returns-then-behind-gt0-clause-waits c =
    let self = c.args.self.now in
    let places = self.places.items in
    let behind = c.index-behind.result.now in
    let inside : c.args.point < length places = omega (arith, c.if-point-len.false, c.len.ensures, self.places.ok) in
    let there : slice_get places c.args.point ≡ Some behind =
    slice_get-get_or places c.args.point behind inside ∙ ap (λ (n : ℕ). Some n) (sym c.index-behind.ensures) in
    elim c.wait.ensures.waits [
      | inl all ↦ inl all
      | inr listed ↦ inr (λ place is.
          let both : Some behind ≡ Some (place + 1) =
          sym there ∙ sym (ap (λ (s : Changes). slice_get s.places.items c.args.point) c.wait.ensures.same) ∙ is in
          let e : behind ≡ place + 1 = cc in
          let same : behind - 1 ≡ place = omega (arith, e) in
          subst (IsListed c.wait.new.self.waiting.items) same listed)
    ]

pub returns-else-behind-gt0-clause-waits : goal.returns-else-behind-gt0-clause-waits
returns-else-behind-gt0-clause-waits c =
    let places = c.args.self.now.places.items in
    let behind = c.index-behind.result.now in
    let inside : c.args.point < length places = omega (arith, c.if-point-len.false, c.len.ensures, c.args.self.now.places.ok) in
    let there : slice_get places c.args.point ≡ Some behind =
    slice_get-get_or places c.args.point behind inside ∙ ap (λ (n : ℕ). Some n) (sym c.index-behind.ensures) in
    inr (λ place is.
    let both : Some behind ≡ Some (place + 1) = sym there ∙ is in
    let e : behind ≡ place + 1 = cc in
    absurd (omega (arith, e, c.if-behind-gt0.false)))

use Rattle.std.proofs.Common.{◌≡◌, ℕ, ◌<◌, ◌∷◌, List, Contains, length, reverse, set, sym, ap, ◌∙◌, subst, inl, inr, refl}
use Rattle.std.proofs.lemmas.Bool.{cases_Bool, false≢true}
use Rattle.std.proofs.lemmas.List.{length-set}
use Rattle.std.proofs.lemmas.Option.{slice_get_within}
use Rattle.fab_syntax.specs.Plain.{plain_text}
use Rattle.fab_meaning.specs.Points.{Point, Driver, Drives}
use Rattle.fab_equations.specs.Instances.{points}
use Rattle.fab_load_points.specs.inner.Causes.{StandsFor, IsCause, IsWithin}
use Rattle.fab_load_points.specs.inner.Search.{AreBelow, IsSearch, Opens, given_up, entered}
use Rattle.fab_load_points.specs.declared.causes.Cause.TheVariants.{Input, Register, Reads}
use Rattle.fab_load_points.specs.declared.search.Status.{Status}
use Rattle.fab_load_points.specs.declared.search.Status.TheVariants.{New, Waiting, Inside, Outside}
use Rattle.fab_load_points.specs.declared.search.Visit.{Visit}
use Rattle.fab_load_points.specs.declared.search.Visit.TheVariants.{Leave}
use Rattle.fab_load_points.proofs.Statuses.{given_length, set_opens, given_opens}
use Rattle.fab_load_points.proofs.Steps.{below_entered}
use Rattle.fab_load_points.proofs.Looking.{looked_stream, looked_input, looked_flop, looked_reads, settled_length, settled_opens}
use Rattle.fab_load_points.proofs.search.Search.open.Goals as goal

pub returns-in-Input-clause-long : goal.returns-in-Input-clause-long
returns-in-Input-clause-long c =
    settled_length c.args.self.now.statuses.items c.settle.new.self.statuses.items c.args.name (reverse c.args.self.now.stack.items) c.has.result
    (λ t. (c.settle.ensures.inside t).0) (λ f. (c.settle.ensures.outside f).0)

pub returns-in-Input-clause-opens : goal.returns-in-Input-clause-opens
returns-in-Input-clause-opens c =
    settled_opens c.args.self.now.statuses.items c.settle.new.self.statuses.items c.args.name (reverse c.args.self.now.stack.items) c.has.result
    (λ t. (c.settle.ensures.inside t).0) (λ f. (c.settle.ensures.outside f).0) c.requires.new

pub returns-in-Input-clause-search : goal.returns-in-Input-clause-search
returns-in-Input-clause-search c scene s =
    let text = plain_text c.args.equations.now in
    let old = c.args.self.now.statuses.items in
    let visits = reverse c.args.self.now.stack.items in
    let name = c.args.name in
    let is : (p : Point) (d : Driver) → StandsFor text name p → Drives text p d → IsCause text d Input =
    λ p d stands drives. subst (IsCause text d) c.in-Input.is (c.in_ok-cause_of.ensures.cause p d stands drives) in
    elim (cases_Bool c.has.result) [
      | inl t ↦ (let then = c.settle.ensures.inside t in
          let there = looked_stream text scene old name visits c.requires.new s c.args.stream c.requires.stream is (c.has.ensures.0 t) in
          subst (λ (x : List Status). IsSearch text scene x (reverse c.settle.new.self.stack.items)) (sym then.0)
          (subst (λ (x : List Visit). IsSearch text scene (set old name Inside) (reverse x)) (sym then.1) there))
      | inr f ↦ (let then = c.settle.ensures.outside f in
          let there = looked_input text scene old name visits c.requires.new s c.args.stream c.requires.stream is (λ one. false≢true (sym f ∙ c.has.ensures.1 one)) in
          subst (λ (x : List Status). IsSearch text scene x (reverse c.settle.new.self.stack.items)) (sym then.0)
          (subst (λ (x : List Visit). IsSearch text scene (given_up visits (set old name Outside)) (reverse x)) (sym then.1) there))
    ]

pub returns-in-Register-clause-long : goal.returns-in-Register-clause-long
returns-in-Register-clause-long c =
    let then = c.settle-in-Register.ensures.outside refl in
    ap length then.0 ∙ given_length (reverse c.args.self.now.stack.items) (set c.args.self.now.statuses.items c.args.name Outside)
    ∙ length-set c.args.self.now.statuses.items c.args.name Outside

pub returns-in-Register-clause-opens : goal.returns-in-Register-clause-opens
returns-in-Register-clause-opens c =
    let then = c.settle-in-Register.ensures.outside refl in
    subst (Opens c.args.name c.args.self.now.statuses.items) (sym then.0)
    (given_opens (reverse c.args.self.now.stack.items) c.args.self.now.statuses.items c.args.name c.requires.new)

pub returns-in-Register-clause-search : goal.returns-in-Register-clause-search
returns-in-Register-clause-search c scene s =
    let text = plain_text c.args.equations.now in
    let old = c.args.self.now.statuses.items in
    let visits = reverse c.args.self.now.stack.items in
    let name = c.args.name in
    let then = c.settle-in-Register.ensures.outside refl in
    let is : (p : Point) (d : Driver) → StandsFor text name p → Drives text p d → IsCause text d Register =
    λ p d stands drives. subst (IsCause text d) c.in-Register.is (c.in_ok-cause_of.ensures.cause p d stands drives) in
    subst (λ (x : List Status). IsSearch text scene x (reverse c.settle-in-Register.new.self.stack.items)) (sym then.0)
    (subst (λ (x : List Visit). IsSearch text scene (given_up visits (set old name Outside)) (reverse x)) (sym then.1)
    (looked_flop text scene old name visits c.requires.new s is))

pub returns-in_ok-wait-in-Reads-clause-within : goal.returns-in_ok-wait-in-Reads-clause-within
returns-in_ok-wait-in-Reads-clause-within c =
    let old = c.args.self.now.statuses.items in
    let visits = reverse c.args.self.now.stack.items in
    let name = c.args.name in
    let numbers = c.in-Reads.reads.items in
    let long : length c.wait.new.self.statuses.items ≡ length old = ap length c.in_ok-wait-in-Reads.ensures.statuses ∙ length-set old name Waiting in
    let tops : reverse c.wait.new.self.stack.items ≡ entered numbers (Leave name ∷ visits) =
    c.in_ok-wait-in-Reads.ensures.stack ∙ ap (λ (xs : List ℕ). entered xs (Leave name ∷ visits)) c.deref.ensures.value in
    let few : (n : ℕ) → Contains numbers n → n < length old =
    λ n at. subst (λ k. n < k) (sym c.requires.long) (subst (IsWithin (length (points (plain_text c.args.equations.now)))) c.in-Reads.is c.in_ok-cause_of.ensures.within n at) in
    subst (λ n. AreBelow n (reverse c.wait.new.self.stack.items)) (sym long)
    (subst (AreBelow (length old)) (sym tops)
    (below_entered (length old) numbers (Leave name ∷ visits) few (slice_get_within old name New c.requires.new, c.requires.within)))

pub returns-in_ok-wait-in-Reads-clause-opens : goal.returns-in_ok-wait-in-Reads-clause-opens
returns-in_ok-wait-in-Reads-clause-opens c =
    let old = c.args.self.now.statuses.items in
    let apart : Waiting ≡ New → ⊥ = λ e. cc in
    subst (Opens c.args.name old) (sym c.in_ok-wait-in-Reads.ensures.statuses) (set_opens old c.args.name Waiting apart c.requires.new)

pub returns-in_ok-wait-in-Reads-clause-search : goal.returns-in_ok-wait-in-Reads-clause-search
returns-in_ok-wait-in-Reads-clause-search c scene s =
    let text = plain_text c.args.equations.now in
    let old = c.args.self.now.statuses.items in
    let visits = reverse c.args.self.now.stack.items in
    let name = c.args.name in
    let numbers = c.in-Reads.reads.items in
    let tops : reverse c.wait.new.self.stack.items ≡ entered numbers (Leave name ∷ visits) =
    c.in_ok-wait-in-Reads.ensures.stack ∙ ap (λ (xs : List ℕ). entered xs (Leave name ∷ visits)) c.deref.ensures.value in
    let is : (p : Point) (d : Driver) → StandsFor text name p → Drives text p d → IsCause text d (Reads c.in-Reads.reads) =
    λ p d stands drives. subst (IsCause text d) c.in-Reads.is (c.in_ok-cause_of.ensures.cause p d stands drives) in
    subst (λ (x : List Status). IsSearch text scene x (reverse c.wait.new.self.stack.items)) (sym c.in_ok-wait-in-Reads.ensures.statuses)
    (subst (IsSearch text scene (set old name Waiting)) (sym tops) (looked_reads text scene old name visits c.requires.new s numbers is))

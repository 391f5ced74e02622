use Rattle.std.proofs.Common.{◌≡◌, ℕ, List, [], ◌∷◌, ◌++◌, ap, ◌∙◌, subst}
use Rattle.fab_syntax.specs.Plain.{plain_text}
use Rattle.fab_meaning.specs.Reads.{mentions}
use Rattle.fab_equations.specs.declared.driver.Driver.TheVariants.{Outside, Same, Value, Flop, Hold}
use Rattle.fab_load_points.specs.inner.Causes.{AddsNames}
use Rattle.fab_load_points.proofs.Reading.{means_so, flop_cause, copy_cause, value_cause, hold_cause, same_within, value_within, hold_within}
use Rattle.fab_load_points.proofs.causes.cause_of.Goals as goal

pub returns-in-Outside-clause-cause : goal.returns-in-Outside-clause-cause
returns-in-Outside-clause-cause c p d stands drives =
    means_so (plain_text c.args.equations.now) c.requires.sound c.args.name Outside p d c.in-Outside.ensures.drives stands.is drives

pub returns-in-Flop-clause-cause : goal.returns-in-Flop-clause-cause
returns-in-Flop-clause-cause c p d stands drives =
    let text = plain_text c.args.equations.now in
    let clock = c.in-Flop.field-0 in
    let next = c.in-Flop.field-1 in
    flop_cause text c.requires.sound clock next d (means_so text c.requires.sound c.args.name (Flop clock next) p d c.in-Flop.ensures.drives stands.is drives)

pub returns-in_ok-push-in-Same-clause-cause : goal.returns-in_ok-push-in-Same-clause-cause
returns-in_ok-push-in-Same-clause-cause c p d stands drives =
    let text = plain_text c.args.equations.now in
    let other = c.in-Same.other in
    let numbers = c.push.new.self.items in
    let one : numbers ≡ other ∷ [] = c.in_ok-push-in-Same.ensures.items ∙ ap (λ (xs : List ℕ). xs ++ other ∷ []) c.new-reads.ensures.items in
    copy_cause text c.requires.sound other p d numbers stands.first drives
    (means_so text c.requires.sound c.args.name (Same other) p d c.in-Same.ensures.drives stands.is drives) one

pub returns-in_ok-add_source-in-Value-clause-cause : goal.returns-in_ok-add_source-in-Value-clause-cause
returns-in_ok-add_source-in-Value-clause-cause c p d stands drives =
    let text = plain_text c.args.equations.now in
    let source = c.in-Value.source in
    let numbers = c.add_source.new.reads.items in
    value_cause text c.requires.sound source d numbers
    (means_so text c.requires.sound c.args.name (Value source) p d c.in-Value.ensures.drives stands.is drives)
    (λ path e is. subst (λ (old : List ℕ). AddsNames text path (mentions e) old numbers) c.new-reads.ensures.items (c.in_ok-add_source-in-Value.ensures path e is))

pub returns-in_ok-add_source-in-Hold-2-clause-cause : goal.returns-in_ok-add_source-in-Hold-2-clause-cause
returns-in_ok-add_source-in-Hold-2-clause-cause c p d stands drives =
    let text = plain_text c.args.equations.now in
    let gate = c.in-Hold.gate in
    let latched = c.in-Hold.latched in
    let middle = c.add_source-in-Hold.new.reads.items in
    let numbers = c.add_source-in-Hold-2.new.reads.items in
    hold_cause text c.requires.sound gate latched d middle numbers
    (means_so text c.requires.sound c.args.name (Hold gate latched) p d c.in-Hold.ensures.drives stands.is drives)
    (λ path e is. subst (λ (old : List ℕ). AddsNames text path (mentions e) old middle) c.new-reads.ensures.items (c.in_ok-add_source-in-Hold.ensures path e is))
    c.in_ok-add_source-in-Hold-2.ensures

pub returns-in_ok-push-in-Same-clause-within : goal.returns-in_ok-push-in-Same-clause-within
returns-in_ok-push-in-Same-clause-within c =
    let other = c.in-Same.other in
    let one : c.push.new.self.items ≡ other ∷ [] = c.in_ok-push-in-Same.ensures.items ∙ ap (λ (xs : List ℕ). xs ++ other ∷ []) c.new-reads.ensures.items in
    same_within (plain_text c.args.equations.now) c.args.name other c.push.new.self.items c.in-Same.ensures.drives one

pub returns-in_ok-add_source-in-Value-clause-within : goal.returns-in_ok-add_source-in-Value-clause-within
returns-in_ok-add_source-in-Value-clause-within c =
    let text = plain_text c.args.equations.now in
    let numbers = c.add_source.new.reads.items in
    value_within text c.args.name c.in-Value.source numbers c.in-Value.ensures.drives
    (λ path e is. subst (λ (old : List ℕ). AddsNames text path (mentions e) old numbers) c.new-reads.ensures.items (c.in_ok-add_source-in-Value.ensures path e is))

pub returns-in_ok-add_source-in-Hold-2-clause-within : goal.returns-in_ok-add_source-in-Hold-2-clause-within
returns-in_ok-add_source-in-Hold-2-clause-within c =
    let text = plain_text c.args.equations.now in
    let middle = c.add_source-in-Hold.new.reads.items in
    hold_within text c.args.name c.in-Hold.gate c.in-Hold.latched middle c.add_source-in-Hold-2.new.reads.items c.in-Hold.ensures.drives
    (λ path e is. subst (λ (old : List ℕ). AddsNames text path (mentions e) old middle) c.new-reads.ensures.items (c.in_ok-add_source-in-Hold.ensures path e is))
    c.in_ok-add_source-in-Hold-2.ensures

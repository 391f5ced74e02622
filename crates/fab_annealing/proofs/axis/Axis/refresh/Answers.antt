use Rattle.std.proofs.Common.{ℕ, ◌<◌, List, sym, ◌∙◌, subst}
use Rattle.std.proofs.lemmas.List.Elements.{All-contains}
use Rattle.std.specs.List.{All, Contains}
use Rattle.fab_annealing.specs.Measured.{IsMeasured, HasMoved, nets_of, items_of, net_count}
use Rattle.fab_annealing.proofs.Kept.{numbers_read, moved_shaped, unmoved, renewed_all}
use Rattle.fab_annealing.proofs.axis.Axis.refresh.Goals as goal

pub returns-then-from-to-clause-measured : goal.returns-then-from-to-clause-measured
returns-then-from-to-clause-measured c =
    let before = c.requires.moved.0 in
    subst (λ (ps : List ℕ). IsMeasured c.args.nets.now ps c.args.self.now.spans.items c.args.self.now.total)
    (unmoved c.args.nets.now before c.args.self.now.places.items c.args.item c.args.from c.args.to c.requires.moved.1 c.if-from-to.true) c.requires.moved.2

pub refresh_nets-requires-clause-touching : goal.refresh_nets-requires-clause-touching
refresh_nets-requires-clause-touching c =
    let nets = c.args.nets.now in
    let is = c.deref.ensures.value ∙ numbers_read nets.touching.items c.args.item c.index.result.now c.requires.item c.index.ensures in
    subst (λ (ns : List ℕ). All (λ net. net < net_count nets) ns) (sym is) (c.requires.nets.touched c.args.item c.requires.item)

pub refresh_nets-requires-clause-shaped : goal.refresh_nets-requires-clause-shaped
refresh_nets-requires-clause-shaped c =
    let old = c.args.self.now in
    moved_shaped c.args.nets.now c.requires.moved.0 old.places.items old.spans.items c.args.item c.args.from c.args.to old.total c.requires.moved.1 c.requires.to c.requires.moved.2.shaped

pub returns-clause-measured : goal.returns-clause-measured
returns-clause-measured c =
    let nets = c.args.nets.now in
    let old = c.args.self.now in
    let now = c.refresh_nets.new.self in
    let before = c.requires.moved.0 in
    let moved = c.requires.moved.1 in
    let is = c.deref.ensures.value ∙ numbers_read nets.touching.items c.args.item c.index.result.now c.requires.item c.index.ensures in
    let step = c.in_ok-refresh_nets.ensures in
    let holds : (net : ℕ) → Contains c.deref.result.now net → Contains (items_of nets net) c.args.item = λ net among.
    let there = subst (λ (ns : List ℕ). Contains ns net) is among in
    (c.requires.nets.complete c.args.item net c.requires.item (All-contains (λ n. n < net_count nets) (nets_of nets c.args.item) net (c.requires.nets.touched c.args.item c.requires.item) there)).1 there in
    renewed_all nets before now.places.items now.spans.items c.deref.result.now c.args.item c.args.from c.args.to now.total c.requires.nets c.requires.item is
    (subst (λ (ps : List ℕ). HasMoved nets before ps c.args.item c.args.from c.args.to) (sym c.refresh_nets.ensures.places) moved)
    step.shaped (step.right before c.args.item moved holds c.requires.moved.2.right)

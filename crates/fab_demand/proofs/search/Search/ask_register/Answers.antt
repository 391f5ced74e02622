use Rattle.std.proofs.Common.{◌≡◌, ℕ, Option, Some, sym, ◌∙◌, subst}
use Rattle.std.specs.Prelude.{IfSome}
use Rattle.fab_network.specs.declared.network.Drive.TheVariants.{Flop}
use Rattle.fab_network.specs.Network.{IsFitSource}
use Rattle.fab_demand.specs.declared.registers.Span.{Span}
use Rattle.fab_demand.specs.Search.{asked_of}
use Rattle.fab_demand.specs.inner.Beside.{IsInSpan, IsSpanAsked}
use Rattle.fab_demand.proofs.search.Search.ask_register.Goals as goal

-- all has been asked for that the bit needs
pub returns-then-is_in-clause-register : goal.returns-then-is_in-clause-register
returns-then-is_in-clause-register c next drive =
    let found = c.is_in.ensures c.if-is_in.true in
    let both : Some (Flop c.args.clock c.in-Some.next) ≡ Some (Flop c.args.clock next) = sym c.in-Some.ensures ∙ drive in
    let same : c.in-Some.next ≡ next = cc in
    let asked : IsSpanAsked c.args.network.now.trees.items (asked_of c.args.self.now) found.0 =
    subst (λ (o : Option Span). IfSome o (IsSpanAsked c.args.network.now.trees.items (asked_of c.args.self.now))) found.1 c.requires.asked in
    asked next (subst (IsInSpan found.0) same found.2)

pub ask_source-requires-clause-source : goal.ask_source-requires-clause-source
ask_source-requires-clause-source c =
    subst (λ (count : ℕ). IsFitSource c.args.network.now.trees.items count c.in-Some.next) c.requires.points
    (c.requires.fit c.args.point (Flop c.args.clock c.in-Some.next) c.in-Some.ensures)

pub span_of-requires-clause-source : goal.span_of-requires-clause-source
span_of-requires-clause-source c =
    subst (λ (count : ℕ). IsFitSource c.args.network.now.trees.items count c.in-Some.next)
    (c.requires.points ∙ sym c.ask_source.ensures.more.long)
    (c.requires.fit c.args.point (Flop c.args.clock c.in-Some.next) c.in-Some.ensures)

use Rattle.std.proofs.Common.{◌+◌, ◌*◌, ◌∙◌, inl, inr, refl, ap, sym}
use Rattle.std.proofs.lemmas.Bool.{false≢true}
use Rattle.fab_timing.proofs.steps.edge_units.Goals as goal

pub returns-then-is_joined : goal.returns-then-is_joined
returns-then-is_joined c = inl (c.is_joined.ensures.0 c.if-is_joined.true, ap (λ n. 1 + 2 * n) c.distance.ensures.distance)

pub returns-else-is_joined : goal.returns-else-is_joined
returns-else-is_joined c = inr (λ joined. false≢true (sym c.if-is_joined.false ∙ c.is_joined.ensures.1 joined), refl)

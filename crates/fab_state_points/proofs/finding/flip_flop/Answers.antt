use Rattle.std.proofs.Common.{sym, subst, None, Option, ℕ, IsTrue}
use Rattle.std.proofs.lemmas.Bool.{false≢true}
use Rattle.fab_syntax.specs.Plain.{plain_text}
use Rattle.fab_state_points.specs.Finding.{IsFoundFlop}
use Rattle.fab_state_points.proofs.finding.flip_flop.Goals as goal

pub returns : goal.returns
returns c =
    subst (λ (o : Option ℕ). IsFoundFlop (plain_text c.args.equations.now) o None) (sym c.in_ok-number.was)
    (λ p is clocked. false≢true (subst IsTrue c.if-is_flip_flop.false ((c.is_flip_flop.ensures p is).1 clocked)))

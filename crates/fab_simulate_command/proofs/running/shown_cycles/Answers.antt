use Rattle.fab_simulate_command.proofs.running.shown_cycles.Goals as goal

pub returns-in-None : goal.returns-in-None
returns-in-None g c = λ text new. rw c.in-None.is (c.simulated.ensures text new)

pub returns-in-Some : goal.returns-in-Some
returns-in-Some g c = λ text new. rw c.in-Some.is (c.simulated_in_order.ensures text new)

use Rattle.fab_wiring.proofs.Solved.{least_by_number, solutions_by_number}
use Rattle.fab_wiring.proofs.laws.numbered_solutions.Goals as goal

pub returns-clause-solve : goal.returns-clause-solve
returns-clause-solve c = solutions_by_number c.points_of_sound_texts_have_one_driver.ensures

pub returns-clause-least : goal.returns-clause-least
returns-clause-least c = least_by_number c.points_of_sound_texts_have_one_driver.ensures

use Rattle.fab_impl.specs.Spelled.{implementation_format}
use Rattle.fab_state.specs.Constraints.{constraint_format}
use Rattle.fab_state.specs.Spelled.{state_format}
use Rattle.fab_stimulus.specs.Stimuli.{stimulus_format}
use Rattle.fab_refusals_laws.proofs.RefusedFirsts.{texts_once}
use Rattle.fab_refusals_laws.proofs.words_are_refused_once.Goals as goal

pub returns-clause-any : goal.returns-clause-any
returns-clause-any c = texts_once

pub returns-clause-states : goal.returns-clause-states
returns-clause-states c = texts_once state_format

pub returns-clause-constraints : goal.returns-clause-constraints
returns-clause-constraints c = λ fabric allowed. texts_once (constraint_format fabric allowed)

pub returns-clause-stimuli : goal.returns-clause-stimuli
returns-clause-stimuli c = λ ports. texts_once (stimulus_format ports)

pub returns-clause-implementations : goal.returns-clause-implementations
returns-clause-implementations c = λ fabric. texts_once (implementation_format fabric)

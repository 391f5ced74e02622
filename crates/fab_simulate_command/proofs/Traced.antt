-- The trace that is printed.
use Rattle.std.proofs.Common.{◌≡◌, ℕ, Bool, List, [], ◌∷◌, map, Option, Vec, Global, Result, Ok, Err, IfOk, refl, sym, ap, ◌∙◌, subst}
use Rattle.fab_base.specs.declared.memory.Memory.{Memory}
use Rattle.fab_bits.specs.Bits.{digits}
use Rattle.fab_syntax.specs.Plain.{PlainModule}
use Rattle.fab_systems_laws.specs.Ternary.{Tern as PlainTern}
use Rattle.fab_state.specs.Plain.{PlainState}
use Rattle.fab_ternary.specs.declared.Tern.{Tern}
use Rattle.fab_ternary.specs.Terns.{plain_tern}
use Rattle.fab_stimulus.specs.Stimuli.{ports_of}
use Rattle.fab_stimulus.specs.Traces.{trace_text}
use Rattle.fab_simulate_command.specs.Simulating.{Shows, Traces}

-- lists of terns by one view and then another are seen by both
seen_twice : (traced : List (Vec Tern Global)) → map (map plain_tern) (map (λ line. line.items) traced) ≡ map (λ line. map plain_tern line.items) traced
seen_twice [] = refl
seen_twice (line ∷ traced) = ap (λ (m : List (List PlainTern)). map plain_tern line.items ∷ m) (seen_twice traced)

pub traced_is_printed : (text : List PlainModule) (state : PlainState) (order : Option ℕ) (words : List ℕ) (lines : List (List Bool)) (traced lent : List (Vec Tern Global)) → lent ≡ traced →
    (result : Result (Vec ℕ Global) Memory) → Shows text state order (map (digits 32) words) lines (map (λ line. map plain_tern line.items) traced) →
    IfOk result (λ bytes. bytes.items ≡ trace_text (ports_of state.outs) (map (λ line. line.items) lent)) →
    IfOk result (λ bytes. Traces text state order words lines bytes.items)
traced_is_printed text state order words lines traced lent same (Ok bytes) simulates printed = record {
  shown = map (λ line. line.items) traced;
  simulates = subst (λ (s : List (List PlainTern)). Shows text state order (map (digits 32) words) lines s) (sym (seen_twice traced)) simulates;
  bytes_are = printed ∙ ap (λ (t : List (Vec Tern Global)). trace_text (ports_of state.outs) (map (λ line. line.items) t)) same;
}
traced_is_printed text state order words lines traced lent same (Err memory) simulates printed = tt

-- A trace of the packed netlist is one of the netlist that was read, where the packed one runs as that does.
use Rattle.std.proofs.Common.{◌≡◌, ℕ, Bool, List, [], ◌∷◌, Contains, map, length, refl, sym, ap, ◌∙◌, subst}
use Rattle.std.proofs.lemmas.List.Elements.{Contains-append_left, Contains-append_right}
use Rattle.fab_desk.specs.Files.{Map}
use Rattle.fab_netlist.specs.Meaning.{IsRun, first_value}
use Rattle.fab_netlist.specs.Plain.{PlainNetlist, name_of}
use Rattle.fab_netlist.specs.Wide.{RunsAs, within}
use Rattle.fab_netlist.proofs.Members.{first_in, later_in}
use Rattle.fab_texts.specs.Rows.{rows_of}
use Rattle.fab_ternary.specs.declared.Tern.{Tern}
use Rattle.fab_stimulus.specs.Spelled.{Says}
use Rattle.fab_stimulus.specs.Traces.{trace_text}
use Rattle.fab_netlist_traces_laws.specs.SimulatedDesigns.{initial_latches}
use Rattle.fab_outputs.specs.Storing.{PlainOutput, output}
use Rattle.fab_flow.proofs.ReadAs.{has_within}
use Rattle.fab_flow_laws.specs.SimulatedLaws.{TracesNetlist, known_tern, port_values}

-- what agrees on the nets of a list maps it to one list
agree : {B : Type 0} (first second : ℕ → B) (nets : List ℕ) → ((net : ℕ) → Contains nets net → first net ≡ second net) → map first nets ≡ map second nets
agree first second [] same = refl
agree first second (net ∷ nets) same =
    let here = same net (first_in net nets net refl) in
    let rest = agree first second nets (λ other among. same other (later_in net nets other among)) in
    λ j. here j ∷ rest j

module _ (read netlist : PlainNetlist) (alike : RunsAs read netlist) where
  inputs_are : map (name_of netlist) netlist.inputs ≡ map (name_of read) read.inputs
  inputs_are =
      ap (map (name_of netlist)) alike.inputs
      ∙ agree (name_of netlist) (name_of read) read.inputs (λ net among. alike.names net (alike.ports net (Contains-append_left read.inputs read.outputs net among)))

  outputs_are : map (name_of netlist) netlist.outputs ≡ map (name_of read) read.outputs
  outputs_are =
      ap (map (name_of netlist)) alike.outputs
      ∙ agree (name_of netlist) (name_of read) read.outputs (λ net among. alike.names net (alike.ports net (Contains-append_right read.inputs read.outputs net among)))

  values_are : (nets : ℕ → Bool) → port_values netlist nets ≡ port_values read (within (length read.nets) nets)
  values_are nets =
      let shown : ℕ → Tern = λ net. known_tern (nets net) in
      let shown_within : ℕ → Tern = λ net. known_tern (within (length read.nets) nets net) in
      ap (map shown) alike.outputs
      ∙ agree shown shown_within read.outputs (λ net among.
      ap known_tern (sym (has_within (length read.nets) nets net (alike.ports net (Contains-append_right read.inputs read.outputs net among)))))

  lines_are : (nows : List (ℕ → Bool)) → map (port_values netlist) nows ≡ map (port_values read) (map (within (length read.nets)) nows)
  lines_are [] = refl
  lines_are (nets ∷ nows) = let here = values_are nets in let rest = lines_are nows in λ j. here j ∷ rest j

  pub traces_read : (files : Map) (stimulus trace : List ℕ) (outputs : List PlainOutput) → TracesNetlist files stimulus trace netlist outputs →
      TracesNetlist files stimulus trace read outputs
  traces_read files stimulus trace outputs it =
      let nows = map (within (length read.nets)) it.nows in
      record {
        lines = it.lines;
        given = record {
          bytes = it.given.bytes;
          found = it.given.found;
          spelled = subst (λ (ports : List (List ℕ)). Says ports (rows_of it.given.bytes) it.lines) inputs_are it.given.spelled;
        };
        nows = nows;
        run = subst (λ (held : List Bool). IsRun read held it.lines nows) (ap (map first_value) alike.latches)
            (alike.runs (initial_latches netlist) it.lines it.nows it.run);
        outputs_are = it.outputs_are ∙ (λ j. output trace (trace_text (outputs_are j) (lines_are it.nows j)) ∷ []);
      }

-- What stands behind the files that `flow` stored of a sample.
use Rattle.std.proofs.Common.{◌≡◌, ◌≤◌, ◌∙◌, ℕ, List, length, codes, None, Some, refl, sym, ap, subst}
use Rattle.fab_base.specs.declared.TheConstants.{MAX_FILE_BYTES}
use Rattle.fab_desk.specs.Files.{Map}
use Rattle.fab_desk.specs.Memory.{map_of}
use Rattle.fab_files.specs.Stages.{ReadsFrom}
use Rattle.fab_model.specs.Grid.{PlainFabric}
use Rattle.fab_syntax.specs.Spelling.{text_bytes}
use Rattle.fab_netlist.specs.Packing.{packed}
use Rattle.fab_netlist.specs.Packed.{PlainPacked}
use Rattle.fab_ways_laws.specs.Placing.{cost}
use Rattle.fab_implementation.specs.Plain.{PlainImplementation}
use Rattle.fab_legal.specs.Legal.{ArePlaced}
use Rattle.fab_legal.specs.WellMade.{IsWellMadePacked}
use Rattle.fab_legal.proofs.PackedMade.{packed_made}
use Rattle.fab_texts.specs.Rows.{rows_of, words_of}
use Rattle.fab_texts.proofs.PrintedRows.{rows_again}
use Rattle.fab_impl.specs.Spelled.{HasSpelling, Says, Spells, implementation_lines, implementation_text}
use Rattle.fab_impl.proofs.ReadBack.{spelled_is_read}
use Rattle.fab_designs.specs.Designs.{PlainDesign, SpellsDesign}
use Rattle.fab_designs.specs.Implementations.{ReadsImplementation}
use Rattle.fab_designs.proofs.Judged.{design_is_judged}
use Rattle.fab_outputs.specs.Storing.{IsDone, PlainOutput, with_outputs}
use Rattle.fab_sample_runs_laws.specs.fab_flow_Generating.{generated_text}
use Rattle.fab_sample_runs_laws.specs.fab_flow_Flowing.{MakesFlow, flow_outputs}
use Rattle.fab_sample_runs_laws.proofs.fab_flow_laws_HandedOut.{found_is, given_out}
use Rattle.fab_sample_runs_laws.specs.fab_spelled_designs_laws_DesignLaws.{IsSound, LegalDesignsAreSpelled, SpelledDesignsAreSound}
use Rattle.fab_draws.specs.Draws.{draws_of}
use Rattle.fab_sample_runs_laws.specs.Commands.{names, rounds}
use Rattle.fab_sample_runs_laws.specs.Laws.{SampleImplementationsAreShort}
use Rattle.fab_sampling.specs.declared.run.Run.{Run}
use Rattle.fab_sampling.specs.inner.Running.{files_of, HasFlowed, IsNew}
use Rattle.fab_sampling.proofs.Texts.{is_text}
use Rattle.fab_sampling.proofs.Told.{sample_told}

-- ---- `flow` is done

-- Files spell one design, so that of the flow is the one that was read.
pub has_flowed : (run : Run) (shelf : List (List ℕ × List ℕ)) → IsNew run → IsDone (λ files. MakesFlow files names rounds) (Some (map_of run.shelf)) (Some (map_of shelf))
    → HasFlowed (record run { shelf = shelf })
has_flowed run shelf new done =
    let stored : map_of shelf ≡ with_outputs done.outputs (map_of run.shelf) = (let is = done.after_is in cc) in
    subst (λ (files : Map). SpellsDesign files names.design run.design → MakesFlow files names rounds done.outputs → map_of shelf ≡ with_outputs done.outputs files
    → HasFlowed (record run { shelf = shelf })) (sym new.files) (flowed_of done.outputs) new.spelled (done.made (map_of run.shelf) refl) stored
  where
    flowed_of : (stored : List PlainOutput) → SpellsDesign (files_of run) names.design run.design → MakesFlow (files_of run) names rounds stored
        → map_of shelf ≡ with_outputs stored (files_of run) → HasFlowed (record run { shelf = shelf })
    flowed_of stored spelled flow is = record {
      sized = record { least = new.sized.least; most = new.sized.most };
      stored = stored;
      flow = flow;
      design = (design_is_judged (files_of run) names.design).once flow.design run.design flow.spelled spelled;
      files = is;
    }

-- it stays so while files are read alone
unfoldable pub still_flowed : (run : Run) (shelf : List (List ℕ × List ℕ)) → map_of shelf ≡ map_of run.shelf → HasFlowed run → HasFlowed (record run { shelf = shelf })
still_flowed run shelf same flowed = record {
  sized = record { least = flowed.sized.least; most = flowed.sized.most };
  stored = flowed.stored;
  flow = flowed.flow;
  design = flowed.design;
  files = same ∙ flowed.files;
}

-- ---- what is read back

-- what stands under the name of the implementation
implementation_stands : (files : Map) (stored : List PlainOutput) (flow : MakesFlow files names rounds stored)
    → with_outputs stored files (codes "sample.impl") ≡ Some (implementation_text flow.design.fabric flow.made.implementation)
implementation_stands files stored flow =
    ap (λ (list : List PlainOutput). with_outputs list files (codes "sample.impl"))
    (flow.made.outputs_are ∙ ap (flow_outputs names.base (text_bytes (generated_text flow.design.fabric)) (implementation_text flow.design.fabric flow.made.implementation)) flow.made.assembly.outputs_are)

-- a printed implementation spells itself
printed_spells : (fabric : PlainFabric) (implementation : PlainImplementation) (bytes : List ℕ) → HasSpelling fabric implementation
    → bytes ≡ implementation_text fabric implementation → Spells fabric (rows_of bytes) implementation
printed_spells fabric implementation bytes has is = record {
  lines = ap (λ (b : List ℕ). words_of (rows_of b)) is ∙ rows_again (implementation_lines fabric implementation) has.rows;
  nameable = has.nameable;
}

module _ (sound : SpelledDesignsAreSound) (spelled : LegalDesignsAreSpelled) (run : Run) (flowed : HasFlowed run) where
  abbrev fabric : PlainFabric
  fabric = run.design.fabric

  abbrev implementation : PlainImplementation
  implementation = flowed.flow.made.implementation

  stands : (map_of run.shelf) (codes "sample.impl") ≡ Some (implementation_text fabric implementation)
  stands =
      ap (λ (files : Map). files (codes "sample.impl")) flowed.files ∙ implementation_stands (files_of run) flowed.stored flowed.flow
      ∙ ap (λ (d : PlainDesign). Some (implementation_text d.fabric implementation)) flowed.design

  spells : (bytes : List ℕ) → bytes ≡ implementation_text fabric implementation → Spells fabric (rows_of bytes) implementation
  spells bytes is =
      let mapping = flowed.flow.made.mapping in
      let reset_is = ap (λ (i : PlainImplementation). i.reset) mapping.is ∙ mapping.good.reset in
      let has = (spelled (files_of run) names.design flowed.flow.design None implementation flowed.flow.spelled flowed.flow.made.legal).text reset_is in
      printed_spells fabric implementation bytes (subst (λ (d : PlainDesign). HasSpelling d.fabric implementation) flowed.design has) is

  said : (bytes : List ℕ) → bytes ≡ implementation_text fabric implementation → Says fabric (rows_of bytes) implementation
  said bytes is =
      let is_sound = subst IsSound flowed.design (sound (files_of run) names.design flowed.flow.design flowed.flow.spelled) in
      spelled_is_read fabric is_sound.fabric is_sound.tiles (rows_of bytes) implementation (spells bytes is)

  -- the implementation that is read is the one behind the files
  pub read_is : (it : PlainImplementation) → ReadsImplementation (map_of run.shelf) (codes "sample.impl") fabric it → it ≡ implementation
  read_is it reads =
      let bytes_are = found_is (map_of run.shelf) (codes "sample.impl") reads.bytes (implementation_text fabric implementation) stands reads.found in
      reads.spelled.says.1 ∙ sym (said reads.bytes bytes_are).1

  -- it is short enough to be read
  pub mapped_reads : SampleImplementationsAreShort → ReadsFrom (map_of run.shelf) (codes "sample.impl") (λ bytes. Spells fabric (rows_of bytes)) implementation
  mapped_reads are_short =
      let short = are_short (files_of run) run.size (draws_of run.seed) flowed.sized.least flowed.sized.most (sample_told run.size run.seed) rounds flowed.stored flowed.flow in
      record {
        bytes = implementation_text fabric implementation;
        found = given_out (map_of run.shelf) (codes "sample.impl") (implementation_text fabric implementation) (is_text (codes "sample.impl") refl) stands
            (subst (λ (d : PlainDesign). length (implementation_text d.fabric implementation) ≤ MAX_FILE_BYTES) flowed.design short);
        spelled = spells (implementation_text fabric implementation) refl;
      }

-- it stands as a placed design of a packed netlist
pub placed : (run : Run) (flowed : HasFlowed run) → ArePlaced run.design.fabric (packed run.design.netlist) flowed.flow.made.implementation
placed run flowed = subst (λ (d : PlainDesign). ArePlaced d.fabric (packed d.netlist) flowed.flow.made.implementation) flowed.design flowed.flow.made.legal.placed

pub packed_is_made : SpelledDesignsAreSound → (run : Run) → HasFlowed run → IsWellMadePacked (packed run.design.netlist)
packed_is_made sound run flowed =
    packed_made run.design.netlist (subst IsSound flowed.design (sound (files_of run) names.design flowed.flow.design flowed.flow.spelled)).netlist

-- The same where the body has the parts of the run, the name of the file and the packed netlist under names of its own.
module _ (sound : SpelledDesignsAreSound) (spelled : LegalDesignsAreSpelled) (run : Run) (flowed : HasFlowed run) (shelf : List (List ℕ × List ℕ)) (file : List ℕ) (fabric : PlainFabric)
    (shelf_is : shelf ≡ run.shelf) (file_is : file ≡ codes "sample.impl") (fabric_is : fabric ≡ run.design.fabric) where
  pub read_there : (it : PlainImplementation) → ReadsImplementation (map_of shelf) file fabric it → it ≡ flowed.flow.made.implementation
  read_there it reads =
      read_is sound spelled run flowed it
      (subst (λ (s : List (List ℕ × List ℕ)). ReadsImplementation (map_of s) (codes "sample.impl") run.design.fabric it) shelf_is
      (subst (λ (f : List ℕ). ReadsImplementation (map_of shelf) f run.design.fabric it) file_is
      (subst (λ (f : PlainFabric). ReadsImplementation (map_of shelf) file f it) fabric_is reads)))

  pub reads_there : SampleImplementationsAreShort → ReadsFrom (map_of shelf) file (λ bytes. Spells fabric (rows_of bytes)) flowed.flow.made.implementation
  reads_there are_short =
      let it = flowed.flow.made.implementation in
      subst (λ (f : PlainFabric). ReadsFrom (map_of shelf) file (λ bytes. Spells f (rows_of bytes)) it) (sym fabric_is)
      (subst (λ (f : List ℕ). ReadsFrom (map_of shelf) f (λ bytes. Spells run.design.fabric (rows_of bytes)) it) (sym file_is)
      (subst (λ (s : List (List ℕ × List ℕ)). ReadsFrom (map_of s) (codes "sample.impl") (λ bytes. Spells run.design.fabric (rows_of bytes)) it) (sym shelf_is)
      (mapped_reads sound spelled run flowed are_short)))

-- it can be priced, and costs what the one behind the files does
module _ (run : Run) (flowed : HasFlowed run) (cells : PlainPacked) (it : PlainImplementation) (cells_are : cells ≡ packed run.design.netlist)
    (it_is : it ≡ flowed.flow.made.implementation) where
  pub placed_there : (there : PlainFabric) → there ≡ run.design.fabric → ArePlaced there cells it
  placed_there there fabric_is =
      subst (λ (f : PlainFabric). ArePlaced f cells it) (sym fabric_is)
      (subst (λ (c : PlainPacked). ArePlaced run.design.fabric c it) (sym cells_are)
      (subst (ArePlaced run.design.fabric (packed run.design.netlist)) (sym it_is) (placed run flowed)))

  pub priced_there : cost cells it ≡ cost (packed flowed.flow.design.netlist) flowed.flow.made.implementation
  priced_there =
      ap (λ (c : PlainPacked). cost c it) cells_are ∙ ap (λ (d : PlainDesign). cost (packed d.netlist) it) (sym flowed.design)
      ∙ ap (cost (packed flowed.flow.design.netlist)) it_is

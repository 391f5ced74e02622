-- What is read of each file, put together.
use Rattle.std.proofs.Common.{◌≡◌, ◌≢◌, ◌≤◌, ◌⊎◌, ℕ, List, [], Result, Ok, Err, IfOk, OnOk, inl, inr, sym, ap, ◌∙◌, subst}
use Rattle.fab_base.specs.declared.fault.Fault.{Fault}
use Rattle.fab_base.specs.declared.fault.Fault.TheVariants as faults
use Rattle.fab_desk.specs.Files.{Map}
use Rattle.fab_files.specs.Files.{handed_out}
use Rattle.fab_files.specs.Stages.{ReadsFrom}
use Rattle.fab_model.specs.Grid.{PlainFabric}
use Rattle.fab_netlist.specs.Plain.{PlainNetlist}
use Rattle.fab_netlist.specs.WellMade.{most_nets}
use Rattle.fab_netlist.specs.Wide.{PlainWide, tabled}
use Rattle.fab_fabric.specs.declared.wire.Site.{Site}
use Rattle.fab_implementation.specs.Plain.{PlainImplementation}
use Rattle.fab_lines.specs.Counts.{last_line}
use Rattle.fab_texts.specs.Rows.{Word, rows_of}
use Rattle.fab_fabric.proofs.Samples.{no_pairs}
use Rattle.fab_blif.specs.Blif.{IsBlif, wide_in}
use Rattle.fab_wide.specs.Split.{RefusesSplit, split_nets, split_of}
use Rattle.fab_state.specs.Constraints.{AreFixings}
use Rattle.fab_impl.specs.Spelled.{Says, Spells}
use Rattle.fab_impl.proofs.Spelled.{whole_spells}
use Rattle.fab_designs.specs.Designs.{RefusesNetlist, SpellsNetlist}
use Rattle.fab_designs.specs.Implementations.{SpellsImplementation}

-- what is split of a BLIF file's netlist is spelled,
pub split_is_spelled : (bytes : List ℕ) (wide : PlainWide) (result : Result PlainNetlist Fault) → IsBlif 16 bytes → wide ≡ wide_in bytes
    → OnOk result (split_nets (tabled wide) ≤ most_nets) → IfOk result (λ netlist. netlist ≡ split_of (tabled wide)) → IfOk result (SpellsNetlist bytes)
split_is_spelled bytes wide (Ok netlist) fine wide_is few is = record {
  is_blif = fine;
  few = subst (λ (w : PlainWide). split_nets (tabled w) ≤ most_nets) wide_is few;
  is = is ∙ ap (λ (w : PlainWide). split_of (tabled w)) wide_is;
}
split_is_spelled bytes wide (Err fault) fine wide_is few is = tt

-- and is refused behind all else
pub split_is_refused : (file bytes : List ℕ) (last : ℕ) (wide : PlainWide) (fault : Fault) → IsBlif 16 bytes → wide ≡ wide_in bytes → last ≡ last_line bytes
    → (fault ≡ faults.Memory) ⊎ RefusesSplit file last (tabled wide) fault → fault ≢ faults.Memory → RefusesNetlist file bytes fault
split_is_refused file bytes last wide fault fine wide_is last_is (inl memory) some = absurd (some memory)
split_is_refused file bytes last wide fault fine wide_is last_is (inr refused) some =
    inr (
      fine,
      subst (λ (w : PlainWide). RefusesSplit file (last_line bytes) (tabled w) fault) wide_is
          (subst (λ (line : ℕ). RefusesSplit file line (tabled wide) fault) last_is refused),
    )

pub netlist_read : (files : Map) (file bytes : List ℕ) (result : Result PlainNetlist Fault) → handed_out files file ≡ Ok bytes
    → IfOk result (SpellsNetlist bytes) → IfOk result (ReadsFrom files file SpellsNetlist)
netlist_read files file bytes (Ok netlist) found spelled = record { bytes = bytes; found = found; spelled = spelled }
netlist_read files file bytes (Err fault) found spelled = tt

-- no constraints
pub none_fixed : (fabric : PlainFabric) (ports : List Word) → AreFixings fabric ports []
none_fixed fabric ports = record {
  ports = tt;
  sites = tt;
  kinds = tt;
  ports_apart = no_pairs (λ (first second : Word). first ≢ second);
  sites_apart = no_pairs (λ (first second : Site). first ≢ second);
}

-- what is said of an implementation is spelled
pub said_is_spelled : (fabric : PlainFabric) (bytes : List ℕ) (it : PlainImplementation) → Says fabric (rows_of bytes) it → SpellsImplementation fabric bytes it
said_is_spelled fabric bytes it says =
    record { lines = subst (Spells fabric (rows_of bytes)) (sym says.1) (whole_spells fabric (rows_of bytes) says.0); says = says }

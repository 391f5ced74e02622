-- The files of a sample spell its design.
use Rattle.std.proofs.Common.{◌≡◌, ◌≤◌, ℕ, true, false, List, [], codes, length, nat_lt, Some, refl, sym, ap, ◌∙◌, arith}
use Rattle.std.specs.Str.{is_utf8, chars}
use lib.Utf8.{encode}
use Rattle.std.proofs.lemmas.Bool.Decides.{nat_tests}
use Rattle.std.proofs.lemmas.List.Elements.{All-from_recursion}
use Rattle.fab_base.specs.declared.TheConstants.{MAX_FILE_BYTES}
use Rattle.fab_desk.specs.Files.{Map}
use Rattle.fab_netlist.specs.Plain.{PlainNetlist}
use Rattle.fab_netlist.specs.WellMade.{most_nets}
use Rattle.fab_blif.specs.Blif.{netlist_in}
use Rattle.fab_blif.proofs.Netlists.{netlist_is_well_made, wide_is_made}
use Rattle.fab_flow.specs.fab_wide_Split.{split_nets, split_of}
use Rattle.fab_flow.proofs.fab_wide_Whole.{split_many, split_same}
use Rattle.fab_flow.specs.fab_designs_Designs.{PlainDesign}
use Rattle.fab_sample.specs.Drawn.{covers, sample_latches}
use Rattle.fab_sample.specs.Files.{file_of, fabric_files}
use Rattle.fab_sample_laws.specs.Fabrics.{Stands, TellsFabric}
use Rattle.fab_sample_laws.proofs.TilesRead.{handed}
use Rattle.fab_sample_laws.proofs.Assembled.{fabrics_read}
use Rattle.fab_sample_laws.proofs.Counted.{have_sites}
use Rattle.fab_sample_laws.specs.Laws.{netlist_text}
use Rattle.fab_sample_laws.proofs.SampleNetlists.{netlists_read}
use Rattle.fab_sample_laws.specs.Designs.{TellsSample, SampleDesignsAreRead}

not_long : (bytes : List ℕ) → length bytes ≤ MAX_FILE_BYTES → nat_lt MAX_FILE_BYTES (length bytes) ≡ false
not_long bytes short = grind (arith, nat_tests)

blif_name : is_utf8 (codes "sample.blif") ≡ true
unfolding is_utf8 chars encode
blif_name = refl

-- a netlist that splitting leaves as it is has the nets that it has
few_nets : (netlist : PlainNetlist) → netlist ≡ split_of netlist → length netlist.nets ≤ most_nets → split_nets netlist ≤ most_nets
few_nets netlist same few =
    let counted : length netlist.nets ≡ split_nets netlist = ap (λ (n : PlainNetlist). length n.nets) same ∙ split_many netlist in
    omega (arith, few, counted)

module _ (files : Map) (size : ℕ) (draws : ℕ → ℕ) (told : TellsSample files size draws) where
  pub tells_fabric : TellsFabric files size
  tells_fabric =
      let none = file_of [] [] in
      record {
        stand = All-from_recursion (Stands files) (fabric_files size)
            (told.stand 0 none (omega arith), (told.stand 1 none (omega arith), (told.stand 2 none (omega arith), (told.stand 3 none (omega arith), tt))));
        no_places = told.no_places;
      }

  blif_stands : files (codes "sample.blif") ≡ Some (netlist_text size (covers size draws) (sample_latches size draws))
  blif_stands = told.stand 4 (file_of [] []) (omega arith)

pub designs_read : SampleDesignsAreRead
designs_read files size draws least most told =
    let fabric = fabrics_read files size least most (tells_fabric files size draws told) in
    let sites = have_sites size fabric.0 least most fabric.2 in
    let bytes = netlist_text size (covers size draws) (sample_latches size draws) in
    let reads = netlists_read size draws least most in
    let unsplit : netlist_in bytes ≡ split_of (netlist_in bytes) = sym (split_same (netlist_in bytes) (netlist_is_well_made bytes reads.narrow).four_inputs) in
    let design : PlainDesign = record { fabric = fabric.0; netlist = netlist_in bytes; fixed = [] } in (
      design,
      record {
        spelled = record {
          fabric = fabric.1;
          netlist = record {
            bytes = bytes;
            found = handed files (codes "sample.blif") bytes blif_name (blif_stands files size draws told) (not_long bytes reads.short);
            spelled = record {
              is_blif = reads.blif;
              few = few_nets (netlist_in bytes) unsplit (wide_is_made bytes reads.blif).wired.small;
              is = unsplit;
            };
          };
          fixed = refl;
        };
        fabric = fabric.2;
        netlist = reads.netlist;
        fixed = refl;
        fits = reads.fits _ _ (grind (arith, sites.tables)) (omega (arith, sites.pads));
      },
    )

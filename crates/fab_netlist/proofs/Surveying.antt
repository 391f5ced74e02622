-- The tables of a netlist fit it.
use Rattle.std.proofs.Common.{◌≡◌, ℕ, ◌<◌, ◌≤◌, List, ◌++◌, length, sym, subst, arith}
use Rattle.std.specs.List.{All, flat_map}
use Rattle.std.proofs.lemmas.List.{length-map}
use Rattle.fab_netlist.specs.declared.netlist.Latch.{Latch}
use Rattle.fab_netlist.specs.Plain.{PlainCover, PlainNetlist}
use Rattle.fab_netlist.specs.WellMade.{IsWired, cover_outputs, latch_outputs, latch_inputs}
use Rattle.fab_netlist.proofs.Members.{in_left, in_right}
use Rattle.fab_netlist.proofs.Counts.{driven_parts}
use Rattle.fab_netlist.proofs.Marks.{few_numbers, few_covers}
use Rattle.fab_netlist.proofs.Meaning.{latch_small}
use Rattle.fab_netlist.proofs.Stepping.{all_of}

module _ (netlist : PlainNetlist) (wiring : IsWired netlist) where
  -- what latches take
  pub taken_small : (nets : List ℕ) (bound : ℕ) → nets ≡ latch_inputs netlist → length netlist.nets ≤ bound → All (λ net. net < bound) nets
  taken_small nets bound same fits =
      subst (λ (list : List ℕ). All (λ net. net < bound) list) (sym same)
      (all_of (λ net. net < bound) (latch_inputs netlist) (λ net here.
      omega (
        arith,
        fits,
        wiring.read_below net (in_right (flat_map (λ (cover : PlainCover). cover.inputs) netlist.covers) (latch_inputs netlist ++ netlist.outputs) net (in_left (latch_inputs netlist) netlist.outputs net here)),
      )))

  -- what covers drive
  pub driven_small : (nets : List ℕ) (bound : ℕ) → nets ≡ cover_outputs netlist.covers → length netlist.nets ≤ bound → All (λ net. net < bound) nets
  driven_small nets bound same fits =
      subst (λ (list : List ℕ). All (λ net. net < bound) list) (sym same)
      (all_of (λ net. net < bound) (cover_outputs netlist.covers) (λ net here.
      omega (arith, fits, wiring.driven_below net (in_left (cover_outputs netlist.covers) (latch_outputs netlist ++ netlist.inputs) net here))))

  -- there are no more latches than nets
  pub few_latches : length netlist.latches ≤ 16384
  few_latches =
      omega (
        arith,
        wiring.small,
        length-map netlist.latches (λ (latch : Latch). latch.output),
        few_numbers (length netlist.nets) (latch_outputs netlist) (λ net. omega (arith, wiring.driven_once net, driven_parts netlist net)) (latch_small netlist wiring),
      )

  -- so they take few nets
  pub few_taken : (nets : List ℕ) → nets ≡ latch_inputs netlist → length nets ≤ 65536
  few_taken nets same = subst (λ (list : List ℕ). length list ≤ 65536) (sym same) (omega (arith, few_latches, length-map netlist.latches (λ (latch : Latch). latch.input)))

  -- and covers drive few
  pub few_driven : (nets : List ℕ) → nets ≡ cover_outputs netlist.covers → length nets ≤ 65536
  few_driven nets same = subst (λ (list : List ℕ). length list ≤ 65536) (sym same) (omega (arith, few_covers netlist wiring, length-map netlist.covers (λ (cover : PlainCover). cover.output)))

-- What packing gives is well made.
use Rattle.std.proofs.Common.{◌≡◌, ◌≢◌, ℕ, zero, suc, ◌<◌, ◌≤◌, ◌%◌, ◌^◌, Bool, true, false, cond, List, [], ◌∷◌, ◌++◌, map, length, get_or, Contains, Option, Some, None, Ok, Err, All, AllPairs, option_map, nat_lt, refl, sym, ap, subst, ◌∙◌, inl, inr, arith, length-append}
use Rattle.std.specs.List.{filter}
use Rattle.std.proofs.lemmas.Bool.{cases_Bool}
use Rattle.std.proofs.lemmas.List.{length-map, map-append, get_or_default}
use Rattle.std.proofs.lemmas.List.Elements.{Contains-append_cases}
use Rattle.fab_base.specs.declared.fault.Fault.TheVariants as faults
use Rattle.fab_base.specs.declared.fault.SiteKind.TheVariants as kinds
use Rattle.fab_implementation.specs.fab_netlist.specs.declared.netlist.Latch.{Latch}
use Rattle.fab_implementation.specs.fab_netlist.specs.declared.net_id.NetId.{NetId}
use Rattle.fab_implementation.specs.fab_netlist.specs.declared.net_id.NetId.TheVariants as ids
use Rattle.fab_implementation.specs.fab_netlist.specs.Plain.{PlainCover, PlainNetlist, IsAt, name_of}
use Rattle.fab_implementation.specs.fab_netlist.specs.WellMade.{IsWellMade, times, table_bit, cover_outputs, latch_outputs, ports as netlist_ports}
use Rattle.fab_implementation.specs.fab_netlist.specs.Kept.{is_kept}
use Rattle.fab_implementation.specs.fab_netlist.specs.Packed.{PlainPacked}
use Rattle.fab_implementation.specs.fab_netlist.specs.Packing.{Work, of_cover, of_latch, no_latch, latch_at, place_of, pair, is_paired, others, works, output_of, input_or, cell_or, net_of, cell_of, packed}
use Rattle.fab_implementation.specs.fab_netlist.proofs.Members.{first_in, later_in, in_left, in_right}
use Rattle.fab_implementation.specs.fab_netlist.proofs.Counts.{times_joined, driven_parts}
use Rattle.fab_implementation.specs.fab_netlist.proofs.Marks.{few_numbers}
use Rattle.fab_implementation.specs.fab_netlist.proofs.Packs.{place_small, from_mapped, few_ports}
use Rattle.fab_implementation.specs.fab_netlist.proofs.Stepping.{all_of}
use Rattle.fab_implementation.specs.fab_netlist.proofs.Wired.{wired}
use Rattle.fab_implementation.specs.fab_netlist.proofs.Works.{IsWork, is_work}
use Rattle.fab_legal.specs.WellMade.{IsNetId, IsWellMadeCell, IsWellMadePacked, output_name, ports, PackedIsWellMade}

filter_short : {X : Type 0} (test : X → Bool) (xs : List X) → length (filter test xs) ≤ length xs
filter_short test [] = omega arith
filter_short test (x ∷ xs) = let rest = filter_short test xs in elim (cases_Bool (test x)) [
  | inl passes ↦ rw passes (omega (arith, rest))
  | inr fails ↦ rw fails (omega (arith, rest))
]

others_short : (netlist : PlainNetlist) (place : ℕ) (latches : List Latch) → length (others netlist place latches) ≤ length latches
others_short netlist place [] = omega arith
others_short netlist place (latch ∷ latches) = let rest = others_short netlist (suc place) latches in elim (cases_Bool (is_paired netlist latch)) [
  | inl paired ↦ rw paired (omega (arith, rest))
  | inr lone ↦ rw lone (omega (arith, rest))
]

-- the table of a latch alone repeats over inputs that it does not read
passes_on : (place : ℕ) → place < 16 → table_bit 43690 place ≡ table_bit 43690 (place % 2)
passes_on zero small = refl
passes_on (suc zero) small = refl
passes_on (suc (suc zero)) small = refl
passes_on (suc (suc (suc zero))) small = refl
passes_on (suc (suc (suc (suc zero)))) small = refl
passes_on (suc (suc (suc (suc (suc zero))))) small = refl
passes_on (suc (suc (suc (suc (suc (suc zero)))))) small = refl
passes_on (suc (suc (suc (suc (suc (suc (suc zero))))))) small = refl
passes_on (suc (suc (suc (suc (suc (suc (suc (suc zero)))))))) small = refl
passes_on (suc (suc (suc (suc (suc (suc (suc (suc (suc zero))))))))) small = refl
passes_on (suc (suc (suc (suc (suc (suc (suc (suc (suc (suc zero)))))))))) small = refl
passes_on (suc (suc (suc (suc (suc (suc (suc (suc (suc (suc (suc zero))))))))))) small = refl
passes_on (suc (suc (suc (suc (suc (suc (suc (suc (suc (suc (suc (suc zero)))))))))))) small = refl
passes_on (suc (suc (suc (suc (suc (suc (suc (suc (suc (suc (suc (suc (suc zero))))))))))))) small = refl
passes_on (suc (suc (suc (suc (suc (suc (suc (suc (suc (suc (suc (suc (suc (suc zero)))))))))))))) small = refl
passes_on (suc (suc (suc (suc (suc (suc (suc (suc (suc (suc (suc (suc (suc (suc (suc zero))))))))))))))) small = refl
passes_on (suc (suc (suc (suc (suc (suc (suc (suc (suc (suc (suc (suc (suc (suc (suc (suc n)))))))))))))))) small = absurd (omega (arith, small))

init_small : (latches : List Latch) (place : ℕ) → ((latch : Latch) → Contains latches latch → latch.init ≤ 3) → (get_or latches place no_latch).init ≤ 3
init_small [] place small = omega arith
init_small (latch ∷ latches) zero small = small latch (first_in latch latches latch refl)
init_small (latch ∷ latches) (suc place) small = init_small latches place (λ other later. small other (later_in latch latches other later))

module _ (netlist : PlainNetlist) (made : IsWellMade netlist) where
  abbrev design : PlainPacked
  design = packed netlist

  -- each cell drives a net of its own
  few_works : length (works netlist) ≤ 16384
  few_works =
      let driven_by = cover_outputs netlist.covers ++ latch_outputs netlist in
      let once : (net : ℕ) → times net driven_by ≤ 1 = λ net. omega (arith, made.driven_once net, driven_parts netlist net, times_joined net (cover_outputs netlist.covers) (latch_outputs netlist)) in
      let below : (net : ℕ) → Contains driven_by net → net < length netlist.nets = λ net here. elim (Contains-append_cases (cover_outputs netlist.covers) (latch_outputs netlist) net here) [
        | inl covers ↦ made.driven_below net (in_left (cover_outputs netlist.covers) (latch_outputs netlist ++ netlist.inputs) net covers)
        | inr latches ↦ made.driven_below net (in_right (cover_outputs netlist.covers) (latch_outputs netlist ++ netlist.inputs) net (in_left (latch_outputs netlist) netlist.inputs net latches))
      ] in
      let kept = filter (is_kept netlist) netlist.covers in
      let lone = others netlist 0 netlist.latches in
      omega (
        arith,
        made.small,
        few_numbers (length netlist.nets) driven_by once below,
        length-append (cover_outputs netlist.covers) (latch_outputs netlist),
        length-map netlist.covers (λ (cover : PlainCover). cover.output),
        length-map netlist.latches (λ (latch : Latch). latch.output),
        length-append (map (λ cover. of_cover cover (pair netlist cover)) kept) (map of_latch lone),
        length-map kept (λ cover. of_cover cover (pair netlist cover)),
        length-map lone of_latch,
        filter_short (is_kept netlist) netlist.covers,
        others_short netlist 0 netlist.latches,
      )

  -- ---- nets

  cell_known : (found : Option ℕ) → ((place : ℕ) → found ≡ Some place → place < length (works netlist)) → IsNetId design (cell_or found ids.Zero)
  cell_known None small = tt
  cell_known (Some place) small = let as_many = length-map (works netlist) (cell_of netlist) in omega (arith, as_many, small place refl)

  input_known : (found : Option ℕ) (other : NetId) → ((place : ℕ) → found ≡ Some place → place < length netlist.inputs) → IsNetId design other → IsNetId design (input_or found other)
  input_known None other small known = known
  input_known (Some place) other small known = let as_many = length-map netlist.inputs (name_of netlist) in omega (arith, as_many, small place refl)

  net_known : (net : ℕ) → IsNetId design (net_of netlist net)
  net_known net =
      let outputs = map (output_of netlist) (works netlist) in
      input_known (place_of net netlist.inputs) (cell_or (place_of net outputs) ids.Zero) (place_small net netlist.inputs)
      (cell_known (place_of net outputs) (λ place found. omega (arith, place_small net outputs place found, length-map (works netlist) (output_of netlist))))

  nets_known : (nets : List ℕ) → All (IsNetId design) (map (net_of netlist) nets)
  nets_known nets = all_of (IsNetId design) (map (net_of netlist) nets) (λ id here. let from = from_mapped (net_of netlist) nets id here in subst (IsNetId design) from.2 (net_known from.0))

  -- ---- cells

  latch_small : (place : ℕ) → (latch_at netlist place).init ≤ 3
  latch_small place = init_small netlist.latches place made.initials

  initial_small : (latch : Option ℕ) (init : ℕ) → option_map (λ place. (latch_at netlist place).init) latch ≡ Some init → init ≤ 3
  initial_small None init is = absurd cc
  initial_small (Some place) init is = let same : (latch_at netlist place).init ≡ init = cc in omega (arith, same, latch_small place)

  cell_made : (work : Work) → IsWork netlist work → IsWellMadeCell design (cell_of netlist work)
  cell_made (of_cover cover latch) is =
      let as_many = length-map cover.inputs (net_of netlist) in
      record {
        few_inputs = omega (arith, as_many, made.four_inputs cover is.0);
        nets = nets_known cover.inputs;
        repeats = λ place small. made.repeats cover is.0 place small ∙ ap (λ (n : ℕ). table_bit cover.table (place % 2 ^ n)) (sym as_many);
        initial = initial_small latch;
      }
  cell_made (of_latch place) is =
      record {
        few_inputs = omega arith;
        nets = nets_known ((latch_at netlist place).input ∷ []);
        repeats = passes_on;
        initial = initial_small (Some place);
      }

  cells_made : All (IsWellMadeCell design) design.cells
  cells_made = all_of (IsWellMadeCell design) design.cells (λ cell here.
      let from = from_mapped (cell_of netlist) (works netlist) cell here in
      subst (IsWellMadeCell design) from.2 (cell_made from.0 (is_work netlist from.0 from.1)))

  -- ---- ports

  abbrev shown : ℕ → List ℕ × NetId
  shown net = (name_of netlist net, net_of netlist net)

  names_of : (nets : List ℕ) → map output_name (map shown nets) ≡ map (name_of netlist) nets
  names_of [] = refl
  names_of (net ∷ nets) = ap (λ rest. name_of netlist net ∷ rest) (names_of nets)

  name_at : (nets : List ℕ) (place : ℕ) (d : List ℕ) → place < length nets → get_or (map (name_of netlist) nets) place d ≡ name_of netlist (get_or nets place 0)
  name_at [] place d below = absurd (omega (arith, below))
  name_at (net ∷ nets) zero d below = refl
  name_at (net ∷ nets) (suc place) d below = name_at nets place d (omega (arith, below))

  port_names : ports design ≡ map (name_of netlist) (netlist_ports netlist)
  port_names = ap (λ (names : List (List ℕ)). map (name_of netlist) netlist.inputs ++ names) (names_of netlist.outputs) ∙ sym (map-append (name_of netlist) netlist.inputs netlist.outputs)

  differ : AllPairs (λ first second. first ≢ second) (map (name_of netlist) (netlist_ports netlist))
  differ = λ i j d before below same.
      let nets = netlist_ports netlist in
      let as_many = length-map nets (name_of netlist) in
      let first : IsAt nets i (get_or nets i 0) = (omega (arith, before, below, as_many), get_or_default nets i (get_or nets i 0) 0 (omega (arith, before, below, as_many))) in
      let second : IsAt nets j (get_or nets j 0) = (omega (arith, below, as_many), get_or_default nets j (get_or nets j 0) 0 (omega (arith, below, as_many))) in
      let names : name_of netlist (get_or nets i 0) ≡ name_of netlist (get_or nets j 0) = sym (name_at nets i d first.0) ∙ same ∙ name_at nets j d second.0 in
      let places = made.ports_differ i j (get_or nets i 0) (get_or nets j 0) first second names in
      absurd (omega (arith, places, before))

  pub packed_made : IsWellMadePacked design
  packed_made = record {
    few_cells = let as_many = length-map (works netlist) (cell_of netlist) in omega (arith, as_many, few_works);
    few_ports =
        let inputs = length-map netlist.inputs (name_of netlist) in
        let outputs = length-map netlist.outputs shown in
        omega (arith, inputs, outputs, few_ports netlist (wired made), length-append netlist.inputs netlist.outputs);
    cells = cells_made;
    nets = all_of (λ output. IsNetId design output.1) design.outputs (λ output here. let from = from_mapped shown netlist.outputs output here in subst (λ (o : List ℕ × NetId). IsNetId design o.1) from.2 (net_known from.0));
    reset_below = λ place is. let inputs = length-map netlist.inputs (name_of netlist) in omega (arith, inputs, made.reset_below place is);
    ports_differ = subst (λ (names : List (List ℕ)). AllPairs (λ first second. first ≢ second) names) (sym port_names) differ;
  }

packing_gives : (netlist : PlainNetlist) (p : PlainPacked) (few_luts few_pads : Bool) (luts pads : ℕ)
    → cond few_luts (Err (faults.Short kinds.Lut (length (works netlist)) luts)) (cond few_pads (Err (faults.Short kinds.Pad (length (netlist_ports netlist)) pads)) (Ok (packed netlist))) ≡ Ok p → packed netlist ≡ p
packing_gives netlist p true few_pads luts pads so = absurd cc
packing_gives netlist p false true luts pads so = absurd cc
packing_gives netlist p false false luts pads so = cc

pub packed_is_well_made : PackedIsWellMade
packed_is_well_made netlist luts pads p made so =
    subst IsWellMadePacked (packing_gives netlist p (nat_lt luts (length (works netlist))) (nat_lt pads (length (netlist_ports netlist))) luts pads so) (packed_made netlist made)

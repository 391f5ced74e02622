-- Bound pads show the netlist's nets, and flip-flops take what its latches take.
use Rattle.std.proofs.Common.{◌≡◌, ◌<◌, ℕ, Bool, false, List, length, get_or, option_map, refl, sym, ap, ◌∙◌, arith, None, Some, if◌then◌else◌}
use Rattle.std.proofs.lemmas.List.{length-map, get_or_default}
use Rattle.fab_meaning.specs.Settled.{Assignment}
use Rattle.fab_model.specs.Grid.{PlainFabric}
use Rattle.fab_fabric.specs.Fabric.{AreTiles}
use Rattle.fab_netlist.specs.declared.netlist.Latch.{Latch}
use Rattle.fab_netlist.specs.declared.net_id.NetId.{NetId}
use Rattle.fab_netlist.specs.Plain.{PlainNetlist, IsAt, bit_at, name_of}
use Rattle.fab_netlist.specs.WellMade.{IsWellMade, latch_inputs}
use Rattle.fab_netlist.specs.Cycles.{HasNoCycle}
use Rattle.fab_netlist.specs.Meaning.{Meets, first_value, is_reset, next_held}
use Rattle.fab_netlist.specs.Packing.{Work, of_cover, of_latch, no_latch, works, latch_of, latch_at, net_of, cell_of, packed, ShowsAs}
use Rattle.fab_netlist.proofs.Members.{at_in}
use Rattle.fab_netlist.proofs.Counts.{at_mapped}
use Rattle.fab_netlist.proofs.Carried.{keeps_meaning}
use Rattle.fab_netlist.proofs.Works.{IsWork, is_work, pair_at}
use Rattle.fab_implementation.specs.Plain.{Pad, PlainImplementation}
use Rattle.fab_points_laws.specs.fab_legal_Legal.{IsLegal}
use Rattle.fab_points_laws.proofs.fab_legal_Lists.{at_default, at_from_mapped}
use Rattle.fab_points_laws.specs.fab_use_defs_Design.{IsBound}
use Rattle.fab_points_laws.specs.fab_use_defs_Cycles.{Shows}
use Rattle.fab_points_laws.specs.fab_use_defs_Registers.{HoldsLatches}
use Rattle.fab_runs_laws.specs.Carrying.{MeetsSources, PadsAreFed, TakesNext, SourcesCarry}
use Rattle.fab_runs_laws.proofs.Values as v

-- the initial value of the cell of a latch
pub latched : (netlist : PlainNetlist) (work : Work) (latch : ℕ) → latch_of work ≡ Some latch → (cell_of netlist work).latch ≡ Some (latch_at netlist latch).init
latched netlist (of_cover cover l) latch is = ap (option_map (λ place. (latch_at netlist place).init)) is
latched netlist (of_latch place) latch is = (let e : place ≡ latch = cc in ap (λ place. Some (latch_at netlist place).init) e)

-- and a cell with an initial value is that of a latch
pub latch_behind : (netlist : PlainNetlist) (work : Work) (init : ℕ) → (cell_of netlist work).latch ≡ Some init → (latch : ℕ) × (latch_of work ≡ Some latch) × ((latch_at netlist latch).init ≡ init)
latch_behind netlist (of_cover cover None) init is = absurd (let bad : ⊥ = cc in bad)
latch_behind netlist (of_cover cover (Some place)) init is = (let value : Some (latch_at netlist place).init ≡ Some init = is in (place, refl, cc))
latch_behind netlist (of_latch place) init is = (let value : Some (latch_at netlist place).init ≡ Some init = is in (place, refl, cc))

pub within : (netlist : PlainNetlist) (work : Work) (latch : ℕ) → IsWork netlist work → latch_of work ≡ Some latch → latch < length (latch_inputs netlist)
within netlist (of_cover cover l) latch made is = (pair_at netlist cover latch (made.1 ∙ is)).0
within netlist (of_latch place) latch made is =
    let e : place ≡ latch = cc in
    let there = made.1 in
    let as_many = length-map netlist.latches (λ (l : Latch). l.input) in
    omega (arith, e, there.0, as_many)

-- a latch takes what it begins with where the netlist is reset, and else its input
next_is : (netlist : PlainNetlist) (nets : ℕ → Bool) (latch net : ℕ) → IsAt (latch_inputs netlist) latch net →
    bit_at (next_held netlist nets) latch ≡ (if is_reset netlist nets then first_value (latch_at netlist latch) else nets net)
next_is netlist nets latch net at =
    let reset = is_reset netlist nets in
    let next : Latch → Bool = λ l. if reset then first_value l else nets l.input in
    let from = at_from_mapped (λ (l : Latch). l.input) netlist.latches latch net at in
    let taken : IsAt (next_held netlist nets) latch (next from.0) = at_mapped next netlist.latches latch from.0 from.1 in
    let same : latch_at netlist latch ≡ from.0 = get_or_default netlist.latches latch no_latch from.0 from.1.0 ∙ from.1.1 in
    get_or_default (next_held netlist nets) latch false (next from.0) taken.0
    ∙ taken.1
    ∙ ap (λ n. if reset then first_value from.0 else nets n) from.2
    ∙ ap (λ (l : Latch). if reset then first_value l else nets net) (sym same)

module _ (fabric : PlainFabric) (netlist : PlainNetlist) (fixed : List Pad) (implementation : PlainImplementation) (inputs held now : Assignment) (given latches : List Bool) (nets : ℕ → Bool)
    (are : AreTiles fabric) (made : IsWellMade netlist) (acyclic : HasNoCycle netlist) (legal : IsLegal fabric (packed netlist) fixed implementation)
    (met : MeetsSources fabric (packed netlist) implementation inputs held now) (fed : PadsAreFed netlist implementation given inputs) (holds : HoldsLatches netlist implementation held latches)
    (meets : Meets netlist (bit_at given) (bit_at latches) nets) where
  abbrev values : NetId → Bool
  values = v.values fabric netlist fixed implementation inputs held now given latches are made legal met

  alike : ShowsAs netlist nets values
  alike = (keeps_meaning netlist made acyclic (bit_at given) (bit_at latches) nets meets).1 values (v.carries fabric netlist fixed implementation inputs held now given latches are made legal met fed holds)

  pub shown : Shows netlist implementation now nets
  shown = record {
    outputs = λ place net site at listed.
        let there : IsAt (packed netlist).outputs place (name_of netlist net, net_of netlist net) = at_mapped (λ net. (name_of netlist net, net_of netlist net)) netlist.outputs place net at in
        v.shown fabric netlist fixed implementation inputs held now given latches are made legal met (name_of netlist net) site (net_of netlist net) listed (at_in (packed netlist).outputs place _ there)
        ∙ alike.outputs place net (name_of netlist net) (net_of netlist net) at there;
    driven = v.driven fabric netlist fixed implementation inputs held now given latches are made legal met;
    released = v.released fabric netlist fixed implementation inputs held now given latches are made legal met;
  }

  pub takes : TakesNext netlist implementation now nets
  takes number latch work site at is listed =
      let cell = cell_of netlist work in
      let at_cell : IsAt (packed netlist).cells number cell = at_mapped (cell_of netlist) (works netlist) number work at in
      let bound : IsBound (packed netlist) implementation number site cell = record { listed = listed; cell_is = at_cell } in
      let init = latched netlist work latch is in
      let few = within netlist work latch (is_work netlist work (at_in (works netlist) number work at)) is in
      let net = get_or (latch_inputs netlist) latch 0 in
      let at_net : IsAt (latch_inputs netlist) latch net = at_default (latch_inputs netlist) latch 0 few in
      record {
        enabled = v.enabled fabric netlist fixed implementation inputs held now given latches are made legal met number site cell bound _ init;
        resets = v.resets_as fabric netlist fixed implementation inputs held now given latches are made legal met fed holds nets meets number site cell bound _ init;
        next =
            let shows = v.table_value fabric netlist fixed implementation inputs held now given latches are made legal met number site cell bound in
            next_is netlist nets latch net at_net
            ∙ ap (λ b. if is_reset netlist nets then first_value (latch_at netlist latch) else b) (sym (alike.next number latch net work cell at at_cell is at_net) ∙ sym shows);
      }

pub sources_carry : SourcesCarry
sources_carry fabric netlist fixed implementation inputs held now given latches nets are made acyclic legal met fed holds meets = (
  shown fabric netlist fixed implementation inputs held now given latches nets are made acyclic legal met fed holds meets,
  takes fabric netlist fixed implementation inputs held now given latches nets are made acyclic legal met fed holds meets,
)

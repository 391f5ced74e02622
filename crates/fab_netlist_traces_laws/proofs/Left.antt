-- What goes on from cycle to cycle: what loading points and the flip-flops of a design hold. A tick of UserCLK leaves it as in a settled assignment.
use Rattle.std.proofs.Common.{◌≡◌, Bool, List, refl, sym, ◌∙◌}
use Rattle.fab_syntax.specs.Plain.{PlainModule}
use Rattle.fab_syntax.specs.Sound.{IsSound}
use Rattle.fab_meaning.specs.Points.{Point, Driver, outside, copy, bit_of, flop, hold, Drives}
use Rattle.fab_meaning.specs.Settled.{Assignment}
use Rattle.fab_meaning.specs.Runs.{user_clock_name, kept}
use Rattle.fab_meaning.specs.Loading.{IsLoading}
use Rattle.fab_netlist.specs.Packing.{works, latch_at, cell_of}
use Rattle.fab_netlist.proofs.Counts.{at_mapped}
use Rattle.fab_prim.specs.Modules.{flip_flop_name}
use Rattle.fab_netlist_traces_laws.specs.fab_use_defs_Sites.{bel_point}
use Rattle.fab_netlist_traces_laws.proofs.fab_runs_laws_Carried.{latched}
use Rattle.fab_netlist_traces_laws.proofs.fab_runs_laws_Setting.{Setting}
use Rattle.fab_netlist_traces_laws.proofs.fab_runs_laws_Instants.{Ready}
use Rattle.fab_ordering_laws.proofs.Loading.{LeftOn, loading_left}
use Rattle.fab_ordering_laws.proofs.Blocks.{HoldsOn}
use Rattle.fab_netlist_traces_laws.proofs.Known.{IsRegister}

-- where these hold the same, the design is as ready
pub same_left : (s : Setting) (held after : Assignment) (latches : List Bool) → ((p : Point) → IsLoading s.text p → after p ≡ held p) →
    ((p : Point) → IsRegister s p → after p ≡ held p) → Ready s held latches → Ready s after latches
same_left s held after latches loading registers ready = record {
  configured = s.laws.goes s.fabric s.text s.bits held after s.is s.is_text ready.configured loading;
  holds = record {
    all = ready.holds.all;
    each = λ number latch work site at has listed.
        ready.holds.each number latch work site at has listed
        ∙ sym (registers (bel_point site flip_flop_name) (record {
          number = number;
          init = (latch_at s.netlist latch).init;
          site = site;
          cell = cell_of s.netlist work;
          bound = record { listed = listed; cell_is = at_mapped (cell_of s.netlist) (works s.netlist) number work at };
          latched = latched s.netlist work latch has;
          is = refl;
        }));
  };
}

-- at a tick of UserCLK, a loading point that stands alike and holds on is left alike
left_alike : (held after now last : Bool) (d : Driver) (left other : Bool) → LeftOn d after last left → LeftOn d held now other → HoldsOn d held after →
    last ≡ now → left ≡ other
left_alike held after now last outside left other a b holds same = a ∙ holds ∙ sym b
left_alike held after now last (copy q) left other a b holds same = a ∙ holds ∙ sym b
left_alike held after now last (bit_of path e bit) left other a b holds same = a ∙ holds ∙ sym b
left_alike held after now last (flop path own next bit) left other a b holds same = a ∙ holds ∙ sym b
left_alike held after now last (hold path gate e bit) left other a b holds same = a ∙ same ∙ sym b

pub kept_alike : (text : List PlainModule) → IsSound text → (p : Point) → IsLoading text p → (held after now last : Assignment) (d : Driver) →
    Drives text p d → HoldsOn d (held p) (after p) → last p ≡ now p →
    kept text user_clock_name after last p d ≡ kept text user_clock_name held now p d
kept_alike text sound p loads held after now last d drives holds same =
    left_alike (held p) (after p) (now p) (last p) d (kept text user_clock_name after last p d) (kept text user_clock_name held now p d)
    (loading_left text sound after last p loads d drives) (loading_left text sound held now p loads d drives) holds same

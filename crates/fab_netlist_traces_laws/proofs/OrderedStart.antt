-- What is held at the start: the configuration, and in the flip-flops of the design what the latches begin with.
use Rattle.std.proofs.Common.{◌≡◌, ℕ, zero, suc, ◌+◌, List, [], ◌∷◌, map, Contains, Option, Some, None, option_map}
use Rattle.std.proofs.Common.{sym, ap, ◌∙◌, subst, inl, inr, arith, nat_eq}
use Rattle.std.specs.List.{cons_option, filter_map, enumerate_from}
use Rattle.fab_bits.specs.Bits.{digits}
use Rattle.fab_systems_laws.specs.Ternary.{known}
use Rattle.fab_meaning.specs.Points.{Point}
use Rattle.fab_fabric.specs.declared.wire.Site.{Site}
use Rattle.fab_frames.specs.Stream.{stream}
use Rattle.fab_netlist.specs.Plain.{IsAt}
use Rattle.fab_netlist.specs.Packed.{PlainCell}
use Rattle.fab_netlist.specs.Packing.{packed}
use Rattle.fab_netlist.proofs.Members.{first_in, later_in}
use Rattle.fab_legal.specs.Lines.{IsCell}
use Rattle.fab_legal.specs.Sinks.{site_of}
use Rattle.fab_legal.proofs.SinkLaw.{site_is}
use Rattle.fab_kinds.specs.declared.kind.Kind.TheVariants as kinds
use Rattle.std.proofs.lemmas.Bool.Decides.{Decides-eqb}
use Rattle.fab_prim.specs.Modules.{flip_flop_name}
use Rattle.fab_state.specs.Plain.{Register, PlainState}
use Rattle.fab_netlist_traces_laws.specs.fab_use_defs_Sites.{bel_point}
use Rattle.fab_netlist_traces_laws.specs.fab_use_defs_Registers.{register_of, design_state}
use Rattle.fab_netlist_traces_laws.proofs.fab_runs_laws_Setting.{Setting, cells_made}
use Rattle.fab_netlist_traces_laws.proofs.fab_runs_laws_Instants.{Ready}
use Rattle.fab_ordering_laws.specs.Ordered.{Moment, IsNamedRegister, IsStart}
use Rattle.fab_netlist_traces_laws.specs.SimulatedDesigns.{initial_latches}
use Rattle.fab_netlist_traces_laws.proofs.Fed.{bool_of, bool_of_known}
use Rattle.fab_netlist_traces_laws.proofs.Known.{KnownLaws, IsRegister}
use Rattle.fab_netlist_traces_laws.proofs.Registers.{register_declared}
use Rattle.fab_netlist_traces_laws.proofs.SimulatedStart.{start, base, start_ready}
use Rattle.fab_netlist_traces_laws.proofs.Left.{same_left}

module _ (s : Setting) where
  abbrev state : PlainState
  state = design_state (packed s.netlist) s.implementation

  abbrev point_of : Register → Point
  point_of register = bel_point register.0 flip_flop_name

  abbrev site_at : ℕ → Site
  site_at = site_of nat_eq s.implementation.cells

  abbrev registers_from : (number : ℕ) → List PlainCell → List Register
  registers_from number some = filter_map (λ at. register_of s.implementation at.0 at.1) (enumerate_from number some)

  passed : (number : ℕ) (latch : Option ℕ) (rest : List Register) (p : Point) → Contains (map point_of rest) p →
      Contains (map point_of (cons_option (option_map (λ init. (site_at number, nat_eq init 1)) latch) rest)) p
  passed number None rest p there = there
  passed number (Some init) rest p there = later_in (bel_point (site_at number) flip_flop_name) (map point_of rest) p there

  -- the flip-flop of each cell with a latch is named
  named_from : (some : List PlainCell) (from place number init : ℕ) (cell : PlainCell) → IsAt some place cell → number ≡ from + place →
      cell.latch ≡ Some init → Contains (map point_of (registers_from from some)) (bel_point (site_at number) flip_flop_name)
  named_from [] from place number init cell at is has = absurd (omega (arith, at.0))
  named_from (first ∷ some) from zero number init cell at is has =
      let here : number ≡ from = omega (arith, is) in
      let latch : first.latch ≡ Some init = ap (λ (c : PlainCell). c.latch) at.1 ∙ has in
      subst (λ l. Contains (map point_of (cons_option (option_map (λ init. (site_at from, nat_eq init 1)) l) (registers_from (from + 1) some)))
      (bel_point (site_at number) flip_flop_name)) (sym latch)
      (first_in (bel_point (site_at from) flip_flop_name) (map point_of (registers_from (from + 1) some)) (bel_point (site_at number) flip_flop_name)
      (ap (λ n. bel_point (site_at n) flip_flop_name) (sym here)))
  named_from (first ∷ some) from (suc place) number init cell at is has =
      passed from first.latch (registers_from (from + 1) some) (bel_point (site_at number) flip_flop_name)
      (named_from some (from + 1) place number init cell (omega (arith, at.0), at.1) (omega (arith, is)) has)

  pub register_named : (p : Point) → IsRegister s p → IsNamedRegister state p
  register_named p r =
      let found : site_at r.number ≡ r.site =
      site_is nat_eq Decides-eqb s.fabric kinds.Lut4c (IsCell (packed s.netlist)) s.implementation.cells s.legal.placed.cells r.number r.site r.bound.listed in
      let is : bel_point (site_at r.number) flip_flop_name ≡ p = ap (λ (site : Site). bel_point site flip_flop_name) found ∙ sym r.is in
      subst (Contains (map point_of state.ffs)) is
      (named_from (packed s.netlist).cells 0 r.number r.number r.init r.cell r.bound.cell_is (omega arith) r.latched)

  module _ (laws : KnownLaws) (draws : ℕ → ℕ) (moment : Moment)
      (starts : IsStart s.text state draws (map (digits 32) (stream s.fabric s.bits)) moment) where
    held_is : (p : Point) → known (moment.standing.held p) ≡ start s laws starts.left starts.is_left p →
        moment.standing.held p ≡ base s laws starts.left starts.is_left p
    held_is p is = sym (bool_of_known (moment.standing.held p)) ∙ ap bool_of is

    pub holds_at_start : Ready s moment.standing.held (initial_latches s.netlist)
    holds_at_start =
        same_left s (base s laws starts.left starts.is_left) moment.standing.held (initial_latches s.netlist)
        (λ p loads. held_is p (starts.keeps p
        (s.laws.declared s.fabric s.text (packed s.netlist) s.fixed s.implementation s.is s.are s.is_text (cells_made s) s.legal p (inr loads)) (inl loads)))
        (λ p r. held_is p (starts.keeps p (register_declared s p r) (inr (register_named p r))))
        (start_ready s laws starts.left starts.is_left)

-- What is held when use starts: the configuration, and in the flip-flops of the design what the latches begin with.
use Rattle.std.proofs.Common.{◌≡◌, ℕ, zero, suc, ◌+◌, ◌<◌, Bool, true, false, List, [], ◌∷◌, map, length, Contains, Option, Some, None, option_map, refl, sym, ap, ◌∙◌, subst, inl, inr, arith, nat_eq, if◌then◌else◌}
use Rattle.std.specs.List.{AllZip, cons_option, filter_map, enumerate_from}
use Rattle.std.proofs.lemmas.Bool.{cases_Bool}
use Rattle.std.proofs.lemmas.Bool.Decides.{Decides-eqb}
use Rattle.std.proofs.lemmas.List.{length-map, get_or_default}
use Rattle.fab_bits.specs.Bits.{digits}
use Rattle.fab_kinds.specs.declared.kind.Kind.TheVariants as kinds
use Rattle.fab_systems_laws.specs.Ternary.{Tern, known}
use Rattle.fab_syntax.specs.Plain.{PlainModule}
use Rattle.fab_meaning.specs.Points.{Point}
use Rattle.fab_meaning.specs.Settled.{Assignment}
use Rattle.fab_meaning.specs.Reads.{same_point}
use Rattle.fab_meaning.specs.Runs.{Moment}
use Rattle.fab_meaning.specs.Loading.{IsLoading, offered, OfferWords}
use Rattle.fab_meaning.proofs.Dependence.{same_point_refl, same_point_is}
use Rattle.fab_fabric.specs.declared.wire.Site.{Site}
use Rattle.fab_frames.specs.Stream.{stream}
use Rattle.fab_netlist.specs.declared.netlist.Latch.{Latch}
use Rattle.fab_netlist.specs.Plain.{IsAt, bit_at}
use Rattle.fab_netlist.specs.Packed.{PlainCell}
use Rattle.fab_netlist.specs.Packing.{no_latch, latch_at, works, cell_of, packed}
use Rattle.fab_netlist.proofs.Members.{at_in}
use Rattle.fab_netlist.proofs.Counts.{at_mapped}
use Rattle.fab_netlist.proofs.Works.{is_work}
use Rattle.fab_legal.specs.Lines.{IsCell}
use Rattle.fab_legal.specs.Sinks.{site_of}
use Rattle.fab_legal.proofs.Lists.{at_default}
use Rattle.fab_legal.proofs.SinkLaw.{known_site, site_is}
use Rattle.fab_loading_laws.specs.Latches.{word, words_of}
use Rattle.fab_prim.specs.Modules.{flip_flop_name}
use Rattle.fab_state.specs.Plain.{Register}
use Rattle.fab_ternary_laws.specs.Shown.{Terns}
use Rattle.fab_text_loads_laws.specs.Loads.{IsTurn, Writes, IsConfigured}
use Rattle.fab_runs_laws.specs.fab_use_defs_Sites.{bel_point}
use Rattle.fab_runs_laws.specs.fab_use_defs_Design.{IsBound}
use Rattle.fab_runs_laws.specs.fab_use_defs_Registers.{HoldsLatches, register_of, design_state}
use Rattle.fab_simulation_laws.specs.Simulation.{zeros, IsLoaded, with_registers}
use Rattle.fab_runs_laws.proofs.Setting.{Setting}
use Rattle.fab_runs_laws.proofs.Carried.{latched, within}
use Rattle.fab_runs_laws.proofs.Instants.{Ready}
use Rattle.fab_netlist_traces_laws.specs.SimulatedDesigns.{initial_latches}
use Rattle.fab_netlist_traces_laws.proofs.Sites.{one_register, cell_in_grid, one_cell_at}
use Rattle.fab_netlist_traces_laws.proofs.Fed.{bool_of, bool_of_known}
use Rattle.fab_netlist_traces_laws.proofs.Known.{KnownLaws, Follows}
use Rattle.fab_netlist_traces_laws.proofs.Registers.{register_not_loading}

-- ---- words that are offered are written

are_turns : (words : List (List Bool)) (moments : List Moment) → OfferWords words moments → AllZip IsTurn (map word words) moments
are_turns [] [] offers = tt
are_turns [] (moment ∷ moments) offers = absurd offers
are_turns (bits ∷ words) [] offers = absurd offers
are_turns (bits ∷ words) (moment ∷ moments) offers =
    ((offers.1, record { strobe = offers.0.strobe; bits = λ bit few. offers.0.bits bit }), are_turns words moments offers.2)

same_words : (words : List (List Bool)) → words_of (map word words) ≡ words
same_words [] = refl
same_words (bits ∷ words) = ap (λ rest. bits ∷ rest) (same_words words)

offers_write : (text : List PlainModule) (words : List (List Bool)) (moments : List Moment) → OfferWords (offered text words) moments → Writes text words moments
offers_write text words moments offers =
    let pieces = offered text words in record { turns = map word pieces; each = are_turns pieces moments offers; written = same_words pieces }

still_known : (t : Tern) (b : Bool) → t ≡ known b → t ≡ known (bool_of t)
still_known t b is = is ∙ ap known (sym (bool_of_known b)) ∙ ap (λ u. known (bool_of u)) (sym is)

module _ (s : Setting) where
  abbrev site_at : ℕ → Site
  site_at = site_of nat_eq s.implementation.cells

  abbrev register_at : ℕ → Point
  register_at number = bel_point (site_at number) flip_flop_name

  abbrev cells : List PlainCell
  cells = (packed s.netlist).cells

  bound_at : (number : ℕ) (cell : PlainCell) → IsAt cells number cell → IsBound (packed s.netlist) s.implementation number (site_at number) cell
  bound_at number cell at = record {
    listed = known_site nat_eq Decides-eqb s.fabric kinds.Lut4c (IsCell (packed s.netlist)) s.implementation.cells s.legal.placed.cells number at.0;
    cell_is = at;
  }

  -- two cells have two flip-flops
  one_number : (m n : ℕ) (a b : PlainCell) → IsAt cells m a → IsAt cells n b → register_at m ≡ register_at n → m ≡ n
  one_number m n a b at_m at_n same =
      let listed_m = (bound_at m a at_m).listed in
      let listed_n = (bound_at n b at_n).listed in
      let grid = cell_in_grid s.fabric (packed s.netlist) s.fixed s.implementation s.is s.legal in
      let sites : site_at m ≡ site_at n = one_register (site_at m) (site_at n) (grid m (site_at m) listed_m) (grid n (site_at n) listed_n) same in
      one_cell_at s.fabric (packed s.netlist) s.fixed s.implementation s.is s.legal (site_at n) m n
      (subst (λ (site : Site). Contains s.implementation.cells (m, site)) sites listed_m) listed_n

  -- ---- the registers of the state

  -- the register of a cell at this number, if it has a latch
  abbrev found : (number : ℕ) → Option ℕ → Option Register
  found number latch = option_map (λ init. (site_at number, nat_eq init 1)) latch

  abbrev registers_from : (number : ℕ) → List PlainCell → List Register
  registers_from number some = filter_map (λ at. register_of s.implementation at.0 at.1) (enumerate_from number some)

  module _ (held : Terns) (p : Point) where
    passed_by : (number : ℕ) (latch : Option ℕ) (rest : List Register) → ((init : ℕ) → latch ≡ Some init → register_at number ≡ p → ⊥) →
        with_registers (cons_option (found number latch) rest) held p ≡ with_registers rest held p
    passed_by number None rest differ = refl
    passed_by number (Some init) rest differ =
        elim (cases_Bool (same_point (register_at number) p)) [
          | inl same ↦ absurd (differ init refl (same_point_is (register_at number) p same))
          | inr other ↦ ap (λ b. if b then known (nat_eq init 1) else with_registers rest held p) other
        ]

    -- where no flip-flop of a cell is the point, it stays
    elsewhere : (some : List PlainCell) (from : ℕ) →
        ((j number init : ℕ) (cell : PlainCell) → IsAt some j cell → number ≡ from + j → cell.latch ≡ Some init → register_at number ≡ p → ⊥) →
        with_registers (registers_from from some) held p ≡ held p
    elsewhere [] from differ = refl
    elsewhere (cell ∷ some) from differ =
        passed_by from cell.latch (registers_from (from + 1) some) (λ init has same. differ 0 from init cell (omega arith, refl) (omega arith) has same)
        ∙ elsewhere some (from + 1) (λ j number init other at is has same. differ (suc j) number init other (omega (arith, at.0), at.1) (omega (arith, is))
        has same)

    -- a flip-flop has the value that its cell begins with
    value_at : (some : List PlainCell) (from j number init : ℕ) (cell : PlainCell) → IsAt some j cell → number ≡ from + j → cell.latch ≡ Some init →
        p ≡ register_at number →
        ((k other : ℕ) (a : PlainCell) → IsAt some k a → other ≡ from + k → register_at other ≡ p → other ≡ number) →
        with_registers (registers_from from some) held p ≡ known (nat_eq init 1)
    value_at [] from j number init cell at is has here once = absurd (omega (arith, at.0))
    value_at (first ∷ some) from zero number init cell at is has here once =
        let place : number ≡ from = omega (arith, is) in
        let latch : first.latch ≡ Some init = ap (λ (c : PlainCell). c.latch) at.1 ∙ has in
        let same : same_point (register_at from) p ≡ true = ap (same_point (register_at from)) (here ∙ ap register_at place)
        ∙ same_point_refl (register_at from) in
        ap (λ l. with_registers (cons_option (found from l) (registers_from (from + 1) some)) held p) latch
        ∙ ap (λ b. if b then known (nat_eq init 1) else with_registers (registers_from (from + 1) some) held p) same
    value_at (first ∷ some) from (suc j) number init cell at is has here once =
        passed_by from first.latch (registers_from (from + 1) some) (λ other_init other_has same.
        let places : from ≡ number = once 0 from first (omega arith, refl) (omega arith) same in omega (arith, places, is))
        ∙ value_at some (from + 1) j number init cell (omega (arith, at.0), at.1) (omega (arith, is)) has here
        (λ k other a at_a is_a same. once (suc k) other a (omega (arith, at_a.0), at_a.1) (omega (arith, is_a)) same)

  -- ---- the start

  module _ (laws : KnownLaws) (loaded : Terns) (is_loaded : IsLoaded s.text (map (digits 32) (stream s.fabric s.bits)) loaded) where
    abbrev pub start : Terns
    start = with_registers (design_state (packed s.netlist) s.implementation).ffs loaded

    abbrev pub base : Assignment
    base p = bool_of (start p)

    loading_stays : (p : Point) → IsLoading s.text p → start p ≡ known (is_loaded.after p)
    loading_stays p loads =
        elsewhere loaded p cells 0 (λ j number init cell at is has same.
        let place : j ≡ number = omega (arith, is) in
        let here : IsAt cells number cell = subst (λ n. IsAt cells n cell) place at in
        register_not_loading s p (record {
          number = number;
          init = init;
          site = site_at number;
          cell = cell;
          bound = bound_at number cell here;
          latched = has;
          is = sym same;
        }) laws.one loads)
        ∙ is_loaded.loaded p loads

    register_begins : (number init : ℕ) (cell : PlainCell) → IsAt cells number cell → cell.latch ≡ Some init →
        start (register_at number) ≡ known (nat_eq init 1)
    register_begins number init cell at has =
        value_at loaded (register_at number) cells 0 number number init cell at (omega arith) has refl
        (λ k other a at_a is_a same.
        let place : k ≡ other = omega (arith, is_a) in
        one_number other number a cell (subst (λ n. IsAt cells n a) place at_a) at same)

    site_found : (number : ℕ) (site : Site) → Contains s.implementation.cells (number, site) → site_at number ≡ site
    site_found = site_is nat_eq Decides-eqb s.fabric kinds.Lut4c (IsCell (packed s.netlist)) s.implementation.cells s.legal.placed.cells

    pub start_follows : Follows s start base
    start_follows = record {
      loading = λ p loads. still_known (start p) (is_loaded.after p) (loading_stays p loads);
      registers = λ p r.
          let point : register_at r.number ≡ p = ap (λ (site : Site). bel_point site flip_flop_name) (site_found r.number r.site r.bound.listed) ∙ sym r.is in
          still_known (start p) (nat_eq r.init 1) (ap start (sym point) ∙ register_begins r.number r.init r.cell r.bound.cell_is r.latched);
    }

    configured : IsConfigured s.fabric s.bits base
    configured =
        let loads = is_loaded.loads in
        let written = offers_write s.text (map (digits 32) (stream s.fabric s.bits)) loads.moments loads.offers in
        let after_words = ((s.laws.loads s.fabric s.text s.is s.is_text).loads s.bits).configures loads.moments zeros is_loaded.after written loads.run in
        s.laws.goes s.fabric s.text s.bits is_loaded.after base s.is s.is_text after_words
        (λ p is. ap bool_of (loading_stays p is) ∙ bool_of_known (is_loaded.after p))

    initial_at : (latch : ℕ) → latch < length s.netlist.latches → bit_at (initial_latches s.netlist) latch ≡ nat_eq (latch_at s.netlist latch).init 1
    initial_at latch few =
        let at = at_default s.netlist.latches latch no_latch few in
        let there : IsAt (initial_latches s.netlist) latch (nat_eq (latch_at s.netlist latch).init 1) = at_mapped (λ (l : Latch). nat_eq l.init 1)
        s.netlist.latches latch (latch_at s.netlist latch) at in
        get_or_default (initial_latches s.netlist) latch false (nat_eq (latch_at s.netlist latch).init 1) there.0 ∙ there.1

    holds_initial : HoldsLatches s.netlist s.implementation base (initial_latches s.netlist)
    holds_initial = record {
      all = length-map s.netlist.latches (λ (l : Latch). nat_eq l.init 1);
      each = λ number latch work site at has listed.
          let few = within s.netlist work latch (is_work s.netlist work (at_in (works s.netlist) number work at)) has in
          let as_many = length-map s.netlist.latches (λ (l : Latch). l.input) in
          let at_cell : IsAt cells number (cell_of s.netlist work) = at_mapped (cell_of s.netlist) (works s.netlist) number work at in
          initial_at latch (omega (arith, few, as_many))
          ∙ sym (bool_of_known (nat_eq (latch_at s.netlist latch).init 1))
          ∙ ap bool_of (sym (register_begins number (latch_at s.netlist latch).init (cell_of s.netlist work) at_cell (latched s.netlist work latch has)))
          ∙ ap (λ (other : Site). base (bel_point other flip_flop_name)) (site_found number site listed);
    }

    pub start_ready : Ready s base (initial_latches s.netlist)
    start_ready = record { configured = configured; holds = holds_initial }

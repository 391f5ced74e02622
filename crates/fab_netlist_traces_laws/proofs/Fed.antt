-- What a simulation gives to the text is fed for the netlist, and all of it is known.
use Rattle.std.proofs.Common.{◌≡◌, ℕ, zero, suc, Bool, true, false, List, [], ◌∷◌, map, Contains, refl, sym, ap, ◌∙◌, subst, inl, inr, arith, bytes_eq, if◌then◌else◌}
use Rattle.std.proofs.lemmas.Bool.{cases_Bool}
use Rattle.std.proofs.lemmas.Slice.Eq.{bytes_eq-Decides}
use Rattle.fab_kinds.specs.declared.kind.Kind.TheVariants as kinds
use Rattle.fab_systems_laws.specs.Ternary.{Tern, no, yes, unknown, known}
use Rattle.fab_meaning.specs.Points.{Point, point}
use Rattle.fab_meaning.specs.Settled.{Assignment}
use Rattle.fab_meaning.specs.Reads.{same_point}
use Rattle.fab_meaning.specs.Runs.{clock_name, user_clock_name}
use Rattle.fab_meaning.specs.Loading.{write_strobe_name}
use Rattle.fab_meaning.proofs.Dependence.{same_point_refl, same_point_is}
use Rattle.fab_fabric.specs.declared.wire.Site.{Site}
use Rattle.fab_netlist.specs.Plain.{IsAt, bit_at, name_of}
use Rattle.fab_netlist.specs.Packing.{packed}
use Rattle.fab_netlist.proofs.Counts.{at_mapped}
use Rattle.fab_netlist.proofs.Members.{at_in}
use Rattle.fab_implementation.specs.Plain.{Pad}
use Rattle.fab_legal.specs.Lines.{IsInput}
use Rattle.fab_legal.specs.Sinks.{site_of}
use Rattle.fab_legal.proofs.Lists.{at_from_mapped}
use Rattle.fab_legal.proofs.SinkLaw.{known_site, site_is}
use Rattle.fab_prim.specs.Ports.{top_name}
use Rattle.fab_fabric_text_defs.specs.Names.{pad_port_name}
use Rattle.fab_runs_laws.proofs.fab_drives_laws_Apart.{told_apart}
use Rattle.fab_runs_laws.specs.fab_use_defs_Sites.{top_point}
use Rattle.fab_runs_laws.specs.fab_use_defs_Cycles.{Feeds}
use Rattle.fab_runs_laws.specs.fab_use_defs_Registers.{bound_pad}
use Rattle.fab_simulation_laws.specs.Simulation.{given}
use Rattle.fab_runs_laws.proofs.Setting.{Setting}
use Rattle.fab_netlist_traces_laws.proofs.Sites.{at_left, one_pad, pad_in_grid, one_port_at}

-- ---- what is given is known

abbrev pub bool_of : Tern → Bool
bool_of no = false
bool_of yes = true
bool_of unknown = false

pub bool_of_known : (b : Bool) → bool_of (known b) ≡ b
bool_of_known true = refl
bool_of_known false = refl

pub given_known : (pads : List Pad) (values : List Bool) (p : Point) → given pads values p ≡ known (bool_of (given pads values p))
given_known [] values p = refl
given_known (pad ∷ pads) [] p = refl
given_known (pad ∷ pads) (value ∷ values) p =
    elim (cases_Bool (same_point (top_point pad.1 top_name) p)) [
      | inl same ↦ (
          let is : given (pad ∷ pads) (value ∷ values) p ≡ known value = ap (λ b. if b then known value else given pads values p) same in
          is ∙ ap known (sym (bool_of_known value)) ∙ ap (λ t. known (bool_of t)) (sym is))
      | inr other ↦ (
          let is : given (pad ∷ pads) (value ∷ values) p ≡ given pads values p = ap (λ b. if b then known value else given pads values p) other in
          is ∙ given_known pads values p ∙ ap (λ t. known (bool_of t)) (sym is))
    ]

-- ---- which pad is given which value

-- where no pad has a point, it is given 0
given_elsewhere : (pads : List Pad) (values : List Bool) (p : Point) → ((pad : Pad) → same_point (top_point pad.1 top_name) p ≡ false) →
    given pads values p ≡ no
given_elsewhere [] values p none = refl
given_elsewhere (pad ∷ pads) [] p none = refl
given_elsewhere (pad ∷ pads) (value ∷ values) p none =
    ap (λ b. if b then known value else given pads values p) (none pad) ∙ given_elsewhere pads values p none

-- a name of the top that begins otherwise than the pads
no_pad : (name : List ℕ) → ((site : Site) → point [] (pad_port_name site.x site.y site.bel top_name) 0 ≡ point [] name 0 → ⊥) → (pad : Pad) →
    same_point (top_point pad.1 top_name) (point [] name 0) ≡ false
no_pad name differ pad =
    elim (cases_Bool (same_point (top_point pad.1 top_name) (point [] name 0))) [
      | inl same ↦ absurd (differ pad.1 (same_point_is (top_point pad.1 top_name) (point [] name 0) same))
      | inr other ↦ other
    ]

-- where no two pads have one point, each is given the value at its place
given_at : (pads : List Pad) (values : List Bool) (place : ℕ) (pad : Pad) → IsAt pads place pad →
    ((j k : ℕ) (a b : Pad) → IsAt pads j a → IsAt pads k b → top_point a.1 top_name ≡ top_point b.1 top_name → j ≡ k) →
    given pads values (top_point pad.1 top_name) ≡ known (bit_at values place)
given_at [] values place pad at once = absurd (omega (arith, at.0))
given_at (first ∷ pads) [] zero pad at once = refl
given_at (first ∷ pads) [] (suc place) pad at once = refl
given_at (first ∷ pads) (value ∷ values) zero pad at once =
    let same : same_point (top_point first.1 top_name) (top_point pad.1 top_name) ≡ true =
    subst (λ (other : Pad). same_point (top_point first.1 top_name) (top_point other.1 top_name) ≡ true) at.1 (same_point_refl (top_point first.1 top_name)) in
    ap (λ b. if b then known value else given pads values (top_point pad.1 top_name)) same
given_at (first ∷ pads) (value ∷ values) (suc place) pad at once =
    let here : IsAt pads place pad = (omega (arith, at.0), at.1) in
    let later = given_at pads values place pad here (λ j k a b at_j at_k same.
    let places = once (suc j) (suc k) a b (omega (arith, at_j.0), at_j.1) (omega (arith, at_k.0), at_k.1) same in omega (arith, places)) in
    elim (cases_Bool (same_point (top_point first.1 top_name) (top_point pad.1 top_name))) [
      | inl same ↦ (
          let places : 0 ≡ suc place = once 0 (suc place) first pad (omega arith, refl) at
          (same_point_is (top_point first.1 top_name) (top_point pad.1 top_name) same) in
          absurd (omega (arith, places)))
      | inr other ↦ ap (λ b. if b then known value else given pads values (top_point pad.1 top_name)) other ∙ later
    ]

-- ---- a legal implementation

module _ (s : Setting) where
  abbrev ports : List (List ℕ)
  ports = (packed s.netlist).inputs

  abbrev pub pads : List Pad
  pads = map (bound_pad s.implementation.ins) ports

  abbrev site_at : List ℕ → Site
  site_at = site_of bytes_eq s.implementation.ins

  port_listed : (port : List ℕ) → Contains ports port → Contains s.implementation.ins (port, site_at port)
  port_listed port = known_site bytes_eq bytes_eq-Decides s.fabric kinds.Io (IsInput (packed s.netlist)) s.implementation.ins s.legal.placed.ports.ins port

  -- two pads of input ports have two points
  pads_once : (j k : ℕ) (a b : Pad) → IsAt pads j a → IsAt pads k b → top_point a.1 top_name ≡ top_point b.1 top_name → j ≡ k
  pads_once j k a b at_j at_k same =
      let from_j = at_from_mapped (bound_pad s.implementation.ins) ports j a at_j in
      let from_k = at_from_mapped (bound_pad s.implementation.ins) ports k b at_k in
      let net_j = at_from_mapped (name_of s.netlist) s.netlist.inputs j from_j.0 from_j.1 in
      let net_k = at_from_mapped (name_of s.netlist) s.netlist.inputs k from_k.0 from_k.1 in
      let listed_j = port_listed from_j.0 (at_in ports j from_j.0 from_j.1) in
      let listed_k = port_listed from_k.0 (at_in ports k from_k.0 from_k.1) in
      let grid = pad_in_grid s.fabric (packed s.netlist) s.fixed s.implementation s.is s.legal in
      let points : top_point (site_at from_j.0) top_name ≡ top_point (site_at from_k.0) top_name =
      ap (λ (pad : Pad). top_point pad.1 top_name) from_j.2 ∙ same ∙ sym (ap (λ (pad : Pad). top_point pad.1 top_name) from_k.2) in
      let sites : site_at from_j.0 ≡ site_at from_k.0 =
      one_pad (site_at from_j.0) (site_at from_k.0) (grid from_j.0 (site_at from_j.0) listed_j) (grid from_k.0 (site_at from_k.0) listed_k) points in
      let moved : Contains s.implementation.ins (from_j.0, site_at from_k.0) = subst (λ (site : Site). Contains s.implementation.ins (from_j.0, site)) sites
      listed_j in
      let names : from_j.0 ≡ from_k.0 = one_port_at s.fabric (packed s.netlist) s.fixed s.implementation s.is s.legal (site_at from_k.0) from_j.0 from_k.0
      moved listed_k in
      s.made.ports_differ j k net_j.0 net_k.0 (at_left s.netlist.inputs s.netlist.outputs j net_j.0 net_j.1)
      (at_left s.netlist.inputs s.netlist.outputs k net_k.0 net_k.1)
      (net_j.2 ∙ names ∙ sym net_k.2)

  -- what is given, as bits
  abbrev pub fed : List Bool → Assignment
  fed values p = bool_of (given pads values p)

  low : (values : List Bool) (name : List ℕ) → ((site : Site) → point [] (pad_port_name site.x site.y site.bel top_name) 0 ≡ point [] name 0 → ⊥) →
      fed values (point [] name 0) ≡ false
  low values name differ = ap bool_of (given_elsewhere pads values (point [] name 0) (no_pad name differ))

  pub user_low : (values : List Bool) → fed values (point [] user_clock_name 0) ≡ false
  user_low values = low values user_clock_name (λ site same.
      told_apart 0 (pad_port_name site.x site.y site.bel top_name) user_clock_name refl (ap (λ (p : Point). p.name) same))

  pub feeds : (values : List Bool) → Feeds s.netlist s.implementation values (fed values)
  feeds values = record {
    quiet = low values write_strobe_name (λ site same. told_apart 0 (pad_port_name site.x site.y site.bel top_name) write_strobe_name refl
        (ap (λ (p : Point). p.name) same));
    low = low values clock_name (λ site same. told_apart 0 (pad_port_name site.x site.y site.bel top_name) clock_name refl (ap (λ (p : Point). p.name) same));
    pads = λ place net site at listed.
        let port = name_of s.netlist net in
        let at_port : IsAt ports place port = at_mapped (name_of s.netlist) s.netlist.inputs place net at in
        let at_pad : IsAt pads place (port, site_at port) = at_mapped (bound_pad s.implementation.ins) ports place port at_port in
        let found : site_at port ≡ site = site_is bytes_eq bytes_eq-Decides s.fabric kinds.Io (IsInput (packed s.netlist)) s.implementation.ins
        s.legal.placed.ports.ins port site listed in
        ap (λ (other : Site). fed values (top_point other top_name)) (sym found)
        ∙ ap bool_of (given_at pads values place (port, site_at port) at_pad pads_once) ∙ bool_of_known (bit_at values place);
  }

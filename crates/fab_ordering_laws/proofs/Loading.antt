-- Loading points while inputs beside them change.
use Rattle.std.proofs.Common.{◌≡◌, ℕ, Bool, true, false, List, map, Contains, if◌then◌else◌, refl, sym, ap, ◌∙◌, subst, inl, inr}
use Rattle.fab_syntax.specs.Plain.{PlainModule}
use Rattle.fab_syntax.specs.Sound.{IsSound}
use Rattle.fab_meaning.specs.Value.{value, bit_at}
use Rattle.fab_meaning.specs.Points.{Point, Driver, outside, copy, bit_of, flop, hold, Drives}
use Rattle.fab_meaning.specs.Settled.{Assignment, names_at, shown}
use Rattle.fab_meaning.specs.Runs.{clock_name, user_clock_name, kept}
use Rattle.fab_meaning.specs.Activation.{State}
use Rattle.fab_meaning.specs.Loading.{IsStream, IsDerived, Within, by_flop, by_stream, by_reads, IsClosed, IsLoading, write_strobe_name, write_data_name}
use Rattle.fab_meaning.specs.Loaded.{IsLoaded}
use Rattle.fab_meaning.proofs.Dependence.{shown_same}
use Rattle.fab_meaning.proofs.Loaded.{hold_again}
use Rattle.fab_meaning.proofs.SingleDrivers.{one_driver}
use Rattle.fab_meaning.proofs.SoundTexts.{sound_drives_once}
use Rattle.fab_legal.proofs.Members.{from_mapped}
use Rattle.fab_simulation_laws.specs.fab_state_Plain.{PlainState}
use Rattle.fab_prim.specs.Ports.{top_name}
use Rattle.fab_simulation_laws.specs.fab_fabric_text_defs_Names.{pad_port_name}
use Rattle.fab_simulation_laws.proofs.fab_drives_laws_Apart.{told_apart}
use Rattle.fab_simulation_laws.specs.fab_use_defs_Sites.{top_point}
use Rattle.fab_simulation_laws.proofs.Loading.{within_declared}
use Rattle.fab_ordering_laws.specs.Ordered.{IsNamedInput, IsUserTick}

-- what a derived point shows does not depend on inputs
derived_anyway : (text : List PlainModule) (inputs later held now : Assignment) (p : Point) (d : Driver) → IsDerived d →
    shown text inputs held now p d ≡ shown text later held now p d
derived_anyway text inputs later held now p outside derived = absurd derived
derived_anyway text inputs later held now p (copy other) derived = refl
derived_anyway text inputs later held now p (bit_of path e bit) derived = refl
derived_anyway text inputs later held now p (flop path clock next bit) derived = absurd derived
derived_anyway text inputs later held now p (hold path gate e bit) derived = refl

-- nor does any point on what others hold
held_alike : (text : List PlainModule) (inputs held after now : Assignment) (p : Point) (d : Driver) → after p ≡ held p →
    shown text inputs held now p d ≡ shown text inputs after now p d
held_alike text inputs held after now p outside same = refl
held_alike text inputs held after now p (copy other) same = refl
held_alike text inputs held after now p (bit_of path e bit) same = refl
held_alike text inputs held after now p (flop path clock next bit) same = sym same
held_alike text inputs held after now p (hold path gate e bit) same =
    ap (λ kept. if bit_at (value (names_at text now path) gate) 0 then bit_at (value (names_at text now path) e) bit else kept) (sym same)

-- what a tick of another clock leaves: a latch holds what its point has, and all others what they held
abbrev pub LeftOn : Driver → (held now after : Bool) → Type 0
LeftOn (hold path gate e bit) held now after = after ≡ now
LeftOn outside held now after = after ≡ held
LeftOn (copy other) held now after = after ≡ held
LeftOn (bit_of path e bit) held now after = after ≡ held
LeftOn (flop path clock next bit) held now after = after ≡ held

derived_left : (text : List PlainModule) (clock : List ℕ) (held now : Assignment) (p : Point) (d : Driver) → IsDerived d →
    LeftOn d (held p) (now p) (kept text clock held now p d)
derived_left text clock held now p outside derived = absurd derived
derived_left text clock held now p (copy other) derived = refl
derived_left text clock held now p (bit_of path e bit) derived = refl
derived_left text clock held now p (flop path own next bit) derived = absurd derived
derived_left text clock held now p (hold path gate e bit) derived = refl

-- so a driver goes on giving what its point has
shown_left : (text : List PlainModule) (held after now : Assignment) (p : Point) (d : Driver) → now p ≡ shown text now held now p d →
    LeftOn d (held p) (now p) (after p) → now p ≡ shown text now after now p d
shown_left text held after now p outside is left = refl
shown_left text held after now p (copy other) is left = is
shown_left text held after now p (bit_of path e bit) is left = is
shown_left text held after now p (flop path clock next bit) is left = is ∙ sym left
shown_left text held after now p (hold path gate e bit) is left =
    hold_again (bit_at (value (names_at text now path) gate) 0) (bit_at (value (names_at text now path) e) bit) (held p) (after p) (now p) (now p) is refl left

module _ (text : List PlainModule) (sound : IsSound text) where
  pub single : (p : Point) (d e : Driver) → Drives text p d → Drives text p e → d ≡ e
  single = one_driver text (sound_drives_once text sound)

  module _ (flops : Point → Bool) (closed : IsClosed text flops) where
    module _ (a b held : Assignment) (same : (q : Point) → Within text flops q → b q ≡ a q) where
      shows_same : (p : Point) → Within text flops p → (d : Driver) → Drives text p d → shown text a held a p d ≡ shown text b held b p d
      shows_same p (by_flop declared is) d drives =
          let at = closed p is in
          subst (λ e. shown text a held a p e ≡ shown text b held b p e)
          (single p (flop at.path at.clock at.next at.bit) d at.drives drives) refl
      shows_same p (by_stream is) d drives =
          subst (λ e. shown text a held a p e ≡ shown text b held b p e) (single p outside d (inl is.input) drives) (sym (same p (by_stream is)))
      shows_same p (by_reads own declared by derived inside) d drives =
          subst (λ e. shown text a held a p e ≡ shown text b held b p e) (single p own d by drives)
          (shown_same text a held a b p own (λ q is_read. sym (same q (inside q is_read))) ∙ derived_anyway text a b held b p own derived)

    within_left : (held now : Assignment) (p : Point) → Within text flops p → (d : Driver) → Drives text p d →
        LeftOn d (held p) (now p) (kept text user_clock_name held now p d)
    within_left held now p (by_flop declared is) d drives =
        let at = closed p is in
        let own : Driver = flop at.path at.clock at.next at.bit in
        let still : kept text user_clock_name held now p own ≡ held p = rw at.clocked refl in
        subst (λ e. LeftOn e (held p) (now p) (kept text user_clock_name held now p e)) (single p own d at.drives drives) still
    within_left held now p (by_stream is) d drives =
        subst (λ e. LeftOn e (held p) (now p) (kept text user_clock_name held now p e)) (single p outside d (inl is.input) drives) refl
    within_left held now p (by_reads own declared by derived inside) d drives =
        subst (λ e. LeftOn e (held p) (now p) (kept text user_clock_name held now p e)) (single p own d by drives)
        (derived_left text user_clock_name held now p own derived)

    input_carries : (p : Point) → Within text flops p → Drives text p outside → IsStream text p
    input_carries p (by_flop declared is) drives =
        let at = closed p is in
        let e : outside ≡ flop at.path at.clock at.next at.bit = single p outside (flop at.path at.clock at.next at.bit) drives at.drives in cc
    input_carries p (by_stream is) drives = is
    input_carries p (by_reads own declared by derived inside) drives = absurd (subst IsDerived (single p own outside by drives) derived)

  -- where the loading points and what is held stand still, the loading points stay settled
  pub loaded_still : (s t : State) → IsLoaded text s → ((p : Point) → t.held p ≡ s.held p) → ((p : Point) → IsLoading text p → t.now p ≡ s.now p) →
      IsLoaded text t
  loaded_still s t loaded held same p d loads drives =
      same p loads ∙ loaded p d loads drives
      ∙ shows_same loads.0 loads.1 s.now t.now s.held (λ q within. same q (loads.0, loads.1, within)) p loads.2 d drives
      ∙ held_alike text t.now s.held t.held t.now p d (held p)

  -- a tick of UserCLK leaves them settled
  pub loading_left : (held now : Assignment) (p : Point) → IsLoading text p → (d : Driver) → Drives text p d →
      LeftOn d (held p) (now p) (kept text user_clock_name held now p d)
  loading_left held now p loads d drives = within_left loads.0 loads.1 held now p loads.2 d drives

  pub loaded_ticked : (s t : State) → IsLoaded text s → IsUserTick text s t → IsLoaded text t
  loaded_ticked s t loaded ticks =
      loaded_still (record { now = s.now; held = t.held }) t
      (λ p d loads drives.
      let left : LeftOn d (s.held p) (s.now p) (t.held p) =
      subst (λ (b : Bool). LeftOn d (s.held p) (s.now p) b) (sym (ticks.keeps p d (within_declared text loads.0 p loads.2) drives))
      (loading_left s.held s.now p loads d drives) in
      shown_left text s.held t.held s.now p d (loaded p d loads drives) left)
      (λ p. refl) (λ p loads. ticks.stays p)

  -- an input of the top among the loading points carries words
  pub loading_input : (p : Point) → IsLoading text p → Drives text p outside → IsStream text p
  loading_input p loads drives = input_carries loads.0 loads.1 p loads.2 drives

  -- so an input port is none
  pub named_unloaded : (state : PlainState) (p : Point) → IsNamedInput text state p → IsLoading text p → ⊥
  named_unloaded state p named loads =
      let pad = from_mapped (λ pad. top_point pad.1 top_name) state.ins p named.named in
      let site = pad.0.1 in
      let is : pad_port_name site.x site.y site.bel top_name ≡ p.name = ap (λ (q : Point). q.name) pad.2 in
      let carries = loading_input p loads named.input in
      elim carries.named [
        | inl clock ↦ told_apart 0 (pad_port_name site.x site.y site.bel top_name) clock_name refl (is ∙ clock)
        | inr word ↦ elim word [
          | inl strobe ↦ told_apart 0 (pad_port_name site.x site.y site.bel top_name) write_strobe_name refl (is ∙ strobe)
          | inr bits ↦ told_apart 0 (pad_port_name site.x site.y site.bel top_name) write_data_name refl (is ∙ bits)
        ]
      ]

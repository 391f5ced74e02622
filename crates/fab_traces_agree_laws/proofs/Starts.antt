-- Behind loaded words an ordered simulation starts in one way.
use Rattle.std.proofs.Common.{◌≡◌, ◌⊎◌, ℕ, zero, suc, Bool, true, false, List, [], ◌∷◌, map, Contains, if◌then◌else◌, refl, sym, ap, ◌∙◌, arith, inl, inr}
use Rattle.std.proofs.lemmas.Bool.{cases_Bool, false≢true}
use Rattle.std.proofs.lemmas.List.Elements.{All-nil}
use Rattle.fab_syntax.specs.Plain.{PlainModule}
use Rattle.fab_syntax.specs.Declarations.{width_in}
use Rattle.fab_syntax.specs.Sound.{IsSound}
use Rattle.fab_systems_laws.specs.Ternary.{known}
use Rattle.fab_meaning.specs.Points.{Point, Driver, Drives, IsStored, module_at}
use Rattle.fab_meaning.specs.Reads.{is_declared, same_point}
use Rattle.fab_meaning.specs.Runs.{clock_name}
use Rattle.fab_meaning.specs.Loading.{IsLoading, IsIdle, LoadsAgree, LoadingPointsStay, write_strobe_name}
use Rattle.fab_meaning.proofs.Dependence.{same_point_refl, same_point_is}
use Rattle.fab_equations.specs.Instances.{points}
use Rattle.fab_equations.proofs.Points.{declared_are_points}
use Rattle.fab_load_runs_laws.specs.Runs.{LoadingIsDecided}
use Rattle.fab_ternary_laws.specs.Shown.{Terns}
use Rattle.fab_simulation_laws.specs.Simulation.{zeros, IsLoaded, with_registers}
use Rattle.fab_simulation_laws.specs.fab_state_Plain.{Register, PlainState}
use Rattle.fab_simulation_laws.specs.fab_use_defs_Sites.{bel_point}
use Rattle.fab_simulation_laws.proofs.Loading.{within_declared}
use Rattle.fab_prim.specs.Modules.{flip_flop_name}
use Rattle.fab_ordering_laws.specs.Ordered.{Moment, IsNamedRegister, IsStart}
use Rattle.fab_traces_agree_laws.proofs.Drawn.{AreSame, drawn_once}
use Rattle.fab_traces_agree_laws.proofs.States.{AreAlike, known_once}

-- a point is among others, or it is not
pub listed_or_not : (ps : List Point) (p : Point) → Contains ps p ⊎ (Contains ps p → ⊥)
listed_or_not [] p = inr (λ there. absurd (omega (arith, there.1)))
listed_or_not (q ∷ ps) p = elim (cases_Bool (same_point q p)) [
  | inl same ↦ inl (0, omega arith, same_point_is q p same)
  | inr other ↦
      elim (listed_or_not ps p) [
        | inl there ↦ inl (suc there.0, omega (arith, there.1), there.2)
        | inr never ↦ inr (neither other never)
      ]
]
  where
    neither : same_point q p ≡ false → (Contains ps p → ⊥) → Contains (q ∷ ps) p → ⊥
    neither other never (zero, few, is) = false≢true (sym other ∙ ap (λ (r : Point). same_point r p) is ∙ same_point_refl p)
    neither other never (suc k, few, is) = never (k, omega (arith, few), is)

-- a point is a loading point, or it is not
pub loads_or_not : LoadingIsDecided → (text : List PlainModule) → IsSound text → (p : Point) → IsLoading text p ⊎ (IsLoading text p → ⊥)
loads_or_not decided text sound p =
    let has = decided text sound in
    elim (cases_Bool (has.0 p)) [
      | inl holds ↦ inl (has.1.sound p holds)
      | inr fails ↦ inr (λ loads. false≢true (sym fails ∙ has.1.whole p loads))
    ]

-- ---- what is held when words are loaded

registers_alike : (registers : List Register) (t u : Terns) (p : Point) → t p ≡ u p → with_registers registers t p ≡ with_registers registers u p
registers_alike [] t u p same = same
registers_alike (register ∷ registers) t u p same =
    ap (λ v. if same_point (bel_point register.0 flip_flop_name) p then known register.1 else v) (registers_alike registers t u p same)

module _ (decided : LoadingIsDecided) (loads_agree : LoadsAgree) (stay : LoadingPointsStay) (text : List PlainModule) (sound : IsSound text)
    (clock_wide : width_in (module_at text []) clock_name ≡ 1) (strobe_wide : width_in (module_at text []) write_strobe_name ≡ 1) where
  loaded_alike : (words : List (List Bool)) (left right : Terns) → IsLoaded text words left → IsLoaded text words right → (p : Point) → left p ≡ right p
  loaded_alike words left right a b p = elim (loads_or_not decided text sound p) [
    | inl loads ↦
        a.loaded p loads ∙ ap known (loads_agree text clock_wide strobe_wide words zeros zeros a.after b.after (λ q is. refl) a.loads b.loads p loads)
        ∙ sym (b.loaded p loads)
    | inr never ↦ a.others p never ∙ sym (b.others p never)
  ]

  -- ---- two starts

  module _ (state : PlainState) (draws : ℕ → ℕ) (words : List (List Bool)) (a b : Moment) (first : IsStart text state draws words a) (second : IsStart text state draws words b) where
    kept_alike : (p : Point) → is_declared text p ≡ true → IsLoading text p ⊎ IsNamedRegister state p → a.standing.held p ≡ b.standing.held p
    kept_alike p declared kept =
        known_once (a.standing.held p) (b.standing.held p) (
        first.keeps p declared kept
        ∙ registers_alike state.ffs first.left second.left p (loaded_alike words first.left second.left first.is_left second.is_left p)
        ∙ sym (second.keeps p declared kept))

    loading_alike : (p : Point) → IsLoading text p → a.standing.now p ≡ b.standing.now p
    loading_alike =
        stay text [] a.standing.now b.standing.now a.standing.held b.standing.held a.standing.now b.standing.now (All-nil (IsIdle text a.standing.now))
        (λ p loads. sym (kept_alike p (within_declared text loads.0 p loads.2) (inl loads)))
        first.settled second.settled (λ p carries. first.quiet p carries ∙ sym (second.quiet p carries))

    drawn : AreSame (λ p. IsLoading text p → ⊥) a.standing.now b.standing.now (points text) a.drawn b.drawn
    drawn = drawn_once draws (λ p. IsLoading text p → ⊥) a.standing.now b.standing.now (points text) 0 a.drawn b.drawn first.drawn second.drawn

    now_alike : (p : Point) → is_declared text p ≡ true → a.standing.now p ≡ b.standing.now p
    now_alike p declared = elim (loads_or_not decided text sound p) [
      | inl loads ↦ loading_alike p loads
      | inr never ↦ drawn.same p (declared_are_points text sound p declared) never
    ]

    held_alike : (p : Point) (d : Driver) → is_declared text p ≡ true → Drives text p d → IsStored d → a.standing.held p ≡ b.standing.held p
    held_alike p d declared drives stored = elim (loads_or_not decided text sound p) [
      | inl loads ↦ kept_alike p declared (inl loads)
      | inr never ↦
          elim (listed_or_not (map (λ (register : Register). bel_point register.0 flip_flop_name) state.ffs) p) [
            | inl named ↦ kept_alike p declared (inr named)
            | inr unnamed ↦ first.others p d declared never unnamed drives stored ∙ now_alike p declared ∙ sym (second.others p d declared never unnamed drives stored)
          ]
    ]

    pub start_alike : AreAlike text sound a.standing b.standing
    start_alike = record { now = now_alike; held = held_alike }

    pub start_drawn : a.drawn ≡ b.drawn
    start_drawn = drawn.count

    pub start_order : a.order ≡ b.order
    start_order = first.order ∙ sym second.order

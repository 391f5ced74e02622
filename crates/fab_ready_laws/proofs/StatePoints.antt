-- A text has what a state names, or a line is the first whose port or flip-flop it lacks.
use Rattle.std.proofs.Common.{◌≡◌, ◌≢◌, ◌<◌, ◌+◌, ◌⊎◌, ℕ, zero, suc, true, List, [], All, length, Option, Some, None, refl, sym, ap, ◌∙◌, subst, arith, lt-ltb, inl, inr}
use Rattle.std.specs.Prelude.{slice_get}
use Rattle.std.proofs.lemmas.Bool.{cases_eq, cases_lt}
use Rattle.std.proofs.lemmas.Option.{slice_get-get_or}
use Rattle.fab_base.specs.declared.fault.Fault.{Fault}
use Rattle.fab_base.specs.declared.fault.Fault.TheVariants as faults
use Rattle.fab_base.specs.declared.problem.Problem.TheVariants as problems
use Rattle.fab_base.specs.declared.words.Reason.TheVariants as reasons
use Rattle.fab_base.specs.Reading.{fault_at}
use Rattle.fab_syntax.specs.declared.tree.Shape.{Shape}
use Rattle.fab_syntax.specs.declared.tree.Shape.TheVariants.{Scalar, Vector}
use Rattle.fab_syntax.specs.Declarations.{width, width_in}
use Rattle.fab_syntax.specs.Plain.{PlainModule}
use Rattle.fab_syntax.specs.Sound.{IsSound}
use Rattle.fab_meaning.specs.Points.{Path, Point, point, Driver, outside, copy, bit_of, flop, hold, Drives, module_at}
use Rattle.fab_meaning.specs.Reads.{is_declared}
use Rattle.fab_meaning.specs.Runs.{clock_name, user_clock_name}
use Rattle.fab_meaning.specs.Loading.{write_data_name, write_strobe_name}
use Rattle.fab_meaning.specs.Sound.{PointsOfSoundTextsHaveOneDriver}
use Rattle.fab_values.specs.Declarations.{declared_at, found_in}
use Rattle.fab_values.specs.declared.names.Local.{Local}
use Rattle.fab_values.specs.declared.names.Role.{Role}
use Rattle.fab_values.specs.declared.names.Role.TheVariants as roles
use Rattle.fab_equations.proofs.Points.{found_width}
use Rattle.fab_prim.specs.Ports.{top_name}
use Rattle.fab_prim.specs.Modules.{flip_flop_name}
use Rattle.fab_state.specs.Plain.{PlainState}
use Rattle.fab_state_points.specs.Finding.{IsDeclared, IsClocked}
use Rattle.fab_state_points.specs.Entries.{entries_of, shown_name, HasEntry, reason_of}
use Rattle.fab_state_points.specs.Standing.{HasStream, IsDataShape, IsFirstAbsent, IsRefusedState}
use Rattle.fab_state_points.specs.declared.entry.Entry.{Entry}
use Rattle.fab_state_points.specs.declared.entry.Entry.TheVariants as entries
use Rattle.fab_use_defs.specs.Sites.{bel_point, top_point}
use Rattle.fab_ready_laws.proofs.Decisions.{IsDecided, both}

-- ---- shapes and roles

shape_eq : (a b : Shape) → IsDecided (a ≡ b)
shape_eq Scalar Scalar = inl refl
shape_eq Scalar (Vector n) = inr (λ same. cc)
shape_eq (Vector n) Scalar = inr (λ same. cc)
shape_eq (Vector n) (Vector m) = elim (cases_eq n m) [ inl same ↦ inl (ap (λ k. Vector k) same) | inr differ ↦ inr (λ same. differ (vector_is same)) ]
  where
    vector_is : Vector n ≡ Vector m → n ≡ m
    vector_is same = cc

role_eq : (a b : Role) → IsDecided (a ≡ b)
role_eq roles.Input roles.Input = inl refl
role_eq roles.Input roles.Output = inr (λ same. cc)
role_eq roles.Input roles.Wire = inr (λ same. cc)
role_eq roles.Input roles.Reg = inr (λ same. cc)
role_eq roles.Output roles.Input = inr (λ same. cc)
role_eq roles.Output roles.Output = inl refl
role_eq roles.Output roles.Wire = inr (λ same. cc)
role_eq roles.Output roles.Reg = inr (λ same. cc)
role_eq roles.Wire roles.Input = inr (λ same. cc)
role_eq roles.Wire roles.Output = inr (λ same. cc)
role_eq roles.Wire roles.Wire = inl refl
role_eq roles.Wire roles.Reg = inr (λ same. cc)
role_eq roles.Reg roles.Input = inr (λ same. cc)
role_eq roles.Reg roles.Output = inr (λ same. cc)
role_eq roles.Reg roles.Wire = inr (λ same. cc)
role_eq roles.Reg roles.Reg = inl refl

-- ---- names and flip-flops

module _ (one : PointsOfSoundTextsHaveOneDriver) (text : List PlainModule) (sound : IsSound text) where
  some_is : {a b : Local} → Some a ≡ Some b → a ≡ b
  some_is same = cc

  declared_decided : (path : Path) (name : List ℕ) (shape : Shape) (role : Role) → IsDecided (IsDeclared text path name shape role)
  declared_decided path name shape role = by_local (found_in (declared_at (module_at text path)) name) refl
    where
      by_local : (found : Option Local) → found_in (declared_at (module_at text path)) name ≡ found → IsDecided (IsDeclared text path name shape role)
      by_local None is = inr (λ declared. let some = declared.is in absurd cc)
      by_local (Some local) is = elim (both (shape_eq local.shape shape) (role_eq local.role role)) [
        | inl fits ↦ inl (record { local = local; is = is; shape_is = fits.0; role_is = fits.1 })
        | inr never ↦ inr (λ declared.
            let same : local ≡ declared.local = some_is (sym is ∙ declared.is) in
            never (ap (λ (l : Local). l.shape) same ∙ declared.shape_is, ap (λ (l : Local). l.role) same ∙ declared.role_is))
      ]

  -- a name that is declared with one bit has a declared point
  has_point : (path : Path) (name : List ℕ) (role : Role) → IsDeclared text path name Scalar role → is_declared text (point path name 0) ≡ true
  has_point path name role declared = by_module (module_at text path) refl
    where
      by_module : (m : Option PlainModule) → module_at text path ≡ m → is_declared text (point path name 0) ≡ true
      by_module None none = let is : None ≡ Some declared.local = sym (ap (λ o. found_in (declared_at o) name) none) ∙ declared.is in absurd cc
      by_module (Some m) there =
          let found = sym (ap (λ o. found_in (declared_at o) name) there) ∙ declared.is in
          let wide : width_in (module_at text path) name ≡ 1 =
          ap (λ o. width_in o name) there ∙ found_width m name declared.local found ∙ ap width declared.shape_is in
          lt-ltb 0 (width_in (module_at text path) name) (omega (arith, wide))

  clocked_decided : (p : Point) → is_declared text p ≡ true → IsDecided (IsClocked text p)
  clocked_decided p declared = let driver = one text sound p declared in by_driver driver.0 driver.1 driver.2
    where
      by_driver : (d : Driver) → Drives text p d → ((e : Driver) → Drives text p e → e ≡ d) → IsDecided (IsClocked text p)
      by_driver (flop path clock next bit) drives only = inl (record { path = path; clock = clock; next = next; bit = bit; drives = drives })
      by_driver outside drives only = inr (λ is. let same = only (flop is.path is.clock is.next is.bit) is.drives in absurd cc)
      by_driver (copy other) drives only = inr (λ is. let same = only (flop is.path is.clock is.next is.bit) is.drives in absurd cc)
      by_driver (bit_of path e bit) drives only = inr (λ is. let same = only (flop is.path is.clock is.next is.bit) is.drives in absurd cc)
      by_driver (hold path gate e bit) drives only = inr (λ is. let same = only (flop is.path is.clock is.next is.bit) is.drives in absurd cc)

  -- ---- the inputs that carry words, and a line of a state

  -- neither of one bit nor of 32
  no_carrier : (IsDeclared text [] write_data_name Scalar roles.Input → ⊥) → (IsDeclared text [] write_data_name (Vector 32) roles.Input → ⊥) →
      (shape : Shape) → IsDataShape shape → IsDeclared text [] write_data_name shape roles.Input → ⊥
  no_carrier no_bit no_word Scalar carries has = no_bit has
  no_carrier no_bit no_word (Vector n) carries has =
      no_word (subst (λ (width : ℕ). IsDeclared text [] write_data_name (Vector width) roles.Input) carries has)

  abbrev HasCarrier : Type 0
  HasCarrier = (shape : Shape) × IsDataShape shape × IsDeclared text [] write_data_name shape roles.Input

  carrier_decided : IsDecided HasCarrier
  carrier_decided = elim (declared_decided [] write_data_name Scalar roles.Input) [
    | inl bit ↦ inl (Scalar, tt, bit)
    | inr no_bit ↦ elim (declared_decided [] write_data_name (Vector 32) roles.Input) [
      | inl word ↦ inl (Vector 32, refl, word)
      | inr no_word ↦ inr (λ has. no_carrier no_bit no_word has.0 has.1 has.2)
    ]
  ]

  stream_decided : IsDecided (HasStream text)
  stream_decided = elim (both (both (declared_decided [] clock_name Scalar roles.Input) (declared_decided [] user_clock_name Scalar roles.Input))
      (both (declared_decided [] write_strobe_name Scalar roles.Input) carrier_decided)) [
        | inl has ↦ inl (record {
          loader = has.0.0;
          user = has.0.1;
          strobe = has.1.0;
          shape = has.1.1.0;
          is_data = has.1.1.1;
          words = has.1.1.2;
        })
        | inr never ↦ inr (λ has. never ((has.loader, has.user), (has.strobe, (has.shape, has.is_data, has.words))))
      ]

  entry_decided : (entry : Entry) → IsDecided (HasEntry text entry)
  entry_decided (entries.Input site) = declared_decided (top_point site top_name).path (top_point site top_name).name Scalar roles.Input
  entry_decided (entries.Output site) = declared_decided (top_point site shown_name).path (top_point site shown_name).name Scalar roles.Output
  entry_decided (entries.Register site) = elim (declared_decided (bel_point site flip_flop_name).path flip_flop_name Scalar roles.Reg) [
    | inr never ↦ inr (λ has. never has.0)
    | inl declared ↦
        elim (clocked_decided (bel_point site flip_flop_name) (has_point (bel_point site flip_flop_name).path flip_flop_name roles.Reg declared)) [
          | inl clocked ↦ inl (declared, clocked)
          | inr never ↦ inr (λ has. never has.1)
        ]
  ]

  -- ---- all lines

  module _ (lines : List Entry) where
    abbrev AreThere : ℕ → Type 0
    AreThere n = (place : ℕ) (entry : Entry) → place < n → slice_get lines place ≡ Some entry → HasEntry text entry

    abbrev IsAbsentAt : ℕ → Entry → Type 0
    IsAbsentAt place entry = (slice_get lines place ≡ Some entry) × (HasEntry text entry → ⊥) × AreThere place

    one_more : (n : ℕ) → AreThere n → (found : Option Entry) → slice_get lines n ≡ found → AreThere (suc n) ⊎ ((place : ℕ) × (entry : Entry) × IsAbsentAt place entry)
    one_more n there None is = inl (λ place entry below at. elim (cases_lt place n) [
      | inl less ↦ there place entry less at
      | inr past ↦ (
          let same : place ≡ n = omega (arith, below, past) in
          let none : None ≡ Some entry = sym is ∙ ap (slice_get lines) (sym same) ∙ at in
          absurd cc)
    ])
    one_more n there (Some next) is = elim (entry_decided next) [
      | inr never ↦ inr (n, next, (is, never, there))
      | inl has ↦ inl (λ place entry below at. elim (cases_lt place n) [
        | inl less ↦ there place entry less at
        | inr past ↦ (
            let same : place ≡ n = omega (arith, below, past) in
            let both_are : Some next ≡ Some entry = sym is ∙ ap (slice_get lines) (sym same) ∙ at in
            subst (HasEntry text) (entry_is both_are) has)
      ])
    ]
      where
        entry_is : {a b : Entry} → Some a ≡ Some b → a ≡ b
        entry_is same = cc

    first_lines : (n : ℕ) → AreThere n ⊎ ((place : ℕ) × (entry : Entry) × IsAbsentAt place entry)
    first_lines zero = inl (λ place entry below at. absurd (omega (arith, below)))
    first_lines (suc n) = elim (first_lines n) [
      | inl there ↦ one_more n there (slice_get lines n) refl
      | inr absent ↦ inr absent
    ]

    all_there : AreThere (length lines) → All (HasEntry text) lines
    all_there there k d below = there k _ below (slice_get-get_or lines k d below)

  -- all that a state names is there, or its first fault is told, as lines that hold a word are counted
  pub points_judged : (file : List ℕ) (state : PlainState) → (HasStream text × All (HasEntry text) (entries_of state))
      ⊎ ((counted : Fault) × (counted ≢ faults.Memory) × IsRefusedState file text state counted)
  points_judged file state = elim stream_decided [
    | inr never ↦ inr (fault_at file 1 (problems.Malformed reasons.NoPort), (λ memory. cc), inr (inl (never, refl)))
    | inl stream ↦
        elim (first_lines (entries_of state) (length (entries_of state))) [
          | inl there ↦ inl (stream, all_there (entries_of state) there)
          | inr absent ↦ inr (fault_at file (1 + absent.0 + 1) (problems.Malformed (reason_of absent.1)), (λ memory. cc), inr (inr (stream, first absent.0 absent.1 absent.2)))
        ]
  ]
    where
      first : (place : ℕ) (entry : Entry) → IsAbsentAt (entries_of state) place entry
          → IsFirstAbsent text file 1 (entries_of state) (fault_at file (1 + place + 1) (problems.Malformed (reason_of entry)))
      first place entry absent = record { place = place; entry = entry; is = absent.0; absent = absent.1; earlier = absent.2; fault_is = refl }

-- What drivers give and keep where what they read is known.
use Rattle.std.proofs.Common.{◌≡◌, ℕ, Bool, true, false, List, Option, Some, None, get_or, refl, sym, ap, ◌∙◌, inl, arith}
use Rattle.fab_syntax.specs.Plain.{PlainExpr, PlainModule}
use Rattle.fab_systems_laws.specs.Ternary.{Tern, no, yes, unknown, known}
use Rattle.fab_meaning.specs.Points.{Path, Point, Driver, outside, copy, bit_of, flop, hold, Drives}
use Rattle.fab_meaning.specs.Settled.{Assignment}
use Rattle.fab_meaning.specs.Runs.{clock_name, user_clock_name, clock_of, kept}
use Rattle.fab_meaning.specs.Loading.{IsDerived, Within, by_flop, by_stream, by_reads, IsClosed, IsLoading}
use Rattle.fab_ternary_laws.specs.Operators.{tern_at}
use Rattle.fab_ternary_laws.specs.Values.{tern_value}
use Rattle.fab_ternary_laws.specs.Shown.{Terns, tern_names, through, tern_shown}
use Rattle.fab_solutions_laws.specs.Solutions.{tern_given}

-- ---- what drivers give

yes_or_no : (v : Bool) → yes ≡ known v → no ≡ known v → ⊥
yes_or_no v a b = let bad : yes ≡ no = a ∙ sym b in cc

not_unknown : (v : Bool) → unknown ≡ known v → ⊥
not_unknown true e = cc
not_unknown false e = cc

-- what a latch shows whether it holds 0 or 1, it shows whatever it holds
through_free : (gate data_value kept : Tern) (v : Bool) → through gate data_value yes ≡ known v → through gate data_value no ≡ known v →
    through gate data_value kept ≡ known v
through_free yes data_value kept v one zero = one
through_free no data_value kept v one zero = absurd (yes_or_no v one zero)
through_free unknown no kept v one zero = absurd (not_unknown v one)
through_free unknown yes kept v one zero = absurd (not_unknown v zero)
through_free unknown unknown kept v one zero = absurd (not_unknown v one)

module _ (text : List PlainModule) (inputs held : Terns) (bits : Assignment) (t : Terns) where
  -- what a driver gives whether its point holds 0 or 1, it gives whatever is held
  pub given_free : (v : Bool) (p : Point) (d : Driver) → inputs p ≡ known (bits p) →
      tern_shown text bits (λ q. true) t p d ≡ known v → tern_shown text bits (λ q. false) t p d ≡ known v → tern_given text inputs held t p d ≡ known v
  given_free v p outside is one zero = is ∙ one
  given_free v p (copy other) is one zero = one
  given_free v p (bit_of path e bit) is one zero = one
  given_free v p (flop path clock next bit) is one zero = absurd (yes_or_no v one zero)
  given_free v p (hold path gate e bit) is one zero =
      through_free (tern_at (tern_value (tern_names text t path) gate) 0) (tern_at (tern_value (tern_names text t path) e) bit) (held p) v one zero

  -- where the point's input and what it holds are known, a driver gives what it shows
  pub given_shown : (base : Assignment) (p : Point) (d : Driver) → inputs p ≡ known (bits p) → held p ≡ known (base p) →
      tern_given text inputs held t p d ≡ tern_shown text bits base t p d
  given_shown base p outside is holds = is
  given_shown base p (copy other) is holds = refl
  given_shown base p (bit_of path e bit) is holds = refl
  given_shown base p (flop path clock next bit) is holds = holds
  given_shown base p (hold path gate e bit) is holds =
      ap (through (tern_at (tern_value (tern_names text t path) gate) 0) (tern_at (tern_value (tern_names text t path) e) bit)) holds

-- ---- a flip-flop of UserCLK is no loading point

same_clock : (a b : List ℕ) → Some a ≡ Some b → a ≡ b
same_clock a b is = cc

module _ (text : List PlainModule) (p : Point) (one : (d e : Driver) → Drives text p d → Drives text p e → d ≡ e) (path : Path) (clock : List ℕ)
    (next : PlainExpr) (bit : ℕ)
    (drives : Drives text p (flop path clock next bit)) (clocked : clock_of text path clock ≡ Some user_clock_name) where
  abbrev clock_by : Driver → Option (List ℕ)
  clock_by (flop path clock next bit) = clock_of text path clock
  clock_by outside = None
  clock_by (copy other) = None
  clock_by (bit_of path e bit) = None
  clock_by (hold path gate e bit) = None

  derived_none : (d : Driver) → IsDerived d → clock_by d ≡ None
  derived_none outside derived = refl
  derived_none (copy other) derived = refl
  derived_none (bit_of path e bit) derived = refl
  derived_none (flop path clock next bit) derived = absurd derived
  derived_none (hold path gate e bit) derived = refl

  of_user : (d : Driver) → Drives text p d → clock_by d ≡ Some user_clock_name
  of_user d driven = ap clock_by (one d (flop path clock next bit) driven drives) ∙ clocked

  outside_of : (flops : Point → Bool) → IsClosed text flops → Within text flops p → ⊥
  outside_of flops closed (by_flop declared is) =
      let at = closed p is in
      let user = of_user (flop at.path at.clock at.next at.bit) at.drives in
      let names : clock_name ≡ user_clock_name = same_clock clock_name user_clock_name (sym at.clocked ∙ user) in
      let letters = ap (λ name. get_or name 0 0) names in
      omega (arith, letters)
  outside_of flops closed (by_stream is) = let bad : None ≡ Some user_clock_name = of_user outside (inl is.input) in cc
  outside_of flops closed (by_reads d declared driven derived inside) =
      let bad : None ≡ Some user_clock_name = sym (derived_none d derived) ∙ of_user d driven in cc

  pub user_not_loading : IsLoading text p → ⊥
  user_not_loading loads = outside_of loads.0 loads.1 loads.2

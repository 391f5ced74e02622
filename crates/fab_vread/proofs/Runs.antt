-- Tokens taken one after the other.
use Rattle.std.proofs.Common.{◌≡◌, ℕ, ◌<◌, ◌≤◌, ◌+◌, suc, Bool, true, false, List, [], ◌∷◌, ◌++◌, length, refl, subst, sym, arith, Option, Some, None, Result, Ok, Err, nat_lt, if◌then◌else◌}
use Rattle.std.proofs.lemmas.Bool.Decides.{nat_tests}
use Rattle.fab_base.specs.declared.problem.Problem.{Problem}
use Rattle.fab_syntax.specs.Plain.{PlainExpr}
use Rattle.fab_tokens.specs.declared.token.Token.{Token}
use Rattle.fab_vread.specs.declared.expressions.Over.{Over}
use Rattle.fab_vread.specs.declared.expressions.Over.TheVariants as overs
use Rattle.fab_vread.specs.declared.places.Purpose.{Purpose}
use Rattle.fab_vread.specs.declared.places.Place.{Place}
use Rattle.fab_vread.specs.inner.Expressions.{PlainLevel, Spot, kept, with_depth, with_bits}
use Rattle.fab_vread.specs.inner.Machine.{Machine, outside, inside, after_token}
use Rattle.fab_vread.proofs.Running.{and_take, run}

-- inside an expression
abbrev pub within : Machine → Purpose → Option Over → List PlainLevel → Spot → List Token → Result Machine Problem
within m purpose over ls spot ts = run (record m { state = inside purpose ls spot; over = over }) ts

-- outside
abbrev pub behind : Machine → Option Over → Place → List Token → Result Machine Problem
behind m over place ts = run (record m { state = outside place; over = over }) ts

-- What is watched in what is above its bound: both quantities, or the depth alone.
pub data Watched : Type 0 where
  both : Watched
  depth_alone : Watched

-- brackets are not above their bound
abbrev pub IsShallow : Option Over → Type 0
IsShallow None = Unit {0}
IsShallow (Some overs.Depth) = ⊥
IsShallow (Some (overs.Bits bits)) = Unit {0}

-- nothing that is watched is above its bound
abbrev pub IsFine : Watched → Option Over → Type 0
IsFine both over = over ≡ None
IsFine depth_alone over = IsShallow over

-- constants of so many bits are within their bound, where they are watched
abbrev pub AreFew : Watched → ℕ → Type 0
AreFew both widest = widest ≤ 128
AreFew depth_alone widest = Unit {0}

-- constants of at most so many bits, brackets at most so deep, and nothing above its bound so far
pub record Within (watched : Watched) (widest depth : ℕ) (over : Option Over) : Type 0 where
  pub few : AreFew watched widest
  pub shallow : depth ≤ 300
  pub none : IsFine watched over

-- A run goes on as one in which some x has been read, which within the bounds is the given one.
pub record Reads {X : Type 0} (watched : Watched) (fits : Type 0) (from : Result Machine Problem) (next : X → Option Over → Result Machine Problem) (x : X) : Type 0 where
  pub got : X
  pub over : Option Over
  pub reads : from ≡ next got over
  pub exact : fits → (got ≡ x) × IsFine watched over

pub below_bound : (n : ℕ) → n < 300 → nat_lt n 300 ≡ true
below_bound n h = grind (arith, nat_tests)

pub kept_is : (count : ℕ) (e : PlainExpr) → count < 300 → kept count e ≡ e
kept_is count e h = rw (below_bound count h) refl

pub depth_is : (over : Option Over) (count : ℕ) → count < 300 → with_depth over count ≡ over
depth_is over count h = rw (below_bound count h) refl

not_above : (n : ℕ) → n ≤ 128 → nat_lt 128 n ≡ false
not_above n h = grind (arith, nat_tests)

pub bits_are : (over : Option Over) (bits : ℕ) → over ≡ None → bits ≤ 128 → with_bits over bits ≡ None
bits_are None bits none h = rw (not_above bits h) refl
bits_are (Some over) bits none h = cc

pub depth_fine : (watched : Watched) (over : Option Over) (count : ℕ) → count < 300 → IsFine watched over → IsFine watched (with_depth over count)
depth_fine watched over count h fine = subst (IsFine watched) (sym (depth_is over count h)) fine

wide_fine : (over : Option Over) (bits : ℕ) → IsShallow over → IsShallow (with_bits over bits)
wide_fine None bits fine = tested (nat_lt 128 bits) where
  tested : (b : Bool) → IsShallow (if b then Some (overs.Bits bits) else None)
  tested true = tt
  tested false = tt
wide_fine (Some overs.Depth) bits fine = fine
wide_fine (Some (overs.Bits n)) bits fine = tt

pub bits_fine : (watched : Watched) (over : Option Over) (bits widest : ℕ) → AreFew watched widest → bits ≤ widest → IsFine watched over →
    IsFine watched (with_bits over bits)
bits_fine both over bits widest few h fine = bits_are over bits fine (omega arith)
bits_fine depth_alone over bits widest few h fine = wide_fine over bits fine

-- one bracket more
pub deeper : (watched : Watched) (widest room : ℕ) (over : Option Over) (l : PlainLevel) (ls : List PlainLevel) → Within watched widest (length ls + suc room) over →
    Within watched widest (length (l ∷ ls) + room) (with_depth over (length ls))
deeper watched widest room over l ls w =
    let shallow = w.shallow in
    record { few = w.few; shallow = omega arith; none = depth_fine watched over (length ls) (omega arith) w.none }

pub outer : (watched : Watched) (widest room : ℕ) (over : Option Over) (ls : List PlainLevel) → Within watched widest (length ls + suc room) over → length ls < 300
outer watched widest room over ls w = let shallow = w.shallow in omega arith

-- a run in two parts
pub run_on : (ts us : List Token) (m : Machine) → run m (ts ++ us) ≡ and_take (run m ts) us
unfolding run
run_on [] us m = refl
run_on (t ∷ ts) us m = elim (after_token m t) as (λ (given : Result Machine Problem).
    and_take given (ts ++ us) ≡ and_take (and_take given ts) us) [ Ok n ↦ run_on ts us n | Err problem ↦ refl ]

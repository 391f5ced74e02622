-- Where what a driver reads is known, so is what it gives, and it is the Boolean value.
use Rattle.std.proofs.Common.{◌≡◌, ℕ, zero, suc, ◌<◌, Bool, true, false, List, ◌∷◌, map, refl, ap, ◌∙◌, arith, lt-ltb, if◌then◌else◌}
use Rattle.std.proofs.lemmas.Bool.{or_left, or_right}
use Rattle.fab_bits.specs.Bits.{first_bits}
use Rattle.fab_systems_laws.specs.Ternary.{Tern, known}
use Rattle.fab_matrix.specs.fab_syntax.specs.Plain.{PlainExpr, PlainModule}
use Rattle.fab_matrix.specs.fab_syntax.specs.Declarations.{width_in}
use Rattle.fab_matrix.specs.fab_meaning.specs.Points.{Path, Point, point, Driver, outside, copy, bit_of, flop, hold, module_at}
use Rattle.fab_matrix.specs.fab_meaning.specs.Settled.{Assignment, names_at, shown}
use Rattle.fab_matrix.specs.fab_meaning.specs.Value.{value, bit_at}
use Rattle.fab_matrix.specs.fab_meaning.specs.Reads.{reads, expression_reads, is_declared}
use Rattle.fab_matrix.specs.fab_meaning.proofs.Dependence.{same_path_refl, same_point_refl}
use Rattle.fab_ternary_laws.specs.Operators.{tern_at}
use Rattle.fab_ternary_laws.specs.Values.{tern_value}
use Rattle.fab_ternary_laws.specs.Shown.{Terns, first_terns, tern_names, through, tern_shown}
use Rattle.fab_ternary_laws.proofs.Known.{known_at, known_value}

pub get_first_terns : (n : ℕ) (f : ℕ → Tern) (i : ℕ) → i < n → tern_at (first_terns n f) i ≡ f i
get_first_terns zero f i h = absurd (omega arith)
get_first_terns (suc n) f zero h = refl
get_first_terns (suc n) f (suc i) h = get_first_terns n (λ place. f (suc place)) i (omega arith)

pub first_terns_known : (n : ℕ) (f : ℕ → Tern) (g : ℕ → Bool) → ((i : ℕ) → i < n → f i ≡ known (g i)) → first_terns n f ≡ map known (first_bits n g)
first_terns_known zero f g h = refl
first_terns_known (suc n) f g h =
    let rest : first_terns n (λ i. f (suc i)) ≡ map known (first_bits n (λ i. g (suc i))) =
    first_terns_known n (λ i. f (suc i)) (λ i. g (suc i)) (λ i few. h (suc i) (omega arith)) in
    let here : f 0 ≡ known (g 0) = h 0 (omega arith) in
    λ j. here j ∷ rest j

module _ (text : List PlainModule) (inputs held now : Assignment) (t : Terns) where
  expression_known : (path : Path) (e : PlainExpr) → ((q : Point) → expression_reads text path e q ≡ true → t q ≡ known (now q)) →
      tern_value (tern_names text t path) e ≡ map known (value (names_at text now path) e)
  expression_known path e each =
      known_value (names_at text now path) (tern_names text t path) e (λ name mentioned.
      first_terns_known (width_in (module_at text path) name) (λ bit. t (point path name bit)) (λ bit. now (point path name bit)) (λ bit few.
      let declared : is_declared text (point path name bit) ≡ true = lt-ltb bit (width_in (module_at text path) name) few in
      let here = same_path_refl path in
      each (point path name bit) (rw (here, mentioned, declared) refl)))

  bit_known : (path : Path) (e : PlainExpr) (bit : ℕ) → ((q : Point) → expression_reads text path e q ≡ true → t q ≡ known (now q)) →
      tern_at (tern_value (tern_names text t path) e) bit ≡ known (bit_at (value (names_at text now path) e) bit)
  bit_known path e bit each = ap (λ ts. tern_at ts bit) (expression_known path e each) ∙ known_at (value (names_at text now path) e) bit

  through_known : (gate given kept : Bool) → through (known gate) (known given) (known kept) ≡ known (if gate then given else kept)
  through_known true given kept = refl
  through_known false given kept = refl

  pub driver_known : (p : Point) (d : Driver) → ((q : Point) → reads text d q ≡ true → t q ≡ known (now q)) → tern_shown text inputs held t p d ≡ known (shown text inputs held now p d)
  driver_known p outside each = refl
  driver_known p (copy other) each = each other (same_point_refl other)
  driver_known p (bit_of path e bit) each = bit_known path e bit each
  driver_known p (flop path clock next bit) each = refl
  driver_known p (hold path gate e bit) each =
      let gate_is = bit_known path gate 0 (λ q read. each q (or_left (expression_reads text path gate q) (expression_reads text path e q) read)) in
      let data_is = bit_known path e bit (λ q read. each q (or_right (expression_reads text path gate q) (expression_reads text path e q) read)) in
      (λ j. through (gate_is j) (data_is j) (known (held p)))
      ∙ through_known (bit_at (value (names_at text now path) gate) 0) (bit_at (value (names_at text now path) e) bit) (held p)

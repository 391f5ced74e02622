-- The points of an instance, by the items of its module.
use Rattle.std.proofs.Common.{◌≡◌, ℕ, ◌<◌, Bool, true, false, List, [], ◌∷◌, length, get_or, refl, ap, ◌∙◌, inr, Some, nat_lt, if◌then◌else◌}
use Rattle.fab_meaning.specs.fab_bits.specs.Bits.{first_bits}
use Rattle.fab_syntax.specs.Plain.{PlainExpr, PlainModule, assign}
use Rattle.fab_meaning.specs.Value.{value, bit_at}
use Rattle.fab_syntax.specs.Declarations.{declared_width, width_in, is_input, is_input_of}
use Rattle.fab_meaning.specs.Points.{Path, point, bit_of, flop, module_at}
use Rattle.fab_meaning.specs.Settled.{Assignment, names_at, IsSettledOn}
use Rattle.fab_meaning.specs.Runs.{user_clock_name}
use Rattle.fab_meaning.proofs.Declared.{bits_of_name}
use Rattle.fab_prim.specs.Modules.{flip_flop_name, flip_flop}
use Rattle.fab_prim.specs.Works.{IsOwnPoint, FlipFlopTakes}

-- a bit of one of two names
pub one_if : (test first second : Bool) → bit_at (if test then first ∷ [] else second ∷ []) 0 ≡ (if test then first else second)
one_if true first second = refl
one_if false first second = refl

-- the bits of the names of an instance, by the declarations of its module
abbrev pub seen : PlainModule → Path → Assignment → List ℕ → List Bool
seen m path now name = first_bits (declared_width m.ports m.items name) (λ bit. now (point path name bit))

module _ (m : PlainModule) (text : List PlainModule) (path : Path) (inputs held now : Assignment) (stands : module_at text path ≡ Some m)
    (settled : IsSettledOn (IsOwnPoint text path) text inputs held now) where
  same_names : names_at text now path ≡ seen m path now
  same_names = λ j name. bits_of_name text now path m name (declared_width m.ports m.items name) stands refl j

  -- a declared bit of a name that is no input
  own : (name : List ℕ) (bit : ℕ) → nat_lt bit (declared_width m.ports m.items name) ≡ true → is_input m.ports name ≡ false →
      IsOwnPoint text path (point path name bit)
  own name bit declared output = record {
    here = refl;
    declared = ap (λ found. nat_lt bit (width_in found name)) stands ∙ declared;
    no_input = ap (λ found. is_input_of found name) stands ∙ output;
  }

  -- an assigned name has the value of its expression
  pub assigned : (name : List ℕ) (e : PlainExpr) (bit place : ℕ) → place < length m.items → get_or m.items place (assign name e) ≡ assign name e →
      nat_lt bit (declared_width m.ports m.items name) ≡ true → is_input m.ports name ≡ false →
      now (point path name bit) ≡ bit_at (value (seen m path now) e) bit
  assigned name e bit place within there declared output =
      settled (point path name bit) (bit_of path e bit) (own name bit declared output)
      (inr (record { path = path; module_here = m; item = assign name e; stands = stands; holds = (place, within, there); drives = (refl, refl) }))
      ∙ ap (λ names. bit_at (value names e) bit) same_names

  -- the flip-flop shows what it holds
  pub shows_held : (next : PlainExpr) (place : ℕ) → place < length m.items → get_or m.items place (flip_flop next) ≡ flip_flop next →
      nat_lt 0 (declared_width m.ports m.items flip_flop_name) ≡ true → is_input m.ports flip_flop_name ≡ false →
      now (point path flip_flop_name 0) ≡ held (point path flip_flop_name 0)
  shows_held next place within there declared output =
      settled (point path flip_flop_name 0) (flop path user_clock_name next 0) (own flip_flop_name 0 declared output)
      (inr (record { path = path; module_here = m; item = flip_flop next; stands = stands; holds = (place, within, there); drives = (refl, refl) }))

  -- and takes the value of its expression
  pub takes : (next : PlainExpr) (place : ℕ) (next_value : Bool) → place < length m.items → get_or m.items place (flip_flop next) ≡ flip_flop next →
      bit_at (value (seen m path now) next) 0 ≡ next_value → FlipFlopTakes text path now next_value
  takes next place next_value within there is = record {
    next = next;
    drives = inr (record { path = path; module_here = m; item = flip_flop next; stands = stands; holds = (place, within, there); drives = (refl, refl) });
    gives = ap (λ names. bit_at (value names next) 0) same_names ∙ is;
  }

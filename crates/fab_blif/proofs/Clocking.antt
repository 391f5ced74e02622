-- What is told of the clocks of a design.
use Rattle.std.proofs.Common.{◌≡◌, ◌⊎◌, ℕ, ◌<◌, ◌≤◌, Bool, true, false, List, [], ◌∷◌, ◌++◌, ◌+◌, map, flat_map, length, take, get_or, append-nil, min, find, nat_eq, nat_lt, Option, Some, None, is_some, refl, sym, ap, ◌∙◌, inl, inr, arith}
use Rattle.std.specs.List.{AllByRecursion as Each}
use Rattle.std.proofs.lemmas.Bool.{cases_Bool, false≢true}
use Rattle.std.proofs.lemmas.Bool.Decides.{nat_tests}
use Rattle.std.proofs.lemmas.Grind.{flat_map-append}
use Rattle.std.proofs.lemmas.List.{map-append, take_more}
use Rattle.fab_blif.specs.declared.clocks.ClockFault.{ClockFault}
use Rattle.fab_blif.specs.declared.clocks.WrongClock.TheVariants as wrongs
use Rattle.fab_blif.specs.declared.design.ClockName.{ClockName}
use Rattle.fab_blif.specs.declared.design.Use.{Use}
use Rattle.fab_blif.specs.Design.{PlainClock}
use Rattle.fab_blif.specs.Judged.{least, least_of}
use Rattle.fab_blif.specs.Clocks.{data_faults, first_fault}
use Rattle.fab_blif.specs.inner.Walk.{plain_clock}

abbrev line_of : ClockFault → ℕ
line_of fault = fault.line

eq_true : (a : ℕ) → nat_eq a a ≡ true
eq_true a = grind (arith, nat_tests)

lt_told : (a b : ℕ) → nat_lt a b ≡ true → a < b
lt_told a b is = grind (arith, nat_tests)

le_told : (a b : ℕ) → nat_lt a b ≡ false → b ≤ a
le_told a b is = grind (arith, nat_tests)

other_least : (a line : ℕ) (least_rest : Option ℕ) → least_of (Some a) least_rest ≡ Some line → nat_eq a line ≡ false → least_rest ≡ Some line
other_least a line None is other = absurd (false≢true (sym other ∙ (let same : a ≡ line = cc in ap (λ (n : ℕ). nat_eq a n) (sym same) ∙ eq_true a)))
other_least a line (Some b) is other = ap Some (in_other (cases_Bool (nat_lt b a)))
  where
    least_is : min a b ≡ line
    least_is = cc

    in_other : (nat_lt b a ≡ true) ⊎ (nat_lt b a ≡ false) → b ≡ line
    in_other (inl t) = omega (arith, least_is, lt_told b a t)
    in_other (inr f) = (let same : a ≡ line = omega (arith, least_is, le_told b a f) in absurd (false≢true (sym other ∙ ap (λ (n : ℕ). nat_eq a n) (sym same) ∙ eq_true a)))

-- some fault stands at the least line
least_found : (faults : List ClockFault) (line : ℕ) → least (map line_of faults) ≡ Some line → is_some (find (λ (fault : ClockFault). nat_eq fault.line line) faults) ≡ true
least_found [] line is = ap is_some is
least_found (fault ∷ faults) line is =
    elim (cases_Bool (nat_eq fault.line line)) [
      | inl t ↦ rw t refl
      | inr f ↦ rw f (least_found faults line (other_least fault.line line (least (map line_of faults)) is f))
    ]

some_least : (a : ℕ) (o : Option ℕ) → (line : ℕ) × (least_of (Some a) o ≡ Some line)
some_least a None = (a, refl)
some_least a (Some b) = (min a b, refl)

-- where none is told, nothing is wrong
pub none_wrong : (faults : List ClockFault) → first_fault faults ≡ None → faults ≡ []
none_wrong [] none = refl
none_wrong (fault ∷ faults) none =
    let line = some_least fault.line (least (map line_of faults)) in
    let nothing : find (λ (other : ClockFault). nat_eq other.line line.0) (fault ∷ faults) ≡ None = rw line.1 at none in
    absurd (false≢true (sym (ap is_some nothing) ∙ least_found (fault ∷ faults) line.0 line.1))

-- where nothing is told of two lists, nothing is told of the second
pub none_later : (xs ys : List ClockFault) → xs ++ ys ≡ [] → ys ≡ []
none_later [] ys none = none
none_later (x ∷ xs) ys none = cc

-- where no data is wrong, no clock is data
pub no_data : (is_clock : ℕ → Bool) (uses : List Use) → data_faults is_clock uses ≡ [] → Each (λ (used : Use). is_clock used.net ≡ false) uses
no_data is_clock [] none = tt
no_data is_clock (used ∷ uses) none =
    elim (cases_Bool (is_clock used.net)) [
      | inl t ↦ (let some : record { line = used.line; wrong = wrongs.Data } ∷ data_faults is_clock uses ≡ [] = rw t at none in cc)
      | inr f ↦ (let rest : data_faults is_clock uses ≡ [] = rw f at none in (f, no_data is_clock uses rest))
    ]

-- what is said of one more clock
pub named_more : (says : PlainClock → List ClockFault) (names : List ClockName) (at : ℕ) (name : ClockName) → at < length names → name ≡ get_or names at name →
    flat_map says (map plain_clock (take (at + 1) names)) ≡ flat_map says (map plain_clock (take at names)) ++ says (plain_clock name)
named_more says names at name within is =
    ap (λ (all : List ClockName). flat_map says (map plain_clock all)) (take_more names at name within ∙ ap (λ (one : ClockName). take at names ++ one ∷ []) (sym is))
    ∙ ap (flat_map says) (map-append plain_clock (take at names) (name ∷ []))
    ∙ flat_map-append says (map plain_clock (take at names)) (plain_clock name ∷ [])
    ∙ ap (λ (last : List ClockFault). flat_map says (map plain_clock (take at names)) ++ last) (append-nil (says (plain_clock name)))

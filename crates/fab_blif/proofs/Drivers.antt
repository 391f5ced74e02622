-- The second driver of a net, among drivers in the order of their lines.
use Rattle.std.proofs.Common.{◌≡◌, ◌≢◌, ℕ, ◌+◌, ◌<◌, ◌≤◌, Bool, true, false, not, ◌||◌, ◌&&◌, ◌⊎◌, cond, nat_eq, nat_le, List, [], ◌∷◌, ◌++◌, length, get_or, take, drop, refl, sym, ap, subst, ◌∙◌, inl, inr, arith, append-nil, if◌then◌else◌, Option, Some, None, IfNone, IfSome}
use Rattle.std.specs.List.{AllByRecursion as Each, count_by, filter, list_any}
use Rattle.std.specs.List.Sorted.{IsNonDecreasingBy, IsPermutation}
use Rattle.std.proofs.lemmas.Bool.{cases_Bool, false≢true, le-leb}
use Rattle.std.proofs.lemmas.Bool.Decides.{nat_tests}
use Rattle.std.proofs.lemmas.List.{get_or-drop, get_or-take, length-drop, length-take, take-append-drop, take_more}
use Rattle.std.proofs.lemmas.List.Elements.{All-from_get_or, filter-append, recursion_from_All}
use Rattle.std.proofs.lemmas.List.Folds.{list_any-append}
use Rattle.std.proofs.lemmas.List.Sorted.{IsPermutation-sym, list_any-IsPermutation, sum_by-IsPermutation}
use Rattle.fab_base.specs.Reading.{IsFaultOr, fault_at}
use Rattle.fab_base.specs.declared.fault.Fault.{Fault}
use Rattle.fab_base.specs.declared.fault.Fault.TheVariants as faults
use Rattle.fab_base.specs.declared.problem.Problem.TheVariants as problems
use Rattle.fab_base.specs.declared.words.Reason.TheVariants as reasons
use Rattle.fab_blif.specs.declared.design.Use.{Use}
use Rattle.fab_blif.specs.declared.judge.Driver.{Driver}
use Rattle.fab_blif.specs.Design.{PlainDesign}
use Rattle.fab_blif.specs.Judged.{EachHasOne, IsSecondIn, drivers_in, drivers_to, inner_drivers, input_ports, is_among, is_inner, is_of, is_port, is_second, tagged}
use Rattle.fab_blif.specs.Refusals.{IsSecondDriver, RefusesDrivers, drivers_upto, upto}
use Rattle.fab_blif.proofs.Counted.{count_first, count_joined}
use Rattle.fab_blif.proofs.Judging.{drivers_last, drivers_tagged}

-- ---- tests and filters

not_upto : (a b : ℕ) → b < a → nat_le a b ≡ false
not_upto a b less = grind (arith, nat_tests)

kept_all : {X : Type 0} (p : X → Bool) (xs : List X) → Each (λ x. p x ≡ true) xs → filter p xs ≡ xs
kept_all p [] all = refl
kept_all p (x ∷ xs) all = rw all.0 (ap (λ (rest : List _). x ∷ rest) (kept_all p xs all.1))

kept_none : {X : Type 0} (p : X → Bool) (xs : List X) → Each (λ x. p x ≡ false) xs → filter p xs ≡ []
kept_none p [] none = refl
kept_none p (x ∷ xs) none = rw none.0 (kept_none p xs none.1)

count_less : {X : Type 0} (p q : X → Bool) (xs : List X) → count_by p (filter q xs) ≤ count_by p xs
count_less p q [] = omega arith
count_less p q (x ∷ xs) =
    elim (cases_Bool (q x)) [
      | inl t ↦ rw t (omega (arith, count_first p x (filter q xs), count_first p x xs, count_less p q xs))
      | inr f ↦ rw f (omega (arith, count_first p x xs, count_less p q xs))
    ]

or_right : (a b : Bool) → b ≡ true → (a || b) ≡ true
or_right true b is = refl
or_right false b is = is

or_left : (a b : Bool) → a ≡ true → (a || b) ≡ true
or_left true b is = refl
or_left false b is = absurd (false≢true is)

either : (a b : Bool) → (a || b) ≡ true → (a ≡ true) ⊎ (b ≡ true)
either true b is = inl refl
either false b is = inr is

any_less : {X : Type 0} (p q : X → Bool) (xs : List X) → list_any p (filter q xs) ≡ true → list_any p xs ≡ true
any_less p q [] there = there
any_less p q (x ∷ xs) there =
    elim (cases_Bool (q x)) [
      | inl t ↦ (let whole : (p x || list_any p (filter q xs)) ≡ true = rw t at there in elim (either (p x) (list_any p (filter q xs)) whole) [
        | inl here ↦ or_left (p x) (list_any p xs) here
        | inr later ↦ or_right (p x) (list_any p xs) (any_less p q xs later)
      ])
      | inr f ↦ (let rest : list_any p (filter q xs) ≡ true = rw f at there in or_right (p x) (list_any p xs) (any_less p q xs rest))
    ]

one_less : (a b : Bool) → (a ≡ true → b ≡ true) → (if a then 1 else 0) ≤ (if b then 1 else 0)
one_less true true step = omega arith
one_less true false step = absurd (false≢true (step refl))
one_less false true step = omega arith
one_less false false step = omega arith

-- some of the drivers are no more of a net than all
drivers_less : (q : Driver → Bool) (xs : List Driver) (net : ℕ) → drivers_in (filter q xs) net ≤ drivers_in xs net
drivers_less q xs net = omega (arith, count_less (is_inner net) q xs, one_less (list_any (is_port net) (filter q xs)) (list_any (is_port net) xs) (any_less (is_port net) q xs))

drivers_more : (xs ys : List Driver) (net : ℕ) → drivers_in xs net ≤ drivers_in (xs ++ ys) net
drivers_more xs ys net =
    omega (
      arith,
      count_joined (is_inner net) xs ys,
      one_less (list_any (is_port net) xs) (list_any (is_port net) (xs ++ ys)) (λ here. list_any-append (is_port net) xs ys ∙ or_left (list_any (is_port net) xs) (list_any (is_port net) ys) here),
    )

-- ---- an order changes no counts

count_both : {X : Type 0} (p q : X → Bool) (xs : List X) → count_by p (filter q xs) ≡ count_by (λ x. q x && p x) xs
count_both p q [] = refl
count_both p q (x ∷ xs) =
    elim (cases_Bool (q x)) [
      | inl t ↦ (let here : filter q (x ∷ xs) ≡ x ∷ filter q xs = rw t refl in
          omega (arith, ap (count_by p) here, count_first p x (filter q xs), count_first (λ y. q y && p y) x xs, ap {B = ℕ} (λ (b : Bool). cond (b && p x) 1 0) t, count_both p q xs))
      | inr f ↦ (let here : filter q (x ∷ xs) ≡ filter q xs = rw f refl in
          omega (arith, ap (count_by p) here, count_first (λ y. q y && p y) x xs, ap {B = ℕ} (λ (b : Bool). cond (b && p x) 1 0) f, count_both p q xs))
    ]

any_both : {X : Type 0} (p q : X → Bool) (xs : List X) → list_any p (filter q xs) ≡ list_any (λ x. q x && p x) xs
any_both p q [] = refl
any_both p q (x ∷ xs) =
    elim (cases_Bool (q x)) [
      | inl t ↦ rw t (ap (λ (b : Bool). p x || b) (any_both p q xs))
      | inr f ↦ rw f (any_both p q xs)
    ]

drivers_to_moved : (xs ys : List Driver) → IsPermutation xs ys → (line net : ℕ) → drivers_in (drivers_to line xs) net ≡ drivers_in (drivers_to line ys) net
drivers_to_moved xs ys moved line net = λ j. counts j + (if anys j then 1 else 0)
  where
    counts : count_by (is_inner net) (drivers_to line xs) ≡ count_by (is_inner net) (drivers_to line ys)
    counts =
        count_both (is_inner net) (λ d. nat_le d.line line) xs
        ∙ sum_by-IsPermutation (λ (d : Driver). cond (nat_le d.line line && is_inner net d) 1 0) ys xs (IsPermutation-sym xs ys moved)
        ∙ sym (count_both (is_inner net) (λ d. nat_le d.line line) ys)

    anys : list_any (is_port net) (drivers_to line xs) ≡ list_any (is_port net) (drivers_to line ys)
    anys =
        any_both (is_port net) (λ d. nat_le d.line line) xs
        ∙ list_any-IsPermutation (λ (d : Driver). nat_le d.line line && is_port net d) xs ys moved
        ∙ sym (any_both (is_port net) (λ d. nat_le d.line line) ys)

-- ---- the second driver

any_counted : {X : Type 0} (p : X → Bool) (xs : List X) → list_any p xs ≡ true → 1 ≤ count_by p xs
any_counted p [] there = absurd (false≢true there)
any_counted p (x ∷ xs) there =
    elim (cases_Bool (p x)) [
      | inl t ↦ omega (arith, count_first p x xs, ap {B = ℕ} (λ (b : Bool). cond b 1 0) t)
      | inr f ↦ (let rest : list_any p xs ≡ true = rw f at there in omega (arith, count_first p x xs, any_counted p xs rest))
    ]

-- a driver that is the second of its net
two_drivers : (xs : List Driver) (d : Driver) (inner ports : List ℕ) → ((net : ℕ) → is_among inner net ≡ list_any (is_inner net) xs) → ((net : ℕ) → is_among ports net ≡ list_any (is_port net) xs) →
    is_second inner ports d ≡ true → 2 ≤ drivers_in (xs ++ d ∷ []) d.net
two_drivers xs d inner ports inner_is ports_is second = omega (arith, drivers_last xs d d.net, here d.is_port refl)
  where
    same : nat_eq d.net d.net ≡ true
    same = grind (arith, nat_tests)

    inner_there : is_among inner d.net ≡ true → 1 ≤ count_by (is_inner d.net) xs
    inner_there is = any_counted (is_inner d.net) xs (sym (inner_is d.net) ∙ is)

    parts : (port : Bool) → d.is_port ≡ port → ((not port && is_among ports d.net) || is_among inner d.net) ≡ true
    parts port is = ap (λ (b : Bool). (not b && is_among ports d.net) || is_among inner d.net) (sym is) ∙ second

    port_one : (a : Bool) → ◌≡◌ {A = ℕ} (if a || true then 1 else 0) 1
    port_one true = refl
    port_one false = refl

    here : (port : Bool) → d.is_port ≡ port → 2 ≤ count_by (is_inner d.net) xs + cond (is_inner d.net d) 1 0 + (if list_any (is_port d.net) xs || is_port d.net d then 1 else 0)
    here true is = rw (is, same) (omega (arith, inner_there (parts true is), port_one (list_any (is_port d.net) xs)))
    here false is = elim (either (is_among ports d.net) (is_among inner d.net) (parts false is)) [
      | inl port ↦ (let there : list_any (is_port d.net) xs ≡ true = sym (ports_is d.net) ∙ port in rw (is, same, there) (omega arith))
      | inr other ↦ rw (is, same) (omega (arith, inner_there other))
    ]

module _ (ds : List Driver) (up : IsNonDecreasingBy (λ (d : Driver). d.line) ds) (at : ℕ) (d : Driver) (within : at < length ds) (is : d ≡ get_or ds at d) where
  early : Each (λ (x : Driver). nat_le x.line d.line ≡ true) (take (at + 1) ds)
  early = recursion_from_All _ (take (at + 1) ds) (All-from_get_or (λ (x : Driver). nat_le x.line d.line ≡ true) (take (at + 1) ds) d step)
    where
      step : (i : ℕ) → i < length (take (at + 1) ds) → nat_le (get_or (take (at + 1) ds) i d).line d.line ≡ true
      step i inside =
          let near : i < at + 1 = omega (arith, inside, length-take (at + 1) ds) in
          let before : (get_or ds i d).line ≤ (get_or ds at d).line = up i at d (omega (arith, near)) within in
          le-leb _ _ (omega (arith, before, ap (λ (x : Driver). x.line) (get_or-take (at + 1) ds i d near), ap (λ (x : Driver). x.line) is))

  late : (line : ℕ) → line < d.line → Each (λ (x : Driver). nat_le x.line line ≡ false) (drop at ds)
  late line less = recursion_from_All _ (drop at ds) (All-from_get_or (λ (x : Driver). nat_le x.line line ≡ false) (drop at ds) d step)
    where
      step : (i : ℕ) → i < length (drop at ds) → nat_le (get_or (drop at ds) i d).line line ≡ false
      step i inside =
          let near : at + i < length ds = omega (arith, inside, length-drop at ds) in
          let behind : (get_or ds at d).line ≤ (get_or ds (at + i) d).line = up at (at + i) d (omega arith) near in
          not_upto _ _ (omega (arith, less, behind, ap (λ (x : Driver). x.line) (get_or-drop at ds i d), ap (λ (x : Driver). x.line) is))

  second_here : (net : ℕ) → 2 ≤ drivers_in (take (at + 1) ds) net → 2 ≤ drivers_in (drivers_to d.line ds) net
  second_here net two =
      let p : Driver → Bool = λ x. nat_le x.line d.line in
      let parts : drivers_to d.line ds ≡ take (at + 1) ds ++ filter p (drop (at + 1) ds) =
      ap (filter p) (sym (take-append-drop (at + 1) ds)) ∙ filter-append p (take (at + 1) ds) (drop (at + 1) ds) ∙ ap (λ (front : List Driver). front ++ filter p (drop (at + 1) ds)) (kept_all p (take (at + 1) ds) early) in
      omega (arith, two, drivers_more (take (at + 1) ds) (filter p (drop (at + 1) ds)) net, ap (λ (all : List Driver). drivers_in all net) parts)

  first_here : ((net : ℕ) → drivers_in (take at ds) net ≤ 1) → (line other : ℕ) → line < d.line → drivers_in (drivers_to line ds) other ≤ 1
  first_here once line other less =
      let p : Driver → Bool = λ x. nat_le x.line line in
      let parts : drivers_to line ds ≡ filter p (take at ds) =
      ap (filter p) (sym (take-append-drop at ds)) ∙ filter-append p (take at ds) (drop at ds) ∙ ap (λ (back : List Driver). filter p (take at ds) ++ back) (kept_none p (drop at ds) (late line less)) ∙ append-nil (filter p (take at ds)) in
      omega (arith, once other, drivers_less p (take at ds) other, ap (λ (all : List Driver). drivers_in all other) parts)

  -- in whatever order the drivers were before
  pub second_in : (old : List Driver) → IsPermutation old ds → (inner ports : List ℕ) → ((net : ℕ) → is_among inner net ≡ list_any (is_inner net) (take at ds)) →
      ((net : ℕ) → is_among ports net ≡ list_any (is_port net) (take at ds)) → ((net : ℕ) → drivers_in (take at ds) net ≤ 1) → is_second inner ports d ≡ true → IsSecondIn old d.line
  second_in old moved inner ports inner_is ports_is once second = record {
    net = d.net;
    second = omega (arith, drivers_to_moved old ds moved d.line d.net, second_here d.net two);
    first = λ (before other : ℕ) less. omega (arith, drivers_to_moved old ds moved before other, first_here once before other less);
  }
    where
      whole : take (at + 1) ds ≡ take at ds ++ d ∷ []
      whole = take_more ds at d within ∙ ap (λ (one : Driver). take at ds ++ one ∷ []) (sym is)

      two : 2 ≤ drivers_in (take (at + 1) ds) d.net
      two = omega (arith, two_drivers (take at ds) d inner ports inner_is ports_is second, ap (λ (all : List Driver). drivers_in all d.net) whole)

-- ---- uses in one list

tagged_to : (line : ℕ) (port : Bool) (uses : List Use) → drivers_to line (tagged port uses) ≡ tagged port (upto line uses)
tagged_to line port [] = refl
tagged_to line port (u ∷ uses) =
    elim (cases_Bool (nat_le u.line line)) [
      | inl t ↦ rw t (ap (λ (rest : List Driver). record { line = u.line; net = u.net; is_port = port } ∷ rest) (tagged_to line port uses))
      | inr f ↦ rw f (tagged_to line port uses)
    ]

drivers_are : (design : PlainDesign) (line net : ℕ) → drivers_in (drivers_to line (tagged false (inner_drivers design) ++ tagged true (input_ports design))) net ≡ drivers_upto design line net
drivers_are design line net =
    ap (λ (all : List Driver). drivers_in all net) (filter-append (λ (d : Driver). nat_le d.line line) (tagged false (inner_drivers design)) (tagged true (input_ports design)))
    ∙ (λ j. drivers_in (tagged_to line false (inner_drivers design) j ++ tagged_to line true (input_ports design) j) net)
    ∙ drivers_tagged (upto line (inner_drivers design)) (upto line (input_ports design)) net

-- the second driver of a design
pub second_of : (design : PlainDesign) (all : List Driver) (line : ℕ) → all ≡ tagged false (inner_drivers design) ++ tagged true (input_ports design) → IsSecondIn all line → IsSecondDriver design line
second_of design all line is told = record {
  net = found.net;
  second = omega (arith, found.second, drivers_are design line found.net);
  first = λ (before other : ℕ) less. omega (arith, found.first before other less, drivers_are design before other);
}
  where
    found : IsSecondIn (tagged false (inner_drivers design) ++ tagged true (input_ports design)) line
    found = subst (λ (ds : List Driver). IsSecondIn ds line) is told

-- where each net has one driver at most, no line is that of a second one
pub once_upto : (design : PlainDesign) (line : ℕ) → EachHasOne design → IsSecondDriver design line → ⊥
once_upto design line once second =
    let net = second.net in
    let ports = input_ports design in
    omega (
      arith,
      once net,
      second.second,
      count_less (is_of net) (λ used. nat_le used.line line) (inner_drivers design),
      one_less (list_any (is_of net) (upto line ports)) (list_any (is_of net) ports) (any_less (is_of net) (λ used. nat_le used.line line) ports),
    )

-- ---- the answers

pub once_told : (design : PlainDesign) (all : List Driver) (line : Option ℕ) → all ≡ tagged false (inner_drivers design) ++ tagged true (input_ports design) → IfNone line ((net : ℕ) → drivers_in all net ≤ 1) →
    line ≡ None → EachHasOne design
once_told design all line is once none net =
    let each : (other : ℕ) → drivers_in all other ≤ 1 = subst (λ (o : Option ℕ). IfNone o ((other : ℕ) → drivers_in all other ≤ 1)) none once in
    omega (arith, each net, ap (λ (ds : List Driver). drivers_in ds net) is, drivers_tagged (inner_drivers design) (input_ports design) net)

-- a fault that is not want of memory
pub fault_told : (fault expected : Fault) → IsFaultOr fault expected → (fault ≢ faults.Memory) → fault ≡ expected
fault_told fault expected (inl memory) other = absurd (other memory)
fault_told fault expected (inr is) other = is

pub drivers_refused : (file : List ℕ) (design : PlainDesign) (all : List Driver) (found : Option ℕ) (line : ℕ) (fault : Fault) → all ≡ tagged false (inner_drivers design) ++ tagged true (input_ports design) →
    IfSome found (IsSecondIn all) → found ≡ Some line → IsFaultOr fault (fault_at file line (problems.Malformed reasons.Drivers)) → (fault ≢ faults.Memory) → RefusesDrivers file design fault
drivers_refused file design all found line fault is second some given other =
    let here : IsSecondIn all line = subst (λ (o : Option ℕ). IfSome o (IsSecondIn all)) some second in
    (line, second_of design all line is here, fault_told fault (fault_at file line (problems.Malformed reasons.Drivers)) given other)

-- The steps of what judges a design.
use Rattle.std.proofs.Common.{◌≡◌, ℕ, ◌+◌, ◌<◌, ◌≤◌, Bool, true, false, not, ◌||◌, ◌&&◌, cond, nat_eq, List, [], ◌∷◌, ◌++◌, length, get_or, take, drop, Some, None, refl, sym, ap, ◌∙◌, inl, inr, arith, eqb-true, is_some, slice_get, append-nil, append_assoc, if◌then◌else◌}
use Rattle.std.specs.List.{count_by, list_any}
use Rattle.std.specs.List.Sorted.{IsPermutation}
use Rattle.std.proofs.lemmas.Bool.{cases_Bool, false≢true}
use Rattle.std.proofs.lemmas.List.{at_drop_more, take_all, take_more}
use Rattle.std.proofs.lemmas.List.Folds.{list_any-append, list_any_more}
use Rattle.std.proofs.lemmas.Option.{get_or_from_slice_get, slice_get_cases}
use Rattle.std.proofs.Math.ListN.{drop_of_length-le}
use Rattle.std.proofs.lemmas.List.Sorted.{IsPermutation-sym, list_any-IsPermutation, sum_by-IsPermutation}
use Rattle.indexmap.specs.IndexSet.{insert_key}
use Rattle.fab_netlist.specs.declared.netlist.Latch.{Latch}
use Rattle.fab_netlist.specs.Wide.{PlainWideCover}
use Rattle.fab_blif.specs.declared.design.Use.{Use}
use Rattle.fab_blif.specs.declared.judge.Driver.{Driver}
use Rattle.fab_blif.specs.Judged.{drivers, drivers_in, input_uses, is_among, is_inner, is_of, is_port, is_second, latch_uses, tagged}
use Rattle.fab_blif.specs.inner.Walk.{used_at}
use Rattle.fab_blif.proofs.Counted.{count_first, count_joined}

-- ---- sets of nets

or_false : (a : Bool) → (a || false) ≡ a
or_false true = refl
or_false false = refl

or_swapped : (a b : Bool) → (a || b) ≡ (b || a)
or_swapped true true = refl
or_swapped true false = refl
or_swapped false true = refl
or_swapped false false = refl

pub insert_among : (keys : List ℕ) (net other : ℕ) → is_among (insert_key nat_eq keys net) other ≡ (nat_eq other net || is_among keys other)
insert_among keys net other =
    elim (cases_Bool (is_among keys net)) [
      | inl t ↦ rw t (elim (cases_Bool (nat_eq other net)) [
        | inl same ↦ (let here : is_among keys other ≡ true = ap (is_among keys) (eqb-true other net same) ∙ t in rw same here)
        | inr f ↦ rw f refl
      ])
      | inr f ↦ rw f (list_any-append (nat_eq other) keys (net ∷ []) ∙ ap (λ (b : Bool). is_among keys other || b) (or_false (nat_eq other net)) ∙ or_swapped (is_among keys other) (nat_eq other net))
    ]

-- a test of some item, with one item more
pub any_step : {X : Type 0} (p : X → Bool) (xs : List X) (at : ℕ) (x : X) → at < length xs → x ≡ get_or xs at x → (old new : Bool) → new ≡ (p x || old) → old ≡ list_any p (take at xs) →
    new ≡ list_any p (take (at + 1) xs)
any_step p xs at x within is old new added before =
    added
    ∙ or_swapped (p x) old
    ∙ (λ j. before j || p (is j))
    ∙ sym (list_any_more p xs at x within)

-- ---- latches with their lines

next_some : (lines : List ℕ) (at line : ℕ) → slice_get lines at ≡ Some line → drop at lines ≡ line ∷ drop (at + 1) lines
next_some lines at line there =
    elim (slice_get_cases lines at).1 [
      | inl found ↦ at_drop_more (λ (rest : List ℕ). rest) lines at line found.1 ∙ ap (λ (first : ℕ). first ∷ drop (at + 1) lines) (get_or_from_slice_get lines at line line there)
      | inr past ↦ absurd (false≢true (ap is_some (sym past.1 ∙ there)))
    ]

next_none : (lines : List ℕ) (at : ℕ) → slice_get lines at ≡ None → drop at lines ≡ []
next_none lines at none =
    elim (slice_get_cases lines at).1 [
      | inl found ↦ absurd (false≢true (ap is_some (sym none ∙ found.2)))
      | inr past ↦ drop_of_length-le lines past.0
    ]

module _ (of : Latch → ℕ) (lines : List ℕ) (latches : List Latch) (at : ℕ) (uses all : List Use) (before : uses ++ latch_uses of (drop at lines) (drop at latches) ≡ all) where
  pub latch_step : (latch : Latch) (line : ℕ) (next : List Use) → at < length latches → latch ≡ get_or latches at latch → slice_get lines at ≡ Some line →
      next ≡ uses ++ record { line = line; net = of latch } ∷ [] → next ++ latch_uses of (drop (at + 1) lines) (drop (at + 1) latches) ≡ all
  latch_step latch line next within is there pushed =
      let rest = latch_uses of (drop (at + 1) lines) (drop (at + 1) latches) in
      let latches_are : drop at latches ≡ latch ∷ drop (at + 1) latches =
      at_drop_more (λ (l : List Latch). l) latches at latch within ∙ ap (λ (first : Latch). first ∷ drop (at + 1) latches) (sym is) in
      ap (λ (list : List Use). list ++ rest) pushed
      ∙ append_assoc uses (record { line = line; net = of latch } ∷ []) rest
      ∙ ap (λ (list : List Use). uses ++ list) (λ j. latch_uses of (sym (next_some lines at line there) j) (sym latches_are j))
      ∙ before

  -- no line is left
  pub latch_end : slice_get lines at ≡ None → uses ≡ all
  latch_end none = sym (append-nil uses) ∙ ap (λ (list : List Use). uses ++ list) (λ j. latch_uses of (sym (next_none lines at none) j) (drop at latches)) ∙ before

  -- no latch is left
  pub latch_done : length latches ≤ at → uses ≡ all
  latch_done past =
      sym (append-nil uses) ∙ ap (λ (list : List Use). uses ++ list) (sym (no_lines (drop at lines))) ∙ ap (λ (l : List Latch). uses ++ latch_uses of (drop at lines) l) (sym (drop_of_length-le latches past)) ∙ before
    where
      no_lines : (some : List ℕ) → latch_uses of some [] ≡ []
      no_lines [] = refl
      no_lines (line ∷ more) = refl

-- ---- two drivers

or_parts : (a b : Bool) → (a || b) ≡ false → (a ≡ false) × (b ≡ false)
or_parts true b is = absurd (false≢true (sym is))
or_parts false b is = (refl, is)

none_counted : {X : Type 0} (p : X → Bool) (xs : List X) → list_any p xs ≡ false → count_by p xs ≡ 0
none_counted p [] none = refl
none_counted p (x ∷ xs) none = (let parts = or_parts (p x) (list_any p xs) none in omega (arith, count_first p x xs, ap {B = ℕ} (λ (b : Bool). cond b 1 0) parts.0, none_counted p xs parts.1))

count_last : {X : Type 0} (p : X → Bool) (xs : List X) (x : X) → count_by p (xs ++ x ∷ []) ≡ count_by p xs + cond (p x) 1 0
count_last p xs x = omega (arith, count_joined p xs (x ∷ []), count_first p x [])

any_last : {X : Type 0} (p : X → Bool) (xs : List X) (x : X) → list_any p (xs ++ x ∷ []) ≡ (list_any p xs || p x)
any_last p xs x = list_any-append p xs (x ∷ []) ∙ ap (λ (b : Bool). list_any p xs || b) (or_false (p x))

pub drivers_last : (xs : List Driver) (d : Driver) (net : ℕ) → drivers_in (xs ++ d ∷ []) net ≡ count_by (is_inner net) xs + cond (is_inner net d) 1 0 + (if list_any (is_port net) xs || is_port net d then 1 else 0)
drivers_last xs d net = λ j. count_last (is_inner net) xs d j + (if any_last (is_port net) xs d j then 1 else 0)

-- a driver that is not the second of its net
pub once_more : (xs : List Driver) (d : Driver) (inner ports : List ℕ) → ((net : ℕ) → is_among inner net ≡ list_any (is_inner net) xs) → ((net : ℕ) → is_among ports net ≡ list_any (is_port net) xs) →
    is_second inner ports d ≡ false → ((net : ℕ) → drivers_in xs net ≤ 1) → (net : ℕ) → drivers_in (xs ++ d ∷ []) net ≤ 1
once_more xs d inner ports inner_is ports_is first once net =
    elim (cases_Bool (nat_eq net d.net)) [
      | inl t ↦ omega (arith, drivers_last xs d net, here d.is_port refl t)
      | inr f ↦ omega (arith, drivers_last xs d net, other f, once net)
    ]
  where
    parts : ((not d.is_port && is_among ports d.net) ≡ false) × (is_among inner d.net ≡ false)
    parts = or_parts (not d.is_port && is_among ports d.net) (is_among inner d.net) first

    no_inner : nat_eq net d.net ≡ true → count_by (is_inner net) xs ≡ 0
    no_inner same = none_counted (is_inner net) xs (sym (inner_is net) ∙ ap (is_among inner) (eqb-true net d.net same) ∙ parts.1)

    at_most : (b : Bool) → (if b then 1 else 0) ≤ 1
    at_most true = omega arith
    at_most false = omega arith

    same_rest : (port any : Bool) → count_by (is_inner net) xs + cond (not port && false) 1 0 + (if any || (port && false) then 1 else 0) ≡ count_by (is_inner net) xs + (if any then 1 else 0)
    same_rest true true = omega arith
    same_rest true false = omega arith
    same_rest false true = omega arith
    same_rest false false = omega arith

    here : (port : Bool) → d.is_port ≡ port → nat_eq net d.net ≡ true → count_by (is_inner net) xs + cond (is_inner net d) 1 0 + (if list_any (is_port net) xs || is_port net d then 1 else 0) ≤ 1
    here true is same = rw (is, same) (omega (arith, no_inner same, at_most (list_any (is_port net) xs || true)))
    here false is same =
        let no_port : list_any (is_port net) xs ≡ false = sym (ports_is net) ∙ ap (is_among ports) (eqb-true net d.net same) ∙ ap (λ (b : Bool). not b && is_among ports d.net) (sym is) ∙ parts.0 in
        rw (is, same, no_port) (omega (arith, no_inner same))

    other : nat_eq net d.net ≡ false → count_by (is_inner net) xs + cond (is_inner net d) 1 0 + (if list_any (is_port net) xs || is_port net d then 1 else 0) ≡ drivers_in xs net
    other f = ap (λ (b : Bool). count_by (is_inner net) xs + cond (not d.is_port && b) 1 0 + (if list_any (is_port net) xs || (d.is_port && b) then 1 else 0)) f ∙ same_rest d.is_port (list_any (is_port net) xs)

pub once_step : (ds : List Driver) (at : ℕ) (d : Driver) → at < length ds → d ≡ get_or ds at d → (inner ports : List ℕ) → ((net : ℕ) → is_among inner net ≡ list_any (is_inner net) (take at ds)) →
    ((net : ℕ) → is_among ports net ≡ list_any (is_port net) (take at ds)) → is_second inner ports d ≡ false → ((net : ℕ) → drivers_in (take at ds) net ≤ 1) → (net : ℕ) → drivers_in (take (at + 1) ds) net ≤ 1
once_step ds at d within is inner ports inner_is ports_is first once net =
    let parts : take (at + 1) ds ≡ take at ds ++ d ∷ [] = take_more ds at d within ∙ ap (λ (one : Driver). take at ds ++ one ∷ []) (sym is) in
    omega (arith, ap (λ (all : List Driver). drivers_in all net) parts, once_more (take at ds) d inner ports inner_is ports_is first once net)

-- an order changes no counts
pub drivers_moved : (xs ys : List Driver) → IsPermutation xs ys → (net : ℕ) → drivers_in xs net ≡ drivers_in ys net
drivers_moved xs ys moved net = λ j. sum_by-IsPermutation (λ (d : Driver). cond (is_inner net d) 1 0) ys xs (IsPermutation-sym xs ys moved) j + (if list_any-IsPermutation (is_port net) xs ys moved j then 1 else 0)

pub once_all : (old sorted : List Driver) (at : ℕ) → IsPermutation old sorted → length sorted ≤ at → ((net : ℕ) → drivers_in (take at sorted) net ≤ 1) → (net : ℕ) → drivers_in old net ≤ 1
once_all old sorted at moved past once net =
    let whole : take at sorted ≡ sorted = take_all at sorted past in
    omega (arith, drivers_moved old sorted moved net, ap (λ (all : List Driver). drivers_in all net) whole, once net)

inner_counted : (net : ℕ) (uses : List Use) → count_by (is_inner net) (tagged false uses) ≡ count_by (is_of net) uses
inner_counted net [] = refl
inner_counted net (u ∷ uses) = omega (arith, count_first (is_inner net) (record { line = u.line; net = u.net; is_port = false }) (tagged false uses), count_first (is_of net) u uses, inner_counted net uses)

no_inner_ports : (net : ℕ) (uses : List Use) → count_by (is_inner net) (tagged true uses) ≡ 0
no_inner_ports net [] = refl
no_inner_ports net (u ∷ uses) = omega (arith, count_first (is_inner net) (record { line = u.line; net = u.net; is_port = true }) (tagged true uses), no_inner_ports net uses)

ports_there : (net : ℕ) (uses : List Use) → list_any (is_port net) (tagged true uses) ≡ list_any (is_of net) uses
ports_there net [] = refl
ports_there net (u ∷ uses) = ap (λ (b : Bool). nat_eq net u.net || b) (ports_there net uses)

no_ports : (net : ℕ) (uses : List Use) → list_any (is_port net) (tagged false uses) ≡ false
no_ports net [] = refl
no_ports net (u ∷ uses) = no_ports net uses

pub drivers_tagged : (inner ports : List Use) (net : ℕ) → drivers_in (tagged false inner ++ tagged true ports) net ≡ drivers inner ports net
drivers_tagged inner ports net = λ j. counts j + (if anys j then 1 else 0)
  where
    counts : count_by (is_inner net) (tagged false inner ++ tagged true ports) ≡ count_by (is_of net) inner
    counts = omega (arith, count_joined (is_inner net) (tagged false inner) (tagged true ports), inner_counted net inner, no_inner_ports net ports)

    anys : list_any (is_port net) (tagged false inner ++ tagged true ports) ≡ list_any (is_of net) ports
    anys = list_any-append (is_port net) (tagged false inner) (tagged true ports) ∙ (λ j. no_ports net inner j || ports_there net ports j)

-- ---- the inputs of covers

-- one more cover's inputs
pub input_step : (covers : List PlainWideCover) (at : ℕ) (made : PlainWideCover) → at < length covers → made ≡ get_or covers at made → (first now next : List Use) → now ≡ first ++ input_uses (take at covers) →
    next ≡ now ++ used_at made.line made.inputs → next ≡ first ++ input_uses (take (at + 1) covers)
input_step covers at made within is first now next before pushed =
    let uses = used_at made.line made.inputs in
    let parts : take (at + 1) covers ≡ take at covers ++ made ∷ [] = take_more covers at made within ∙ ap (λ (one : PlainWideCover). take at covers ++ one ∷ []) (sym is) in
    let more : input_uses (take (at + 1) covers) ≡ input_uses (take at covers) ++ uses =
    ap input_uses parts ∙ last (take at covers) in
    pushed ∙ ap (λ (list : List Use). list ++ uses) before ∙ append_assoc first (input_uses (take at covers)) uses ∙ sym (ap (λ (list : List Use). first ++ list) more)
  where
    last : (some : List PlainWideCover) → input_uses (some ++ made ∷ []) ≡ input_uses some ++ used_at made.line made.inputs
    last [] = append-nil (used_at made.line made.inputs)
    last (one ∷ some) = ap (λ (list : List Use). used_at one.line one.inputs ++ list) (last some) ∙ sym (append_assoc (used_at one.line one.inputs) (input_uses some) (used_at made.line made.inputs))

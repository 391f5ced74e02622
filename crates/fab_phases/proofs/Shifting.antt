-- A chain that is moved by many bits at once holds what it holds behind as many ticks.
use Rattle.std.proofs.Common.{◌≡◌, ◌≢◌, ℕ, zero, suc, ◌+◌, ◌-◌, ◌*◌, ◌/◌, ◌%◌, ◌^◌, ◌<◌, ◌≤◌, Bool, true, false, nat_eq, List, [], ◌∷◌, length, reverse, get_or, Some, refl, sym, ap, ◌∙◌, subst, inl, inr, arith, length-append, eq-eqb, eqb-true, ne_eqb}
use Rattle.std.specs.List.{slice_get}
use Rattle.std.proofs.lemmas.Bool.{cases_eq, cases_lt, cases_Bool}
use Rattle.std.proofs.lemmas.List.{get_or_append_left, get_or-append-add, get_or-reverse, length-reverse}
use Rattle.std.proofs.lemmas.Option.{slice_get-get_or, slice_get_within}
use Rattle.fab_meaning.specs.Value.{bit_at}
use Rattle.fab_systems_laws.specs.Ternary.{known, Tern as PlainTern}
use Rattle.fab_compiled.specs.Leading.{PointTerns}
use Rattle.fab_phases.specs.Lists.{Each, HasOne}
use Rattle.fab_phases.specs.Loading.{Rises, before_at, point_at}
use Rattle.fab_phases.specs.Words.{word_bits}
use Rattle.fab_phases.specs.inner.Chain.{behind, bit_for, bits_of, fed, ticked}
use Rattle.fab_phases.specs.declared.loading.LoadedFlop.{LoadedFlop}
use Rattle.fab_phases.proofs.Offering.{word_digit, word_long}

-- ---- places

-- the point before a place, seen from the flip-flop behind the first
pub before_next : (before : ℕ) (flop : LoadedFlop) (flops : List LoadedFlop) (place : ℕ) → before_at before (flop ∷ flops) (suc place) ≡ before_at flop.point flops place
before_next before flop flops zero = refl
before_next before flop flops (suc place) = refl

pub point_here : (flops : List LoadedFlop) (place : ℕ) (flop : LoadedFlop) → slice_get flops place ≡ Some flop → point_at flops place ≡ flop.point
point_here [] place flop e = cc
point_here (f ∷ flops) zero flop e = cc
point_here (f ∷ flops) (suc place) flop e = point_here flops place flop e

-- what holds of a point and of all flip-flops holds of the point before each place
pub before_has : (P : ℕ → Type 0) (before : ℕ) (flops : List LoadedFlop) → P before → Each flops (λ flop. P flop.point) → (place : ℕ) (flop : LoadedFlop) →
    slice_get flops place ≡ Some flop → P (before_at before flops place)
before_has P before flops first each zero flop e = first
before_has P before [] first each (suc place) flop e = cc
before_has P before (f ∷ flops) first each (suc place) flop e =
    subst P (sym (before_next before f flops place)) (before_has P f.point flops (each 0 f refl) (λ k x at. each (suc k) x at) place flop e)

-- ---- a tick

-- what a tick leaves with the flip-flops, and with all other points
pub ticked_keeps : (P : ℕ → PlainTern → Type 0) (before : ℕ) (flops : List LoadedFlop) (held : PointTerns) → Each flops (λ flop. (left : PlainTern) → P flop.point left) →
    (point : ℕ) → P point (held point) → P point (ticked before flops held point)
ticked_keeps P before [] held each point there = there
ticked_keeps P before (flop ∷ flops) held each point there =
    elim (cases_Bool (nat_eq point flop.point)) [
      | inl e ↦ let same : point ≡ flop.point = eqb-true point flop.point e in rw e (subst (λ p. P p (held before)) (sym same) (each 0 flop refl (held before)))
      | inr differs ↦ rw differs (ticked_keeps P flop.point flops held (λ k x at. each (suc k) x at) point there)
    ]

-- one that is not the first stands behind it
later_one : (flop : LoadedFlop) (flops : List LoadedFlop) (point : ℕ) → nat_eq point flop.point ≡ false → HasOne (flop ∷ flops) (λ f. f.point ≡ point) →
    HasOne flops (λ f. f.point ≡ point)
later_one flop flops point differs (zero, f, at, is) =
    let same : flop ≡ f = cc in
    let yes : nat_eq point flop.point ≡ true = eq-eqb point flop.point (sym is ∙ ap (λ (g : LoadedFlop). g.point) (sym same)) in
    absurd (cc)
later_one flop flops point differs (suc place, f, at, is) = (place, f, at, is)

-- the flip-flop of a point takes what the point before it has
pub record IsTicked (before : ℕ) (flops : List LoadedFlop) (held : PointTerns) (point : ℕ) : Type 0 where
  pub place : ℕ
  pub flop : LoadedFlop
  pub at : slice_get flops place ≡ Some flop
  pub is : flop.point ≡ point
  pub takes : ticked before flops held point ≡ held (before_at before flops place)

pub ticked_takes : (before : ℕ) (flops : List LoadedFlop) (held : PointTerns) (point : ℕ) → HasOne flops (λ flop. flop.point ≡ point) → IsTicked before flops held point
ticked_takes before [] held point one = let none : slice_get [] one.0 ≡ Some one.1 = one.2 in absurd (cc)
ticked_takes before (flop ∷ flops) held point one =
    elim (cases_Bool (nat_eq point flop.point)) [
      | inl e ↦ record { place = 0; flop = flop; at = refl; is = sym (eqb-true point flop.point e); takes = rw e refl }
      | inr differs ↦
          let later = later_one flop flops point differs one in
          let rest = ticked_takes flop.point flops held point later in
          record {
            place = suc rest.place;
            flop = rest.flop;
            at = rest.at;
            is = rest.is;
            takes = rw differs (rest.takes ∙ ap held (sym (before_next before flop flops rest.place)));
          }
    ]

-- ---- flip-flops apart

-- the points behind one are greater
rises_on : (flops : List LoadedFlop) → Rises flops → (place more : ℕ) (flop later : LoadedFlop) → slice_get flops place ≡ Some flop → slice_get flops (suc (place + more)) ≡ Some later →
    flop.point < later.point
rises_on flops rises place zero flop later at behind_it =
    let here : suc (place + 0) ≡ suc place = omega arith in
    rises place flop later at (subst (λ k. slice_get flops k ≡ Some later) here behind_it)
rises_on flops rises place (suc more) flop later at behind_it =
    let less : suc (place + suc more) < length flops = slice_get_within flops (suc (place + suc more)) later behind_it in
    let between = get_or flops (suc (place + more)) flop in
    let there : slice_get flops (suc (place + more)) ≡ Some between = slice_get-get_or flops (suc (place + more)) flop (omega arith) in
    let next : suc (place + suc more) ≡ suc (suc (place + more)) = omega arith in
    let first = rises_on flops rises place more flop between at there in
    let then = rises (suc (place + more)) between later there (subst (λ k. slice_get flops k ≡ Some later) next behind_it) in
    omega arith

-- where flip-flops have one point, they stand at one place
pub one_place : (flops : List LoadedFlop) → Rises flops → (place other : ℕ) (flop there : LoadedFlop) → slice_get flops place ≡ Some flop → slice_get flops other ≡ Some there →
    flop.point ≡ there.point → place ≡ other
one_place flops rises place other flop there at at_other same =
    elim (cases_eq place other) [
      | inl e ↦ e
      | inr apart ↦ elim (cases_lt place other) [
        | inl l ↦
            let n : other ≡ suc (place + (other - suc place)) = omega arith in
            let less = rises_on flops rises place (other - suc place) flop there at (subst (λ k. slice_get flops k ≡ Some there) n at_other) in
            absurd (omega (arith, less, same))
        | inr g ↦
            let n : place ≡ suc (other + (place - suc other)) = omega (arith, apart) in
            let less = rises_on flops rises other (place - suc other) there flop at_other (subst (λ k. slice_get flops k ≡ Some flop) n at) in
            absurd (omega (arith, less, same))
      ]
    ]

-- what a tick leaves with the flip-flop at a place
ticked_at : (before : ℕ) (flops : List LoadedFlop) (held : PointTerns) → Rises flops → (place : ℕ) (flop : LoadedFlop) → slice_get flops place ≡ Some flop →
    ticked before flops held flop.point ≡ held (before_at before flops place)
ticked_at before flops held rises place flop at =
    let found = ticked_takes before flops held flop.point (place, flop, at, refl) in
    found.takes ∙ ap (λ k. held (before_at before flops k)) (one_place flops rises found.place place found.flop flop found.at at found.is)

-- ---- many ticks

module _ (source : ℕ) (flops : List LoadedFlop) (rises : Rises flops) (apart : Each flops (λ flop. flop.point ≢ source)) where
  -- a bit goes in, and the chain ticks
  on : Bool → PointTerns → PointTerns
  on bit held = ticked source flops (fed source bit held)

  fed_there : (bit : Bool) (held : PointTerns) → fed source bit held source ≡ known bit
  fed_there bit held = let same : nat_eq source source ≡ true = eq-eqb source source refl in rw same refl

  fed_other : (bit : Bool) (held : PointTerns) (point : ℕ) → point ≢ source → fed source bit held point ≡ held point
  fed_other bit held point other = let differs : nat_eq point source ≡ false = ne_eqb point source other in rw differs refl

  on_first : (bit : Bool) (held : PointTerns) (flop : LoadedFlop) → slice_get flops 0 ≡ Some flop → on bit held flop.point ≡ known bit
  unfolding on
  on_first bit held flop at = ticked_at source flops (fed source bit held) rises 0 flop at ∙ fed_there bit held

  on_next : (bit : Bool) (held : PointTerns) (place : ℕ) (flop before : LoadedFlop) → slice_get flops (suc place) ≡ Some flop → slice_get flops place ≡ Some before →
      on bit held flop.point ≡ held before.point
  unfolding on
  on_next bit held place flop before at at_before =
      ticked_at source flops (fed source bit held) rises (suc place) flop at
      ∙ ap (fed source bit held) (point_here flops place before at_before)
      ∙ fed_other bit held before.point (apart place before at_before)

  on_other : (bit : Bool) (held : PointTerns) (point : ℕ) → (HasOne flops (λ flop. flop.point ≡ point) → ⊥) → on bit held point ≡ fed source bit held point
  unfolding on
  on_other bit held point none =
      ticked_keeps (λ p left. (HasOne flops (λ flop. flop.point ≡ p) → ⊥) → left ≡ fed source bit held p) source flops (fed source bit held)
      (λ k flop at left differs. absurd (differs (k, flop, at, refl))) point (λ differs. refl) none

  -- a place behind has what one before it held
  pub behind_many : (bits : List Bool) (held : PointTerns) (place : ℕ) (flop before : LoadedFlop) → slice_get flops place ≡ Some flop → length bits ≤ place →
      slice_get flops (place - length bits) ≡ Some before → behind source flops bits held flop.point ≡ held before.point
  unfolding on
  behind_many [] held place flop before at past there =
      let none : place - 0 ≡ place = omega arith in
      let both : Some before ≡ Some flop = sym there ∙ ap (slice_get flops) none ∙ at in
      let same : before ≡ flop = cc in
      ap (λ (f : LoadedFlop). held f.point) (sym same)
  behind_many (bit ∷ bits) held place flop before at past there =
      let next : place - length bits ≡ suc (place - suc (length bits)) = omega (arith, past) in
      let within : place < length flops = slice_get_within flops place flop at in
      let later = get_or flops (place - length bits) flop in
      let found : slice_get flops (place - length bits) ≡ Some later = slice_get-get_or flops (place - length bits) flop (omega arith) in
      behind_many bits (on bit held) place flop later at (omega (arith, past)) found
      ∙ on_next bit held (place - suc (length bits)) later before (ap (slice_get flops) (sym next) ∙ found) there

  -- a place that a bit reaches has it
  pub behind_few : (bits : List Bool) (held : PointTerns) (place : ℕ) (flop : LoadedFlop) → slice_get flops place ≡ Some flop → place < length bits →
      behind source flops bits held flop.point ≡ known (get_or bits (length bits - 1 - place) false)
  unfolding on
  behind_few [] held place flop at less = absurd (omega (arith, less))
  behind_few (bit ∷ bits) held place flop at less =
      elim (cases_lt place (length bits)) [
        | inl l ↦
            let index : suc (length bits) - 1 - place ≡ suc (length bits - 1 - place) = omega arith in
            behind_few bits (on bit held) place flop at l ∙ ap (λ k. known (get_or (bit ∷ bits) k false)) (sym index)
        | inr g ↦
            let here : place ≡ length bits = omega (arith, less, g) in
            let begin : place - length bits ≡ 0 = omega (arith, here) in
            let index : suc (length bits) - 1 - place ≡ 0 = omega (arith, here) in
            let within : place < length flops = slice_get_within flops place flop at in
            let some : 0 < length flops = omega (arith, within) in
            let first = get_or flops 0 flop in
            let there : slice_get flops 0 ≡ Some first = slice_get-get_or flops 0 flop some in
            behind_many bits (on bit held) place flop first at g (ap (slice_get flops) begin ∙ there)
            ∙ on_first bit held first there ∙ ap (λ k. known (get_or (bit ∷ bits) k false)) (sym index)
      ]

  -- all other points but the input keep what they held
  pub behind_other : (bits : List Bool) (held : PointTerns) (point : ℕ) → (HasOne flops (λ flop. flop.point ≡ point) → ⊥) → point ≢ source →
      behind source flops bits held point ≡ held point
  unfolding on
  behind_other [] held point none other = refl
  behind_other (bit ∷ bits) held point none other =
      behind_other bits (on bit held) point none other ∙ on_other bit held point none ∙ fed_other bit held point other

  none_here : HasOne flops (λ flop. flop.point ≡ source) → ⊥
  none_here one = apart one.0 one.1 one.2 one.3

  -- the input has the last bit
  pub behind_source : (bits : List Bool) (held : PointTerns) → 0 < length bits → behind source flops bits held source ≡ known (get_or bits (length bits - 1) false)
  unfolding on
  behind_source [] held some = absurd (omega (arith, some))
  behind_source (bit ∷ []) held some = on_other bit held source none_here ∙ fed_there bit held
  behind_source (bit ∷ (next ∷ bits)) held some =
      let index : suc (suc (length bits)) - 1 ≡ suc (suc (length bits) - 1) = omega arith in
      behind_source (next ∷ bits) (on bit held) (omega arith) ∙ ap (λ k. known (get_or (bit ∷ (next ∷ bits)) k false)) (sym index)

-- ---- the bits of words

pub bits_long : (words : List ℕ) → length (bits_of words) ≡ 32 * length words
bits_long [] = refl
bits_long (word ∷ words) =
    omega (arith, length-append (reverse (word_bits word)) (bits_of words), length-reverse (word_bits word), word_long word, bits_long words)

-- the bit that comes to a place
pub bit_comes : (words : List ℕ) (place : ℕ) → place < 32 * length words → get_or (bits_of words) (32 * length words - 1 - place) false ≡ bit_for words place
bit_comes [] place less = absurd (omega (arith, less))
bit_comes (word ∷ words) place less =
    let reversed = length-reverse (word_bits word) in
    let long = word_long word in
    let at : ℕ → Bool = λ k. get_or (bits_of (word ∷ words)) k false in
    let read : ℕ → Bool = λ k. nat_eq (get_or (word ∷ words) k 0 / 2 ^ (place % 32) % 2) 1 in
    elim (cases_lt place (32 * length words)) [
      | inl l ↦
          let index : 32 * suc (length words) - 1 - place ≡ length (reverse (word_bits word)) + (32 * length words - 1 - place) = omega (arith, l, reversed, long) in
          let number : suc (length words) - 1 - place / 32 ≡ suc (length words - 1 - place / 32) = omega (arith, l) in
          ap at index ∙ get_or-append-add (reverse (word_bits word)) (bits_of words) (32 * length words - 1 - place) false ∙ bit_comes words place l ∙ ap read (sym number)
      | inr g ↦
          let few : place % 32 < 32 = omega arith in
          let index : 32 * suc (length words) - 1 - place ≡ 31 - place % 32 = omega (arith, less, g) in
          let inside : 31 - place % 32 < length (reverse (word_bits word)) = omega (arith, reversed, long) in
          let back : length (word_bits word) - 1 - (31 - place % 32) ≡ place % 32 = omega (arith, long, few) in
          let number : suc (length words) - 1 - place / 32 ≡ 0 = omega (arith, less, g) in
          ap at index ∙ get_or_append_left (reverse (word_bits word)) (bits_of words) false (31 - place % 32) inside
          ∙ get_or-reverse (word_bits word) (31 - place % 32) false (omega (arith, long)) ∙ ap (λ k. bit_at (word_bits word) k) back
          ∙ word_digit word (place % 32) few ∙ ap read (sym number)
    ]

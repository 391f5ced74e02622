-- A chain that is moved by many bits at once has made a step for each of them.
use Rattle.std.proofs.Common.{◌≡◌, ◌≢◌, ◌⊎◌, ℕ, zero, suc, ◌+◌, ◌-◌, ◌*◌, ◌/◌, ◌%◌, ◌^◌, ◌<◌, ◌≤◌, Bool, true, false, nat_eq, nat_lt, List, [], ◌∷◌, ◌++◌, length, map, reverse, get_or, Some, refl, sym, ap, ◌∙◌, subst, inl, inr, arith, eq-eqb, ne_eqb, lt-ltb, le-ltb, slice_set}
use Rattle.std.specs.List.{slice_get}
use Rattle.std.proofs.lemmas.Bool.{cases_eq, cases_lt}
use Rattle.std.proofs.lemmas.List.{map-append}
use Rattle.std.proofs.Math.Nat.{div-one}
use Rattle.std.proofs.lemmas.Option.{get_or_from_slice_get, slice_get_within, slice_get-get_or}
use Rattle.fab_meaning.specs.Loading.{single_bits}
use Rattle.fab_meaning.specs.Value.{bit_at}
use Rattle.fab_systems_laws.specs.Ternary.{known, unknown}
use Rattle.fab_ternary.specs.declared.Tern.{Tern}
use Rattle.fab_ternary.specs.Terns.{plain_tern}
use Rattle.fab_compiled.specs.Leading.{PointTerns, IsMarked}
use Rattle.fab_network.specs.declared.network.Clock.TheVariants.{Loader}
use Rattle.fab_network.specs.declared.network.Drive.{Drive}
use Rattle.fab_network.specs.declared.network.Drive.TheVariants.{Given, Flop, Hold}
use Rattle.fab_network.specs.declared.network.Network.{Network}
use Rattle.fab_network.specs.declared.network.Source.{Source}
use Rattle.fab_network.specs.Network.{source_tern}
use Rattle.fab_network.specs.Passes.{kept_tern}
use Rattle.fab_network.proofs.Kept.{kept_same, kept_other}
use Rattle.fab_network.specs.Solved.{asked_by, IsLeast, Solves}
use Rattle.fab_demand.specs.Asked.{Asked, IsPossible}
use Rattle.fab_demand.specs.Demand.{IsAsked, IsKept, IsKeptBy}
use Rattle.fab_phases.specs.Lists.{Each, HasOne}
use Rattle.fab_phases.specs.Loading.{AreFlops, AreLoading, IsChain, IsInChain, Rises, Takes, before_at, point_at}
use Rattle.fab_phases.specs.Words.{AreLoadSteps, IsLoadingAt, IsLoadStep, IsOffered, word_bits}
use Rattle.fab_phases.specs.inner.Chain.{behind, bit_for, bits_of, comes_to, fed, IsInChainBefore, IsMoved, ticked}
use Rattle.fab_phases.specs.inner.Ticks.{AreFitFlops}
use Rattle.fab_phases.specs.declared.loading.LoadedFlop.{LoadedFlop}
use Rattle.fab_phases.specs.declared.loading.Loading.{Loading}
use Rattle.fab_phases.proofs.Shifting.{before_has, behind_few, behind_many, behind_other, behind_source, bit_comes, bits_long, one_place, point_here, ticked_keeps, ticked_takes}
use Rattle.fab_phases.proofs.Stepping.{all_bits, offered_kept}

-- ---- one step

fed_offers : (source : ℕ) (bit : Bool) (held : PointTerns) → IsOffered source (bit ∷ []) held (fed source bit held)
fed_offers source bit held = record {
  bits = λ k less.
      let none : k ≡ 0 = omega (arith, less) in
      let here : nat_eq (source + k) source ≡ true = eq-eqb (source + k) source (omega (arith, none)) in
      rw here (ap (λ n. known (bit_at (bit ∷ []) n)) (sym none));
  others = λ p outside.
      let apart : p ≢ source = λ e. elim outside [ inl l ↦ omega (arith, l, e) | inr g ↦ omega (arith, g, e) ] in
      let differs : nat_eq p source ≡ false = ne_eqb p source apart in
      rw differs refl;
}

-- what an input or a flip-flop has in a solution
given_there : (network : Network) (given t : PointTerns) → Solves network.trees.items network.drives.items given t → (point : ℕ) (drive : Drive) →
    slice_get network.drives.items point ≡ Some drive → asked_by network.trees.items (given point) t (Some drive) ≡ given point → t point ≡ given point
given_there network given t solves point drive there is =
    solves point (slice_get_within network.drives.items point drive there) ∙ ap (asked_by network.trees.items (given point) t) there ∙ is

module _ (network : Network) (asked : Asked) (loads : List Bool) (loading : Loading) (source : ℕ) (are : AreLoading network asked loads loading)
    (chain : IsChain network asked source loading.flops.items loading.runs.items) where
  abbrev flops : List LoadedFlop
  flops = loading.flops.items

  -- what the point before a place has in a solution
  before_given : (given t : PointTerns) → Solves network.trees.items network.drives.items given t → (place : ℕ) (flop : LoadedFlop) → slice_get flops place ≡ Some flop →
      t (before_at source flops place) ≡ given (before_at source flops place)
  before_given given t solves =
      before_has (λ p. t p ≡ given p) source flops (given_there network given t solves source Given chain.input refl)
      (λ k f at. given_there network given t solves f.point (Flop Loader f.next) (are.flops k f at).is refl)

  -- a flip-flop is left with its next value
  flop_left : (given t : PointTerns) → Solves network.trees.items network.drives.items given t → IsPossible asked t → (point : ℕ) (next : Source) → IsMarked loads point →
      slice_get network.drives.items point ≡ Some (Flop Loader next) → ticked source flops given point ≡ source_tern network.trees.items t next
  flop_left given t solves possible point next marked drives =
      let one = are.has_flops point next (slice_get_within network.drives.items point (Flop Loader next) drives) marked drives in
      let found = ticked_takes source flops given point one in
      let is : slice_get network.drives.items point ≡ Some (Flop Loader found.flop.next) =
      ap (slice_get network.drives.items) (sym found.is) ∙ (are.flops found.place found.flop found.at).is in
      let both : Some (Flop Loader found.flop.next) ≡ Some (Flop Loader next) = sym is ∙ drives in
      let same : found.flop.next ≡ next = cc in
      found.takes ∙ sym (before_given given t solves found.place found.flop found.at) ∙ sym (chain.chain.takes found.place found.flop found.at t possible)
      ∙ ap (source_tern network.trees.items t) same

  -- there is no latch
  no_latch : (point : ℕ) (gate latched : Source) → IsMarked loads point → slice_get network.drives.items point ≡ Some (Hold gate latched) → ⊥
  no_latch point gate latched marked drives =
      let one = are.has_latches point gate latched (slice_get_within network.drives.items point (Hold gate latched) drives) marked drives in
      let none : slice_get [] one.0 ≡ Some one.1 = ap (λ runs. slice_get runs one.0) (sym chain.alone) ∙ one.2 in
      absurd (cc)

  others_stay : (given : PointTerns) (point : ℕ) → (IsMarked loads point → ⊥) → ticked source flops given point ≡ given point
  others_stay given point unmarked =
      ticked_keeps (λ p left. (IsMarked loads p → ⊥) → left ≡ given p) source flops given (λ k f at left unset. absurd (unset (are.flops k f at).marked)) point (λ unset. refl) unmarked

  -- what is given stays kept
  ticked_kept_on : (base : PointTerns) (given : PointTerns) → IsKept network Loader base asked.terns asked.leads given →
      IsKept network Loader base asked.terns asked.leads (ticked source flops given)
  ticked_kept_on base given kept point =
      ticked_keeps (λ p later. IsKeptBy network.trees.items Loader asked.terns asked.leads (base p) later (slice_get network.drives.items p)) source flops given
      (λ k f at left. subst (λ drive. IsKeptBy network.trees.items Loader asked.terns asked.leads (base f.point) left drive) (sym (are.flops k f at).is) (λ other. absurd (other refl)))
      point (kept point)

  step_on : (base old : PointTerns) (bit : Bool) → IsAsked network Loader base asked → IsKept network Loader base asked.terns asked.leads (fed source bit old) →
      ((t : PointTerns) × IsLeast network.trees.items network.drives.items (fed source bit old) t) →
      IsLoadStep network loads source (bit ∷ []) old (ticked source flops (fed source bit old))
  step_on base old bit is_asked kept solved =
      let possible = is_asked.sound (fed source bit old) solved.0 kept solved.1.solves in
      record {
        offered = fed source bit old;
        is_offered = fed_offers source bit old;
        t = solved.0;
        least = solved.1;
        loaded = λ point marked. record {
          flop = λ next drives. flop_left (fed source bit old) solved.0 solved.1.solves possible point next marked drives;
          latch = λ gate latched drives. absurd (no_latch point gate latched marked drives);
        };
        others = λ point unmarked. others_stay (fed source bit old) point unmarked;
      }

  -- ---- a step for each bit

  bits_step : (base : PointTerns) → IsAsked network Loader base asked →
      ((given : PointTerns) → (t : PointTerns) × IsLeast network.trees.items network.drives.items given t) →
      ((bit : ℕ) → bit < 1 → (slice_get network.drives.items (source + bit) ≡ Some Given) × (base (source + bit) ≡ unknown)) →
      (bits : List Bool) (old new : PointTerns) → IsKept network Loader base asked.terns asked.leads old → ((point : ℕ) → new point ≡ behind source flops bits old point) →
      AreLoadSteps network loads source (map (λ bit. bit ∷ []) bits) old new
  bits_step base is_asked solvable inputs [] old new kept is = is
  bits_step base is_asked solvable inputs (bit ∷ bits) old new kept is =
      let offered = fed source bit old in
      let next = ticked source flops offered in
      let kept_offered = offered_kept network base asked source (bit ∷ []) old offered inputs (fed_offers source bit old) kept in (
        next,
        step_on base old bit is_asked kept_offered (solvable offered),
        bits_step base is_asked solvable inputs bits next new (ticked_kept_on base offered kept_offered) is,
      )

-- the pieces of words are their bits
pieces_are : (words : List ℕ) → all_bits words ≡ map (λ bit. bit ∷ []) (bits_of words)
pieces_are [] = refl
pieces_are (word ∷ words) =
    ap (λ more. single_bits (word_bits word) ++ more) (pieces_are words) ∙ sym (map-append (λ (bit : Bool). bit ∷ []) (reverse (word_bits word)) (bits_of words))

-- ---- what the code does

-- The places from this one on have what comes to them, and all other points what they held.
pub record IsMovedFrom (flops : List LoadedFlop) (words : List ℕ) (from : ℕ) (old now : PointTerns) : Type 0 where
  pub moved : (place : ℕ) (flop : LoadedFlop) → slice_get flops place ≡ Some flop → from ≤ place → now flop.point ≡ comes_to flops words old place
  pub others : (point : ℕ) → ((place : ℕ) (flop : LoadedFlop) → slice_get flops place ≡ Some flop → from ≤ place → flop.point ≢ point) → now point ≡ old point

pub moved_none : (flops : List LoadedFlop) (words : List ℕ) (from : ℕ) (old : PointTerns) → length flops ≤ from → IsMovedFrom flops words from old old
moved_none flops words from old all = record {
  moved = λ place flop at past. let within : place < length flops = slice_get_within flops place flop at in absurd (omega (arith, within, past, all));
  others = λ point none. refl;
}

-- What comes to a place is what came before other places were left: a place before it still holds what it held.
still_comes : (flops : List LoadedFlop) (words : List ℕ) (place : ℕ) (old : PointTerns) (now : List Tern) (flop : LoadedFlop) → Rises flops →
    slice_get flops place ≡ Some flop → 0 < length words → IsMovedFrom flops words (suc place) old (kept_tern now) →
    comes_to flops words (kept_tern now) place ≡ comes_to flops words old place
still_comes flops words place old now flop rises at some so_far =
    elim (cases_lt (place / 32) (length words)) [
      | inl l ↦ let few : nat_lt (place / 32) (length words) ≡ true = lt-ltb (place / 32) (length words) l in rw few refl
      | inr g ↦
          let many : nat_lt (place / 32) (length words) ≡ false = le-ltb (place / 32) (length words) g in
          let within : place < length flops = slice_get_within flops place flop at in
          let k = place - 32 * length words in
          let f = get_or flops k flop in
          let at_k : slice_get flops k ≡ Some f = slice_get-get_or flops k flop (omega (arith, within)) in
          let here = point_here flops k f at_k in
          let held : kept_tern now (point_at flops k) ≡ old (point_at flops k) =
          so_far.others (point_at flops k) (λ j g at_j past e.
          let same : j ≡ k = one_place flops rises j k g f at_j at_k (e ∙ here) in absurd (omega (arith, past, same))) in
          rw many held
    ]

-- one place more, from the last to the first
pub moved_more : (flops : List LoadedFlop) (words : List ℕ) (place : ℕ) (old : PointTerns) (now : List Tern) (flop : LoadedFlop) (left : Tern) → Rises flops →
    slice_get flops place ≡ Some flop → flop.point < length now → 0 < length words → plain_tern left ≡ comes_to flops words (kept_tern now) place →
    IsMovedFrom flops words (suc place) old (kept_tern now) → IsMovedFrom flops words place old (kept_tern (slice_set now flop.point left))
moved_more flops words place old now flop left rises at less some value so_far = record {
  moved = λ k f at_k past.
      elim (cases_eq k place) [
        | inl e ↦
            let both : Some f ≡ Some flop = sym at_k ∙ ap (slice_get flops) e ∙ at in
            let same : f ≡ flop = cc in
            ap (λ (g : LoadedFlop). kept_tern (slice_set now flop.point left) g.point) same ∙ kept_same now flop.point left less ∙ value
            ∙ still_comes flops words place old now flop rises at some so_far ∙ ap (comes_to flops words old) (sym e)
        | inr apart ↦
            let other : f.point ≡ flop.point → ⊥ = λ e. apart (one_place flops rises k place f flop at_k at e) in
            kept_other now flop.point left f.point other ∙ so_far.moved k f at_k (omega (arith, past, apart))
      ];
  others = λ point none.
      let other : point ≡ flop.point → ⊥ = λ e. none place flop at (omega arith) (sym e) in
      kept_other now flop.point left point other ∙ so_far.others point (λ k f at_k past. none k f at_k (omega (arith, past)));
}

-- what comes to a place is what stands there behind all bits
place_behind : (flops : List LoadedFlop) (source : ℕ) (words : List ℕ) (old : PointTerns) → Rises flops → Each flops (λ flop. flop.point ≢ source) → (place : ℕ) (flop : LoadedFlop) →
    slice_get flops place ≡ Some flop → comes_to flops words old place ≡ behind source flops (bits_of words) old flop.point
place_behind flops source words old rises apart place flop at =
    let long = bits_long words in
    elim (cases_lt (place / 32) (length words)) [
      | inl l ↦
          let few : nat_lt (place / 32) (length words) ≡ true = lt-ltb (place / 32) (length words) l in
          let inside : place < 32 * length words = omega (arith, l) in
          let index : 32 * length words - 1 - place ≡ length (bits_of words) - 1 - place = omega (arith, long) in
          rw few (ap known (sym (bit_comes words place inside)) ∙ ap (λ k. known (get_or (bits_of words) k false)) index
          ∙ sym (behind_few source flops rises apart (bits_of words) old place flop at (omega (arith, long, inside))))
      | inr g ↦
          let many : nat_lt (place / 32) (length words) ≡ false = le-ltb (place / 32) (length words) g in
          let within : place < length flops = slice_get_within flops place flop at in
          let past : 32 * length words ≤ place = omega (arith, g) in
          let k = place - 32 * length words in
          let f = get_or flops k flop in
          let at_k : slice_get flops k ≡ Some f = slice_get-get_or flops k flop (omega (arith, within)) in
          let index : place - length (bits_of words) ≡ k = omega (arith, long) in
          rw many (ap old (point_here flops k f at_k)
          ∙ sym (behind_many source flops rises apart (bits_of words) old place flop f at (omega (arith, long, past)) (ap (slice_get flops) index ∙ at_k)))
    ]

not_first : (flop : LoadedFlop) (flops : List LoadedFlop) (point : ℕ) → (flop.point ≡ point → ⊥) → (HasOne flops (λ f. f.point ≡ point) → ⊥) →
    HasOne (flop ∷ flops) (λ f. f.point ≡ point) → ⊥
not_first flop flops point apart none (zero, f, at, is) = let same : flop ≡ f = cc in apart (ap (λ (g : LoadedFlop). g.point) same ∙ is)
not_first flop flops point apart none (suc place, f, at, is) = none (place, f, at, is)

has_or_not : (flops : List LoadedFlop) (point : ℕ) → HasOne flops (λ flop. flop.point ≡ point) ⊎ (HasOne flops (λ flop. flop.point ≡ point) → ⊥)
has_or_not [] point = inr (λ one. let none : slice_get [] one.0 ≡ Some one.1 = one.2 in absurd (cc))
has_or_not (flop ∷ flops) point =
    elim (cases_eq flop.point point) [
      | inl e ↦ inl (0, flop, refl, e)
      | inr apart ↦ elim (has_or_not flops point) [
        | inl one ↦ inl (suc one.0, one.1, one.2, one.3)
        | inr none ↦ inr (λ one. not_first flop flops point apart none one)
      ]
    ]

-- the last bit of the last word comes to the first place
pub first_bit : (words : List ℕ) (last : ℕ) → slice_get words (length words - 1) ≡ Some last → bit_for words 0 ≡ nat_eq (last % 2) 1
first_bit words last at =
    let index : length words - 1 - 0 / 32 ≡ length words - 1 = omega arith in
    ap (λ k. nat_eq (get_or words k 0 / 2 ^ 0 % 2) 1) index
    ∙ ap (λ n. nat_eq (n / 2 ^ 0 % 2) 1) (get_or_from_slice_get words (length words - 1) last 0 at)
    ∙ ap (λ n. nat_eq (n % 2) 1) (div-one last)

-- all places and the input
pub moved_all : (flops : List LoadedFlop) (source : ℕ) (words : List ℕ) (old : PointTerns) (now : List Tern) (left : Tern) → Rises flops →
    Each flops (λ flop. flop.point ≢ source) → source < length now → 0 < length words → plain_tern left ≡ known (bit_for words 0) →
    IsMovedFrom flops words 0 old (kept_tern now) → IsMoved flops source words old (kept_tern (slice_set now source left))
moved_all flops source words old now left rises apart within some value so_far point =
    let bits = bits_of words in
    let long = bits_long words in
    elim (cases_eq point source) [
      | inl e ↦
          let begin : 32 * length words - 1 - 0 ≡ length bits - 1 = omega (arith, long) in
          ap (kept_tern (slice_set now source left)) e ∙ kept_same now source left within ∙ value ∙ ap known (sym (bit_comes words 0 (omega (arith, some))))
          ∙ ap (λ k. known (get_or bits k false)) begin ∙ sym (behind_source source flops rises apart bits old (omega (arith, long, some)))
          ∙ ap (behind source flops bits old) (sym e)
      | inr other ↦ kept_other now source left point other ∙ elim (has_or_not flops point) [
        | inl one ↦
            ap (kept_tern now) (sym one.3) ∙ so_far.moved one.0 one.1 one.2 (omega arith) ∙ place_behind flops source words old rises apart one.0 one.1 one.2
            ∙ ap (behind source flops bits old) one.3
        | inr none ↦
            so_far.others point (λ k f at past e. none (k, f, at, e)) ∙ sym (behind_other source flops rises apart bits old point none other)
      ]
    ]

-- ---- how a chain is seen

pub chain_more : (network : Network) (asked : Asked) (source : ℕ) (flops : List LoadedFlop) (place : ℕ) (flop : LoadedFlop) → slice_get flops place ≡ Some flop →
    Takes network asked flop.next (before_at source flops place) → (0 < place → before_at source flops place < flop.point) →
    IsInChainBefore network asked source flops place → IsInChainBefore network asked source flops (place + 1)
chain_more network asked source flops place flop at takes rises so_far = record {
  takes = λ k f few at_k.
      elim (cases_eq k place) [
        | inl e ↦
            let both : Some f ≡ Some flop = sym at_k ∙ ap (slice_get flops) e ∙ at in
            let same : f ≡ flop = cc in
            subst (λ n. Takes network asked f.next (before_at source flops n)) (sym e)
            (subst (λ (g : LoadedFlop). Takes network asked g.next (before_at source flops place)) (sym same) takes)
        | inr apart ↦ so_far.takes k f (omega (arith, few, apart)) at_k
      ];
  rises = λ k f next few at_k at_next.
      elim (cases_eq (suc k) place) [
        | inl e ↦
            let both : Some next ≡ Some flop = sym at_next ∙ ap (slice_get flops) e ∙ at in
            let same : next ≡ flop = cc in
            let before : before_at source flops place ≡ f.point = ap (before_at source flops) (sym e) ∙ point_here flops k f at_k in
            let less : before_at source flops place < flop.point = rises (omega (arith, e)) in
            subst (λ (g : LoadedFlop). f.point < g.point) (sym same) (subst (λ n. n < flop.point) before less)
        | inr apart ↦ so_far.rises k f next (omega (arith, few, apart)) at_k at_next
      ];
}

pub chain_none : (network : Network) (asked : Asked) (source : ℕ) (flops : List LoadedFlop) → IsInChainBefore network asked source flops 0
chain_none network asked source flops = record {
  takes = λ k f few. absurd (omega (arith, few));
  rises = λ k f next few. absurd (omega (arith, few));
}

pub chain_all : (network : Network) (asked : Asked) (source : ℕ) (flops : List LoadedFlop) (count : ℕ) → length flops ≤ count → IsInChainBefore network asked source flops count →
    IsInChain network asked source flops
chain_all network asked source flops count all so_far = record {
  takes = λ k f at. let less : k < length flops = slice_get_within flops k f at in so_far.takes k f (omega (arith, less, all)) at;
  rises = λ k f next at at_next.
      let less : suc k < length flops = slice_get_within flops (suc k) next at_next in so_far.rises k f next (omega (arith, less, all)) at at_next;
}

-- a chain stands apart from its input, within what is given
pub chain_apart : (network : Network) (asked : Asked) (loads : List Bool) (loading : Loading) (source : ℕ) → AreLoading network asked loads loading →
    IsChain network asked source loading.flops.items loading.runs.items → Each loading.flops.items (λ flop. flop.point ≢ source)
chain_apart network asked loads loading source are chain k flop at same =
    let both : Some (Flop Loader flop.next) ≡ Some Given = sym (are.flops k flop at).is ∙ ap (slice_get network.drives.items) same ∙ chain.input in
    absurd (cc)

pub chain_within : (network : Network) (asked : Asked) (loads : List Bool) (loading : Loading) (count : ℕ) → AreLoading network asked loads loading →
    length network.drives.items ≡ count → Each loading.flops.items (λ flop. flop.point < count)
chain_within network asked loads loading count are long k flop at =
    let less : flop.point < length network.drives.items = slice_get_within network.drives.items flop.point (Flop Loader flop.next) (are.flops k flop at).is in
    omega (arith, less, long)

-- flip-flops that loading sets fit
pub loaded_fit : (network : Network) (asked : Asked) (loads : List Bool) (loaded : List LoadedFlop) → AreFlops network asked loads loaded → AreFitFlops network loaded
loaded_fit network asked loads loaded are k flop at =
    let is = are k flop at in
    record { point = slice_get_within network.drives.items flop.point (Flop Loader flop.next) is.is; next = is.ready.fit }

-- the chain of a loading that has one
pub chain_of : (network : Network) (asked : Asked) (loads : List Bool) (loading : Loading) (source : ℕ) → loading.chain ≡ Some source → AreLoading network asked loads loading →
    IsChain network asked source loading.flops.items loading.runs.items
chain_of network asked loads loading source is are = are.chain source is

pub words_step : (network : Network) (loading : Loading) (loads : List Bool) (source : ℕ) (demand : Asked) (words : List ℕ) (old new : List Tern) →
    ((given : PointTerns) → (t : PointTerns) × IsLeast network.trees.items network.drives.items given t) → loading.chain ≡ Some source →
    IsLoadingAt network loading loads source 1 demand old → IsMoved loading.flops.items source words (kept_tern old) (kept_tern new) →
    AreLoadSteps network loads source (all_bits words) (kept_tern old) (kept_tern new)
words_step network loading loads source demand words old new solvable is at moved =
    let chain = chain_of network at.asked loads loading source is at.gathered in
    subst (λ pieces. AreLoadSteps network loads source pieces (kept_tern old) (kept_tern new)) (sym (pieces_are words))
    (bits_step network at.asked loads loading source at.gathered chain at.base at.is_asked solvable at.inputs (bits_of words) (kept_tern old) (kept_tern new) at.kept moved)

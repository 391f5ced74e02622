-- What loading leaves, piece by piece: loading points have what the settled runs of the text leave there, and all else stays 0.
use Rattle.std.proofs.Common.{◌≡◌, ◌≢◌, ◌⊎◌, ℕ, ◌+◌, ◌-◌, ◌<◌, ◌≤◌, Bool, true, false, List, [], ◌∷◌, ◌++◌, Option, None, Some, map, length, reverse, refl, sym, ap}
use Rattle.std.proofs.Common.{subst, ◌∙◌, inl, inr, arith}
use Rattle.std.specs.List.{AllByRecursion, flat_map, slice_get}
use Rattle.std.proofs.lemmas.Bool.{cases_lt}
use Rattle.std.proofs.lemmas.Option.{slice_get_within}
use Rattle.fab_bits.specs.Bits.{digits}
use Rattle.fab_syntax.specs.Plain.{PlainModule}
use Rattle.fab_syntax.specs.declared.tree.Shape.TheVariants.{Scalar}
use Rattle.fab_systems_laws.specs.Ternary.{Tern, no, yes, known}
use Rattle.fab_meaning.specs.Points.{Point, point, Driver, outside, copy, bit_of, flop, hold, Drives, IsStored}
use Rattle.fab_meaning.specs.Settled.{Assignment, IsSettledOn}
use Rattle.fab_meaning.specs.Reads.{is_declared}
use Rattle.fab_meaning.specs.Runs.{AreClocksLow, clock_name, clock_of, IsRunOn, kept, Moment, Ticks}
use Rattle.fab_meaning.specs.Loading.{IsClosed, IsDerived, IsLoading, IsStream, offered, offered_at, OffersWord, OfferWords, single_bits, Within, by_flop, by_stream, by_reads, write_data_name, write_strobe_name}
use Rattle.fab_meaning.specs.Sound.{PointsOfSoundTextsHaveOneDriver}
use Rattle.fab_ternary_laws.specs.Shown.{Terns}
use Rattle.fab_solutions_laws.specs.Solutions.{Solves as SolvesText, tern_kept}
use Rattle.fab_solutions_laws.specs.Laws.{LeastSolutionsExist}
use Rattle.fab_equations.specs.Instances.{points}
use Rattle.fab_equations.specs.Equations.{IsPoint}
use Rattle.fab_equations.proofs.Points.{declared_are_points}
use Rattle.fab_compiled.specs.declared.tree.Tree.{Tree}
use Rattle.fab_compiled.specs.Leading.{PointTerns, IsMarked}
use Rattle.fab_compiled.specs.Values.{AreByNumber}
use Rattle.fab_network.specs.declared.network.Clock.TheVariants.{Loader}
use Rattle.fab_network.specs.declared.network.Drive.{Drive}
use Rattle.fab_network.specs.declared.network.Drive.TheVariants.{Given, Flop, Same, Value, Hold}
use Rattle.fab_network.specs.declared.network.Network.{Network}
use Rattle.fab_wiring.specs.Wiring.{clock_called, IsDriveOf}
use Rattle.fab_wiring.specs.Given.{IsGivenTo, left_by, left_tern}
use Rattle.fab_wiring.specs.Laws.{LeastByNumber, LeftByNumber, NumbersHaveTerns, PointsHaveTerns, SolutionsByNumber}
use Rattle.fab_wiring.proofs.Solved.{is_point}
use Rattle.fab_ordering_laws.proofs.fab_drives_laws_Apart.{told_apart}
use Rattle.fab_ordering_laws.specs.fab_simulation_laws_Simulation.{zeros}
use Rattle.fab_ordering_laws.specs.fab_simulation_laws_Laws.{AreKnown, LoadingIsKept, LoadingIsKnown}
use Rattle.fab_phases.specs.Loading.{IsSolvable}
use Rattle.fab_phases.specs.Words.{AreLoadSteps, IsLoadStep, word_bits}
use Rattle.fab_phases.proofs.Offering.{word_long}
use Rattle.fab_state_points.specs.Standing.{HasStream, IsStreamAt, data_shape, data_width, first_data}
use Rattle.fab_state_points.specs.declared.points.DataPoints.{DataPoints}
use Rattle.fab_state_points.specs.declared.points.DataPoints.TheVariants.{Bit, Word}
use Rattle.fab_state_points.specs.declared.points.Stream.{Stream}
use Rattle.fab_sim.specs.Making.{AreLoads, IsGivenFirst, IsNetworkOf, IsNoData}
use Rattle.fab_sim.proofs.Points.{flop_drive, given_driver, held_not_given, hold_drive, holds_or_not, input_bit, input_drives, input_width, number_declared, one_point, outside_drive, point_of}

-- ---- flip-flops among the loading points are those of CLK

abbrev IsClocked : List PlainModule → Driver → Type 0
IsClocked text outside = Unit {0}
IsClocked text (copy other) = Unit {0}
IsClocked text (bit_of path e bit) = Unit {0}
IsClocked text (flop path clock next bit) = clock_of text path clock ≡ Some clock_name
IsClocked text (hold path gate e bit) = Unit {0}

derived_clocked : (text : List PlainModule) (d : Driver) → IsDerived d → IsClocked text d
derived_clocked text outside derived = tt
derived_clocked text (copy other) derived = tt
derived_clocked text (bit_of path e bit) derived = tt
derived_clocked text (flop path clock next bit) derived = absurd derived
derived_clocked text (hold path gate e bit) derived = tt

abbrev IsSingle : List PlainModule → Point → Type 0
IsSingle text p = (d e : Driver) → Drives text p d → Drives text p e → d ≡ e

within_clocked : (text : List PlainModule) (flops : Point → Bool) → IsClosed text flops → (p : Point) → IsSingle text p → Within text flops p →
    (d : Driver) → Drives text p d →
    IsClocked text d
within_clocked text flops closed p single (by_flop declared has) d driven =
    let at = closed p has in
    let by : IsClocked text (flop at.path at.clock at.next at.bit) = at.clocked in
    subst (IsClocked text) (single (flop at.path at.clock at.next at.bit) d at.drives driven) by
within_clocked text flops closed p single (by_stream is) d driven =
    let by : IsClocked text outside = tt in subst (IsClocked text) (single outside d (inl is.input) driven) by
within_clocked text flops closed p single (by_reads e declared drives derived inside) d driven =
    subst (IsClocked text) (single e d drives driven) (derived_clocked text e derived)

within_declared : (text : List PlainModule) (flops : Point → Bool) (p : Point) → Within text flops p → is_declared text p ≡ true
within_declared text flops p (by_flop declared has) = declared
within_declared text flops p (by_stream is) = is.declared
within_declared text flops p (by_reads d declared drives derived inside) = declared

nowhere : Point → Bool
nowhere p = false

pub stream_loads : (text : List PlainModule) (p : Point) → IsStream text p → IsLoading text p
unfolding nowhere
stream_loads text p is = (nowhere, λ q has. cc, by_stream is)

-- ---- what is held, by drives

-- what is held at flip-flops and latches, and elsewhere another value
abbrev held_by : Option Drive → (held other : Tern) → Tern
held_by None held other = other
held_by (Some Given) held other = other
held_by (Some (Flop clock next)) held other = held
held_by (Some (Same point)) held other = other
held_by (Some (Value source)) held other = other
held_by (Some (Hold gate latched)) held other = held

held_stored : (text : List PlainModule) (trees : List Tree) (d : Driver) (drive : Drive) → IsDriveOf text trees d drive → IsStored d → (held other : Tern) →
    held_by (Some drive) held other ≡ held
held_stored text trees (flop path clock next bit) (Flop kind source) of holds held other = refl
held_stored text trees (hold path gate e bit) (Hold opens latched) of holds held other = refl
held_stored text trees outside drive of holds held other = absurd holds
held_stored text trees (copy point) drive of holds held other = absurd holds
held_stored text trees (bit_of path e bit) drive of holds held other = absurd holds
held_stored text trees (flop path clock next bit) drive of holds held other = absurd of
held_stored text trees (hold path gate e bit) drive of holds held other = absurd of

held_elsewhere : (text : List PlainModule) (trees : List Tree) (d : Driver) (drive : Drive) → IsDriveOf text trees d drive → (IsStored d → ⊥) →
    (held other : Tern) →
    held_by (Some drive) held other ≡ other
held_elsewhere text trees (flop path clock next bit) drive of not held other = absurd (not tt)
held_elsewhere text trees (hold path gate e bit) drive of not held other = absurd (not tt)
held_elsewhere text trees outside Given of not held other = refl
held_elsewhere text trees (copy point) (Same number) of not held other = refl
held_elsewhere text trees (bit_of path e bit) (Value source) of not held other = refl
held_elsewhere text trees d drive of not held other = absurd of

-- ---- solutions

-- whatever is given, there is a least solution
pub solvable : NumbersHaveTerns → PointsHaveTerns → LeastByNumber → LeastSolutionsExist → (text : List PlainModule) (network : Network) →
    IsNetworkOf text network →
    IsSolvable network
solvable numbers terns least exist text network of given =
    let g = terns text of.sound given in
    let t = exist text of.sound of.narrow g.0 g.0 in
    let s = numbers text t.0 in (
      s.0,
      least text of.sound network.trees.items network.drives.items of.long of.drives g.0 g.0 t.0 given s.0 (λ number p d is driven. by number p is d) s.1
          t.1,
    )
  where
    by : (number : ℕ) (p : Point) → IsPoint text number p → (d : Driver) →
        IsGivenTo (terns text of.sound given).0 (terns text of.sound given).0 p d (given number)
    by number p is outside = (terns text of.sound given).1 number p is
    by number p is (copy other) = tt
    by number p is (bit_of path e bit) = tt
    by number p is (flop path clock next bit) = (terns text of.sound given).1 number p is
    by number p is (hold path gate e bit) = (terns text of.sound given).1 number p is

-- ---- the points of WriteData

pub no_data_by : (first width number : ℕ) → ((bit : ℕ) → bit < width → number ≡ first + bit → ⊥) → (number < first) ⊎ (first + width ≤ number)
no_data_by first width number none =
    elim (cases_lt number first) [
      | inl before ↦ inl before
      | inr behind ↦ elim (cases_lt number (first + width)) [
        | inl inside ↦ absurd (none (number - first) (omega (arith, behind, inside)) (omega (arith, behind)))
        | inr after ↦ inr after
      ]
    ]

pub data_wide : (carrier : DataPoints) → 0 < data_width carrier
data_wide (Bit point) = omega arith
data_wide (Word first) = omega arith

-- what a text is offered for words is what its WriteData takes at its width
pub pieces_of_words : (text : List PlainModule) (stream : Stream) → IsStreamAt text stream → (words : List ℕ) →
    offered text (map (digits 32) words) ≡ offered_at (data_width stream.carrier) (map word_bits words)
unfolding word_bits
pieces_of_words text stream at words =
    ap (λ wide. offered_at wide (map (digits 32) words)) (input_width text write_data_name (data_shape stream.carrier) at.words.declared)

-- pieces that are as wide as the input that takes them
abbrev AreWide : (width : ℕ) → List (List Bool) → Type 0
AreWide width pieces = AllByRecursion (λ piece. length piece ≡ width) pieces

words_wide : (words : List ℕ) → AreWide 32 (map word_bits words)
words_wide [] = tt
words_wide (word ∷ words) = (word_long word, words_wide words)

bits_wide : (bits : List Bool) (more : List (List Bool)) → AreWide 1 more → AreWide 1 (map (λ bit. bit ∷ []) bits ++ more)
bits_wide [] more wide = wide
bits_wide (bit ∷ bits) more wide = (refl, bits_wide bits more wide)

all_bits_wide : (words : List (List Bool)) → AreWide 1 (flat_map single_bits words)
all_bits_wide [] = tt
all_bits_wide (word ∷ words) = bits_wide (reverse word) (flat_map single_bits words) (all_bits_wide words)

pub pieces_wide : (carrier : DataPoints) (words : List ℕ) → AreWide (data_width carrier) (offered_at (data_width carrier) (map word_bits words))
pieces_wide (Bit point) words = all_bits_wide (map word_bits words)
pieces_wide (Word first) words = words_wide words

-- What is given and held between pieces: loading points have this assignment, and all else but WriteStrobe and WriteData is 0.
pub record IsHolding (text : List PlainModule) (network : Network) (stream : Stream) (base : Assignment) (given : PointTerns) : Type 0 where
  pub loading : (number : ℕ) (p : Point) (d : Driver) → IsPoint text number p → Drives text p d → IsStored d → IsLoading text p →
      given number ≡ known (base p)
  pub others : (number : ℕ) (p : Point) (d : Driver) → IsPoint text number p → Drives text p d → IsStored d → (IsLoading text p → ⊥) → given number ≡ no
  pub strobe : given stream.strobe ≡ yes
  pub low : (number : ℕ) → slice_get network.drives.items number ≡ Some Given → number ≢ stream.strobe → IsNoData stream.carrier number → given number ≡ no

module _ (text : List PlainModule) (network : Network) (of : IsNetworkOf text network) (stream : Stream) (has : HasStream text) (at : IsStreamAt text stream)
  where
    pub strobe_point : IsPoint text stream.strobe (point [] write_strobe_name 0)
    strobe_point =
        let here : stream.strobe + 0 ≡ stream.strobe = omega arith in
        subst (λ (n : ℕ). IsPoint text n (point [] write_strobe_name 0)) here (at.strobe 0 (omega arith))

    pub strobe_within : stream.strobe < length (points text)
    strobe_within = slice_get_within (points text) stream.strobe (point [] write_strobe_name 0) strobe_point

    pub data_within : first_data stream.carrier + data_width stream.carrier ≤ length (points text)
    data_within =
        let some = data_wide stream.carrier in
        let end = data_width stream.carrier - 1 in
        let last = slice_get_within (points text) (first_data stream.carrier + end) (point [] write_data_name end) (at.words.bits end (omega (arith, some))) in
        omega (arith, some, last)

    pub strobe_drive : slice_get network.drives.items stream.strobe ≡ Some Given
    strobe_drive = outside_drive text network of stream.strobe (point [] write_strobe_name 0) strobe_point (input_drives text write_strobe_name Scalar 0 has.strobe)

    pub data_drive : (bit : ℕ) → bit < data_width stream.carrier → slice_get network.drives.items (first_data stream.carrier + bit) ≡ Some Given
    data_drive bit less =
        outside_drive text network of (first_data stream.carrier + bit) (point [] write_data_name bit) (at.words.bits bit less)
        (input_drives text write_data_name (data_shape stream.carrier) bit at.words.declared)

    -- a point of another name is none of WriteData, and one that is stored neither
    pub no_data : (number : ℕ) (p : Point) → IsPoint text number p → p.name ≢ write_data_name → IsNoData stream.carrier number
    no_data number p is differs =
        no_data_by (first_data stream.carrier) (data_width stream.carrier) number (λ bit less same.
        let here : IsPoint text number (point [] write_data_name bit) = subst (λ (n : ℕ). IsPoint text n (point [] write_data_name bit)) (sym same) (at.words.bits bit less) in
        differs (ap (λ (q : Point). q.name) (one_point text number p (point [] write_data_name bit) is here)))

    pub given_not_strobe : (number : ℕ) (p : Point) → IsPoint text number p → p.name ≢ write_strobe_name → number ≢ stream.strobe
    given_not_strobe number p is differs same =
        let here : IsPoint text number (point [] write_strobe_name 0) = subst (λ (n : ℕ). IsPoint text n (point [] write_strobe_name 0)) (sym same) strobe_point in
        differs (ap (λ (q : Point). q.name) (one_point text number p (point [] write_strobe_name 0) is here))

    pub strobe_no_data : IsNoData stream.carrier stream.strobe
    strobe_no_data = no_data stream.strobe (point [] write_strobe_name 0) strobe_point (told_apart 5 write_strobe_name write_data_name refl)

    module _ (number : ℕ) (p : Point) (d : Driver) (is : IsPoint text number p) (driven : Drives text p d) (holds : IsStored d) where
      pub stored_no_data : IsNoData stream.carrier number
      stored_no_data =
          no_data_by (first_data stream.carrier) (data_width stream.carrier) number (λ bit less same.
          held_not_given text network of number p d is driven holds (ap (slice_get network.drives.items) same ∙ data_drive bit less))

      pub stored_not_strobe : number ≢ stream.strobe
      stored_not_strobe same = held_not_given text network of number p d is driven holds (ap (slice_get network.drives.items) same ∙ strobe_drive)

    -- what is given at first
    pub holds_first : (given : PointTerns) → IsGivenFirst (length (points text)) stream given →
        IsHolding text network stream zeros given
    holds_first given first =
        let low_at = λ (number : ℕ) (p : Point) (d : Driver) (is : IsPoint text number p) (driven : Drives text p d) (holds : IsStored d).
        first.others number (slice_get_within (points text) number p is) (stored_not_strobe number p d is driven holds)
        (stored_no_data number p d is driven holds) in
        record {
          loading = λ number p d is driven holds loading. low_at number p d is driven holds;
          others = λ number p d is driven holds not. low_at number p d is driven holds;
          strobe = first.strobe_is strobe_no_data;
          low = λ number e apart not.
              let p = point_of text network of number Given e in first.others number (slice_get_within (points text) number p.0 p.1) apart not;
        }

    -- ---- a piece

    module _ (one : PointsOfSoundTextsHaveOneDriver) (numbers : NumbersHaveTerns) (terns : PointsHaveTerns) (solutions : SolutionsByNumber)
        (left : LeftByNumber)
        (is_known : LoadingIsKnown) (is_kept : LoadingIsKept) (loads : List Bool) (are : AreLoads text loads) where
      module _ (piece : List Bool) (wide : length piece ≡ data_width stream.carrier) (old new : PointTerns) (base now next : Assignment) (moment : Moment) (holding : IsHolding text network stream base old)
          (step : IsLoadStep network loads (first_data stream.carrier) piece old new) (offers : OffersWord piece moment.inputs)
          (clocked : moment.clock ≡ clock_name)
          (settled : IsSettledOn (IsLoading text) text moment.inputs base now) (low : AreClocksLow now)
          (ticks : Ticks (IsLoading text) text moment.clock base now next) where
        -- what is no point of WriteData is offered what it had
        same_offered : (number : ℕ) → IsNoData stream.carrier number → step.offered number ≡ old number
        same_offered number apart =
            step.is_offered.others number (elim apart [ inl before ↦ inl before | inr behind ↦ inr (omega (arith, behind, wide)) ])

        -- inputs, and what is held, as the text has them
        inputs : (t : Terns) × AreByNumber text t step.offered
        inputs = terns text of.sound step.offered

        based : (s : PointTerns) × AreByNumber text (λ p. known (base p)) s
        based = numbers text (λ p. known (base p))

        abbrev held_number : PointTerns
        held_number number = held_by (slice_get network.drives.items number) (step.offered number) (based.0 number)

        held : (t : Terns) × AreByNumber text t held_number
        held = terns text of.sound held_number

        now_terns : (t : Terns) × AreByNumber text t step.t
        now_terns = terns text of.sound step.t

        held_is : (number : ℕ) (p : Point) (d : Driver) → IsPoint text number p → Drives text p d → IsStored d → held.0 p ≡ step.offered number
        held_is number p d is driven holds =
            let w = of.drives number p d is driven in
            sym (held.1 number p is) ∙ ap (λ (o : Option Drive). held_by o (step.offered number) (based.0 number)) w.is
            ∙ held_stored text network.trees.items d w.drive w.of holds (step.offered number) (based.0 number)

        held_known : AreKnown (IsLoading text) held.0 base
        held_known p loading =
            let declared = within_declared text loading.0 p loading.2 in
            let number = is_point text p (declared_are_points text of.sound p declared) in
            let driver = one text of.sound p declared in
            elim (holds_or_not driver.0) [
              | inl holds ↦ held_is number.0 p driver.0 number.1 driver.1 holds
                  ∙ same_offered number.0 (stored_no_data number.0 p driver.0 number.1 driver.1 holds)
                  ∙ holding.loading number.0 p driver.0 number.1 driver.1 holds loading
              | inr not ↦ (
                  let w = of.drives number.0 p driver.0 number.1 driver.1 in
                  sym (held.1 number.0 p number.1) ∙ ap (λ (o : Option Drive). held_by o (step.offered number.0) (based.0 number.0)) w.is
                  ∙ held_elsewhere text network.trees.items driver.0 w.drive w.of not (step.offered number.0) (based.0 number.0) ∙ based.1 number.0 p number.1)
            ]

        given_by : (number : ℕ) (p : Point) (d : Driver) → IsPoint text number p → Drives text p d → IsGivenTo inputs.0 held.0 p d (step.offered number)
        given_by number p outside is driven = inputs.1 number p is
        given_by number p (copy other) is driven = tt
        given_by number p (bit_of path e bit) is driven = tt
        given_by number p (flop path clock value bit) is driven = sym (held_is number p (flop path clock value bit) is driven tt)
        given_by number p (hold path gate e bit) is driven = sym (held_is number p (hold path gate e bit) is driven tt)

        solves : SolvesText text inputs.0 held.0 now_terns.0
        solves =
            (solutions text of.sound network.trees.items network.drives.items of.long of.drives inputs.0 held.0 now_terns.0 step.offered step.t given_by
            now_terns.1).1
            step.least.solves

        -- the inputs that carry words
        clock_known : (p : Point) → IsStream text p → p.name ≡ clock_name → inputs.0 p ≡ known (moment.inputs p)
        clock_known p is named =
            let bit = input_bit text clock_name Scalar has.loader p is.input.top named is.declared in
            let first : p.bit ≡ 0 = (let less = bit.1 in omega (arith, less)) in
            let same : point [] clock_name 0 ≡ p = ap (λ (n : ℕ). point [] clock_name n) (sym first) ∙ bit.0 in
            let number = is_point text p (declared_are_points text of.sound p is.declared) in
            let data_apart = no_data number.0 p number.1 (λ e. told_apart 0 clock_name write_data_name refl (sym named ∙ e)) in
            let strobe_apart = given_not_strobe number.0 p number.1 (λ e. told_apart 0 clock_name write_strobe_name refl (sym named ∙ e)) in
            let drive = outside_drive text network of number.0 p number.1 (inl is.input) in
            let is_low : moment.inputs p ≡ false = sym (settled p outside (stream_loads text p is) (inl is.input)) ∙ ap now (sym same) ∙ low.0 in
            sym (inputs.1 number.0 p number.1) ∙ same_offered number.0 data_apart ∙ holding.low number.0 drive strobe_apart data_apart ∙ ap known
            (sym is_low)

        strobe_known : (p : Point) → IsStream text p → p.name ≡ write_strobe_name → inputs.0 p ≡ known (moment.inputs p)
        strobe_known p is named =
            let bit = input_bit text write_strobe_name Scalar has.strobe p is.input.top named is.declared in
            let first : p.bit ≡ 0 = (let less = bit.1 in omega (arith, less)) in
            let same : point [] write_strobe_name 0 ≡ p = ap (λ (n : ℕ). point [] write_strobe_name n) (sym first) ∙ bit.0 in
            let here : inputs.0 (point [] write_strobe_name 0) ≡ known (moment.inputs (point [] write_strobe_name 0)) =
            sym (inputs.1 stream.strobe (point [] write_strobe_name 0) strobe_point) ∙ same_offered stream.strobe strobe_no_data ∙ holding.strobe
            ∙ ap known (sym offers.strobe) in
            subst (λ (q : Point). inputs.0 q ≡ known (moment.inputs q)) same here

        data_known : (p : Point) → IsStream text p → p.name ≡ write_data_name → inputs.0 p ≡ known (moment.inputs p)
        data_known p is named =
            let bit = input_bit text write_data_name (data_shape stream.carrier) at.words.declared p is.input.top named is.declared in
            let here : inputs.0 (point [] write_data_name p.bit) ≡ known (moment.inputs (point [] write_data_name p.bit)) =
            sym (inputs.1 (first_data stream.carrier + p.bit) (point [] write_data_name p.bit) (at.words.bits p.bit bit.1))
            ∙ step.is_offered.bits p.bit (let less = bit.1 in omega (arith, less, wide)) ∙ ap known (sym (offers.bits p.bit)) in
            subst (λ (q : Point). inputs.0 q ≡ known (moment.inputs q)) bit.0 here

        stream_known : AreKnown (IsStream text) inputs.0 moment.inputs
        stream_known p is =
            elim is.named [
              | inl clock ↦ clock_known p is clock
              | inr other ↦ elim other [ inl strobe ↦ strobe_known p is strobe | inr bits ↦ data_known p is bits ]
            ]

        now_known : AreKnown (IsLoading text) now_terns.0 now
        now_known = is_known text inputs.0 held.0 now_terns.0 moment.inputs base now solves stream_known held_known settled

        -- ---- what the tick leaves

        ticked : (p : Point) (d : Driver) → IsLoading text p → Drives text p d → tern_kept text clock_name held.0 now_terns.0 p d ≡ known (next p)
        ticked p d loading driven =
            is_kept text clock_name held.0 now_terns.0 base now of.sound held_known now_known p d loading driven
            ∙ ap known (sym (ticks p d loading driven ∙ ap (λ (clock : List ℕ). kept text clock base now p d) clocked))

        single : (p : Point) → is_declared text p ≡ true → IsSingle text p
        single p declared d e by_d by_e = let driver = one text of.sound p declared in driver.2 d by_d ∙ sym (driver.2 e by_e)

        left_is : (number : ℕ) (p : Point) (d : Driver) → IsPoint text number p → Drives text p d → IsStored d → IsLoading text p → IsMarked loads number →
            new number ≡ left_tern network.trees.items network.drives.items Loader step.offered step.t number
        left_is number p outside is driven holds loading marked = absurd holds
        left_is number p (copy other) is driven holds loading marked = absurd holds
        left_is number p (bit_of path e bit) is driven holds loading marked = absurd holds
        left_is number p (flop path clock value bit) is driven holds loading marked =
            let w = of.drives number p (flop path clock value bit) is driven in
            let drive = flop_drive text network.trees.items path clock value bit w.drive w.of in
            let declared = within_declared text loading.0 p loading.2 in
            let named : clock_of text path clock ≡ Some clock_name =
            within_clocked text loading.0 loading.1 p (single p declared) loading.2 (flop path clock value bit) driven in
            let kind : drive.kind ≡ Loader = drive.clocked ∙ ap clock_called named in
            let there : slice_get network.drives.items number ≡ Some (Flop Loader drive.source) =
            w.is ∙ ap Some drive.is ∙ (λ j. Some (Flop (kind j) drive.source)) in
            (step.loaded number marked).flop drive.source there ∙ sym (ap (left_by network.trees.items Loader (step.offered number) step.t number) there)
        left_is number p (hold path gate e bit) is driven holds loading marked =
            let w = of.drives number p (hold path gate e bit) is driven in
            let drive = hold_drive text network.trees.items path gate e bit w.drive w.of in
            let there : slice_get network.drives.items number ≡ Some (Hold drive.0 drive.1) = w.is ∙ ap Some drive.2 in
            (step.loaded number marked).latch drive.0 drive.1 there ∙ sym (ap (left_by network.trees.items Loader (step.offered number) step.t number) there)

        new_loading : (number : ℕ) (p : Point) (d : Driver) → IsPoint text number p → Drives text p d → IsStored d → IsLoading text p →
            new number ≡ known (next p)
        new_loading number p d is driven holds loading =
            left_is number p d is driven holds loading (are.whole number p d is driven holds loading)
            ∙ sym (left text network.trees.items network.drives.items of.drives inputs.0 held.0 now_terns.0 step.offered step.t given_by now_terns.1 Loader
            clock_name refl number p d
            is driven holds)
            ∙ ticked p d loading driven

        new_others : (number : ℕ) (p : Point) (d : Driver) → IsPoint text number p → Drives text p d → IsStored d → (IsLoading text p → ⊥) → new number ≡ no
        new_others number p d is driven holds not =
            step.others number (λ marked. not (are.sound number p d is driven holds marked))
            ∙ same_offered number (stored_no_data number p d is driven holds) ∙ holding.others number p d is driven holds not

        -- an input is not marked
        not_marked : (number : ℕ) (p : Point) → IsPoint text number p → Drives text p outside → IsMarked loads number → ⊥
        not_marked number p is driven marked =
            let both : Some false ≡ Some true = sym (are.others number p outside is driven (λ h. h)) ∙ marked in cc

        new_strobe : new stream.strobe ≡ yes
        new_strobe =
            step.others stream.strobe (not_marked stream.strobe (point [] write_strobe_name 0) strobe_point (input_drives text write_strobe_name Scalar 0 has.strobe))
            ∙ same_offered stream.strobe strobe_no_data ∙ holding.strobe

        new_low : (number : ℕ) → slice_get network.drives.items number ≡ Some Given → number ≢ stream.strobe → IsNoData stream.carrier number → new number ≡ no
        new_low number e apart not =
            let p = point_of text network of number Given e in
            let driver = one text of.sound p.0 (number_declared text of.sound number p.0 p.1) in
            let driven : Drives text p.0 outside = subst (Drives text p.0) (given_driver text network of number p.0 driver.0 p.1 driver.1 e) driver.1 in
            step.others number (not_marked number p.0 p.1 driven) ∙ same_offered number not ∙ holding.low number e apart not

        pub holds_next : IsHolding text network stream next new
        holds_next = record { loading = new_loading; others = new_others; strobe = new_strobe; low = new_low }

      -- ---- all pieces

      pub holds_last : (pieces : List (List Bool)) → AreWide (data_width stream.carrier) pieces → (moments : List Moment) (old new : PointTerns) (base after : Assignment) →
          IsHolding text network stream base old → AreLoadSteps network loads (first_data stream.carrier) pieces old new → OfferWords pieces moments →
          IsRunOn (IsLoading text) text moments base after → IsHolding text network stream after new
      holds_last [] wide [] old new base after holding same offers run = record {
        loading = λ number p d is driven holds loading. same number ∙ holding.loading number p d is driven holds loading ∙ ap known (sym (run p loading));
        others = λ number p d is driven holds not. same number ∙ holding.others number p d is driven holds not;
        strobe = same stream.strobe ∙ holding.strobe;
        low = λ number e apart not. same number ∙ holding.low number e apart not;
      }
      holds_last [] wide (moment ∷ moments) old new base after holding same offers run = absurd offers
      holds_last (piece ∷ pieces) wide [] old new base after holding steps offers run = absurd offers
      holds_last (piece ∷ pieces) wide (moment ∷ moments) old new base after holding steps offers run =
          holds_last pieces wide.1 moments steps.0 new run.1 after
          (holds_next piece wide.0 old steps.0 base run.0 run.1 moment holding steps.1 offers.0 offers.1 run.2 run.3 run.4) steps.2 offers.2 run.5

-- The points that loading sets, and what loading is.
use Rattle.std.specs.Prelude.{◌≡◌, ◌≢◌, ◌⊎◌, ℕ, Bool, true, ◌||◌, List, [], ◌∷◌, map, reverse, Some, if◌then◌else◌, nat_eq, codes}
use Rattle.std.specs.List.{All, flat_map}
use Rattle.fab_syntax.specs.Plain.{PlainExpr, PlainModule}
use Rattle.fab_meaning.specs.Value.{bit_at}
use Rattle.fab_syntax.specs.Declarations.{width_in}
use Rattle.fab_meaning.specs.Points.{Path, Point, point, Driver, outside, copy, bit_of, flop, hold, Drives, IsDrivenOutside, module_at}
use Rattle.fab_meaning.specs.Settled.{Assignment, IsSettledOn}
use Rattle.fab_meaning.specs.Reads.{is_declared, reads, next_reads}
use Rattle.fab_meaning.specs.Runs.{clock_of, clock_name, Moment, IsRunOn}

abbrev pub write_strobe_name : List ℕ
write_strobe_name = codes "WriteStrobe"

abbrev pub write_data_name : List ℕ
write_data_name = codes "WriteData"

-- one of these names
abbrev pub IsOneOf : (names : List (List ℕ)) → List ℕ → Type 0
IsOneOf [] name = ⊥
IsOneOf (last ∷ []) name = name ≡ last
IsOneOf (first ∷ second ∷ names) name = (name ≡ first) ⊎ IsOneOf (second ∷ names) name

-- the inputs of the top with these names
pub record IsStreamOf (text : List PlainModule) (names : List (List ℕ)) (p : Point) : Type 0 where
  pub input : IsDrivenOutside text p outside
  pub declared : is_declared text p ≡ true
  pub named : IsOneOf names p.name

abbrev pub stream_names : List (List ℕ)
stream_names = clock_name ∷ write_strobe_name ∷ write_data_name ∷ []

-- the inputs that carry words
abbrev pub IsStream : List PlainModule → Point → Type 0
IsStream text p = IsStreamOf text stream_names p

-- a driver whose value other points decide, and what a latch holds
abbrev pub IsDerived : Driver → Type 0
IsDerived outside = ⊥
IsDerived (copy other) = Unit {0}
IsDerived (bit_of path e bit) = Unit {0}
IsDerived (flop path clock next bit) = ⊥
IsDerived (hold path gate e bit) = Unit {0}

-- The least set of declared points that holds these flip-flops, a stream, and each derived point all of whose reads it holds.
pub data WithinBy (text : List PlainModule) (Stream : Point → Type 0) (flops : Point → Bool) : Point → Type 0 where
  by_flop : {p : Point} → is_declared text p ≡ true → flops p ≡ true → WithinBy text Stream flops p
  by_stream : {p : Point} → Stream p → WithinBy text Stream flops p
  by_reads : {p : Point} (d : Driver) → is_declared text p ≡ true → Drives text p d → IsDerived d →
      ((q : Point) → reads text d q ≡ true → WithinBy text Stream flops q) → WithinBy text Stream flops p

-- the same of the stream that carries words
abbrev pub Within : List PlainModule → (flops : Point → Bool) → Point → Type 0
Within text flops = WithinBy text (IsStream text) flops

-- a flip-flop of the clock CLK whose next value reads points of a set alone
pub record IsClosedAt (text : List PlainModule) (Has : Point → Type 0) (p : Point) : Type 0 where
  pub path : Path
  pub clock : List ℕ
  pub next : PlainExpr
  pub bit : ℕ
  pub drives : Drives text p (flop path clock next bit)
  pub clocked : clock_of text path clock ≡ Some clock_name
  pub inside : (q : Point) → next_reads text (flop path clock next bit) q ≡ true → Has q

-- flip-flops of CLK that read, for what they take, the set that they make alone
abbrev pub IsClosedBy : List PlainModule → (Stream : Point → Type 0) → (flops : Point → Bool) → Type 0
IsClosedBy text Stream flops = (p : Point) → flops p ≡ true → IsClosedAt text (WithinBy text Stream flops) p

abbrev pub IsClosed : List PlainModule → (flops : Point → Bool) → Type 0
IsClosed text flops = IsClosedBy text (IsStream text) flops

-- Some closed flip-flops lead to the point. The union of closed sets is closed, so these are the points of the greatest.
abbrev pub IsLed : List PlainModule → (Stream : Point → Type 0) → Point → Type 0
IsLed text Stream p = (flops : Point → Bool) × IsClosedBy text Stream flops × WithinBy text Stream flops p

abbrev pub IsLoading : List PlainModule → Point → Type 0
IsLoading text p = IsLed text (IsStream text) p

-- ---- loading

-- inputs that offer a word, with bit 0 the least significant
pub record OffersWord (word : List Bool) (inputs : Assignment) : Type 0 where
  pub strobe : inputs (point [] write_strobe_name 0) ≡ true
  pub bits : (bit : ℕ) → inputs (point [] write_data_name bit) ≡ bit_at word bit

-- the bits of a word one by one, the last first
abbrev pub single_bits : List Bool → List (List Bool)
single_bits word = map (λ bit. bit ∷ []) (reverse word)

-- what an input of a width is offered for words, tick by tick: the words, or where it has one bit alone their bits
abbrev pub offered_at : (width : ℕ) → (words : List (List Bool)) → List (List Bool)
offered_at width words = if nat_eq width 1 then flat_map single_bits words else words

-- what WriteData of a text is offered
abbrev pub offered : List PlainModule → (words : List (List Bool)) → List (List Bool)
offered text words = offered_at (width_in (module_at text []) write_data_name) words

-- one tick of CLK for each word, while the inputs offer it
abbrev pub OfferWords : List (List Bool) → List Moment → Type 0
OfferWords [] [] = Unit {0}
OfferWords [] (moment ∷ moments) = ⊥
OfferWords (word ∷ words) [] = ⊥
OfferWords (word ∷ words) (moment ∷ moments) = OffersWord word moment.inputs × (moment.clock ≡ clock_name) × OfferWords words moments

-- loading words, from what flip-flops and latches of the loading points hold at first to what they hold at last
pub record Loads (text : List PlainModule) (words : List (List Bool)) (held after : Assignment) : Type 0 where
  pub moments : List Moment
  pub offers : OfferWords (offered text words) moments
  pub run : IsRunOn (IsLoading text) text moments held after

-- ---- laws

-- Two closed sets of flip-flops are one closed set together.
abbrev pub UnionIsClosed : Type 0
UnionIsClosed =
    (text : List PlainModule) (names : List (List ℕ)) (some others : Point → Bool) →
    IsClosedBy text (IsStreamOf text names) some → IsClosedBy text (IsStreamOf text names) others → IsClosedBy text (IsStreamOf text names) (λ p. some p || others p)

-- What flip-flops lead to, more of them lead to.
abbrev pub WithinGrows : Type 0
WithinGrows =
    (text : List PlainModule) (names : List (List ℕ)) (some all : Point → Bool) → ((p : Point) → some p ≡ true → all p ≡ true) →
    (p : Point) → WithinBy text (IsStreamOf text names) some p → WithinBy text (IsStreamOf text names) all p

abbrev pub IsSameOn : (Stream : Point → Type 0) → (inputs later : Assignment) → Type 0
IsSameOn Stream inputs later = (p : Point) → Stream p → inputs p ≡ later p

abbrev pub IsSameStream : List PlainModule → (inputs later : Assignment) → Type 0
IsSameStream text = IsSameOn (IsStream text)

-- a moment with a stream at whose end another clock than CLK ticks
pub record IsIdleOn (Stream : Point → Type 0) (inputs : Assignment) (moment : Moment) : Type 0 where
  pub stream : IsSameOn Stream inputs moment.inputs
  pub other : moment.clock ≢ clock_name

abbrev pub IsIdle : List PlainModule → (inputs : Assignment) → Moment → Type 0
IsIdle text = IsIdleOn (IsStream text)

-- Ticks of other clocks than CLK change no point that a stream leads to, while the stream stays.
abbrev pub PointsStay : List PlainModule → (Stream : Point → Type 0) → Type 0
PointsStay text Stream =
    (moments : List Moment) (inputs later held after now last : Assignment) →
    All (IsIdleOn Stream inputs) moments → IsRunOn (IsLed text Stream) text moments held after →
    IsSettledOn (IsLed text Stream) text inputs held now → IsSettledOn (IsLed text Stream) text later after last → IsSameOn Stream inputs later →
    (p : Point) → IsLed text Stream p → now p ≡ last p

abbrev pub LedPointsStay : Type 0
LedPointsStay = (text : List PlainModule) (names : List (List ℕ)) → PointsStay text (IsStreamOf text names)

-- so with the stream of words
abbrev pub LoadingPointsStay : Type 0
LoadingPointsStay = (text : List PlainModule) → PointsStay text (IsStream text)

-- moment by moment the same clock ticks, and the stream is the same
abbrev pub AreAlikeOn : (Stream : Point → Type 0) → (moments others : List Moment) → Type 0
AreAlikeOn Stream [] [] = Unit {0}
AreAlikeOn Stream [] (other ∷ others) = ⊥
AreAlikeOn Stream (moment ∷ moments) [] = ⊥
AreAlikeOn Stream (moment ∷ moments) (other ∷ others) =
    (moment.clock ≡ other.clock) × IsSameOn Stream moment.inputs other.inputs × AreAlikeOn Stream moments others

abbrev pub AreAlike : List PlainModule → (moments others : List Moment) → Type 0
AreAlike text = AreAlikeOn (IsStream text)

-- What the points that a stream leads to hold at first and the stream decide what they hold at last; nothing else of the text matters.
abbrev pub RunsAgree : List PlainModule → (Stream : Point → Type 0) → Type 0
RunsAgree text Stream =
    (moments others : List Moment) (held other_held after other_after : Assignment) → AreAlikeOn Stream moments others →
    ((p : Point) → IsLed text Stream p → held p ≡ other_held p) →
    IsRunOn (IsLed text Stream) text moments held after → IsRunOn (IsLed text Stream) text others other_held other_after →
    (p : Point) → IsLed text Stream p → after p ≡ other_after p

abbrev pub LedRunsAgree : Type 0
LedRunsAgree = (text : List PlainModule) (names : List (List ℕ)) → RunsAgree text (IsStreamOf text names)

abbrev pub LoadingRunsAgree : Type 0
LoadingRunsAgree = (text : List PlainModule) → RunsAgree text (IsStream text)

-- So what the words loaded are, and what the loading points hold at first, decide what they hold at last.
abbrev pub LoadsAgree : Type 0
LoadsAgree =
    (text : List PlainModule) → width_in (module_at text []) clock_name ≡ 1 → width_in (module_at text []) write_strobe_name ≡ 1 →
    (words : List (List Bool)) (held other_held after other_after : Assignment) →
    ((p : Point) → IsLoading text p → held p ≡ other_held p) → Loads text words held after → Loads text words other_held other_after →
    (p : Point) → IsLoading text p → after p ≡ other_after p

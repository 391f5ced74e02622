-- Runs over a decided and ranked set of loading points.
use Rattle.std.proofs.Common.{◌≡◌, ◌≢◌, ℕ, Bool, true, false, ◌&&◌, ◌||◌, List, [], ◌∷◌, map, refl, sym, ap, ◌∙◌, subst, inl, inr, All}
use Rattle.std.specs.Str.{bytes_eq}
use Rattle.std.proofs.lemmas.Bool.{cases_Bool, false≢true}
use Rattle.std.proofs.lemmas.List.Elements.{All-head, All-map, All-tail}
use Rattle.std.proofs.lemmas.Slice.Eq.{bytes_eq-Decides}
use Rattle.fab_equations.specs.fab_syntax.specs.Plain.{PlainModule}
use Rattle.fab_equations.specs.fab_syntax.specs.Declarations.{is_input_of}
use Rattle.fab_equations.specs.fab_meaning.specs.Value.{bit_at}
use Rattle.fab_equations.specs.fab_meaning.specs.Points.{Point, point, Driver, outside, flop, IsDrivenOutside, module_at}
use Rattle.fab_equations.specs.fab_meaning.specs.Settled.{Assignment, IsSettledOn}
use Rattle.fab_equations.specs.fab_meaning.specs.Reads.{is_declared}
use Rattle.fab_equations.specs.fab_meaning.specs.Runs.{kept, clock_name, user_clock_name, AreClocksLow, Moment, IsRunOn}
use Rattle.fab_equations.specs.fab_meaning.specs.Loading.{IsOneOf, IsStreamOf, stream_names, IsDerived, by_flop, by_stream, by_reads, OffersWord, offered, OfferWords, Loads, write_strobe_name, write_data_name}
use Rattle.fab_equations.specs.fab_meaning.specs.Ranked.{AreDrivenBy, AreRanked}
use Rattle.fab_equations.specs.fab_meaning.proofs.Settling.{some_settled}
use Rattle.fab_load_runs_laws.specs.Runs.{Decides, HasClocks, IsClockLow}
use Rattle.fab_load_runs_laws.proofs.Streams.{WithinFor, IsClosedFor, IsLedFor}

within_declared : (text : List PlainModule) (names : List (List ℕ)) (flops : Point → Bool) (p : Point) → WithinFor text names flops p → is_declared text p ≡ true
within_declared text names flops p (by_flop declared f) = declared
within_declared text names flops p (by_stream is) = is.declared
within_declared text names flops p (by_reads d declared drives derived within) = declared

-- an input at the top
input_outside : (text : List PlainModule) (name : List ℕ) (bit : ℕ) → is_input_of (module_at text []) name ≡ true → IsDrivenOutside text (point [] name bit) outside
input_outside text name bit input = record { top = refl; input = input; is = refl }

apart : (a b : List ℕ) → bytes_eq a b ≡ false → a ≢ b
apart a b f e = false≢true (sym f ∙ (bytes_eq-Decides a b).1 e)

-- ---- the inputs that offer a word

abbrev word_inputs : (word : List Bool) → Assignment
word_inputs word p = bytes_eq p.name write_strobe_name || (bytes_eq p.name write_data_name && bit_at word p.bit)

word_offered : (word : List Bool) → OffersWord word (word_inputs word)
word_offered word = record { strobe = refl; bits = λ bit. refl }

abbrev offer : (word : List Bool) → Moment
offer word = record { inputs = word_inputs word; clock = clock_name }

words_offered : (words : List (List Bool)) → OfferWords words (map offer words)
words_offered [] = tt
words_offered (word ∷ words) = (word_offered word, refl, words_offered words)

offers_low : (words : List (List Bool)) → All IsClockLow (map offer words)
offers_low words = All-map IsClockLow offer words (λ k word l. refl)

-- ---- runs

module _ (text : List PlainModule) (clocks : HasClocks text) (driver : Point → Driver) (driven : AreDrivenBy text (is_declared text) driver)
    (names : List (List ℕ)) (no_user : IsOneOf names user_clock_name → ⊥) (has : Point → Bool) (decides : Decides (IsLedFor text names) has)
    (rank : Point → ℕ) (ranks : ℕ) (ranked : AreRanked text has (λ p. false) driver rank ranks) where
  has_declared : (p : Point) → has p ≡ true → is_declared text p ≡ true
  has_declared p h = let l = decides.sound p h in within_declared text names l.0 p l.2

  has_driven : AreDrivenBy text has driver
  has_driven = record {
    each = λ p h. driven.each p (has_declared p h);
    only = λ p d h drives. driven.only p d (has_declared p h) drives;
  }

  -- an input is no loading point unless it is one of the stream
  stream_alone : (p : Point) → IsDrivenOutside text p outside → (flops : Point → Bool) → IsClosedFor text names flops → WithinFor text names flops p → IsStreamOf text names p
  stream_alone p input flops closed (by_flop declared f) =
      let c = closed p f in
      let same : outside ≡ flop c.path c.clock c.next c.bit =
      driven.only p outside declared (inl input) ∙ sym (driven.only p (flop c.path c.clock c.next c.bit) declared c.drives) in
      cc
  stream_alone p input flops closed (by_stream is) = is
  stream_alone p input flops closed (by_reads d declared drives derived within) =
      let same : d ≡ outside = driven.only p d declared drives ∙ sym (driven.only p outside declared (inl input)) in
      absurd (subst IsDerived same derived)

  user_clock_apart : IsLedFor text names (point [] user_clock_name 0) → ⊥
  user_clock_apart l = no_user (stream_alone (point [] user_clock_name 0) (input_outside text user_clock_name 0 clocks.user_clock) l.0 l.1 l.2).named

  -- one moment settles, and both clocks are 0 in it
  abbrev Settles : (moment : Moment) (held : Assignment) → Type 0
  Settles moment held = (now : Assignment) × IsSettledOn (IsLedFor text names) text moment.inputs held now × AreClocksLow now

  settles : (moment : Moment) → IsClockLow moment → (held : Assignment) → Settles moment held
  settles moment low held =
      let found = some_settled text has (λ p. false) driver rank ranks has_driven ranked moment.inputs held (λ p. false) in
      let loader_clock : found.0 (point [] clock_name 0) ≡ false =
      elim (cases_Bool (has (point [] clock_name 0))) [
        | inl h ↦ found.1 (point [] clock_name 0) outside h (inl (input_outside text clock_name 0 clocks.loader_clock)) ∙ low
        | inr f ↦ found.2 (point [] clock_name 0) f
      ] in
      let user_clock : found.0 (point [] user_clock_name 0) ≡ false =
      elim (cases_Bool (has (point [] user_clock_name 0))) [
        | inl h ↦ absurd (user_clock_apart (decides.sound (point [] user_clock_name 0) h))
        | inr f ↦ found.2 (point [] user_clock_name 0) f
      ] in
      (found.0, λ p d l drives. found.1 p d (decides.whole p l) drives, (loader_clock, user_clock))

  pub runs_exist : (moments : List Moment) → All IsClockLow moments → (held : Assignment) → (after : Assignment) × IsRunOn (IsLedFor text names) text moments held after
  runs_exist [] low held = (held, λ p l. refl)
  runs_exist (moment ∷ moments) low held =
      let now = settles moment (All-head IsClockLow moment moments low) held in
      let next : Assignment = λ p. kept text moment.clock held now.0 p (driver p) in
      let rest = runs_exist moments (All-tail IsClockLow moment moments low) next in (
        rest.0,
        (
          now.0,
          next,
          now.1,
          now.2,
          λ p d l drives. ap (kept text moment.clock held now.0 p) (sym (has_driven.only p d (decides.whole p l) drives)),
          rest.1,
        ),
      )

-- ---- loading words

pub user_no_stream : IsOneOf stream_names user_clock_name → ⊥
user_no_stream is =
    elim is [
      | inl clock ↦ apart user_clock_name clock_name refl clock
      | inr other ↦ elim other [
        | inl strobe ↦ apart user_clock_name write_strobe_name refl strobe
        | inr bits ↦ apart user_clock_name write_data_name refl bits
      ]
    ]

pub loads_exist : (text : List PlainModule) →
    ((moments : List Moment) → All IsClockLow moments → (held : Assignment) → (after : Assignment) × IsRunOn (IsLedFor text stream_names) text moments held after) →
    (words : List (List Bool)) (held : Assignment) → (after : Assignment) × Loads text words held after
loads_exist text runs words held =
    let run = runs (map offer (offered text words)) (offers_low (offered text words)) held in
    (run.0, record { moments = map offer (offered text words); offers = words_offered (offered text words); run = run.1 })

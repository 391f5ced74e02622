-- Two loadings of the same words are alike.
use Rattle.std.proofs.Common.{◌≡◌, ℕ, ◌<◌, Bool, false, List, [], ◌∷◌, sym, ap, ap₂, ◌∙◌, inl, inr, arith}
use Rattle.std.proofs.lemmas.Bool.{false≢true, ltb-true}
use Rattle.fab_syntax.specs.Plain.{PlainModule}
use Rattle.fab_syntax.specs.Declarations.{width_in}
use Rattle.fab_meaning.specs.Points.{Point, point, outside, module_at}
use Rattle.fab_meaning.specs.Settled.{Assignment, IsSettledOn}
use Rattle.fab_meaning.specs.Runs.{clock_name, AreClocksLow, Moment, IsRunOn}
use Rattle.fab_meaning.specs.Loading.{IsStream, by_stream, IsClosed, IsLoading, OffersWord, offered, OfferWords, Loads, IsSameStream, AreAlike, write_strobe_name, write_data_name}
use Rattle.fab_meaning.proofs.Loaded.{runs_agree}

-- no flip-flops are closed, and so the stream is always among the loading points
none_closed : (text : List PlainModule) → IsClosed text (λ p. false)
none_closed text p h = absurd (false≢true h)

stream_loading : (text : List PlainModule) (p : Point) → IsStream text p → IsLoading text p
stream_loading text p is = ((λ q. false), none_closed text, by_stream is)

input_point : (text : List PlainModule) (p : Point) (name : List ℕ) → IsStream text p → p.name ≡ name → p ≡ point [] name p.bit
input_point text p name is named = ap₂ (λ x n. point x n p.bit) is.input.top named

-- an input of one bit is that bit
scalar_point : (text : List PlainModule) (p : Point) (name : List ℕ) → width_in (module_at text []) name ≡ 1 → IsStream text p → p.name ≡ name → p ≡ point [] name 0
scalar_point text p name wide is named =
    let wide_there : width_in (module_at text p.path) p.name ≡ 1 = ap₂ (λ x n. width_in (module_at text x) n) is.input.top named ∙ wide in
    let below : p.bit < width_in (module_at text p.path) p.name = ltb-true p.bit (width_in (module_at text p.path) p.name) is.declared in
    let first : p.bit ≡ 0 = omega arith in
    input_point text p name is named ∙ ap (point [] name) first

module _ (text : List PlainModule) (wide_clock : width_in (module_at text []) clock_name ≡ 1) (wide_strobe : width_in (module_at text []) write_strobe_name ≡ 1) where
  -- while a word is offered in a run, it decides the stream
  word_stream : (word : List Bool) (inputs later held other_held now last : Assignment) → OffersWord word inputs → OffersWord word later →
      IsSettledOn (IsLoading text) text inputs held now → IsSettledOn (IsLoading text) text later other_held last →
      AreClocksLow now → AreClocksLow last → IsSameStream text inputs later
  word_stream word inputs later held other_held now last a b s t low_now low_last p is =
      elim is.named [
        | inl clock ↦ (
            let at : p ≡ point [] clock_name 0 = scalar_point text p clock_name wide_clock is clock in
            let l : IsLoading text p = stream_loading text p is in
            sym (s p outside l (inl is.input)) ∙ ap now at ∙ low_now.0 ∙ sym (ap last at ∙ low_last.0) ∙ t p outside l (inl is.input))
        | inr other ↦ elim other [
          | inl strobe ↦ (
              let at : p ≡ point [] write_strobe_name 0 = scalar_point text p write_strobe_name wide_strobe is strobe in
              ap inputs at ∙ a.strobe ∙ sym (ap later at ∙ b.strobe))
          | inr bits ↦ (
              let at : p ≡ point [] write_data_name p.bit = input_point text p write_data_name is bits in
              ap inputs at ∙ a.bits p.bit ∙ sym (ap later at ∙ b.bits p.bit))
        ]
      ]

  words_alike : (words : List (List Bool)) (moments others : List Moment) (held other_held after other_after : Assignment) →
      OfferWords words moments → OfferWords words others →
      IsRunOn (IsLoading text) text moments held after → IsRunOn (IsLoading text) text others other_held other_after → AreAlike text moments others
  words_alike [] [] [] held other_held after other_after a b run other = tt
  words_alike [] [] (n ∷ others) held other_held after other_after a b run other = absurd b
  words_alike [] (m ∷ moments) others held other_held after other_after a b run other = absurd a
  words_alike (word ∷ words) [] others held other_held after other_after a b run other = absurd a
  words_alike (word ∷ words) (m ∷ moments) [] held other_held after other_after a b run other = absurd b
  words_alike (word ∷ words) (m ∷ moments) (n ∷ others) held other_held after other_after a b run other = (
    a.1 ∙ sym b.1,
    word_stream word m.inputs n.inputs held other_held run.0 other.0 a.0 b.0 run.2 other.2 run.3 other.3,
    words_alike words moments others run.1 other.1 after other_after a.2 b.2 run.5 other.5,
  )

  pub loads_agree : (words : List (List Bool)) (held other_held after other_after : Assignment) → ((p : Point) → IsLoading text p → held p ≡ other_held p) →
      Loads text words held after → Loads text words other_held other_after → (p : Point) → IsLoading text p → after p ≡ other_after p
  loads_agree words held other_held after other_after same a b =
      runs_agree text (IsStream text) (λ p is. is.input) a.moments b.moments held other_held after other_after
      (words_alike (offered text words) a.moments b.moments held other_held after other_after a.offers b.offers a.run b.run) same a.run b.run

-- Turns without words, between words, change nothing of what the words leave.
use Rattle.std.proofs.Common.{◌≡◌, ℕ, Bool, true, false, List, [], ◌∷◌, refl, sym, ap, ◌∙◌, inl, inr}
use Rattle.std.proofs.lemmas.Bool.{cases_Bool, false≢true}
use Rattle.fab_gen_loader.specs.fab_model.specs.declared.mode.Mode.TheVariants as modes
use Rattle.fab_gen_loader.specs.fab_model.specs.Grid.{PlainFabric}
use Rattle.fab_gen_loader.specs.fab_model.specs.Drive.{PlainBits}
use Rattle.fab_frames.specs.fab_fabric.specs.Fabric.{IsFabric}
use Rattle.fab_gen_loader.specs.Machine.{Machine, Word, take_word, tick}
use Rattle.fab_frames.specs.Stream.{stream_mode}
use Rattle.fab_loading_laws.specs.Latches.{IsMachine, LatchPlace, Turn, word, pause, other_clock, words_of, after_turns, is_open, latch_shows, latch_after}
use Rattle.fab_loading_laws.specs.Streams.{stream_words, IsLoaded}
use Rattle.fab_loading_laws.proofs.Runs.{after_words, latch_after_words}
use Rattle.fab_loading_laws.proofs.Loads.{IsLoadedByWords, loaded_by_words}

abbrev pub closed : Machine → Machine
closed machine = record machine { strobe = false }

-- A loader that had pauses, and one that had none: they are equal but for the strobe, which is 1 only where that of the other is.
pub record IsLike (machine other : Machine) : Type 0 where
  pub but_strobe : closed machine ≡ closed other
  pub strobe : machine.strobe ≡ true → other.strobe ≡ true

-- and a latch shows the same with both
pub record ShowsLike (place : LatchPlace) (machine other : Machine) (held other_held : Bool) : Type 0 where
  pub like : IsLike machine other
  pub shows : latch_shows machine place held ≡ latch_shows other place other_held

-- what a latch shows it goes on showing
shows_again : (machine : Machine) (place : LatchPlace) (held : Bool) → latch_shows machine place (latch_shows machine place held) ≡ latch_shows machine place held
shows_again machine place held =
    elim (cases_Bool (is_open machine place)) [
      | inl opened ↦ rw opened refl
      | inr shut ↦ rw shut refl
    ]

module _ (rows : ℕ) where
  -- what a word leaves does not depend on the strobe
  same_word : (machine other : Machine) (offered : Word) → closed machine ≡ closed other → take_word rows machine offered ≡ take_word rows other offered
  same_word machine other offered same = ap (λ (m : Machine). take_word rows m offered) same

  pub like_after : (machine other : Machine) (turns : List Turn) → IsLike machine other → IsLike (after_turns rows machine turns) (after_words rows other (words_of turns))
  like_after machine other [] like = like
  like_after machine other (word offered ∷ turns) like =
      let same = same_word machine other offered like.but_strobe in
      like_after (tick rows machine true offered) (tick rows other true offered) turns
      (record { but_strobe = ap closed same; strobe = λ is. ap (λ (m : Machine). m.strobe) (sym same) ∙ is })
  like_after machine other (pause ∷ turns) like =
      like_after (closed machine) other turns (record { but_strobe = like.but_strobe; strobe = λ is. absurd (false≢true is) })
  like_after machine other (other_clock ∷ turns) like = like_after machine other turns like

  pub shows_like_after : (place : LatchPlace) (machine other : Machine) (held other_held : Bool) (turns : List Turn) → ShowsLike place machine other held other_held →
      latch_shows (after_turns rows machine turns) place (latch_after rows machine place held turns)
      ≡ latch_shows (after_words rows other (words_of turns)) place (latch_after_words rows other place other_held (words_of turns))
  shows_like_after place machine other held other_held [] like = like.shows
  shows_like_after place machine other held other_held (word offered ∷ turns) like =
      let same = same_word machine other offered like.like.but_strobe in
      let shown = latch_shows machine place held in
      let other_shown = latch_shows other place other_held in
      shows_like_after place (tick rows machine true offered) (tick rows other true offered) shown other_shown turns
      (record {
        like = record { but_strobe = ap closed same; strobe = λ is. ap (λ (m : Machine). m.strobe) (sym same) ∙ is };
        shows = λ j. latch_shows (same j) place (like.shows j);
      })
  shows_like_after place machine other held other_held (pause ∷ turns) like =
      shows_like_after place (closed machine) other (latch_shows machine place held) other_held turns
      (record {
        like = record { but_strobe = like.like.but_strobe; strobe = λ is. absurd (false≢true is) };
        shows = like.shows;
      })
  shows_like_after place machine other held other_held (other_clock ∷ turns) like =
      shows_like_after place machine other (latch_shows machine place held) other_held turns
      (record { like = like.like; shows = shows_again machine place held ∙ like.shows })

module _ (fabric : PlainFabric) (bits : PlainBits) (machine : Machine) (turns : List Turn) (mode : stream_mode fabric ≡ modes.Frames) (is_fabric : IsFabric fabric) (is : IsMachine fabric.rows machine)
    (words : words_of turns ≡ stream_words fabric bits) where
  abbrev rows : ℕ
  rows = fabric.rows

  by_words : IsLoadedByWords fabric bits machine
  by_words = loaded_by_words fabric bits machine mode is_fabric is

  abbrev last : Machine
  last = after_turns rows machine turns

  abbrev last_by_words : Machine
  last_by_words = after_words rows machine (words_of turns)

  same_machine : IsLike machine machine
  same_machine = record { but_strobe = refl; strobe = λ is. is }

  same_last : last_by_words ≡ after_words rows machine (stream_words fabric bits)
  same_last = ap (after_words rows machine) words

  like_last : IsLike last last_by_words
  like_last = like_after rows machine machine turns same_machine

  other_strobe_low : last_by_words.strobe ≡ false
  other_strobe_low = ap (λ (m : Machine). m.strobe) same_last ∙ by_words.strobe

  strobe_low : last.strobe ≡ false
  strobe_low =
      elim (cases_Bool last.strobe) [
        | inl high ↦ absurd (false≢true (sym other_strobe_low ∙ like_last.strobe high))
        | inr low ↦ low
      ]

  latch_loads : (place : LatchPlace) (held : Bool) → latch_after rows machine place held turns ≡ latch_after_words rows machine place held (stream_words fabric bits)
  latch_loads place held =
      let now = latch_after rows machine place held turns in
      let other_now = latch_after_words rows machine place held (words_of turns) in
      let same : latch_shows last place now ≡ latch_shows last_by_words place other_now =
      shows_like_after rows place machine machine held held turns (record { like = same_machine; shows = refl }) in
      let here : latch_shows last place now ≡ now = ap (λ strobe. latch_shows (record last { strobe = strobe }) place now) strobe_low in
      let there : latch_shows last_by_words place other_now ≡ other_now = ap (λ strobe. latch_shows (record last_by_words { strobe = strobe }) place other_now) other_strobe_low in
      sym here ∙ same ∙ there ∙ ap (latch_after_words rows machine place held) words

  pub loaded : IsLoaded fabric bits machine turns
  loaded = record {
    state = ap (λ (m : Machine). m.state) (like_last.but_strobe ∙ ap closed same_last) ∙ by_words.state;
    strobe = strobe_low;
    latches = λ place number held within placed. latch_loads place held ∙ by_words.latches place number held within placed;
  }

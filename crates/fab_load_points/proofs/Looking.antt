-- A look at a name of which nothing is known.
use Rattle.std.proofs.Common.{◌≡◌, ℕ, ◌<◌, Bool, true, false, List, [], ◌∷◌, ◌++◌, length, reverse, set, slice_get, get_or, Some, refl, sym, ap, ◌∙◌, subst, inl, inr}
use Rattle.std.proofs.lemmas.Bool.{cases_Bool}
use Rattle.std.proofs.lemmas.List.{length-set, reverse-append}
use Rattle.std.proofs.lemmas.Option.{slice_get_within, slice_get_read}
use Rattle.fab_syntax.specs.Plain.{PlainModule}
use Rattle.fab_meaning.specs.Points.{Point, Driver, outside, Drives}
use Rattle.fab_meaning.specs.Reads.{reads}
use Rattle.fab_meaning.specs.Loading.{IsDerived, Within, by_stream}
use Rattle.fab_meaning.proofs.SoundDrivers.{has_one_driver}
use Rattle.fab_load_points.specs.inner.Causes.{StandsFor, AreReads, IsFlop, IsStreamOf}
use Rattle.fab_load_points.specs.inner.Search.{Scene, IsSearch, Opens, given_up, entered}
use Rattle.fab_load_points.specs.declared.search.Status.{Status}
use Rattle.fab_load_points.specs.declared.search.Status.TheVariants.{New, Waiting, Inside, Outside}
use Rattle.fab_load_points.specs.declared.search.Visit.{Visit}
use Rattle.fab_load_points.specs.declared.search.Visit.TheVariants.{Enter, Leave}
use Rattle.fab_load_points.specs.declared.stream.Stream.{Stream}
use Rattle.fab_load_points.proofs.Names.{point_declared, one_point}
use Rattle.fab_load_points.proofs.Streams.{IsOneOf, stream_is, stream_known}
use Rattle.fab_load_points.proofs.Statuses.{given_length, set_opens, given_opens}
use Rattle.fab_load_points.proofs.Steps.{step_outside, step_enter_inside, step_wait, flop_outside, input_outside}

-- ---- the stack and the statuses as lists

pub popped : (old rest : List Visit) (visit top : Visit) → old ≡ rest ++ visit ∷ [] → visit ≡ top → reverse old ≡ top ∷ reverse rest
popped old rest visit top e is = ap reverse e ∙ reverse-append rest (visit ∷ []) ∙ ap (λ v. v ∷ reverse rest) is

pub status_read : (statuses : List Status) (name : ℕ) (read status : Status) → name < length statuses → read ≡ get_or statuses name read → read ≡ status →
    slice_get statuses name ≡ Some status
status_read statuses name read status l at is = slice_get_read statuses (length statuses) name read refl l at ∙ ap (λ (s : Status). Some s) is

-- ---- what is settled

module _ (old now : List Status) (name : ℕ) (visits : List Visit) (inside : Bool) (yes : inside ≡ true → now ≡ set old name Inside)
    (no : inside ≡ false → now ≡ given_up visits (set old name Outside)) where
  pub settled_length : length now ≡ length old
  settled_length =
      elim (cases_Bool inside) [
        | inl t ↦ ap length (yes t) ∙ length-set old name Inside
        | inr f ↦ ap length (no f) ∙ given_length visits (set old name Outside) ∙ length-set old name Outside
      ]

  pub settled_opens : slice_get old name ≡ Some New → Opens name old now
  settled_opens is =
      let apart : Inside ≡ New → ⊥ = λ e. cc in
      elim (cases_Bool inside) [
        | inl t ↦ subst (Opens name old) (sym (yes t)) (set_opens old name Inside apart is)
        | inr f ↦ subst (Opens name old) (sym (no f)) (given_opens visits old name is)
      ]

-- ---- looks

module _ (text : List PlainModule) (scene : Scene text) (statuses : List Status) (name : ℕ) (visits : List Visit) (new : slice_get statuses name ≡ Some New)
    (search : IsSearch text scene statuses (Enter name ∷ visits)) where
  abbrev at : Point
  at = search.path.0.0

  stands : StandsFor text name at
  stands = search.path.0.1

  abbrev driver : (d : Driver) × Drives text at d × ((e : Driver) → Drives text at e → e ≡ d)
  driver = has_one_driver text scene.sound at (point_declared text scene.sound name at stands.is)

  only_here : (P : Point → Type 0) → P at → (p : Point) → StandsFor text name p → P p
  only_here P h p other = subst P (one_point text scene.sound name at p stands other) h

  looked_outside : ¬ Within text scene.left at → IsSearch text scene (given_up visits (set statuses name Outside)) []
  looked_outside not = step_outside text scene statuses name visits (only_here (λ p. ¬ Within text scene.left p) not) search

  -- an input of the top
  module _ (stream : Stream) (of : IsStreamOf text stream) (is : (p : Point) (d : Driver) → StandsFor text name p → Drives text p d → d ≡ outside) where
    from_outside : Drives text at outside
    from_outside = subst (Drives text at) (is at driver.0 stands driver.1) driver.1

    pub looked_stream : IsOneOf text scene.sound stream name → IsSearch text scene (set statuses name Inside) visits
    looked_stream one =
        step_enter_inside text scene statuses name visits (slice_get_within statuses name New new)
        (only_here (Within text scene.all) (by_stream (stream_is text scene.sound stream of name at stands from_outside one))) search

    pub looked_input : ¬ IsOneOf text scene.sound stream name → IsSearch text scene (given_up visits (set statuses name Outside)) []
    looked_input not =
        looked_outside (input_outside text scene at from_outside (λ stream_point. not (stream_known text scene.sound stream of name at stands stream_point)))

  -- a flip-flop
  pub looked_flop : ((p : Point) (d : Driver) → StandsFor text name p → Drives text p d → IsFlop d) → IsSearch text scene (given_up visits (set statuses name Outside)) []
  looked_flop is =
      looked_outside
      (flop_outside text scene at driver.0 driver.1 (is at driver.0 stands driver.1)
      (elim (cases_Bool (scene.left at)) [
        | inl t ↦ (let both : Some New ≡ Some Inside = sym new ∙ search.flops name at stands t in cc)
        | inr f ↦ f
      ]))

  -- a name that waits
  pub looked_reads : (numbers : List ℕ) → ((p : Point) (d : Driver) → StandsFor text name p → Drives text p d → IsDerived d × AreReads text (reads text d) numbers) →
      IsSearch text scene (set statuses name Waiting) (entered numbers (Leave name ∷ visits))
  looked_reads numbers is =
      let here = is at driver.0 stands driver.1 in
      step_wait text scene statuses name visits at driver.0 numbers new stands driver.1 here.0 here.1 search

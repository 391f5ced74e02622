-- What a look at an open point finds.
use Rattle.std.proofs.Common.{◌≡◌, ℕ, ◌<◌, Bool, true, false, List, not, length, refl, sym, ap, ◌∙◌, subst, arith, get_or, slice_index, slice_set}
use Rattle.std.proofs.lemmas.Option.{slice_get-get_or}
use Rattle.fab_systems_laws.specs.Ternary.{unknown, IsBelow}
use Rattle.fab_systems_laws.specs.Ternary.{Tern as PlainTern}
use Rattle.fab_ternary.specs.declared.Tern.{Tern}
use Rattle.fab_ternary.specs.declared.Tern.TheVariants.{No}
use Rattle.fab_ternary.specs.Terns.{plain_tern, is_known}
use Rattle.fab_compiled.specs.Terns.{seen, tern_or_unknown}
use Rattle.fab_compiled.proofs.Written.{tells_known}
use Rattle.fab_network.specs.Network.{shown_tern}
use Rattle.fab_network.specs.Passes.{kept_tern}
use Rattle.fab_settling.specs.Visits.{shows_now, Scene, IsVisit}
use Rattle.fab_settling.specs.Scenes.{IsReady}
use Rattle.fab_settling.specs.declared.passes.Visit.TheVariants.{Found, Still}
use Rattle.fab_network.proofs.Kept.{known_below}
use Rattle.fab_settling.proofs.Open.{open_kept, open_value}

module _ (scene : Scene) (terns : List Tern) (ready : IsReady scene terns) (place : ℕ) (within : place < length scene.order) where
  abbrev point : ℕ
  point = slice_index scene.order place

  -- what the point shows, where a latch holds this
  abbrev shown : (held : PlainTern) → PlainTern
  shown held = shown_tern scene.trees scene.drives held (seen terns scene.leads) point

  pub inside : point < length terns
  inside = omega (arith, (ready.own place within).0, ready.long)

  held_there : plain_tern (get_or scene.held point No) ≡ kept_tern scene.held point
  held_there = sym (ap tern_or_unknown (slice_get-get_or scene.held point No (omega (arith, (ready.own place within).0, ready.latches))))

  module _ (is_open : Bool) (told : is_open ≡ not (is_known (plain_tern (get_or terns point No)))) (open_there : is_open ≡ true) where
    pub none_there : kept_tern terns point ≡ unknown
    none_there = open_kept terns point inside is_open told open_there

    module _ (found : Tern) (still : Bool) (tells : still ≡ not (is_known (plain_tern found))) where
      pub visit_still : (waits : Bool) → still ≡ true → (waits ≡ false → plain_tern found ≡ shown (plain_tern (get_or scene.held point No))) →
          IsVisit scene waits point terns terns Still
      visit_still waits test value = (
        refl,
        none_there,
        λ asked. sym (value asked ∙ ap shown held_there) ∙ open_value found still tells test,
      )

      pub visit_found : (waits : Bool) → still ≡ false → IsBelow (plain_tern found) (shown (plain_tern (get_or scene.held point No))) →
          IsVisit scene waits point terns (slice_set terns point found) Found
      visit_found waits test below =
          let known = tells_known (plain_tern found) still tells test in (
            none_there,
            found,
            refl,
            known,
            known_below (plain_tern found) (shows_now scene terns point) known
                (subst (λ (h : PlainTern). IsBelow (plain_tern found) (shown h)) held_there below),
          )

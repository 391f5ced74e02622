-- Stages one behind the other: where each is ready or refused, so is the whole.
use Rattle.std.proofs.Common.{◌≡◌, ◌⊎◌, ℕ, List, Option, Some, None, Result, Ok, Err, refl, inl, inr}
use Rattle.fab_base.specs.declared.fault.Fault.{Fault}
use Rattle.fab_desk.specs.Files.{Map}
use Rattle.fab_files.specs.Files.{handed_out, Event}
use Rattle.fab_files.specs.Stages.{ReadsFrom, MeetsIn, of_file, of_bytes, ReadsIfNamed, MeetsIfNamed, MeetsBehind, at_first, behind_it, MeetsLast}
use Rattle.fab_judged_laws.specs.Judged.{IsSpelledOrRefused, IsReadyOrRefused}

-- ---- a file with its reader

module _ {A : Type 0} (files : Map) (file : List ℕ) (spells : List ℕ → A → Type 0) (refused : List ℕ → Fault → Type 0)
    (judged : (bytes : List ℕ) → handed_out files file ≡ Ok bytes → IsSpelledOrRefused (spells bytes) (refused bytes)) where
  handed : (given : Result (List ℕ) Fault) → handed_out files file ≡ given → IsReadyOrRefused ((value : A) × ReadsFrom files file spells value) (MeetsIn files file refused)
  handed (Err fault) is = inr (fault, of_file is)
  handed (Ok bytes) is = elim (judged bytes is) [
    | inl spelled ↦ inl (spelled.0, record { bytes = bytes; found = is; spelled = spelled.1 })
    | inr refusal ↦ inr (refusal.0, of_bytes is refusal.1)
  ]

  -- a file is read or refused where its bytes are spelled or refused
  pub file_judged : IsReadyOrRefused ((value : A) × ReadsFrom files file spells value) (MeetsIn files file refused)
  file_judged = handed (handed_out files file) refl

module _ {A : Type 0} (files : Map) (spells : List ℕ → A → Type 0) (refused : (file bytes : List ℕ) → Fault → Type 0)
    (judged : (file bytes : List ℕ) → handed_out files file ≡ Ok bytes → IsSpelledOrRefused (spells bytes) (refused file bytes)) where
  -- so is one that a command may name
  pub named_file_judged : (unnamed : A) (file : Option (List ℕ)) → IsReadyOrRefused ((value : A) × ReadsIfNamed files file spells unnamed value) (MeetsIfNamed files file refused)
  named_file_judged unnamed None = inl (unnamed, refl)
  named_file_judged unnamed (Some file) = file_judged files file spells (refused file) (judged file)

-- ---- one stage behind another

module _ {A Ready : Type 0} (Comes : A → Type 0) (first : Event → Type 0) (behind : A → Event → Type 0) where
  -- what is done behind a stage is ready or refused, where the stage comes to a value or is refused
  pub in_turn : IsReadyOrRefused ((value : A) × Comes value) first → ((value : A) → Comes value → IsReadyOrRefused Ready (behind value)) → IsReadyOrRefused Ready (MeetsBehind Comes first behind)
  in_turn stage next = elim stage [
    | inr refusal ↦ inr (refusal.0, at_first refusal.1)
    | inl come ↦
        elim (next come.0 come.1) [
          | inl ready ↦ inl ready
          | inr refusal ↦ inr (refusal.0, behind_it come.1 refusal.1)
        ]
  ]

-- what is refused behind all files
pub at_last : {Ready : Type 0} (refused : Fault → Type 0) → Ready ⊎ ((fault : Fault) × refused fault) → IsReadyOrRefused Ready (MeetsLast refused)
at_last refused judged = elim judged [
  | inl ready ↦ inl ready
  | inr refusal ↦ inr (refusal.0, (refusal.0, refl, refusal.1))
]

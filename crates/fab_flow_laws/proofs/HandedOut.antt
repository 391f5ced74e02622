-- What is handed out of a file that stands.
use Rattle.std.proofs.Common.{◌≡◌, ◌≤◌, ℕ, true, false, List, length, nat_lt, Some, Ok, refl, inl, inr, arith}
use Rattle.std.specs.Str.{is_utf8}
use Rattle.std.proofs.lemmas.Bool.{cases_Bool, ltb-false}
use Rattle.std.proofs.lemmas.Bool.Decides.{nat_tests}
use Rattle.fab_base.specs.declared.TheConstants.{MAX_FILE_BYTES}
use Rattle.fab_desk.specs.Files.{Map}
use Rattle.fab_files.specs.Files.{handed_out}

-- a file that is handed out is the one that stands there
pub found_is : (files : Map) (name bytes stored : List ℕ) → files name ≡ Some stored → handed_out files name ≡ Ok bytes → bytes ≡ stored
found_is files name bytes stored there found = elim (cases_Bool (is_utf8 name)) [
  | inl t ↦ elim (cases_Bool (nat_lt MAX_FILE_BYTES (length stored))) [
    | inl long ↦ let differ = rw (t, there, long) at found in absurd cc
    | inr short ↦ let same = rw (t, there, short) at found in cc
  ]
  | inr f ↦ let differ = rw f at found in absurd cc
]

-- and it is no longer than a file may be
pub found_short : (files : Map) (name bytes stored : List ℕ) → files name ≡ Some stored → handed_out files name ≡ Ok bytes → length stored ≤ MAX_FILE_BYTES
found_short files name bytes stored there found = elim (cases_Bool (is_utf8 name)) [
  | inl t ↦ elim (cases_Bool (nat_lt MAX_FILE_BYTES (length stored))) [
    | inl long ↦ let differ = rw (t, there, long) at found in absurd cc
    | inr short ↦ ltb-false MAX_FILE_BYTES (length stored) short
  ]
  | inr f ↦ let differ = rw f at found in absurd cc
]

not_long : (bytes : List ℕ) → length bytes ≤ MAX_FILE_BYTES → nat_lt MAX_FILE_BYTES (length bytes) ≡ false
not_long bytes short = grind (arith, nat_tests)

-- a file that is no longer, under a name that is text, is handed out
pub given_out : (files : Map) (name bytes : List ℕ) → is_utf8 name ≡ true → files name ≡ Some bytes → length bytes ≤ MAX_FILE_BYTES → handed_out files name ≡ Ok bytes
given_out files name bytes plain there short = rw (plain, there, not_long bytes short) refl

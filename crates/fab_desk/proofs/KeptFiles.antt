-- The files of a desk in memory, as bytes.
use Rattle.std.proofs.Common.{◌≡◌, ℕ, List, [], ◌∷◌, true, false, cond, map, find, option_map, Some, String, string_bytes, refl}
use Rattle.std.specs.Global.{Vec, Global}
use Rattle.std.specs.Str.{bytes_eq}
use Rattle.fab_desk.specs.Memory.{map_of, kept}

-- the bytes that are kept under a name are those of its first file
pub kept_file_at : (files : List (String Global × Vec ℕ)) (name : List ℕ) → map_of (map kept files) name ≡ option_map (λ f. f.1.items) (find (λ f. bytes_eq (string_bytes f.0) name) files)
kept_file_at [] name = refl
kept_file_at (file ∷ files) name =
    elim (bytes_eq (string_bytes file.0) name)
    as (λ is_named.
    option_map (λ f. f.1) (cond is_named (Some (kept file)) (find (λ f. bytes_eq f.0 name) (map kept files)))
    ≡ option_map (λ f. f.1.items) (cond is_named (Some file) (find (λ f. bytes_eq (string_bytes f.0) name) files)))
    [ true ↦ refl | false ↦ kept_file_at files name ]

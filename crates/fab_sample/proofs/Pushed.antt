-- Files are added one after the other.
use Rattle.std.proofs.Common.{◌≡◌, ℕ, List, [], ◌∷◌, ◌++◌, ap, ◌∙◌, append_assoc}
use Rattle.fab_sample.specs.declared.file.File.{File}

pub pushed_file : (start front old new : List File) (name bytes text : List ℕ) → old ≡ start ++ front → new ≡ old ++ record { name = name; text = bytes } ∷ []
    → bytes ≡ text
    → new ≡ start ++ (front ++ record { name = name; text = text } ∷ [])
pushed_file start front old new name bytes text so_far put is =
    let named : List ℕ → File = λ t. record { name = name; text = t } in
    put
    ∙ ap (λ (t : List ℕ). old ++ named t ∷ []) is
    ∙ ap (λ (l : List File). l ++ named text ∷ []) so_far
    ∙ append_assoc start front (named text ∷ [])

-- Words of Verilog that the profile lacks.
use Rattle.std.specs.Prelude.{ℕ, Bool, List, ◌||◌, codes}
use Rattle.std.specs.Str.{bytes_eq}

unfoldable pub is_foreign : List ℕ → Bool
is_foreign word =
    bytes_eq word (codes "inout") || bytes_eq word (codes "negedge") || bytes_eq word (codes "initial")
    || bytes_eq word (codes "else") || bytes_eq word (codes "case") || bytes_eq word (codes "function")
    || bytes_eq word (codes "task") || bytes_eq word (codes "generate") || bytes_eq word (codes "parameter")
    || bytes_eq word (codes "integer") || bytes_eq word (codes "tri") || bytes_eq word (codes "for")

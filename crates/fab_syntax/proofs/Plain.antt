-- The plain tree of a concatenation, from the list of its parts.
use Rattle.std.proofs.Common.{◌≡◌, map, refl, ap, ◌∙◌, Vec, Global}
use Rattle.fab_syntax.specs.declared.tree.Expr.{Expr, Cat, items_hidden-the_row-Expr-0, Row_of-Expr, end_of-Expr, more_of-Expr, items-the_row-Expr}
use Rattle.fab_syntax.specs.declared.tree.Expr.TheBlock.{hidden-the_row-Expr-0}
use Rattle.fab_syntax.specs.Plain.{plain_expr, plain_row, plain_exprs, concatenation, more}

-- a declared row is plain as the list of its elements is
pub plain_row_of_items : (n : _) (row : Row_of-Expr n) → plain_row row ≡ plain_exprs (map plain_expr (items-the_row-Expr n row))
plain_row_of_items n end_of-Expr = refl
plain_row_of_items n (more_of-Expr e rest) = ap (more (plain_expr e)) (plain_row_of_items _ rest)

-- a concatenation is plain as the list of its parts is
pub plain_concatenation : (parts : Vec Expr Global) → plain_expr (Cat parts) ≡ concatenation (plain_exprs (map plain_expr parts.items))
plain_concatenation parts =
    ap concatenation (plain_row_of_items _ (hidden-the_row-Expr-0 parts) ∙ ap (λ es. plain_exprs (map plain_expr es)) (items_hidden-the_row-Expr-0 parts))

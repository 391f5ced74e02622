-- What holds of an expression and of all in it, part by part.
use Rattle.std.proofs.Common.{List, [], ◌∷◌, ◌++◌, All}
use Rattle.std.proofs.lemmas.List.Elements.{All-nil, All-cons, All-append, All-head, All-tail}
use Rattle.fab_syntax.specs.Plain.{PlainExpr, PlainExprs, constant, variable, pick, part, concatenation, complement, operation, conditional, none, more, plain_exprs}
use Rattle.fab_syntax.specs.Sound.{subexpressions, parts_subexpressions, Every}

abbrev mutual
  pub Holds : (P : PlainExpr → Type 0) → PlainExpr → Type 0
  Holds P (constant bits) = P (constant bits)
  Holds P (variable name) = P (variable name)
  Holds P (pick name index) = P (pick name index) × Holds P index
  Holds P (part name high low) = P (part name high low)
  Holds P (concatenation es) = P (concatenation es) × PartsHold P es
  Holds P (complement e) = P (complement e) × Holds P e
  Holds P (operation op a b) = P (operation op a b) × Holds P a × Holds P b
  Holds P (conditional c a b) = P (conditional c a b) × Holds P c × Holds P a × Holds P b

  pub PartsHold : (P : PlainExpr → Type 0) → PlainExprs → Type 0
  PartsHold P none = Unit {0}
  PartsHold P (more e es) = Holds P e × PartsHold P es

module _ (P : PlainExpr → Type 0) where
  only : (e : PlainExpr) → P e → All P (e ∷ [])
  only e holds = All-cons P e [] holds (All-nil P)

  mutual
    pub every : (e : PlainExpr) → Holds P e → Every P e
    every (constant bits) holds = only (constant bits) holds
    every (variable name) holds = only (variable name) holds
    every (pick name index) holds = All-cons P (pick name index) (subexpressions index) holds.0 (every index holds.1)
    every (part name high low) holds = only (part name high low) holds
    every (concatenation es) holds = All-cons P (concatenation es) (parts_subexpressions es) holds.0 (every_part es holds.1)
    every (complement e) holds = All-cons P (complement e) (subexpressions e) holds.0 (every e holds.1)
    every (operation op a b) holds =
        All-cons P (operation op a b) (subexpressions a ++ subexpressions b) holds.0 (All-append P (subexpressions a) (subexpressions b) (every a holds.1) (every b holds.2))
    every (conditional c a b) holds =
        All-cons P (conditional c a b) (subexpressions c ++ (subexpressions a ++ subexpressions b)) holds.0
        (All-append P (subexpressions c) (subexpressions a ++ subexpressions b) (every c holds.1)
        (All-append P (subexpressions a) (subexpressions b) (every a holds.2) (every b holds.3)))

    every_part : (es : PlainExprs) → PartsHold P es → All P (parts_subexpressions es)
    every_part none holds = All-nil P
    every_part (more e es) holds = All-append P (subexpressions e) (parts_subexpressions es) (every e holds.0) (every_part es holds.1)

-- ---- parts from their list, and facts of each

pub parts_hold : (P : PlainExpr → Type 0) (es : List PlainExpr) → All (Holds P) es → PartsHold P (plain_exprs es)
parts_hold P [] all = tt
parts_hold P (e ∷ es) all = (All-head (Holds P) e es all, parts_hold P es (All-tail (Holds P) e es all))

module _ (P Q : PlainExpr → Type 0) (weaker : (e : PlainExpr) → P e → Q e) where
  mutual
    pub holds_weaker : (e : PlainExpr) → Holds P e → Holds Q e
    holds_weaker (constant bits) holds = weaker (constant bits) holds
    holds_weaker (variable name) holds = weaker (variable name) holds
    holds_weaker (pick name index) holds = (weaker (pick name index) holds.0, holds_weaker index holds.1)
    holds_weaker (part name high low) holds = weaker (part name high low) holds
    holds_weaker (concatenation es) holds = (weaker (concatenation es) holds.0, parts_weaker es holds.1)
    holds_weaker (complement e) holds = (weaker (complement e) holds.0, holds_weaker e holds.1)
    holds_weaker (operation op a b) holds = (weaker (operation op a b) holds.0, holds_weaker a holds.1, holds_weaker b holds.2)
    holds_weaker (conditional c a b) holds = (weaker (conditional c a b) holds.0, holds_weaker c holds.1, holds_weaker a holds.2, holds_weaker b holds.3)

    parts_weaker : (es : PlainExprs) → PartsHold P es → PartsHold Q es
    parts_weaker none holds = tt
    parts_weaker (more e es) holds = (holds_weaker e holds.0, parts_weaker es holds.1)

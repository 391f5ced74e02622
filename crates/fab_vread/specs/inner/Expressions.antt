-- How an expression is read, token by token.
use Rattle.std.specs.Prelude.{ℕ, Bool, true, false, List, [], ◌∷◌, ◌++◌, ◌==◌, ◌&&◌, nat_lt, length, map, reverse, if◌then◌else◌, Option, Some, None, Result, Ok, Err}
use Rattle.fab_base.specs.declared.problem.Problem.{Problem}
use Rattle.fab_base.specs.declared.problem.Problem.TheVariants as problems
use Rattle.fab_base.specs.declared.words.Reason.TheVariants as reasons
use Rattle.fab_syntax.specs.declared.tree.Op.{Op}
use Rattle.fab_syntax.specs.Plain.{PlainExpr, plain_expr, plain_exprs, constant, variable, pick, part, concatenation, complement, operation, conditional}
use Rattle.fab_tokens.specs.declared.token.Token.{Token}
use Rattle.fab_tokens.specs.declared.token.Token.TheVariants as tokens
use Rattle.fab_vread.specs.declared.expressions.Over.{Over}
use Rattle.fab_vread.specs.declared.expressions.Over.TheVariants as overs
use Rattle.fab_vread.specs.declared.levels.Wanted.{Wanted}
use Rattle.fab_vread.specs.declared.levels.Wanted.TheVariants as wants
use Rattle.fab_vread.specs.declared.expressions.Read.{Read}
use Rattle.fab_vread.specs.declared.expressions.Read.TheVariants as reads
use Rattle.fab_vread.specs.declared.levels.Bracket.{Bracket}
use Rattle.fab_vread.specs.declared.levels.Bracket.TheVariants as brackets
use Rattle.fab_vread.specs.declared.levels.Level.{Level}
use Rattle.fab_vread.specs.declared.levels.PassedWanted.{PassedWanted}
use Rattle.fab_vread.specs.declared.levels.PassedWanted.TheVariants as passed_wants
use Rattle.fab_vread.specs.declared.levels.PassedBracket.{PassedBracket}
use Rattle.fab_vread.specs.declared.levels.PassedBracket.TheVariants as passed_brackets
use Rattle.fab_vread.specs.declared.levels.Passed.{Passed}
use Rattle.fab_vread.specs.declared.expressions.Reading.{Reading}
use Rattle.fab_vread.specs.declared.expressions.Reading.TheVariants as readings
use Rattle.fab_vread.specs.declared.expressions.Outcome.{Outcome}
use Rattle.fab_vread.specs.declared.expressions.Outcome.TheVariants as outcomes

-- ---- the reader's values as plain data

-- what stands before an operand that is to come
pub data Before : Type 0 where
  nothing : Before
  negation : Before
  left : Op → PlainExpr → Before
  test : PlainExpr → Before
  choice : (test yes : PlainExpr) → Before

-- what has been read after an operand
pub data Behind : Type 0 where
  operand : PlainExpr → Behind
  branch : (test yes : PlainExpr) → Behind
  whole : PlainExpr → Behind

-- a bracket that is open
pub data Opened : Type 0 where
  parenthesis : Opened
  brace : (parts : List PlainExpr) → Opened
  index : (name : List ℕ) → Opened

pub record PlainLevel : Type 0 where
  pub before : Before
  pub bracket : Opened

-- how far an expression has been read inside its innermost bracket
pub data Spot : Type 0 where
  wanting : Before → Spot
  named : Before → (name : List ℕ) → Spot
  select : Before → (name : List ℕ) → Spot
  high : Before → (name : List ℕ) → (high : ℕ) → Spot
  colon : Before → (name : List ℕ) → (high : ℕ) → Spot
  low : Before → (name : List ℕ) → (high low : ℕ) → Spot
  after : Behind → Spot

-- what a token does to an expression
pub data Effect : Type 0 where
  going : Spot → Effect
  ended : PlainExpr → Token → Effect

abbrev pub plain_wanted : Wanted → Before
plain_wanted wants.Nothing = nothing
plain_wanted wants.Complement = negation
plain_wanted (wants.Left op e) = left op (plain_expr e)
plain_wanted (wants.Test e) = test (plain_expr e)
plain_wanted (wants.Choice c e) = choice (plain_expr c) (plain_expr e)

abbrev pub plain_read : Read → Behind
plain_read (reads.Operand e) = operand (plain_expr e)
plain_read (reads.Branch c e) = branch (plain_expr c) (plain_expr e)
plain_read (reads.Whole e) = whole (plain_expr e)

abbrev pub plain_bracket : Bracket → Opened
plain_bracket brackets.Parenthesis = parenthesis
plain_bracket (brackets.Brace parts) = brace (map plain_expr parts.items)
plain_bracket (brackets.Index name) = index name

abbrev pub level : Before → Opened → PlainLevel
level before bracket = record { before = before; bracket = bracket }

abbrev pub plain_level : Level → PlainLevel
plain_level inner = level (plain_wanted inner.before) (plain_bracket inner.bracket)

-- in a bracket that is too deep an empty constant stands for each expression
abbrev pub plain_passed_wanted : PassedWanted → Before
plain_passed_wanted passed_wants.Nothing = nothing
plain_passed_wanted passed_wants.Complement = negation
plain_passed_wanted (passed_wants.Left op) = left op (constant [])
plain_passed_wanted passed_wants.Test = test (constant [])
plain_passed_wanted passed_wants.Choice = choice (constant []) (constant [])

abbrev pub plain_passed_bracket : PassedBracket → Opened
plain_passed_bracket passed_brackets.Parenthesis = parenthesis
plain_passed_bracket passed_brackets.Brace = brace []
plain_passed_bracket passed_brackets.Index = index []

abbrev pub plain_passed : Passed → PlainLevel
plain_passed inner = level (plain_passed_wanted inner.before) (plain_passed_bracket inner.bracket)

-- brackets that are open, the innermost first
unfoldable pub plain_levels : List Level → List Passed → List PlainLevel
plain_levels kept passed = reverse (map plain_level kept ++ map plain_passed passed)

abbrev pub plain_reading : Reading → Spot
plain_reading (readings.Wanting w) = wanting (plain_wanted w)
plain_reading (readings.Named w name) = named (plain_wanted w) name
plain_reading (readings.Select w name) = select (plain_wanted w) name
plain_reading (readings.High w name n) = high (plain_wanted w) name n
plain_reading (readings.Colon w name n) = colon (plain_wanted w) name n
plain_reading (readings.Low w name n m) = low (plain_wanted w) name n m
plain_reading (readings.After read) = after (plain_read read)

abbrev pub plain_outcome : Outcome → Effect
plain_outcome (outcomes.More reading) = going (plain_reading reading)
plain_outcome (outcomes.End e token) = ended (plain_expr e) token

-- ---- the steps

abbrev pub refused : {X : Type 0} → Result X Problem
refused = Err (problems.Malformed reasons.Token)

abbrev pub completed : Before → PlainExpr → Behind
completed nothing e = operand e
completed negation e = whole (complement e)
completed (left op a) e = whole (operation op a e)
completed (test c) e = branch c e
completed (choice c a) e = whole (conditional c a e)

abbrev pub after_operand : Before → PlainExpr → Effect
after_operand before e = going (after (completed before e))

-- what is above its bound: the first, and brackets before bits
abbrev pub with_depth : Option Over → (opened : ℕ) → Option Over
with_depth over opened = if nat_lt opened 300 then over else Some overs.Depth

abbrev pub with_bits : Option Over → (bits : ℕ) → Option Over
with_bits None bits = if nat_lt 128 bits then Some (overs.Bits bits) else None
with_bits (Some over) bits = Some over

-- an expression inside more brackets than the bound is not kept: the text is refused
abbrev pub kept : (outside : ℕ) → PlainExpr → PlainExpr
kept outside e = if nat_lt outside 300 then e else constant []

-- nor is what stands before and in a bracket that is too deep
abbrev pub kept_before : (outside : ℕ) → Before → Before
kept_before outside nothing = nothing
kept_before outside negation = negation
kept_before outside (left op e) = left op (kept outside e)
kept_before outside (test e) = test (kept outside e)
kept_before outside (choice c a) = choice (kept outside c) (kept outside a)

abbrev pub kept_bracket : (outside : ℕ) → Opened → Opened
kept_bracket outside parenthesis = parenthesis
kept_bracket outside (brace parts) = brace (if nat_lt outside 300 then parts else [])
kept_bracket outside (index name) = index (if nat_lt outside 300 then name else [])

abbrev pub kept_level : (outside : ℕ) → Before → Opened → PlainLevel
kept_level outside before bracket = level (kept_before outside before) (kept_bracket outside bracket)

-- what a token leaves of an expression
pub record Stepped : Type 0 where
  pub levels : List PlainLevel
  pub over : Option Over
  pub effect : Effect

abbrev pub stepped : List PlainLevel → Option Over → Effect → Stepped
stepped levels over effect = record { levels = levels; over = over; effect = effect }

abbrev pub opened : List PlainLevel → Option Over → Before → Opened → Stepped
opened levels over before bracket =
    stepped (kept_level (length levels) before bracket ∷ levels) (with_depth over (length levels)) (going (wanting nothing))

abbrev pub is_nothing : Before → Bool
is_nothing nothing = true
is_nothing negation = false
is_nothing (left op e) = false
is_nothing (test c) = false
is_nothing (choice c a) = false

abbrev pub wanting_mark : List PlainLevel → Option Over → Before → ℕ → Result Stepped Problem
wanting_mark levels over before byte =
    if byte == 40 then Ok (opened levels over before parenthesis)
    else if byte == 123 then Ok (opened levels over before (brace []))
    else if (byte == 126) && is_nothing before then Ok (stepped levels over (going (wanting negation)))
    else refused

-- an operand is to come
abbrev pub after_wanting : List PlainLevel → Option Over → Before → Token → Result Stepped Problem
after_wanting levels over before (tokens.Identifier name) = Ok (stepped levels over (going (named before name)))
after_wanting levels over before (tokens.Constant bits) =
    Ok (stepped levels (with_bits over (length bits)) (after_operand before (constant bits)))
after_wanting levels over before (tokens.Mark byte) = wanting_mark levels over before byte
after_wanting levels over before _ = refused

-- what a token leaves of an expression where it opens no bracket and is no constant
pub record Shown : Type 0 where
  pub levels : List PlainLevel
  pub effect : Effect

abbrev pub shown : List PlainLevel → Effect → Shown
shown levels effect = record { levels = levels; effect = effect }

abbrev pub close_brace : List PlainLevel → Before → List PlainExpr → ℕ → Result Shown Problem
close_brace levels before parts byte =
    if byte == 44 then Ok (shown (kept_level (length levels) before (brace parts) ∷ levels) (going (wanting nothing)))
    else if byte == 125 then Ok (shown levels (after_operand before (concatenation (plain_exprs parts))))
    else refused

abbrev pub close_by : List PlainLevel → Before → Opened → PlainExpr → ℕ → Result Shown Problem
close_by levels before parenthesis e byte = if byte == 41 then Ok (shown levels (after_operand before e)) else refused
close_by levels before (brace parts) e byte = close_brace levels before (parts ++ e ∷ []) byte
close_by levels before (index name) e byte = if byte == 93 then Ok (shown levels (after_operand before (pick name e))) else refused

abbrev pub close : List PlainLevel → PlainLevel → PlainExpr → Token → Result Shown Problem
close levels inner e (tokens.Mark byte) = close_by levels inner.before inner.bracket (kept (length levels) e) byte
close levels inner e _ = refused

-- an expression is whole
abbrev pub after_whole : List PlainLevel → PlainExpr → Token → Result Shown Problem
after_whole [] e token = Ok (shown [] (ended e token))
after_whole (inner ∷ levels) e token = close levels inner e token

abbrev pub after_single : List PlainLevel → PlainExpr → Token → Result Shown Problem
after_single levels e (tokens.Operator op) = Ok (shown levels (going (wanting (left op e))))
after_single levels e (tokens.Mark byte) =
    if byte == 63 then Ok (shown levels (going (wanting (test e)))) else after_whole levels e (tokens.Mark byte)
after_single levels e token = after_whole levels e token

abbrev pub is_this_mark : ℕ → Token → Bool
is_this_mark mark (tokens.Mark byte) = byte == mark
is_this_mark mark _ = false

-- an operand has been read
abbrev pub after_behind : List PlainLevel → Behind → Token → Result Shown Problem
after_behind levels (operand e) token = after_single levels e token
after_behind levels (branch c a) token = if is_this_mark 58 token then Ok (shown levels (going (wanting (choice c a)))) else refused
after_behind levels (whole e) token = after_whole levels e token

abbrev pub with_over : Option Over → Result Shown Problem → Result Stepped Problem
with_over over (Ok given) = Ok (stepped given.levels over given.effect)
with_over over (Err problem) = Err problem

abbrev pub after_name : List PlainLevel → Option Over → Before → (name : List ℕ) → Token → Result Stepped Problem
after_name levels over before name token =
    if is_this_mark 91 token then Ok (stepped levels (with_depth over (length levels)) (going (select before name)))
    else with_over over (after_behind levels (completed before (variable name)) token)

abbrev pub after_select : List PlainLevel → Option Over → Before → (name : List ℕ) → Token → Result Stepped Problem
after_select levels over before name (tokens.Number n) = Ok (stepped levels over (going (high before name n)))
after_select levels over before name token = after_wanting (kept_level (length levels) before (index name) ∷ levels) over nothing token

abbrev pub after_high : Before → (name : List ℕ) → ℕ → Token → Result Effect Problem
after_high before name n (tokens.Mark byte) =
    if byte == 93 then Ok (after_operand before (part name n n)) else if byte == 58 then Ok (going (colon before name n)) else refused
after_high before name n _ = refused

abbrev pub after_colon : Before → (name : List ℕ) → ℕ → Token → Result Effect Problem
after_colon before name n (tokens.Number m) = Ok (going (low before name n m))
after_colon before name n _ = refused

abbrev pub after_low : Before → (name : List ℕ) → (high low : ℕ) → Token → Result Effect Problem
after_low before name n m token = if is_this_mark 93 token then Ok (after_operand before (part name n m)) else refused

abbrev pub inside : List PlainLevel → Option Over → Result Effect Problem → Result Stepped Problem
inside levels over (Ok effect) = Ok (stepped levels over effect)
inside levels over (Err problem) = Err problem

-- the next token of an expression
unfoldable pub taken : List PlainLevel → Option Over → Spot → Token → Result Stepped Problem
taken levels over (wanting before) token = after_wanting levels over before token
taken levels over (named before name) token = after_name levels over before name token
taken levels over (select before name) token = after_select levels over before name token
taken levels over (high before name n) token = inside levels over (after_high before name n token)
taken levels over (colon before name n) token = inside levels over (after_colon before name n token)
taken levels over (low before name n m) token = inside levels over (after_low before name n m token)
taken levels over (after behind) token = with_over over (after_behind levels behind token)

-- How the tree of a text is built, token by token.
use Rattle.std.specs.Prelude.{ℕ, Bool, true, false, List, [], ◌∷◌, ◌++◌, ◌&&◌, nat_lt, length, map, if◌then◌else◌, Option, Some, None, Result, Ok, Err}
use Rattle.fab_base.specs.declared.problem.Problem.{Problem}
use Rattle.fab_base.specs.declared.problem.Problem.TheVariants as problems
use Rattle.fab_base.specs.declared.fault.Fault.{Fault}
use Rattle.fab_base.specs.Reading.{fault_at}
use Rattle.fab_base.specs.declared.words.Reason.TheVariants as reasons
use Rattle.fab_base.specs.declared.words.Quantity.TheVariants as quantities
use Rattle.fab_syntax.specs.declared.tree.Shape.{Shape}
use Rattle.fab_syntax.specs.declared.tree.Port.{Port}
use Rattle.fab_syntax.specs.Plain.{PlainExpr, PlainJoin, PlainItem, PlainModule, plain_expr, constant, plain_join, plain_item, plain_module, wire, reg, assign, latch, clocked, instance}
use Rattle.fab_tokens.specs.declared.token.Token.{Token}
use Rattle.fab_tokens.specs.declared.scanner.Scan.{Scan}
use Rattle.fab_tokens.specs.declared.scanner.Scan.TheVariants as scans
use Rattle.fab_tokens.specs.declared.scanner.Step.{Step}
use Rattle.fab_tokens.specs.Scanning.{after_byte, at_end}
use Rattle.fab_vread.specs.declared.expressions.Over.{Over}
use Rattle.fab_vread.specs.declared.expressions.Over.TheVariants as overs
use Rattle.fab_vread.specs.declared.places.Kind.{Kind}
use Rattle.fab_vread.specs.declared.places.Kind.TheVariants as kinds
use Rattle.fab_vread.specs.declared.places.Header.TheVariants as headers
use Rattle.fab_vread.specs.declared.places.Process.TheVariants as processes
use Rattle.fab_vread.specs.declared.places.Joins.TheVariants as joinings
use Rattle.fab_vread.specs.declared.places.Purpose.{Purpose}
use Rattle.fab_vread.specs.declared.places.Purpose.TheVariants as purposes
use Rattle.fab_vread.specs.declared.places.Place.{Place}
use Rattle.fab_vread.specs.declared.places.Place.TheVariants as places
use Rattle.fab_vread.specs.declared.places.Move.{Move}
use Rattle.fab_vread.specs.declared.places.Move.TheVariants as moves
use Rattle.fab_vread.specs.declared.parser.Parser.{Parser}
use Rattle.fab_vread.specs.declared.parser.State.{State}
use Rattle.fab_vread.specs.declared.parser.State.TheVariants as states
use Rattle.fab_vread.specs.inner.Expressions.{PlainLevel, Spot, Effect, Stepped, wanting, nothing, going, ended, plain_reading, refused, is_this_mark, taken}
use Rattle.fab_vread.specs.inner.OpenLevels.{levels_of}
use Rattle.fab_vread.specs.inner.Places.{move_of}
use Rattle.fab_vread.specs.Refusals.{next_line}

-- where the next token stands: outside expressions, or in one with these brackets open
pub data PlainState : Type 0 where
  outside : Place → PlainState
  inside : Purpose → List PlainLevel → Spot → PlainState

abbrev pub plain_state : State → List PlainLevel → PlainState
plain_state (states.Outside place) levels = outside place
plain_state (states.Inside purpose reading) levels = inside purpose levels (plain_reading reading)

-- what has been read of a text
pub record Machine : Type 0 where
  pub modules : List PlainModule
  pub name : List ℕ
  pub ports : List Port
  pub items : List PlainItem
  pub joins : List PlainJoin
  pub gate : PlainExpr
  pub state : PlainState
  pub over : Option Over

abbrev pub plain_parser : Parser → Machine
plain_parser parser = record {
  modules = map plain_module parser.modules.items;
  name = parser.name;
  ports = parser.ports.items;
  items = map plain_item parser.items.items;
  joins = map plain_join parser.joins.items;
  gate = plain_expr parser.gate;
  state = plain_state parser.state (levels_of parser.levels);
  over = parser.over;
}

unfoldable pub first_machine : Machine
first_machine = record {
  modules = [];
  name = [];
  ports = [];
  items = [];
  joins = [];
  gate = constant [];
  state = outside (places.Header headers.Start);
  over = None;
}

abbrev pub with_port : Machine → Bool → Shape → (name : List ℕ) → Machine
with_port m input shape name =
    record m { ports = m.ports ++ record { input = input; shape = shape; name = name } ∷ []; state = outside (places.Header headers.PortEnd) }

abbrev pub with_item_at : Machine → PlainItem → Place → Machine
with_item_at m item place = record m { items = m.items ++ item ∷ []; state = outside place }

abbrev pub with_item : Machine → PlainItem → Machine
with_item m item = with_item_at m item places.Item

abbrev pub declared : Machine → Kind → Shape → (name : List ℕ) → Machine
declared m kinds.Input shape name = with_port m true shape name
declared m kinds.Output shape name = with_port m false shape name
declared m kinds.Wire shape name = with_item_at m (wire shape name) places.Semicolon
declared m kinds.Reg shape name = with_item_at m (reg shape name) places.Semicolon

abbrev pub with_module : Machine → PlainModule → Machine
with_module m whole = record m { modules = m.modules ++ whole ∷ []; state = outside (places.Header headers.Start) }

-- the module in progress is whole
abbrev pub closed : Machine → Machine
closed m = with_module (record m { name = []; ports = []; items = [] }) (record { name = m.name; ports = m.ports; items = m.items })

abbrev pub with_join : Machine → (of name port : List ℕ) → Option PlainExpr → Machine
with_join m of name port to =
    record m { joins = m.joins ++ record { port = port; to = to } ∷ []; state = outside (places.Joins of name joinings.End) }

abbrev pub instanced : Machine → (of name : List ℕ) → Machine
instanced m of name = with_item_at (record m { joins = [] }) (instance of name m.joins) places.Semicolon

abbrev pub with_gate : Machine → PlainExpr → Machine
with_gate m e = record m { gate = e; state = outside (places.Process processes.LatchTarget) }

abbrev pub with_latch : Machine → (target : List ℕ) → PlainExpr → Machine
with_latch m target e = with_item (record m { gate = constant [] }) (latch target m.gate e)

-- where this mark follows
abbrev pub on : (mark : ℕ) → Token → Result Machine Problem → Result Machine Problem
on mark token given = if is_this_mark mark token then given else refused

-- an expression has ended before this token
abbrev pub with_value : Machine → Purpose → PlainExpr → Token → Result Machine Problem
with_value m (purposes.Assign target) e token = on 59 token (Ok (with_item m (assign target e)))
with_value m purposes.Gate e token = on 41 token (Ok (with_gate m e))
with_value m (purposes.Latch target) e token = on 59 token (Ok (with_latch m target e))
with_value m (purposes.Clocked clock target) e token = on 59 token (Ok (with_item m (clocked clock target e)))
with_value m (purposes.Join of name port) e token = on 41 token (Ok (with_join m of name port (Some e)))

abbrev pub with_effect : Machine → Purpose → List PlainLevel → Effect → Result Machine Problem
with_effect m purpose levels (going spot) = Ok (record m { state = inside purpose levels spot })
with_effect m purpose levels (ended e token) = with_value m purpose e token

abbrev pub with_stepped : Machine → Purpose → Result Stepped Problem → Result Machine Problem
with_stepped m purpose (Ok after) = with_effect (record m { over = after.over }) purpose after.levels after.effect
with_stepped m purpose (Err problem) = Err problem

abbrev pub valued : Machine → Purpose → List PlainLevel → Spot → Token → Result Machine Problem
valued m purpose levels spot token = with_stepped m purpose (taken levels m.over spot token)

-- an expression begins
abbrev pub begun : Machine → Purpose → Machine
begun m purpose = record m { state = inside purpose [] (wanting nothing) }

abbrev pub moved : Machine → Move → Result Machine Problem
moved m (moves.To place) = Ok (record m { state = outside place })
moved m (moves.Begin name) = Ok (record m { name = name; state = outside (places.Header headers.Open) })
moved m (moves.Declare kind shape name) = Ok (declared m kind shape name)
moved m moves.End = Ok (closed m)
moved m (moves.Unjoined of name port) = Ok (with_join m of name port None)
moved m (moves.Instance of name) = Ok (instanced m of name)
moved m (moves.Expression purpose) = Ok (begun m purpose)
moved m (moves.First purpose token) = valued m purpose [] (wanting nothing) token

abbrev pub made : Machine → Result Move Problem → Result Machine Problem
made m (Ok move) = moved m move
made m (Err problem) = Err problem

abbrev pub after_token_at : Machine → PlainState → Token → Result Machine Problem
after_token_at m (outside place) token = made m (move_of place token)
after_token_at m (inside purpose levels spot) token = valued m purpose levels spot token

-- the next token
unfoldable pub after_token : Machine → Token → Result Machine Problem
after_token m token = after_token_at m m.state token

-- ---- a text, with the lines of its tokens

abbrev pub limit : Over → Problem
limit overs.Depth = problems.Limit quantities.ExpressionDepth 301 300
limit (overs.Bits bits) = problems.Limit quantities.LiteralBits bits 128

-- How far a text has been read: what its tokens gave, the line of the last of them, what the bytes since then are, and the
-- lines of the last byte and the next.
pub record Progress : Type 0 where
  pub machine : Machine
  pub token_line : ℕ
  pub scan : Scan
  pub last : ℕ
  pub line : ℕ

abbrev pub first_progress : Progress
first_progress = record { machine = first_machine; token_line = 1; scan = scans.Between; last = 1; line = 1 }

-- What is above its bound is reported when its line is over.
abbrev pub past : Option Over → (at line : ℕ) → Option Problem
past None at line = None
past (Some over) at line = if nat_lt at line then Some (limit over) else None

abbrev pub located : {X : Type 0} → (file : List ℕ) → (line : ℕ) → Result X Problem → Result X Fault
located file line (Ok x) = Ok x
located file line (Err problem) = Err (fault_at file line problem)

abbrev pub and_go : {X Y : Type 0} → Result X Fault → (X → Result Y Fault) → Result Y Fault
and_go (Ok x) more = more x
and_go (Err fault) more = Err fault

-- nothing is above its bound on a line that is over
abbrev pub line_checked : (file : List ℕ) → Progress → Option Problem → Result Progress Fault
line_checked file p None = Ok p
line_checked file p (Some problem) = Err (fault_at file p.token_line problem)

abbrev pub with_machine : Progress → Result Machine Fault → Result Progress Fault
with_machine p (Ok m) = Ok (record p { machine = m; token_line = p.line })
with_machine p (Err fault) = Err fault

unfoldable pub after_lexeme : (file : List ℕ) → Progress → Token → Result Progress Fault
after_lexeme file p token =
    and_go (line_checked file p (past p.machine.over p.token_line p.line))
    (λ q. with_machine q (located file q.line (after_token q.machine token)))

abbrev pub after_optional : (file : List ℕ) → Progress → Option Token → Result Progress Fault
after_optional file p None = Ok p
after_optional file p (Some token) = after_lexeme file p token

abbrev pub behind_byte : Progress → Scan → (byte : ℕ) → Progress
behind_byte p scan byte = record p { scan = scan; last = p.line; line = next_line p.line byte }

abbrev pub after_step : (file : List ℕ) → Progress → Step → (byte : ℕ) → Result Progress Fault
after_step file p step byte =
    and_go (after_optional file p step.first) (λ q.
    and_go (after_optional file q step.second) (λ r.
    Ok (behind_byte r step.scan byte)))

unfoldable pub after_char : (file : List ℕ) → Progress → (byte : ℕ) → Result Progress Fault
after_char file p byte = after_step file p (after_byte p.scan byte) byte

unfoldable pub read_from : (file : List ℕ) → Progress → List ℕ → Result Progress Fault
read_from file p [] = Ok p
read_from file p (byte ∷ bytes) = and_go (after_char file p byte) (λ q. read_from file q bytes)

abbrev pub is_start : Place → Bool
is_start (places.Header headers.Start) = true
is_start _ = false

abbrev pub at_start : PlainState → Bool
at_start (outside place) = is_start place
at_start (inside purpose levels spot) = false

abbrev pub is_done : Machine → Bool
is_done m = at_start m.state && nat_lt 0 (length m.modules)

abbrev pub unless_over : (file : List ℕ) → ℕ → Option Over → List PlainModule → Result (List PlainModule) Fault
unless_over file line None modules = Ok modules
unless_over file line (Some over) modules = Err (fault_at file line (limit over))

-- the text ends here
abbrev pub closing : (file : List ℕ) → Progress → Result (List PlainModule) Fault
closing file p =
    if is_done p.machine then unless_over file p.token_line p.machine.over p.machine.modules
    else Err (fault_at file p.line (problems.Malformed reasons.Token))

abbrev pub finished : (file : List ℕ) → Progress → Result (List PlainModule) Fault
finished file p =
    and_go (after_optional file (record p { line = p.last }) (at_end p.scan)) (λ q.
    and_go (line_checked file q (past q.machine.over q.token_line q.line)) (λ r. closing file r))

-- the tree of a text, or its first refusal
unfoldable pub read_of : (file bytes : List ℕ) → Result (List PlainModule) Fault
read_of file bytes = and_go (read_from file first_progress bytes) (λ p. finished file p)

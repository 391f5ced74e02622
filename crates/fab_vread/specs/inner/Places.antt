-- What a token outside an expression does.
use Rattle.std.specs.Prelude.{ℕ, ◌+◌, List, ◌==◌, nat_lt, if◌then◌else◌, Result, Ok, Err}
use Rattle.fab_base.specs.declared.problem.Problem.{Problem}
use Rattle.fab_base.specs.declared.problem.Problem.TheVariants as problems
use Rattle.fab_syntax.specs.declared.tree.Shape.TheVariants as shapes
use Rattle.fab_tokens.specs.declared.token.Token.{Token}
use Rattle.fab_tokens.specs.declared.token.Token.TheVariants as tokens
use Rattle.fab_tokens.specs.declared.token.Keyword.{Keyword}
use Rattle.fab_tokens.specs.declared.token.Keyword.TheVariants as keywords
use Rattle.fab_vread.specs.declared.places.Kind.{Kind}
use Rattle.fab_vread.specs.declared.places.Kind.TheVariants as kinds
use Rattle.fab_vread.specs.declared.places.Header.{Header}
use Rattle.fab_vread.specs.declared.places.Header.TheVariants as headers
use Rattle.fab_vread.specs.declared.places.Declaration.{Declaration}
use Rattle.fab_vread.specs.declared.places.Declaration.TheVariants as declarations
use Rattle.fab_vread.specs.declared.places.Process.{Process}
use Rattle.fab_vread.specs.declared.places.Process.TheVariants as processes
use Rattle.fab_vread.specs.declared.places.Joins.{Joins}
use Rattle.fab_vread.specs.declared.places.Joins.TheVariants as joinings
use Rattle.fab_vread.specs.declared.places.Purpose.{Purpose}
use Rattle.fab_vread.specs.declared.places.Purpose.TheVariants as purposes
use Rattle.fab_vread.specs.declared.places.Place.{Place}
use Rattle.fab_vread.specs.declared.places.Place.TheVariants as places
use Rattle.fab_vread.specs.declared.places.Move.{Move}
use Rattle.fab_vread.specs.declared.places.Move.TheVariants as moves
use Rattle.fab_grammar_defs.specs.Words.{is_foreign}
use Rattle.fab_vread.specs.inner.Expressions.{refused, is_this_mark}

abbrev pub to : Place → Result Move Problem
to place = Ok (moves.To place)

abbrev pub name_of : Token → Result (List ℕ) Problem
name_of (tokens.Identifier name) = Ok name
name_of _ = refused

-- a name, and what follows from it
abbrev pub named : Result (List ℕ) Problem → (List ℕ → Move) → Result Move Problem
named (Ok name) move = Ok (move name)
named (Err problem) move = Err problem

abbrev pub on_mark : Token → (mark : ℕ) → Place → Result Move Problem
on_mark token mark place = if is_this_mark mark token then to place else refused

abbrev pub begin_on : Token → (mark : ℕ) → Purpose → Result Move Problem
begin_on token mark purpose = if is_this_mark mark token then Ok (moves.Expression purpose) else refused

abbrev pub foreign_or : Result Move Problem → (name : List ℕ) → Result Move Problem
foreign_or other name = if is_foreign name then Err (problems.Unsupported name) else other

abbrev pub port_keyword : Keyword → Result Move Problem
port_keyword keywords.Input = to (places.Declaration kinds.Input declarations.RangeOrName)
port_keyword keywords.Output = to (places.Declaration kinds.Output declarations.RangeOrName)
port_keyword _ = refused

-- a port begins
abbrev pub port_start : Token → Result Move Problem
port_start (tokens.Keyword keyword) = port_keyword keyword
port_start (tokens.Identifier name) = foreign_or refused name
port_start _ = refused

abbrev pub module_keyword : Keyword → Result Move Problem
module_keyword keywords.Module = to (places.Header headers.Name)
module_keyword _ = refused

abbrev pub module_start : Token → Result Move Problem
module_start (tokens.Keyword keyword) = module_keyword keyword
module_start _ = refused

abbrev pub header_move : Header → Token → Result Move Problem
header_move headers.Start token = module_start token
header_move headers.Name token = named (name_of token) moves.Begin
header_move headers.Open token = on_mark token 40 (places.Header headers.FirstPort)
header_move headers.FirstPort token = if is_this_mark 41 token then to (places.Header headers.Semicolon) else port_start token
header_move headers.NextPort token = port_start token
header_move headers.PortEnd token =
    if is_this_mark 44 token then to (places.Header headers.NextPort) else on_mark token 41 (places.Header headers.Semicolon)
header_move headers.Semicolon token = on_mark token 59 places.Item

-- a width is one more than the number that is written
abbrev pub high_move : Kind → ℕ → Result Move Problem
high_move kind number =
    if nat_lt number 4294967295 then to (places.Declaration kind (declarations.Colon (number + 1))) else refused

abbrev pub high_token : Kind → Token → Result Move Problem
high_token kind (tokens.Number number) = high_move kind number
high_token kind _ = refused

abbrev pub zero_token : Kind → ℕ → Token → Result Move Problem
zero_token kind width (tokens.Number number) = if number == 0 then to (places.Declaration kind (declarations.Close width)) else refused
zero_token kind width _ = refused

abbrev pub declaration_move : Kind → Declaration → Token → Result Move Problem
declaration_move kind declarations.RangeOrName token =
    if is_this_mark 91 token then to (places.Declaration kind declarations.High) else named (name_of token) (moves.Declare kind shapes.Scalar)
declaration_move kind declarations.High token = high_token kind token
declaration_move kind (declarations.Colon width) token = on_mark token 58 (places.Declaration kind (declarations.Zero width))
declaration_move kind (declarations.Zero width) token = zero_token kind width token
declaration_move kind (declarations.Close width) token = on_mark token 93 (places.Declaration kind (declarations.Name width))
declaration_move kind (declarations.Name width) token = named (name_of token) (moves.Declare kind (shapes.Vector width))

abbrev pub item_name : List ℕ → Result Move Problem
item_name name = foreign_or (to (places.InstanceName name)) name

abbrev pub item_keyword : Keyword → Result Move Problem
item_keyword keywords.Wire = to (places.Declaration kinds.Wire declarations.RangeOrName)
item_keyword keywords.Reg = to (places.Declaration kinds.Reg declarations.RangeOrName)
item_keyword keywords.Assign = to (places.Process processes.AssignTarget)
item_keyword keywords.Always = to (places.Process processes.At)
item_keyword keywords.Endmodule = Ok moves.End
item_keyword _ = refused

-- an item begins, or the module ends
abbrev pub item_move : Token → Result Move Problem
item_move (tokens.Keyword keyword) = item_keyword keyword
item_move (tokens.Identifier name) = item_name name
item_move _ = refused

abbrev pub edge_keyword : Keyword → Result Move Problem
edge_keyword keywords.Posedge = to (places.Process processes.Clock)
edge_keyword _ = refused

abbrev pub edge_move : Token → Result Move Problem
edge_move (tokens.Keyword keyword) = edge_keyword keyword
edge_move (tokens.Identifier name) = foreign_or refused name
edge_move _ = refused

abbrev pub if_keyword : Keyword → Result Move Problem
if_keyword keywords.If = to (places.Process processes.GateOpen)
if_keyword _ = refused

abbrev pub if_move : Token → Result Move Problem
if_move (tokens.Keyword keyword) = if_keyword keyword
if_move _ = refused

abbrev pub arrow_move : (clock target : List ℕ) → Token → Result Move Problem
arrow_move clock target tokens.Arrow = Ok (moves.Expression (purposes.Clocked clock target))
arrow_move clock target _ = refused

abbrev pub process_move : Process → Token → Result Move Problem
process_move processes.AssignTarget token = named (name_of token) (λ target. moves.To (places.Process (processes.AssignSign target)))
process_move (processes.AssignSign target) token = begin_on token 61 (purposes.Assign target)
process_move processes.At token = on_mark token 64 (places.Process processes.Event)
process_move processes.Event token =
    if is_this_mark 42 token then to (places.Process processes.If) else on_mark token 40 (places.Process processes.Edge)
process_move processes.If token = if_move token
process_move processes.GateOpen token = begin_on token 40 purposes.Gate
process_move processes.LatchTarget token = named (name_of token) (λ target. moves.To (places.Process (processes.LatchSign target)))
process_move (processes.LatchSign target) token = begin_on token 61 (purposes.Latch target)
process_move processes.Edge token = edge_move token
process_move processes.Clock token = named (name_of token) (λ clock. moves.To (places.Process (processes.ClockClose clock)))
process_move (processes.ClockClose clock) token = on_mark token 41 (places.Process (processes.ClockedTarget clock))
process_move (processes.ClockedTarget clock) token =
    named (name_of token) (λ target. moves.To (places.Process (processes.ClockedArrow clock target)))
process_move (processes.ClockedArrow clock target) token = arrow_move clock target token

abbrev pub joins_move : (of name : List ℕ) → Joins → Token → Result Move Problem
joins_move of name joinings.First token =
    if is_this_mark 41 token then Ok (moves.Instance of name) else on_mark token 46 (places.Joins of name joinings.Port)
joins_move of name joinings.Next token = on_mark token 46 (places.Joins of name joinings.Port)
joins_move of name joinings.Port token = named (name_of token) (λ port. moves.To (places.Joins of name (joinings.Open port)))
joins_move of name (joinings.Open port) token = on_mark token 40 (places.Joins of name (joinings.Value port))
joins_move of name (joinings.Value port) token =
    if is_this_mark 41 token then Ok (moves.Unjoined of name port) else Ok (moves.First (purposes.Join of name port) token)
joins_move of name joinings.End token =
    if is_this_mark 44 token then to (places.Joins of name joinings.Next)
    else if is_this_mark 41 token then Ok (moves.Instance of name)
    else refused

unfoldable pub move_of : Place → Token → Result Move Problem
move_of (places.Header header) token = header_move header token
move_of places.Item token = item_move token
move_of places.Semicolon token = on_mark token 59 places.Item
move_of (places.Declaration kind declaration) token = declaration_move kind declaration token
move_of (places.Process process) token = process_move process token
move_of (places.InstanceName of) token = named (name_of token) (λ name. moves.To (places.InstanceOpen of name))
move_of (places.InstanceOpen of name) token = on_mark token 40 (places.Joins of name joinings.First)
move_of (places.Joins of name place) token = joins_move of name place token

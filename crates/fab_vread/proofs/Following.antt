-- What may follow where the machine stands in a text.
use Rattle.std.proofs.Common.{ℕ, ◌<◌, List, [], ◌∷◌, Result, Ok, Err}
use Rattle.fab_base.specs.declared.problem.Problem.{Problem}
use Rattle.fab_syntax.specs.declared.tree.Shape.{Shape}
use Rattle.fab_syntax.specs.declared.tree.Port.{Port}
use Rattle.fab_syntax.specs.Plain.{PlainExpr, PlainJoin, PlainItem, PlainModule}
use Rattle.fab_tokens.specs.declared.token.Keyword.TheVariants.{Endmodule, If, Posedge}
use Rattle.fab_tokens.specs.declared.token.Token.{Token}
use Rattle.fab_tokens.specs.declared.token.Token.TheVariants.{Identifier, Keyword, Number, Arrow, Mark}
use Rattle.fab_grammar_defs.specs.Grammar.{Expression, Range, Ports, PortList, Joins, JoinList, Items, Modules}
use Rattle.fab_vread.specs.declared.places.Kind.{Kind}
use Rattle.fab_vread.specs.declared.places.Kind.TheVariants as kinds
use Rattle.fab_vread.specs.declared.places.Header.{Header}
use Rattle.fab_vread.specs.declared.places.Header.TheVariants as headers
use Rattle.fab_vread.specs.declared.places.Declaration.{Declaration}
use Rattle.fab_vread.specs.declared.places.Declaration.TheVariants as declarations
use Rattle.fab_vread.specs.declared.places.Process.{Process}
use Rattle.fab_vread.specs.declared.places.Process.TheVariants as processes
use Rattle.fab_vread.specs.declared.places.Joins.TheVariants as joinings
use Rattle.fab_vread.specs.declared.places.Joins.{Joins as JoinPlace}
use Rattle.fab_vread.specs.declared.places.Purpose.{Purpose}
use Rattle.fab_vread.specs.declared.places.Purpose.TheVariants as purposes
use Rattle.fab_vread.specs.declared.places.Place.{Place}
use Rattle.fab_vread.specs.declared.places.Place.TheVariants as places
use Rattle.fab_vread.specs.inner.Machine.{Machine, PlainState, outside, inside}
use Rattle.fab_vread.proofs.Rests.{depth, Inside}

-- a token, and then these
pub data Next (t : Token) (P : List Token → Type 0) : List Token → Type 0 where
  next : {ts : List Token} → P ts → Next t P (t ∷ ts)

pub data NextName (P : List Token → Type 0) : List Token → Type 0 where
  next_name : {ts : List Token} → (n : List ℕ) → P ts → NextName P (Identifier n ∷ ts)

-- how many brackets of an expression are open
abbrev pub depth_at : PlainState → ℕ
depth_at (outside place) = 0
depth_at (inside purpose ls spot) = depth ls spot

module _ (deepest widest : ℕ) where
  -- behind a module
  pub data Ended : List Token → Type 0 where
    no_more : Ended []
    more_modules : {ts : List Token} {ms : List PlainModule} → Modules deepest widest ts ms → Ended ts

  -- before an item
  pub data BehindItem : List Token → Type 0 where
    items_left : {ts rest : List Token} {items : List PlainItem} → Items deepest widest ts items (Keyword Endmodule ∷ rest) → Ended rest → BehindItem ts

  abbrev pub AtSemicolon : List Token → Type 0
  AtSemicolon ts = Next (Mark 59) BehindItem ts

  -- ---- ports

  pub data AtPortEnd : List Token → Type 0 where
    ports_end : {rest : List Token} → AtSemicolon rest → AtPortEnd (Mark 41 ∷ rest)
    ports_more : {ts rest : List Token} {ports : List Port} → Ports ts ports (Mark 41 ∷ rest) → AtSemicolon rest → AtPortEnd (Mark 44 ∷ ts)

  pub data AtPort : List Token → Type 0 where
    ports_left : {ts rest : List Token} {ports : List Port} → Ports ts ports (Mark 41 ∷ rest) → AtSemicolon rest → AtPort ts

  pub data AtPorts : List Token → Type 0 where
    port_list : {ts rest : List Token} {ports : List Port} → PortList ts ports (Mark 41 ∷ rest) → AtSemicolon rest → AtPorts ts

  abbrev pub AtHeader : Header → List Token → Type 0
  AtHeader headers.Start ts = Ended ts
  AtHeader headers.Name ts = NextName (λ us. Next (Mark 40) AtPorts us) ts
  AtHeader headers.Open ts = Next (Mark 40) AtPorts ts
  AtHeader headers.FirstPort ts = AtPorts ts
  AtHeader headers.NextPort ts = AtPort ts
  AtHeader headers.PortEnd ts = AtPortEnd ts
  AtHeader headers.Semicolon ts = AtSemicolon ts

  -- ---- declarations

  abbrev pub BehindName : Kind → List Token → Type 0
  BehindName kinds.Input ts = AtPortEnd ts
  BehindName kinds.Output ts = AtPortEnd ts
  BehindName kinds.Wire ts = AtSemicolon ts
  BehindName kinds.Reg ts = AtSemicolon ts

  abbrev pub AtZero : Kind → List Token → Type 0
  AtZero kind ts = Next (Number 0) (λ us. Next (Mark 93) (λ vs. NextName (BehindName kind) vs) us) ts

  pub data AtHigh (kind : Kind) : List Token → Type 0 where
    its_high : {ts : List Token} → (high : ℕ) → high < 4294967295 → Next (Mark 58) (AtZero kind) ts → AtHigh kind (Number high ∷ ts)

  pub data AtRange (kind : Kind) : List Token → Type 0 where
    ranged : {ts rest : List Token} {shape : Shape} → (n : List ℕ) → Range ts shape (Identifier n ∷ rest) → BehindName kind rest → AtRange kind ts

  abbrev pub AtDeclaration : Kind → Declaration → List Token → Type 0
  AtDeclaration kind declarations.RangeOrName ts = AtRange kind ts
  AtDeclaration kind declarations.High ts = AtHigh kind ts
  AtDeclaration kind (declarations.Colon width) ts = Next (Mark 58) (AtZero kind) ts
  AtDeclaration kind (declarations.Zero width) ts = AtZero kind ts
  AtDeclaration kind (declarations.Close width) ts = Next (Mark 93) (λ us. NextName (BehindName kind) us) ts
  AtDeclaration kind (declarations.Name width) ts = NextName (BehindName kind) ts

  -- ---- processes

  pub data Valued (M : List Token → Type 0) : List Token → Type 0 where
    value : {ts rest : List Token} {e : PlainExpr} → Expression widest deepest ts e rest → M rest → Valued M ts

  abbrev pub AtUpdate : List Token → Type 0
  AtUpdate ts = Next (Mark 61) (λ us. Valued AtSemicolon us) ts

  abbrev pub AtGateEnd : List Token → Type 0
  AtGateEnd ts = Next (Mark 41) (λ us. NextName AtUpdate us) ts

  abbrev pub AtGate : List Token → Type 0
  AtGate ts = Next (Mark 40) (λ us. Valued AtGateEnd us) ts

  abbrev pub AtArrow : List Token → Type 0
  AtArrow ts = Next Arrow (λ us. Valued AtSemicolon us) ts

  abbrev pub AtClockClose : List Token → Type 0
  AtClockClose ts = Next (Mark 41) (λ us. NextName AtArrow us) ts

  abbrev pub AtEdge : List Token → Type 0
  AtEdge ts = Next (Keyword Posedge) (λ us. NextName AtClockClose us) ts

  pub data AtEvent : List Token → Type 0 where
    star : {ts : List Token} → Next (Keyword If) AtGate ts → AtEvent (Mark 42 ∷ ts)
    edge : {ts : List Token} → AtEdge ts → AtEvent (Mark 40 ∷ ts)

  abbrev pub AtProcess : Process → List Token → Type 0
  AtProcess processes.AssignTarget ts = NextName AtUpdate ts
  AtProcess (processes.AssignSign target) ts = AtUpdate ts
  AtProcess processes.At ts = Next (Mark 64) AtEvent ts
  AtProcess processes.Event ts = AtEvent ts
  AtProcess processes.If ts = Next (Keyword If) AtGate ts
  AtProcess processes.GateOpen ts = AtGate ts
  AtProcess processes.LatchTarget ts = NextName AtUpdate ts
  AtProcess (processes.LatchSign target) ts = AtUpdate ts
  AtProcess processes.Edge ts = AtEdge ts
  AtProcess processes.Clock ts = NextName AtClockClose ts
  AtProcess (processes.ClockClose clock) ts = AtClockClose ts
  AtProcess (processes.ClockedTarget clock) ts = NextName AtArrow ts
  AtProcess (processes.ClockedArrow clock target) ts = AtArrow ts

  -- ---- joins

  pub data AtJoinEnd : List Token → Type 0 where
    joins_end : {rest : List Token} → AtSemicolon rest → AtJoinEnd (Mark 41 ∷ rest)
    joins_more : {ts rest : List Token} {joins : List PlainJoin} → Joins deepest widest ts joins (Mark 41 ∷ rest) → AtSemicolon rest →
        AtJoinEnd (Mark 44 ∷ ts)

  pub data AtJoin : List Token → Type 0 where
    joins_left : {ts rest : List Token} {joins : List PlainJoin} → Joins deepest widest ts joins (Mark 41 ∷ rest) → AtSemicolon rest → AtJoin ts

  pub data AtJoins : List Token → Type 0 where
    join_list : {ts rest : List Token} {joins : List PlainJoin} → JoinList deepest widest ts joins (Mark 41 ∷ rest) → AtSemicolon rest → AtJoins ts

  pub data AtJoined : List Token → Type 0 where
    none_joined : {ts : List Token} → AtJoinEnd ts → AtJoined (Mark 41 ∷ ts)
    one_joined : {ts : List Token} → Valued (λ us. Next (Mark 41) AtJoinEnd us) ts → AtJoined ts

  abbrev pub AtJoinPlace : JoinPlace → List Token → Type 0
  AtJoinPlace joinings.First ts = AtJoins ts
  AtJoinPlace joinings.Next ts = AtJoin ts
  AtJoinPlace joinings.Port ts = NextName (λ us. Next (Mark 40) AtJoined us) ts
  AtJoinPlace (joinings.Open port) ts = Next (Mark 40) AtJoined ts
  AtJoinPlace (joinings.Value port) ts = AtJoined ts
  AtJoinPlace joinings.End ts = AtJoinEnd ts

  -- ---- together

  abbrev pub AtPlace : Place → List Token → Type 0
  AtPlace (places.Header header) ts = AtHeader header ts
  AtPlace places.Item ts = BehindItem ts
  AtPlace places.Semicolon ts = AtSemicolon ts
  AtPlace (places.Declaration kind declaration) ts = AtDeclaration kind declaration ts
  AtPlace (places.Process process) ts = AtProcess process ts
  AtPlace (places.InstanceName of) ts = NextName (λ us. Next (Mark 40) AtJoins us) ts
  AtPlace (places.InstanceOpen of name) ts = Next (Mark 40) AtJoins ts
  AtPlace (places.Joins of name place) ts = AtJoinPlace place ts

  -- behind a whole expression
  abbrev pub BehindValue : Purpose → List Token → Type 0
  BehindValue (purposes.Assign target) ts = AtSemicolon ts
  BehindValue purposes.Gate ts = AtGateEnd ts
  BehindValue (purposes.Latch target) ts = AtSemicolon ts
  BehindValue (purposes.Clocked clock target) ts = AtSemicolon ts
  BehindValue (purposes.Join of name port) ts = Next (Mark 41) AtJoinEnd ts

  abbrev pub AtState : PlainState → List Token → Type 0
  AtState (outside place) ts = AtPlace place ts
  AtState (inside purpose ls spot) ts = Inside deepest widest (BehindValue purpose) ls spot ts

  abbrev pub RestOf : Result Machine Problem → List Token → Type 0
  RestOf (Ok m) ts = AtState m.state ts
  RestOf (Err problem) ts = ⊥

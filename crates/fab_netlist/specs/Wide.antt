-- Netlists whose covers have up to 16 inputs, and rows in place of tables.
use Rattle.std.specs.Prelude.{◌≡◌, ℕ, ◌<◌, ◌≤◌, ◌^◌, max, Bool, not, ◌&&◌, List, map, length, Contains, if◌then◌else◌, nat_eq, nat_lt, bit_and, Option, None}
use Rattle.std.specs.List.{All, list_any}
use Rattle.fab_bits.specs.Bits.{number, first_bits}
use Rattle.fab_netlist.specs.declared.netlist.Latch.{Latch}
use Rattle.fab_netlist.specs.declared.wide.Cube.{Cube}
use Rattle.fab_netlist.specs.Plain.{PlainCover, PlainNetlist, name_of}
use Rattle.fab_netlist.specs.WellMade.{IsWired, ports}
use Rattle.fab_netlist.specs.Meaning.{IsRun}
use Rattle.fab_netlist.specs.Resets.{netlist_with}

-- A row matches the inputs that spell a number, the first as least significant: those that it looks at have its values.
abbrev pub matches : Cube → (inputs : ℕ) → Bool
matches cube inputs = nat_eq (bit_and inputs cube.care) cube.value

-- What rows say of inputs. An on-set has those that some row matches, an off-set all others.
abbrev pub rows_say : (on : Bool) → (rows : List Cube) → (inputs : ℕ) → Bool
rows_say on rows inputs = if on then list_any (λ cube. matches cube inputs) rows else not (list_any (λ cube. matches cube inputs) rows)

pub record PlainWideCover : Type 0 where
  pub line : ℕ
  pub inputs : List ℕ
  pub output : ℕ
  pub on : Bool
  pub rows : List Cube

pub record PlainWide : Type 0 where
  pub nets : List (List ℕ)
  pub inputs : List ℕ
  pub outputs : List ℕ
  pub covers : List PlainWideCover
  pub latches : List Latch

-- the cover with a table: a bit for each value of its inputs, and 16 at least
abbrev pub tabled_cover : PlainWideCover → PlainCover
tabled_cover cover =
    record { line = cover.line; inputs = cover.inputs; output = cover.output; table = number (first_bits (2 ^ max 4 (length cover.inputs)) (rows_say cover.on cover.rows)) }

-- The netlist that it is, without a reset port. What that means, it means.
abbrev pub tabled : PlainWide → PlainNetlist
tabled wide = record { nets = wide.nets; inputs = wide.inputs; outputs = wide.outputs; covers = map tabled_cover wide.covers; latches = wide.latches; reset = None }

-- a row looks at no input past the last, and has 0 for those that it does not look at
pub record IsFineRow (inputs : ℕ) (cube : Cube) : Type 0 where
  pub low : cube.care < 2 ^ inputs
  pub cared : bit_and cube.value cube.care ≡ cube.value

-- It is wired, and its covers have at most 16 inputs and rows for just these.
pub record IsWideMade (wide : PlainWide) : Type 0 where
  pub wired : IsWired (tabled wide)
  pub few : (cover : PlainWideCover) → Contains wide.covers cover → length cover.inputs ≤ 16
  pub rows : (cover : PlainWideCover) → Contains wide.covers cover → All (IsFineRow (length cover.inputs)) cover.rows

-- the values of the first nets, and 0 elsewhere
abbrev pub within : (nets : ℕ) → (ℕ → Bool) → ℕ → Bool
within nets now net = nat_lt net nets && now net

-- One netlist runs as another does, on the nets of that. Ports, latches and the names of these nets are the same.
pub record RunsAs (read netlist : PlainNetlist) : Type 0 where
  pub inputs : netlist.inputs ≡ read.inputs
  pub outputs : netlist.outputs ≡ read.outputs
  pub latches : netlist.latches ≡ read.latches
  pub reset : netlist.reset ≡ read.reset
  pub names : (net : ℕ) → net < length read.nets → name_of netlist net ≡ name_of read net
  pub ports : (net : ℕ) → Contains (ports read) net → net < length read.nets
  pub runs : (held : List Bool) (vectors : List (List Bool)) (nows : List (ℕ → Bool)) → IsRun netlist held vectors nows → IsRun read held vectors (map (within (length read.nets)) nows)

-- the same without a reset port, and with any that is named
abbrev pub RunsAsWith : (read netlist : PlainNetlist) → Type 0
RunsAsWith read netlist = (port : Option (List ℕ)) → RunsAs (netlist_with port read) (netlist_with port netlist)

-- What the lines of a state ask of a text.
use Rattle.std.specs.Prelude.{ℕ, List, ◌++◌, map, codes, Option, None, Some}
use Rattle.fab_base.specs.declared.words.Reason.{Reason}
use Rattle.fab_base.specs.declared.words.Reason.TheVariants as reasons
use Rattle.fab_syntax.specs.Plain.{PlainModule}
use Rattle.fab_syntax.specs.declared.tree.Shape.TheVariants.{Scalar}
use Rattle.fab_meaning.specs.Points.{Point}
use Rattle.fab_values.specs.declared.names.Role.TheVariants as roles
use Rattle.fab_prim.specs.Ports.{top_name}
use Rattle.fab_prim.specs.Modules.{flip_flop_name}
use Rattle.fab_implementation.specs.Plain.{Pad}
use Rattle.fab_state.specs.Plain.{Register, PlainState}
use Rattle.fab_equations.specs.Equations.{IsPoint}
use Rattle.fab_use_defs.specs.Sites.{bel_point, top_point}
use Rattle.fab_state_points.specs.Finding.{IsClocked, IsDeclared}
use Rattle.fab_state_points.specs.declared.entry.Entry.{Entry}
use Rattle.fab_state_points.specs.declared.entry.Entry.TheVariants as entries

-- what an output port of a design shows
abbrev pub shown_name : List ℕ
shown_name = codes "I_top"

-- the point of a line: what comes in through a pad, what goes out through one, and a flip-flop
abbrev pub entry_point : Entry → Point
entry_point (entries.Input site) = top_point site top_name
entry_point (entries.Output site) = top_point site shown_name
entry_point (entries.Register site) = bel_point site flip_flop_name

-- the point is there in this role, with one bit; a flip-flop has a clocked process
abbrev pub HasEntry : List PlainModule → Entry → Type 0
HasEntry text (entries.Input site) = IsDeclared text (top_point site top_name).path (top_point site top_name).name Scalar roles.Input
HasEntry text (entries.Output site) = IsDeclared text (top_point site shown_name).path (top_point site shown_name).name Scalar roles.Output
HasEntry text (entries.Register site) =
    IsDeclared text (bel_point site flip_flop_name).path flip_flop_name Scalar roles.Reg × IsClocked text (bel_point site flip_flop_name)

-- why a line is refused whose point is not there
abbrev pub reason_of : Entry → Reason
reason_of (entries.Input site) = reasons.NoPort
reason_of (entries.Output site) = reasons.NoPort
reason_of (entries.Register site) = reasons.NoRegister

-- the number of a line's point, or that it has none
abbrev pub IsFoundEntry : List PlainModule → Entry → Option ℕ → Type 0
IsFoundEntry text entry None = ¬ HasEntry text entry
IsFoundEntry text entry (Some number) = HasEntry text entry × IsPoint text number (entry_point entry)

-- ---- the lines of a state

abbrev pub in_entries : List Pad → List Entry
in_entries pads = map (λ pad. entries.Input pad.1) pads

abbrev pub out_entries : List Pad → List Entry
out_entries pads = map (λ pad. entries.Output pad.1) pads

abbrev pub register_entries : List Register → List Entry
register_entries ffs = map (λ ff. entries.Register ff.0) ffs

-- in the order of the text
abbrev pub entries_of : PlainState → List Entry
entries_of state = in_entries state.ins ++ (out_entries state.outs ++ register_entries state.ffs)

-- Copies of models that are gone through, in one another, the outermost first.
use Rattle.std.specs.Prelude.{ℕ, zero, suc, ◌+◌, ◌-◌, ◌≤◌, List, [], ◌∷◌, ◌++◌, length, map, take, drop, flat_map, option_map, Option, Some, None}
use Rattle.fab_blif_models.specs.Plain.{PlainBody, PlainModel, instance}
use Rattle.fab_instances.specs.Places.{place_of_model, statements_of}
use Rattle.fab_blif.specs.declared.walk.Frame.{Frame}
use Rattle.fab_blif.specs.declared.walk.Instance.{Instance}
use Rattle.fab_blif.specs.Flat.{PlainCopy, Placed, copy_in, line_prefix, lines_of, lines_at}
use Rattle.fab_blif.specs.inner.Walk.{plain_joins}

-- A copy that is gone through, with the places of its model and of the next line.
pub record PlainFrame : Type 0 where
  pub model : ℕ
  pub next : ℕ
  pub copy : PlainCopy

-- how deep instances may stand in one another in a copy that lies in so many
abbrev pub deep_in : List PlainModel → (depth : ℕ) → ℕ
deep_in models depth = length models - (depth + 1)

-- the lines that are left in a frame
abbrev pub frame_lines : List PlainModel → PlainFrame → List Placed
frame_lines models frame = flat_map (lines_at models (lines_of models (deep_in models frame.copy.depth)) frame.copy) (drop frame.next (statements_of models frame.model))

-- the lines that are left in frames: those of the innermost come first
unfoldable pub stack_lines : List PlainModel → List PlainFrame → List Placed
stack_lines models [] = []
stack_lines models (frame ∷ frames) = stack_lines models frames ++ frame_lines models frame

-- ---- going into an instance

-- the frame of a copy that is gone into
abbrev pub new_frame : PlainCopy → (place : ℕ) → PlainFrame
new_frame copy place = record { model = place; next = 0; copy = copy }

-- the frame of the instance that a line is, if it is one, where instances may stand this deep in the copy
abbrev pub entered : List PlainModel → (deep : ℕ) → PlainCopy → (line : ℕ) → PlainBody → Option PlainFrame
entered models zero copy line body = None
entered models (suc deep) copy line (instance name words) = option_map (new_frame (copy_in copy line words)) (place_of_model models name)
entered models (suc deep) copy line _ = None

-- a frame behind its next line
abbrev pub advanced : PlainFrame → PlainFrame
advanced frame = record { model = frame.model; next = frame.next + 1; copy = frame.copy }

abbrev pub with_inner : List PlainFrame → Option PlainFrame → List PlainFrame
with_inner frames None = frames
with_inner frames (Some inner) = frames ++ inner ∷ []

-- frames, a frame within them, and the one within that, if there is one
abbrev pub with_frames : List PlainFrame → PlainFrame → Option PlainFrame → List PlainFrame
with_frames outer frame inner = with_inner (outer ++ frame ∷ []) inner

-- ---- one path for all

-- Frames in one another, and what stands in front of the names of the innermost copy's nets.
pub record PlainStack : Type 0 where
  pub path : List ℕ
  pub frames : List PlainFrame

-- a frame whose copy has this prefix
abbrev pub plain_frame : (prefix : List ℕ) → Frame → PlainFrame
plain_frame prefix frame = record {
  model = frame.model;
  next = frame.next;
  copy = record { depth = frame.depth; prefix = prefix; joins = plain_joins frame.joins.entries };
}

-- frames whose copies' prefixes are beginnings of a path
abbrev pub plain_frames : (path : List ℕ) → List Frame → List PlainFrame
plain_frames path frames = map (λ frame. plain_frame (take frame.prefix_len path) frame) frames

-- no prefix is shorter than the one before it; the first is no shorter than `from`, and the last no longer than `to`
abbrev pub PrefixesGrow : (from : ℕ) → List Frame → (to : ℕ) → Type 0
PrefixesGrow from [] to = from ≤ to
PrefixesGrow from (frame ∷ frames) to = (from ≤ frame.prefix_len) × PrefixesGrow frame.prefix_len frames to

-- the frame of an instance in a copy with this prefix
abbrev pub instance_frame : (prefix : List ℕ) → Instance → PlainFrame
instance_frame prefix inner = record {
  model = inner.model;
  next = 0;
  copy = record { depth = inner.depth; prefix = prefix ++ line_prefix inner.line; joins = plain_joins inner.joins.entries };
}

-- Frames whose prefixes are beginnings of one path.
use Rattle.std.proofs.Common.{◌≡◌, ℕ, ◌≤◌, List, [], ◌∷◌, ◌++◌, length, take, refl, sym, ap, ◌∙◌, arith}
use Rattle.std.proofs.lemmas.List.{length-take-le, map-append, take-take, take_all, take_at}
use Rattle.fab_blif.specs.declared.walk.Frame.{Frame}
use Rattle.fab_blif.specs.inner.Frames.{PlainFrame, PrefixesGrow, plain_frame, plain_frames}

grow_le : (from : ℕ) (frames : List Frame) (to : ℕ) → PrefixesGrow from frames to → from ≤ to
grow_le from [] to grow = grow
grow_le from (frame ∷ frames) to grow = omega (arith, grow.0, grow_le frame.prefix_len frames to grow.1)

-- beside a longer path
pub grow_to : (from : ℕ) (frames : List Frame) (to more : ℕ) → PrefixesGrow from frames to → to ≤ more → PrefixesGrow from frames more
grow_to from [] to more grow le = omega (arith, grow, le)
grow_to from (frame ∷ frames) to more grow le = (grow.0, grow_to frame.prefix_len frames to more grow.1 le)

grow_push : (from : ℕ) (frames : List Frame) (frame : Frame) (to : ℕ) → PrefixesGrow from frames frame.prefix_len → frame.prefix_len ≤ to →
    PrefixesGrow from (frames ++ frame ∷ []) to
grow_push from [] frame to grow le = (grow, le)
grow_push from (first ∷ frames) frame to grow le = (grow.0, grow_push first.prefix_len frames frame to grow.1 le)

-- with one more frame, which has the whole path
pub grow_whole : (frames : List Frame) (frame : Frame) (to more : ℕ) → PrefixesGrow 0 frames to → to ≤ more → frame.prefix_len ≡ more →
    PrefixesGrow 0 (frames ++ frame ∷ []) more
grow_whole frames frame to more grow le whole =
    grow_push 0 frames frame more (grow_to 0 frames to frame.prefix_len grow (omega (arith, le, whole))) (omega (arith, whole))

-- without the last frame
pub grow_pop : (from : ℕ) (frames : List Frame) (frame : Frame) (to : ℕ) → PrefixesGrow from (frames ++ frame ∷ []) to →
    PrefixesGrow from frames frame.prefix_len × (frame.prefix_len ≤ to)
grow_pop from [] frame to grow = grow
grow_pop from (first ∷ frames) frame to grow =
    let rest = grow_pop first.prefix_len frames frame to grow.1 in
    ((grow.0, rest.0), rest.1)

-- a path may be cut behind the last prefix
frames_cut : (from : ℕ) (frames : List Frame) (to : ℕ) (path : List ℕ) → PrefixesGrow from frames to →
    plain_frames (take to path) frames ≡ plain_frames path frames
frames_cut from [] to path grow = refl
frames_cut from (frame ∷ frames) to path grow =
    let least = grow_le frame.prefix_len frames to grow.1 in
    (λ j. plain_frame (take-take frame.prefix_len to path least j) frame ∷ frames_cut frame.prefix_len frames to path grow.1 j)

-- what is put behind a path changes no prefix
pub frames_longer : (frames : List Frame) (path more : List ℕ) → PrefixesGrow 0 frames (length path) →
    plain_frames (path ++ more) frames ≡ plain_frames path frames
frames_longer frames path more grow =
    sym (frames_cut 0 frames (length path) (path ++ more) grow)
    ∙ ap (λ (text : List ℕ). plain_frames text frames) (take_at path more (length path) refl)

-- a frame that has the whole path
pub frames_push : (frames : List Frame) (frame : Frame) (path : List ℕ) → frame.prefix_len ≡ length path →
    plain_frames path (frames ++ frame ∷ []) ≡ plain_frames path frames ++ plain_frame path frame ∷ []
frames_push frames frame path whole =
    map-append (λ (f : Frame). plain_frame (take f.prefix_len path) f) frames (frame ∷ [])
    ∙ ap (λ (text : List ℕ). plain_frames path frames ++ plain_frame text frame ∷ []) (take_all frame.prefix_len path (omega (arith, whole)))

-- the path is cut to the last frame
pub frames_pop : (frames : List Frame) (frame : Frame) (path : List ℕ) → PrefixesGrow 0 (frames ++ frame ∷ []) (length path) →
    plain_frames path (frames ++ frame ∷ []) ≡ plain_frames (take frame.prefix_len path) frames ++ plain_frame (take frame.prefix_len path) frame ∷ []
frames_pop frames frame path grow =
    let cut = frames_cut 0 frames frame.prefix_len path (grow_pop 0 frames frame (length path) grow).0 in
    map-append (λ (f : Frame). plain_frame (take f.prefix_len path) f) frames (frame ∷ [])
    ∙ ap (λ (list : List PlainFrame). list ++ plain_frame (take frame.prefix_len path) frame ∷ []) (sym cut)

-- how long the path is then
pub cut_length : (frames : List Frame) (frame : Frame) (path : List ℕ) → PrefixesGrow 0 (frames ++ frame ∷ []) (length path) →
    length (take frame.prefix_len path) ≡ frame.prefix_len
cut_length frames frame path grow = length-take-le frame.prefix_len path (grow_pop 0 frames frame (length path) grow).1

-- Names of files and their parts, and which file a path means that stands in another file.
use Rattle.std.specs.Prelude.{ℕ, ◌-◌, Bool, List, [], ◌∷◌, ◌++◌, ◌==◌, ◌&&◌, not, length, take, slice_index, slice_index_or, codes, Option, Some, None, if◌then◌else◌}
use Rattle.std.specs.List.{list_any, before_last, after_last, slice_split, flat_map}
use Rattle.std.specs.Str.{bytes_eq, is_utf8}

abbrev pub is_slash : ℕ → Bool
is_slash byte = byte == 47

abbrev pub is_dot : ℕ → Bool
is_dot byte = byte == 46

-- what stands after the last slash of a path
abbrev pub last_segment : List ℕ → List ℕ
last_segment path = after_last is_slash path

-- what stands before the last dot, all where there is none
abbrev pub without_ending : List ℕ → List ℕ
without_ending segment = if list_any is_dot segment then before_last is_dot segment else segment

-- the last segment of a path without its ending: `demo` of `lists/demo.list`
unfoldable pub stem : List ℕ → List ℕ
stem path = without_ending (last_segment path)

-- ---- paths in files

-- what stands between slashes, which may be empty
abbrev pub segments : List ℕ → List (List ℕ)
segments path = slice_split is_slash path

abbrev pub without_last : List (List ℕ) → List (List ℕ)
without_last kept = take (length kept - 1) kept

-- the segments of the directory in which a file lies
abbrev pub directory : (file : List ℕ) → List (List ℕ)
directory file = without_last (segments file)

abbrev pub begins_at_root : List ℕ → Bool
begins_at_root path = slice_index path 0 == 47

-- the empty segment in front of a path from the root, and nothing else
abbrev pub is_root : List (List ℕ) → Bool
is_root kept = (length kept == 1) && (length (slice_index_or kept 0 []) == 0)

abbrev pub ends_upward : List (List ℕ) → Bool
ends_upward kept = bytes_eq (slice_index_or kept (length kept - 1) []) (codes "..")

-- Whether the last of these segments is one that `..` takes away: not where there is none, where it is the root, or where it is a `..` that stayed.
abbrev pub has_removable : (kept : List (List ℕ)) → Bool
has_removable kept = not (length kept == 0) && not (is_root kept) && not (ends_upward kept)

-- An empty segment that would stand first is the root, and a path that does not lead on from the root has none.
abbrev pub would_be_root : (from_root : Bool) → (kept : List (List ℕ)) → (segment : List ℕ) → Bool
would_be_root from_root kept segment = not from_root && ((length kept == 0) && (length segment == 0))

-- Behind the segments that are kept: `.` is dropped, `..` goes with the segment before it where there is one to go, and every other segment stays,
-- but for an empty one that would stand first.
abbrev pub tidied : (from_root : Bool) → (kept more : List (List ℕ)) → List (List ℕ)
tidied from_root kept [] = kept
tidied from_root kept (segment ∷ more) =
    if bytes_eq segment (codes ".") then tidied from_root kept more
    else if bytes_eq segment (codes "..") && has_removable kept then tidied from_root (without_last kept) more
    else if would_be_root from_root kept segment then tidied from_root kept more
    else tidied from_root (kept ++ segment ∷ []) more

abbrev pub behind_slash : List ℕ → List ℕ
behind_slash segment = 47 ∷ segment

-- with a slash between each two
abbrev pub slashed : List (List ℕ) → List ℕ
slashed [] = []
slashed (first ∷ more) = first ++ flat_map behind_slash more

-- the segments of a path that leads on from a directory
abbrev pub led_on : (from_root : Bool) → (directory path : List (List ℕ)) → List (List ℕ)
led_on from_root directory path = tidied from_root (tidied from_root [] directory) path

-- A path from the root is used as it is; any other leads on from the directory of the file that holds it.
unfoldable pub resolved : (holder path : List ℕ) → List ℕ
resolved holder path = if begins_at_root path then path else slashed (led_on (begins_at_root holder) (directory holder) (segments path))

-- the name of a file is text, and not empty
unfoldable pub is_file_name : List ℕ → Bool
is_file_name name = is_utf8 name && not (length name == 0)

-- a path that a file may hold: the name of a file as it is written, and once it is resolved
abbrev pub is_path : (holder path : List ℕ) → Bool
is_path holder path = is_file_name path && is_file_name (resolved holder path)

-- the file that a path means
abbrev pub file_of : (holder path : List ℕ) → Option (List ℕ)
file_of holder path = if is_path holder path then Some (resolved holder path) else None

-- Names of ASCII letters are text.
use Rattle.std.proofs.Common.{◌≡◌, ℕ, Bool, true, List, [], ◌∷◌, nat_lt}
use Rattle.std.specs.List.{list_all}
use Rattle.std.specs.Str.{IsUtf8, IsAscii, is_utf8}
use Rattle.std.proofs.lemmas.Bool.{and_parts, ltb-true}
use Rattle.std.proofs.lemmas.Str.{IsUtf8-from_ascii, is_utf8-from_IsUtf8}
use Rattle.std.proofs.lemmas.Str.Ascii.{IsAscii-nil, IsAscii-cons}

abbrev pub are_ascii : List ℕ → Bool
are_ascii bytes = list_all (λ byte. nat_lt byte 128) bytes

ascii : (bytes : List ℕ) → are_ascii bytes ≡ true → IsAscii bytes
ascii [] all = IsAscii-nil
ascii (byte ∷ bytes) all =
    let parts = and_parts (nat_lt byte 128) (are_ascii bytes) all in IsAscii-cons byte bytes (ltb-true byte 128 parts.0) (ascii bytes parts.1)

pub utf8_of : (bytes : List ℕ) → are_ascii bytes ≡ true → IsUtf8 bytes
utf8_of bytes all = IsUtf8-from_ascii bytes (ascii bytes all)

pub is_text : (bytes : List ℕ) → are_ascii bytes ≡ true → is_utf8 bytes ≡ true
is_text bytes all = is_utf8-from_IsUtf8 bytes (utf8_of bytes all)

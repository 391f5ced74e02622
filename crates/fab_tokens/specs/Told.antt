-- The tokens that the bytes of a text give, one byte after the other.
use Rattle.std.specs.Prelude.{ℕ, List, [], ◌∷◌, ◌++◌, Option}
use Rattle.std.specs.Option.{option_to_list}
use Rattle.fab_tokens.specs.declared.token.Token.{Token}
use Rattle.fab_tokens.specs.declared.scanner.Scan.{Scan}
use Rattle.fab_tokens.specs.declared.scanner.Scan.TheVariants as scans
use Rattle.fab_tokens.specs.declared.scanner.Step.{Step}
use Rattle.fab_tokens.specs.Scanning.{after_byte, at_end}

abbrev pub step_tokens : Step → List Token → List Token
step_tokens step more = option_to_list step.first ++ (option_to_list step.second ++ more)

-- the tokens that bytes complete after those of this scan, and the end after them; bytes that are no token give `Unknown`
unfoldable pub tokens_from : Scan → List ℕ → List Token
tokens_from scan [] = option_to_list (at_end scan)
tokens_from scan (byte ∷ bytes) = step_tokens (after_byte scan byte) (tokens_from (after_byte scan byte).scan bytes)

abbrev pub tokens_of : List ℕ → List Token
tokens_of bytes = tokens_from scans.Between bytes

-- The lexemes of bytes have the tokens that the bytes give.
use Rattle.std.proofs.Common.{◌≡◌, ℕ, List, [], ◌∷◌, ◌++◌, refl, ap, ◌∙◌, Option, Some, None}
use Rattle.std.specs.Option.{option_to_list}
use Rattle.fab_tokens.specs.declared.token.Token.{Token}
use Rattle.fab_tokens.specs.declared.scanner.Scan.{Scan}
use Rattle.fab_tokens.specs.declared.scanner.Scan.TheVariants as scans
use Rattle.fab_tokens.specs.Scanning.{Lexeme, after_byte, at_end}
use Rattle.fab_tokens.specs.Told.{tokens_from, tokens_of}
use Rattle.fab_vread.specs.Refusals.{next_line, on_line, lexemes_from, lexemes_of, tokens_in}

on_line_tokens : (line : ℕ) (o : Option Token) (more : List Lexeme) → tokens_in (on_line line o ++ more) ≡ option_to_list o ++ tokens_in more
on_line_tokens line None more = refl
on_line_tokens line (Some t) more = refl

end_tokens : (line : ℕ) (o : Option Token) → tokens_in (on_line line o) ≡ option_to_list o
end_tokens line None = refl
end_tokens line (Some t) = refl

lexemes_tokens : (bytes : List ℕ) (scan : Scan) (last line : ℕ) → tokens_in (lexemes_from scan last line bytes) ≡ tokens_from scan bytes
unfolding lexemes_from tokens_from
lexemes_tokens [] scan last line = end_tokens last (at_end scan)
lexemes_tokens (byte ∷ bytes) scan last line =
    let step = after_byte scan byte in
    on_line_tokens line step.first _ ∙ ap (λ (ts : List Token). option_to_list step.first ++ ts)
    (on_line_tokens line step.second _ ∙ ap (λ (ts : List Token). option_to_list step.second ++ ts) (lexemes_tokens bytes step.scan line (next_line line byte)))

pub same_tokens : (bytes : List ℕ) → tokens_in (lexemes_of bytes) ≡ tokens_of bytes
same_tokens bytes = lexemes_tokens bytes scans.Between 1 1

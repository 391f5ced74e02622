-- Files put on a shelf one after the other.
use Rattle.std.proofs.Common.{◌≡◌, ◌<◌, ◌∙◌, ℕ, ◌+◌, true, All, List, [], ◌∷◌, ◌++◌, length, map, take, get_or, refl, sym, ap}
use Rattle.std.specs.List.{AllByRecursion}
use Rattle.std.specs.Str.{IsUtf8}
use Rattle.std.proofs.lemmas.List.{take_more, map-append}
use Rattle.std.proofs.lemmas.List.Elements.{All-cons, All-nil}
use Rattle.fab_desk.specs.Files.{Map, with_file}
use Rattle.fab_outputs.specs.Storing.{PlainOutput, with_outputs}
use Rattle.fab_sample.specs.declared.file.File.{File}
use Rattle.fab_sample.specs.Files.{sample_files}
use Rattle.fab_sampling.specs.Sampling.{stored_file}
use Rattle.fab_sampling.proofs.Texts.{are_ascii, utf8_of}

with_one_more : (outputs : List PlainOutput) (last : PlainOutput) (files : Map) → with_outputs (outputs ++ last ∷ []) files ≡ with_file last.name last.bytes (with_outputs outputs files)
with_one_more [] last files = refl
with_one_more (output ∷ outputs) last files = with_one_more outputs last (with_file output.name output.bytes files)

-- the file at a place is put behind those before it
pub put_so_far : (before now : Map) (files : List File) (i : ℕ) (file : File) → i < length files → file ≡ get_or files i file
    → now ≡ with_outputs (map stored_file (take i files)) before → with_file file.name file.text now ≡ with_outputs (map stored_file (take (i + 1) files)) before
put_so_far before now files i file inside is so_far =
    let one : map stored_file (take (i + 1) files) ≡ map stored_file (take i files) ++ stored_file file ∷ [] =
    ap (map stored_file) (take_more files i file inside ∙ ap (λ (f : File). take i files ++ f ∷ []) (sym is)) ∙ map-append stored_file (take i files) (file ∷ []) in
    ap (with_file file.name file.text) so_far
    ∙ sym (with_one_more (map stored_file (take i files)) (stored_file file) before)
    ∙ ap (λ (list : List PlainOutput). with_outputs list before) (sym one)

-- the names of a sample's files are text
abbrev HasTextName : File → Type 0
HasTextName file = IsUtf8 file.name

of_ascii : (files : List File) → AllByRecursion (λ (file : File). are_ascii file.name ≡ true) files → All HasTextName files
of_ascii [] all = All-nil HasTextName
of_ascii (file ∷ files) all = All-cons HasTextName file files (utf8_of file.name all.0) (of_ascii files all.1)

pub names_are_text : (size : ℕ) (draws : ℕ → ℕ) → All HasTextName (sample_files size draws)
names_are_text size draws = of_ascii (sample_files size draws) (refl, (refl, (refl, (refl, (refl, (refl, tt))))))

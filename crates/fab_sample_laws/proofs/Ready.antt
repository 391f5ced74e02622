-- Nothing of the files of a sample is refused.
use Rattle.std.proofs.Common.{◌≤◌, List, [], ◌∷◌, ◌++◌, length, ap, arith}
use Rattle.std.proofs.lemmas.List.Sums.{sum_by-append}
use Rattle.fab_syntax.specs.Plain.{PlainModule}
use Rattle.fab_syntax.specs.Spelling.{text_bytes}
use Rattle.fab_model.specs.Grid.{PlainFabric}
use Rattle.fab_fabric_text_defs.specs.Top.{top_module}
use Rattle.fab_sample_laws.specs.Sizes.{most_sample_bytes}
use Rattle.fab_sample_laws.proofs.Printed.{module_bytes, bytes_sum}
use Rattle.fab_sample_laws.proofs.Small.{texts_small}
use Rattle.fab_flow.specs.Generating.{generated_text, text_length, most_text_bytes}
use Rattle.fab_flow.proofs.Lengths.{front_of, made_loaders, in_front}
use Rattle.fab_sample_laws.specs.Ready.{SamplesAreReady}
use Rattle.fab_sample_laws.proofs.Designs.{tells_fabric, designs_read}

-- without its loader the text is no longer
short_text : (fabric : PlainFabric) → length (text_bytes (generated_text fabric)) ≤ most_sample_bytes → text_length fabric ≤ most_text_bytes
short_text fabric short =
    let front : List PlainModule = front_of fabric in
    let loaders : List PlainModule = made_loaders fabric in
    let top : List PlainModule = top_module fabric ∷ [] in
    let with_loaders = ap (λ (ms : List PlainModule). length (text_bytes ms)) (in_front fabric loaders) in
    let without = ap (λ (ms : List PlainModule). length (text_bytes ms)) (in_front fabric []) in
    let first = sum_by-append module_bytes front (loaders ++ top) in
    let second = sum_by-append module_bytes loaders top in
    let third = sum_by-append module_bytes front top in
    omega (arith, with_loaders, without, first, second, third, bytes_sum (front ++ (loaders ++ top)), bytes_sum (front ++ top), short)

pub ready : SamplesAreReady
ready files size draws least most told =
    let read = designs_read files size draws least most told in
    let fabric : PlainFabric = read.0.fabric in
    let small = texts_small files size least most (tells_fabric files size draws told) fabric read.1.spelled.fabric in
    record { design = read.0; spelled = read.1.spelled; short = short_text fabric small.bytes; resets = tt; fits = read.1.fits }

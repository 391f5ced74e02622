-- While words come, exactly one assignment of the design points is settled.
use Rattle.std.proofs.Common.{◌≡◌, false, List, [], ◌∷◌, ◌∙◌}
use Rattle.std.proofs.lemmas.List.Elements.{All-nil, All-cons}
use Rattle.fab_meaning.specs.Points.{point}
use Rattle.fab_meaning.specs.Settled.{Assignment, IsSettledOn}
use Rattle.fab_meaning.specs.Runs.{clock_name, Moment}
use Rattle.fab_meaning.specs.Loading.{IsLoading}
use Rattle.fab_model.specs.Drive.{PlainBits}
use Rattle.fab_netlist.specs.Packing.{packed}
use Rattle.fab_gen_loader.specs.Machine.{Word}
use Rattle.fab_load_runs_laws.specs.Runs.{IsClockLow}
use Rattle.fab_text_loads_laws.specs.Loads.{LoadsConfigurations}
use Rattle.fab_text_loads_laws.proofs.Runs.{has_latch, latch_loads}
use Rattle.fab_text_loads_laws.proofs.Settled.{latch_point}
use Rattle.fab_partial.specs.Columns.{lies_within, exchanged}
use Rattle.fab_runs_laws.specs.fab_points_laws_Laws.{WillShow}
use Rattle.fab_runs_laws.specs.fab_use_defs_Headline.{SettlesOnce}
use Rattle.fab_runs_laws.proofs.Setting.{cells_made}
use Rattle.fab_runs_laws.proofs.Instants.{Has}
use Rattle.fab_runs_laws.proofs.DesignRank.{design_rank}
use Rattle.fab_exchange_laws.proofs.Along.{Along, shown, along_shows}
use Rattle.fab_exchange_laws.proofs.Instants.{Exchange, writing}

module _ (e : Exchange) (held inputs : Assignment) (rest : List Word) (way : Along (writing e) held rest) (low : inputs (point [] clock_name 0) ≡ false) where
  loads : LoadsConfigurations e.s.fabric e.s.text
  loads = e.s.laws.loads e.s.fabric e.s.text e.s.is e.s.is_text

  abbrev moment : Moment
  moment = record { inputs = inputs; clock = clock_name }

  -- the loading points are settled in one way
  first_settled : (now : Assignment) × IsSettledOn (IsLoading e.s.text) e.s.text inputs held now
  first_settled =
      let run = loads.runs.exists (moment ∷ []) (All-cons IsClockLow moment [] low (All-nil IsClockLow)) held in
      (run.1.0, run.1.2)

  -- so the latches show the same bits whatever else there is, and these are bits of the design
  abbrev bits_here : PlainBits
  bits_here = exchanged (lies_within e.first e.last) e.s.bits (shown (writing e) first_settled.0)

  will_show : WillShow e.s.fabric e.s.text bits_here inputs held
  will_show now settled x y tile there number few =
      let w = writing e in
      let latch = has_latch w.fabric w.next w.text w.has w.is x y tile number there few in
      let latch_is_loading = latch_loads w.fabric w.next w.text w.has w.is x y number latch in
      loads.runs.settles_once inputs held now first_settled.0 settled first_settled.1 (latch_point x y number) latch_is_loading
      ∙ along_shows w inputs held first_settled.0 first_settled.1 rest way x y tile there number few

  pub settles_once : SettlesOnce (Has e.s) e.s.text inputs held
  settles_once =
      let rank = design_rank e.s in
      e.laws.once e.s.fabric e.s.text (packed e.s.netlist) e.s.fixed e.s.implementation bits_here inputs held rank.0 rank.1 e.s.is e.s.are e.s.is_text (cells_made e.s) e.s.legal
      (e.change (shown (writing e) first_settled.0)) will_show low rank.2

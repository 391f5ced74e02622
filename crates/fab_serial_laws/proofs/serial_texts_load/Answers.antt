use Rattle.fab_serial_laws.proofs.Loading.{loads_serially}
use Rattle.fab_serial_laws.proofs.serial_texts_load.Goals as goal

pub returns : goal.returns
returns c fabric text frames is is_text =
    loads_serially c.nested_texts.ensures c.led_runs_agree.ensures c.led_points_stay.ensures c.led_runs_exist.ensures fabric text (c.fabric_texts_take_ports.ensures fabric text frames is is_text)
    (c.fabric_texts_load.ensures fabric text is is_text)

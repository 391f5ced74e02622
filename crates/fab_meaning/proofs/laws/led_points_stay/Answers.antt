use Rattle.fab_meaning.specs.Loading.{IsStreamOf}
use Rattle.fab_meaning.proofs.Loaded.{loading_stays}
use Rattle.fab_meaning.proofs.laws.led_points_stay.Goals as goal

pub returns : goal.returns
returns c text names moments inputs later held after now last idle run s t stream p l =
    loading_stays text (IsStreamOf text names) (λ q is. is.input) moments inputs later held after now last idle run s t stream p l

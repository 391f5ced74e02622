use Rattle.fab_meaning.specs.Loading.{IsStream}
use Rattle.fab_meaning.proofs.Loaded.{loading_stays}
use Rattle.fab_meaning.proofs.laws.loading_points_stay.Goals as goal

pub returns : goal.returns
returns c text moments inputs later held after now last idle run s t stream p l =
    loading_stays text (IsStream text) (λ q is. is.input) moments inputs later held after now last idle run s t stream p l

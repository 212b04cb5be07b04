use Rattle.std.proofs.Common.{[]}
use Rattle.hd_hall.specs.Looking.{IsShownTo}
use Rattle.hd_list_pages.specs.Standing.{MayShut}
use Rattle.hd_list_pages.proofs.Ending.{told}
use Rattle.hd_list_pages.proofs.hall_view.HallView.look_once.Goals as goal

pub returns-in-Ok-clause-tells : goal.returns-in-Ok-clause-tells
returns-in-Ok-clause-tells g c =
    let seen = c.in-Ok.ensures.saw in
    told (IsShownTo g.H.House.opening []) (MayShut g.K.Keeper.faults) seen.0 _
    c.look_at.new.reader seen.1 seen.2 c.state.result c.state.ensures

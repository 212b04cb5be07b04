use Rattle.std.proofs.Common.{◌≡◌, ◌<◌, ◌∙◌, map, get_or, length, ℕ, [], Vec, sym}
use Rattle.std.proofs.lemmas.List.{get_or-map, length-map, map-set}
use Rattle.hd_exchange.specs.Extensions.{no_extensions}
use Rattle.hd_session.specs.Scripts.{Step}
use Rattle.hd_session.specs.Sessions.{new_session}
use Rattle.hd_session.proofs.Knowing.{at_place, one_of_known}
use Rattle.hd_session.proofs.Playing.{plays_one}
use Rattle.hd_session.proofs.script.play.Goals as goal

pub feed-requires : goal.feed-requires
feed-requires g c =
    let k = (g.O.Office.keeps c.args.office.now).contents in
    let session = c.index-sessions-session.result in
    record {
      login = one_of_known k c.args.sessions.now c.args.session session c.requires.known
          c.requires.session;
    }

pub returns : goal.returns
returns g c =
    let within = c.requires.session in
    let inside : c.args.session < length c.args.outs.now = rw c.requires.outs within in
    let items = λ (out : Vec ℕ g.row.A.Denot). out.items in
    let here : get_or (map items c.args.outs.now) c.args.session [] ≡
    (get_or c.args.outs.now c.args.session c.index-outs-session.result).items =
    get_or-map items c.args.outs.now c.args.session c.index-outs-session.result [] inside in
    let step : Step = record
    { session = c.args.session; piece = record { now = c.args.now.now; bytes = c.args.bytes.now } } in
    let same = at_place c.args.sessions.now c.args.session c.index-sessions-session.result
    (new_session no_extensions) within in
    rw (map-set items c.args.outs.now c.args.session c.feed.new.out)
    (plays_one _ _ _ _ c.feed.new.out step c.args.sessions.now c.feed.new.self (map items c.args.outs.now)
    within
    (length-map c.args.outs.now items ∙ c.requires.outs) (sym here) (rw same at c.feed.ensures.fed))

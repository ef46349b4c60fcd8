use Rattle.std.proofs.Common.{◌≡◌, ◌+◌, ◌-◌, ◌≤◌, ◌<◌, ◌∙◌, ap, sym, arith, Some, slice_get}
use Rattle.std.proofs.lemmas.Option.{slice_get-get_or}
use Rattle.bus_lock.specs.Seats.{seen}
use Rattle.bus_order.specs.Log.{open_length}
use Rattle.cluster_turns.proofs.TakingIn.{news_at, news_long, open_within}
use Rattle.cluster_threads.proofs.seated.SeatedPort.shown.Goals as goal

pub returns : goal.returns
returns g c =
    let p = c.args.self.now in
    let log = seen p.seat in
    let from = p.news.from in
    let low : from ≤ c.args.place = c.requires.from in
    let high : c.args.place < open_length log = c.requires.within in
    let long = news_long p.news.entries.items log from (open_length log) c.requires.shows.0.entries (open_within log) c.requires.shows.0.within in
    let at = slice_get-get_or p.news.entries.items (c.args.place - from) c.index.result.now (omega (arith, long, low, high)) ∙ ap Some (sym c.index.ensures) in
    let there = news_at p.news.entries.items log from (open_length log) c.requires.shows.0.entries (c.args.place - from) c.index.result.now at in
    let place : from + (c.args.place - from) ≡ c.args.place = omega (arith, low) in
    ap (slice_get log) (sym place) ∙ there ∙ ap Some (sym c.deref.ensures)

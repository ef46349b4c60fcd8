use Rattle.entry_lines.specs.declared.told.ToldWhat.TheVariants.{Fetch}
use Rattle.log_audit.specs.Fetches.{KeepsAsked}
use Rattle.audited_process.specs.Lines.{KeepsFetched}
use Rattle.audited_process.proofs.LineLeads.{decides_more}
use Rattle.audited_process.proofs.lines.fetch.Goals as goal

pub returns : goal.returns
returns c =
    decides_more (KeepsAsked c.args.front.now c.args.pid c.args.index c.asked_of-kept.result) (KeepsFetched c.args.front.now c.args.pid c.args.audited.now c.args.fetches.now)
    (record { place = c.args.place; by = c.args.by; what = Fetch (c.args.pid).0 c.args.index })
    (λ system log keeps. c.asked_of-kept.ensures system log c.args.front.now keeps.before keeps.fetched keeps.audited)
    c.next_fetch.result c.next_fetch.ensures

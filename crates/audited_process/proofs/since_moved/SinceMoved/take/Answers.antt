use Rattle.std.proofs.Common.{◌≡◌, ◌∙◌, ap, sym}
use Rattle.bus_msg.specs.PlacedAfter.{what}
use Rattle.log_laws.specs.pages.Next.{moves_next}
use Rattle.audited_process.specs.Concerns.{is_moved_at}
use Rattle.audited_process.specs.SinceMoved.{waits_on}
use Rattle.audited_process.proofs.ByKind.{no_exit}
use Rattle.audited_process.proofs.GoingOn.{unborn}
use Rattle.audited_process.proofs.Paging.{moved_so}
use Rattle.audited_process.proofs.Waits.{waits_after}
use Rattle.audited_process.proofs.since_moved.SinceMoved.take.Goals as goal

pub returns : goal.returns
returns c = λ system log valid legal may here unended goes is.
    let p = c.args.pid in
    let e = c.args.entry.now in
    let moves : moves_next system log e p ≡ c.is_moved-moved.result =
    moved_so system log e p valid legal unended ∙ ap (λ places. is_moved_at p places (what e)) here ∙ sym c.is_moved-moved.ensures in
    record {
      sent = c.in_ok-take_page.ensures system log valid may.stands moves is.sent;
      only = c.only_on-self.ensures system log moves is.only;
      waits = c.follow-self.ensures ∙ ap (λ places. waits_on (c.args.self.now).waits p c.is_moved-moved.result places (what e)) (sym here)
          ∙ waits_after system log e p unended (unborn system log e p valid legal may unended goes) (no_exit p (what e) goes) c.is_moved-moved.result (c.args.self.now).waits moves is.waits;
    }

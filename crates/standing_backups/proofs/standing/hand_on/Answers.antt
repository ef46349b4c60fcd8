use Rattle.std.proofs.Common.{◌∷◌, ◌∙◌, ap, sym, subst, map, Some}
use Rattle.t32_base.specs.declared.letter.BackRec.{BackRec}
use Rattle.plain_kernel.specs.Maps.{pid_of}
use Rattle.backup_mode.specs.Renewal.{AreInOrder, number_of}
use Rattle.residents.specs.Records.{record_at}
use Rattle.standing_backups.proofs.RecordLaws.{in_order, numbers_are, records_are}
use Rattle.standing_backups.proofs.standing.hand_on.Goals as goal

pub standing-requires : goal.standing-requires
standing-requires c =
    subst AreInOrder (sym c.in_ok-new.ensures)
    (in_order c.args.here.now.here c.requires.named c.in_ok-recs.recs c.args.pid c.in_ok-others.others.keys c.in_ok-recs.ensures.records (c.requires.can).stated c.in_ok-recs.ensures.rising)

pub returns : goal.returns
returns c =
    let here = c.args.here.now.here in
    let recs = c.in_ok-recs.recs in
    let others = c.in_ok-others.others.keys in
    record {
      to = c.in-Some.to;
      recs = c.in_ok-new.field-0;
      backup = sym c.next_backup.ensures ∙ c.in-Some.is;
      family = ap (map number_of) c.in_ok-new.ensures ∙ numbers_are here c.requires.named recs c.args.pid others c.in_ok-recs.ensures.records ∙ ap (λ ns. (c.args.pid).0 ∷ ns) c.in_ok-others.ensures;
      records =
          ap (map Some) c.in_ok-new.ensures ∙ records_are here c.requires.named recs (c.args.pid ∷ map pid_of others) c.in_ok-recs.ensures.records
          ∙ ap (map (λ (r : BackRec). record_at here r.pid)) (sym c.in_ok-new.ensures);
      post_is = c.standing.ensures;
    }

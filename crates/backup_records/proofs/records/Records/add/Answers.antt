use Rattle.std.proofs.Common.{◌≡◌, ap, subst, sym, ◌∙◌}
use Rattle.std.specs.BTreeMap.{insert_entry}
use Rattle.std.specs.Map.{values_of}
use Rattle.std.specs.Ordering.{nat_cmp}
use Rattle.t32_base.specs.declared.process.Pid.{Pid}
use Rattle.std.specs.List.{AllByRecursion}
use Rattle.backup_records.specs.ByPid.{IsOwn}
use Rattle.backup_records.specs.Records.{with_record}
use Rattle.backup_records.proofs.ByPidLaws.{own_put, values_put}
use Rattle.backup_records.proofs.records.Records.add.Goals as goal

pub invariant_of-self-2 : goal.invariant_of-self-2
invariant_of-self-2 c =
    let put : c.insert.new.self.entries ≡ insert_entry nat_cmp c.self.inside.by_pid.entries (c.args.kept.pid).0 c.args.kept =
    c.in_ok-insert.ensures.entries ∙ ap (λ (p : Pid). insert_entry nat_cmp c.self.inside.by_pid.entries p.0 c.args.kept) c.pid-pid.ensures in
    record {
      ordered = c.insert.ensures.ordered;
      own = subst (AllByRecursion IsOwn) (sym put) (own_put c.args.kept c.self.inside.by_pid.entries c.self.invariant.own);
    }

pub returns-clause-ok : goal.returns-clause-ok
returns-clause-ok c =
    let put : c.insert.new.self.entries ≡ insert_entry nat_cmp c.self.inside.by_pid.entries (c.args.kept.pid).0 c.args.kept =
    c.in_ok-insert.ensures.entries ∙ ap (λ (p : Pid). insert_entry nat_cmp c.self.inside.by_pid.entries p.0 c.args.kept) c.pid-pid.ensures in
    ap values_of put
    ∙ values_put c.args.kept c.self.inside.by_pid.entries c.self.invariant.own
    ∙ ap (with_record c.args.kept) c.self.view_is

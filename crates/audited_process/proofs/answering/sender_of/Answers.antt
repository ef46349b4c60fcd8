use Rattle.std.proofs.Common.{◌≡◌, ◌∙◌, ◌≤◌, ap, arith, Option}
use Rattle.std.specs.Option.{option_map_or}
use Rattle.proc_state.specs.State.{ProcState}
use Rattle.cert_sched.specs.Steps.{page_count}
use Rattle.log_fetches.proofs.Keeping.{count_few}
use Rattle.audited_process.specs.declared.audited.Audited.{Audited}
use Rattle.audited_process.proofs.answering.sender_of.Goals as goal

pub returns : goal.returns
returns c = λ system log front limits valid before limited fetched family is.
    let few : page_count system log c.args.pid ≤ 256 = count_few system log c.args.pid valid in
    let all : page_count system log c.args.pid ≡ ((c.args.audited.now).process.small).pages = ap (λ (o : Option ProcState). option_map_or (λ (s : ProcState). (s.small).pages) o 0) is.there in
    let pages : page_count system log c.args.pid ≡ c.min-pages.result = grind (arith, few, all, c.min-pages.ensures) in
    record {
      before = before;
      limited = limited;
      process = record {
        there = is.there;
        begins = ap (λ (a : Audited). (a.begun).steps) c.audited.view_is ∙ (is.begun).steps;
        letters = ap (λ (a : Audited). (a.begun).saved) c.audited.view_is
            ∙ (is.begun).saved;
      };
      whole = c.all_come.ensures system log fetched pages;
      parent = c.is_parent.ensures system log family;
    }

use Rattle.std.proofs.Common.{◌/◌, ◌∙◌, sym, ap, arith, length}
use Rattle.page_server.specs.Account.{Account, account}
use Rattle.log_cuts.specs.Memory.{is_put}
use Rattle.log_cuts.proofs.Lists.{one_fails, one_more}
use Rattle.log_cuts.proofs.memory.is_memory.Goals as goal

pub returns-then-not-branch-clause-is : goal.returns-then-not-branch-clause-is
returns-then-not-branch-clause-is g c =
    let bytes = c.args.ram.now.bytes in
    let below = c.loop-index-test.true in
    let size = c.pages-index-end.ensures.bytes in
    let marks = c.pages-index-end.ensures.marks in
    sym (one_fails (is_put (account c.args.pager.now c.args.pid).now bytes) (length bytes / 256) c.loop-index.index (omega (arith, below, size, marks))
    (ap (λ (a : Account). is_put a.now bytes c.loop-index.index) (sym (c.loop-index.invariant.accounts c.args.pid)) ∙ sym c.in_ok-is_put.ensures.is ∙ c.if-not-branch.true))

pub loop-index-preserved : goal.loop-index-preserved
loop-index-preserved g c = record {
  accounts = λ p. c.in_ok-is_put.ensures.accounts p ∙ c.loop-index.invariant.accounts p;
  fetches = c.in_ok-is_put.ensures.fetches ∙ c.loop-index.invariant.fetches;
  put = one_more (is_put (account c.args.pager.now c.args.pid).now c.args.ram.now.bytes) c.loop-index.index c.loop-index.invariant.put
      (ap (λ (a : Account). is_put a.now c.args.ram.now.bytes c.loop-index.index) (sym (c.loop-index.invariant.accounts c.args.pid)) ∙ sym c.in_ok-is_put.ensures.is ∙ c.if-not-branch.false);
}

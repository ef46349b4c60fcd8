use Rattle.std.proofs.Common.{◌≡◌, ◌≤◌, ◌+◌, ℕ, append-nil, sym, ◌∙◌, ap, subst, List, [], ◌∷◌, ◌++◌, map, append_assoc, Ok, Err, rules}
use Rattle.std.specs.List.Sorted.{IsStrictlySortedBy}
use Rattle.std.specs.Ordering.{nat_cmp}
use Rattle.plain_kernel.specs.Starts.{starts_in}
use Rattle.proc_state.specs.State.{ProcState}
use Rattle.page_accounts.specs.Booting.{CallsMade, CountsAfterPuts, pages_of}
use Rattle.page_accounts.proofs.Booted.{HoldsMemories, all_kept, next_empty, next_holds, seen, seen_last}
use Rattle.page_accounts.proofs.Counts.{refused_among, then_puts}
use Rattle.page_accounts.proofs.RootPages.{all_pages_of, pages_last, pages_upto}
use Rattle.page_accounts.proofs.booting.put_roots.Goals as goal

pub put_memory-requires : goal.put_memory-requires
put_memory-requires g c =
    let e : ℕ × ProcState = (c.in-Some.pid.now, c.in-Some.start.now) in
    next_empty (seen c.loop-pid.yielded) e c.next.new.self (rw c.in-Some.ensures.steps at c.loop-pid.invariant.ordered) c.loop-pid.pager c.loop-pid.invariant.holds

pub loop-pid-preserved : goal.loop-pid-preserved
loop-pid-preserved g c =
    let e : ℕ × ProcState = (c.in-Some.pid.now, c.in-Some.start.now) in
    let old = c.loop-pid.pager in
    let new = c.put_memory.new.pager in
    let before : List (ℕ × ProcState) = seen c.loop-pid.yielded in
    let last : seen (c.loop-pid.yielded ++ (c.in-Some.pid, c.in-Some.start) ∷ []) ≡ before ++ e ∷ [] = seen_last c.loop-pid.yielded (c.in-Some.pid, c.in-Some.start) in
    let ordered : IsStrictlySortedBy nat_cmp (map (λ (d : ℕ × ProcState). d.0) (before ++ e ∷ c.next.new.self)) = rw c.in-Some.ensures.steps at c.loop-pid.invariant.ordered in
    record {
      all = ap (λ es. es ++ c.next.new.self) last ∙ append_assoc before (e ∷ []) c.next.new.self ∙ rw c.in-Some.ensures.steps at c.loop-pid.invariant.all;
      ordered = subst (λ es. IsStrictlySortedBy nat_cmp (map (λ (d : ℕ × ProcState). d.0) es)) (sym (ap (λ es. es ++ c.next.new.self) last ∙ append_assoc before (e ∷ []) c.next.new.self)) ordered;
      holds = subst (λ es. HoldsMemories es new) (sym last) (next_holds before e c.next.new.self ordered old new c.loop-pid.invariant.holds c.in_ok-put_memory.ensures.accounts);
      fetches = c.in_ok-put_memory.ensures.fetches ∙ c.loop-pid.invariant.fetches;
      counts = subst (λ n. CallsMade n c.args.pager.now.counts new.counts) (sym (ap pages_of last ∙ pages_last before e))
          (then_puts (pages_of before) (c.in-Some.start.now.small.pages) c.args.pager.now.counts old.counts new.counts (Ok tt) c.loop-pid.invariant.counts c.in_ok-put_memory.ensures.counts);
    }

pub returns-clause-keeps : goal.returns-clause-keeps
returns-clause-keeps g c system states =
    let before = seen c.loop-pid.yielded in
    let whole : before ≡ c.args.starts.now.entries = sym (append-nil before) ∙ sym (ap (λ es. before ++ es) c.in-None.ensures.steps.0) ∙ c.loop-pid.invariant.all in
    all_kept system before c.loop-pid.pager (ap starts_in whole ∙ states) c.loop-pid.invariant.holds c.loop-pid.invariant.fetches

pub returns-clause-calls : goal.returns-clause-calls
returns-clause-calls g c system valid states =
    let before = seen c.loop-pid.yielded in
    let whole : before ≡ c.args.starts.now.entries = sym (append-nil before) ∙ sym (ap (λ es. before ++ es) c.in-None.ensures.steps.0) ∙ c.loop-pid.invariant.all in
    subst (λ n. CallsMade n c.args.pager.now.counts c.loop-pid.pager.counts) (ap pages_of whole ∙ all_pages_of system c.args.starts.now.entries valid states) c.loop-pid.invariant.counts

pub returns-in_err-put_memory-clause-counts : goal.returns-in_err-put_memory-clause-counts
returns-in_err-put_memory-clause-counts g c =
    let e : ℕ × ProcState = (c.in-Some.pid.now, c.in-Some.start.now) in
    let old = c.args.pager.now.counts in
    let mid = c.loop-pid.pager.counts in
    let new = c.put_memory.new.pager.counts in
    let before : List (ℕ × ProcState) = seen c.loop-pid.yielded in
    let n = c.in-Some.start.now.small.pages in
    let refused = c.in_err-put_memory.field-0.0 in
    let same : c.from_residual.result ≡ Err refused = search rules in
    let all : before ++ e ∷ c.next.new.self ≡ c.args.starts.now.entries = rw c.in-Some.ensures.steps at c.loop-pid.invariant.all in
    let among = then_puts (pages_of before) n old mid new (Err refused) c.loop-pid.invariant.counts c.in_err-put_memory.ensures.counts in
    subst (CountsAfterPuts (pages_of c.args.starts.now.entries) old new) (sym same)
    (refused_among (pages_of before + n) (pages_of c.args.starts.now.entries) old new refused (subst (λ es. pages_of before + n ≤ pages_of es) all (pages_upto before e c.next.new.self)) among)

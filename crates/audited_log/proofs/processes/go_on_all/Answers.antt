use Rattle.std.proofs.Common.{◌≡◌, ℕ, ◌+◌, sym, ◌∙◌, ap, arith, subst, List, length, take, get_or, slice_get, Some, BTreeMap}
use Rattle.std.specs.List.Sorted.{IsStrictlySortedBy}
use Rattle.std.specs.Ordering.{nat_cmp}
use Rattle.std.proofs.Math.Seq.{take-length}
use Rattle.std.proofs.lemmas.Option.{slice_get-get_or}
use Rattle.audited_process.specs.declared.audited.Audited.{Audited}
use Rattle.audited_log.specs.Processes.{kept_at}
use Rattle.audited_log.proofs.AllGo.{GoneOn, all_gone, gone_more, gone_none, gone_none_yet, was}
use Rattle.audited_log.proofs.processes.go_on_all.Goals as goal
use Rattle.audited_log.proofs.processes.go_on_all.Goals.{in-Some+in_ok-go_on, in_default}

pub loop-pid-init : goal.loop-pid-init
loop-pid-init c = gone_none_yet c.args.before.now c.args.entry.now c.args.processes.now.entries

pub go_on-requires : goal.go_on-requires
go_on-requires c =
    let ns = c.as_slice-pid-items.result.now in
    let i = c.loop-pid.pid-index in
    let n = get_or ns i 0 in
    let sorted : IsStrictlySortedBy nat_cmp ns = subst (IsStrictlySortedBy nat_cmp) (sym c.as_slice-pid-items.ensures.value) c.in_ok-pids.ensures.ordered in
    let at : slice_get ns i ≡ Some n = slice_get-get_or ns i 0 c.loop-pid-test.true in
    let found : kept_at c.loop-pid.processes.entries (record { 0 = n }) ≡ Some c.in-Some.audited.now = sym c.in-Some.ensures.value in
    c.requires (record { 0 = n }) c.in-Some.audited.now
    (was c.args.before.now c.args.entry.now ns i n c.loop-pid-test.true sorted at c.args.processes.now.entries c.loop-pid.processes.entries c.loop-pid.invariant c.in-Some.audited.now found)

pub loop-pid-preserved : goal.loop-pid-preserved
loop-pid-preserved c =
    let ns = c.as_slice-pid-items.result.now in
    let i = c.loop-pid.pid-index in
    let n = get_or ns i 0 in
    let before = c.args.before.now in
    let e = c.args.entry.now in
    let old = c.args.processes.now.entries in
    let now = c.loop-pid.processes.entries in
    let sorted : IsStrictlySortedBy nat_cmp ns = subst (IsStrictlySortedBy nat_cmp) (sym c.as_slice-pid-items.ensures.value) c.in_ok-pids.ensures.ordered in
    let at : slice_get ns i ≡ Some n = slice_get-get_or ns i 0 c.loop-pid-test.true in
    elim c.match-get_mut.branch [
      | in-Some+in_ok-go_on w ↦
          (subst (λ (m : BTreeMap ℕ Audited). GoneOn before e (take (i + 1) ns) old m.entries) (sym w.processes-is)
          (subst (GoneOn before e (take (i + 1) ns) old) (sym (c.get_mut.follows.holds w.go_on.new.audited).0)
          (gone_more before e ns i n c.loop-pid-test.true sorted at old now c.loop-pid.invariant w.in-Some.audited.now w.go_on.new.audited (sym w.in-Some.ensures.value) w.in_ok-go_on.ensures)))
      | in_default w ↦
          (subst (λ (m : BTreeMap ℕ Audited). GoneOn before e (take (i + 1) ns) old m.entries) (sym (w.processes-is ∙ c.get_mut.follows.holds-at-none))
          (gone_none before e ns i n c.loop-pid-test.true sorted at old now c.loop-pid.invariant (sym w.in_default.ensures.value)))
    ]

pub returns : goal.returns
returns c =
    let ns = c.as_slice-pid-items.result.now in
    let last : length ns ≡ c.loop-pid.pid-index = let low = c.loop-pid-test.false in let high = c.loop-pid.auto.pid-index-end in omega (arith, low, high) in
    all_gone c.args.before.now c.args.entry.now c.args.processes.now.entries c.loop-pid.processes.entries
    (subst (λ (ns : List ℕ). GoneOn c.args.before.now c.args.entry.now ns c.args.processes.now.entries c.loop-pid.processes.entries)
    (ap (λ k. take k ns) (sym last) ∙ take-length ns ∙ c.as_slice-pid-items.ensures.value ∙ c.in_ok-pids.ensures.numbers) c.loop-pid.invariant)

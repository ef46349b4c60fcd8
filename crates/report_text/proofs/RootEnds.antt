-- The ends of the roots, root by root, and one end more.
use Rattle.std.proofs.Common.{◌≡◌, ℕ, ◌+◌, ◌<◌, List, [], ◌∷◌, ◌++◌, length, take, get_or, sym, ap, ◌∙◌, Option, Some, None}
use Rattle.std.specs.BTreeMap.{insert_entry}
use Rattle.std.specs.Ordering.{nat_cmp}
use Rattle.std.specs.FinMap.{put}
use Rattle.std.proofs.lemmas.List.{take_more}
use Rattle.std.proofs.lemmas.List.Sums.{fold-append}
use Rattle.t32_base.specs.declared.process.Pid.{Pid}
use Rattle.t32_base.specs.declared.process.End.{End}
use Rattle.sys_text.specs.declared.system.Root.{Root}
use Rattle.sys_text.specs.Boot.{with_pids}
use Rattle.plain_kernel.proofs.Roots.{insert_put}
use Rattle.cert_sched.specs.Schedule.{next_pid}
use Rattle.cert_sched.proofs.RootPids.{pids-snoc}
use Rattle.bus_msg.specs.declared.entry.What.{What}
use Rattle.bus_msg.specs.declared.entry.What.TheVariants.{Birth, Exit}
use Rattle.report_text.specs.Outcome.{Outcome, ends_of, told_after}

pub ends_more : (roots : List Root) (n : ℕ) (d root : Root) (pid : Pid) (es fs : List (ℕ × Option End)) → n < length roots → root ≡ get_or roots n d → pid ≡ next_pid (take n roots) root
    → es ≡ ends_of (with_pids [] (take n roots)) → fs ≡ insert_entry nat_cmp es pid.0 None → fs ≡ ends_of (with_pids [] (take (n + 1) roots))
ends_more roots n d root pid es fs within is pid_is before insert =
    let more : with_pids [] (take (n + 1) roots) ≡ with_pids [] (take n roots) ++ (pid, root) ∷ [] =
    ap (with_pids []) (take_more roots n d within ∙ ap (λ r. take n roots ++ r ∷ []) (sym is)) ∙ pids-snoc [] (take n roots) root
    ∙ ap (λ p. with_pids [] (take n roots) ++ (p, root) ∷ []) (sym pid_is) in
    insert ∙ insert_put pid.0 None es ∙ ap (put nat_cmp pid.0 None) before
    ∙ sym (ap ends_of more ∙ fold-append _ [] (with_pids [] (take n roots)) ((pid, root) ∷ []))

-- what a map of ends with one more entry tells
pub birth_told : (o now : Outcome) (w : What) (parent child : Pid) (at end : ℕ) (ends : List (ℕ × Option End)) → ends ≡ insert_entry nat_cmp o.ends child.0 None → o ≡ now → w ≡ Birth parent at child end → record o { ends = ends } ≡ told_after w now
birth_told o now w parent child at end ends insert same is =
    ap (λ ends. record o { ends = ends }) (insert ∙ insert_put child.0 None o.ends) ∙ ap (told_after (Birth parent at child end)) same ∙ ap (λ w. told_after w now) (sym is)

pub exit_told : (o now : Outcome) (w : What) (pid : Pid) (at : ℕ) (end : End) (ends : List (ℕ × Option End)) → ends ≡ insert_entry nat_cmp o.ends pid.0 (Some end) → o ≡ now → w ≡ Exit pid at end → record o { ends = ends } ≡ told_after w now
exit_told o now w pid at end ends insert same is =
    ap (λ ends. record o { ends = ends }) (insert ∙ insert_put pid.0 (Some end) o.ends) ∙ ap (told_after (Exit pid at end)) same ∙ ap (λ w. told_after w now) (sym is)

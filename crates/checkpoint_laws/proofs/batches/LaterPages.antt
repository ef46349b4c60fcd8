-- The posts of a batch are no pages of a later step.
use Rattle.std.proofs.Common.{◌≡◌, ℕ, ◌≤◌, refl, ap, arith, List, [], ◌∷◌, ◌++◌, Bool, true, false, ◌&&◌, ltb, Option}
use Rattle.std.proofs.lemmas.Bool.Decides.{nat_tests}
use Rattle.t32_base.specs.declared.process.Pid.{Pid}
use Rattle.t32_base.specs.declared.process.ClusterNo.{ClusterNo}
use Rattle.sys_text.specs.declared.system.System.{System}
use Rattle.proc_state.specs.State.{ProcState}
use Rattle.bus_msg.specs.declared.entry.Entry.{Entry}
use Rattle.bus_msg.specs.Places.{same_pid}
use Rattle.cert_sched.specs.Appended.{entry_of}
use Rattle.checkpoint_laws.specs.marks.Sent.{SentUpto}
use Rattle.checkpoint_laws.proofs.marks.SentPages.{sent_on}
use Rattle.checkpoint_laws.specs.batches.Underway.{page_left, sync_left}

not_above : (m n : ℕ) → m ≤ n → ltb n m ≡ false
not_above m n low = grind (arith, nat_tests)

second : (a b : Bool) → b ≡ false → (a && b) ≡ false
second true b is_not = is_not
second false b is_not = refl

module _ (system : System) (log : List Entry) (k : ClusterNo) (p : Pid) (s : ProcState) where
  pub own_upto : (i n : ℕ) → (s.small).steps ≤ n → SentUpto system log p n → SentUpto system (log ++ entry_of system log (page_left k p s i) ∷ []) p n
  own_upto i n low upto = sent_on system log p (entry_of system log (page_left k p s i)) n (second (same_pid p p) (ltb n (s.small).steps) (not_above (s.small).steps n low)) upto

  pub others_upto : (q : Pid) (i n : ℕ) → same_pid p q ≡ false → SentUpto system log q n → SentUpto system (log ++ entry_of system log (page_left k p s i) ∷ []) q n
  others_upto q i n apart upto = sent_on system log q (entry_of system log (page_left k p s i)) n (ap (λ b. b && ltb n (s.small).steps) apart) upto

  pub sync_upto : (q : Pid) (read : List ℕ) (took : Option ℕ) (n : ℕ) → SentUpto system log q n → SentUpto system (log ++ entry_of system log (sync_left k p s read took) ∷ []) q n
  sync_upto q read took n upto = sent_on system log q (entry_of system log (sync_left k p s read took)) n refl upto

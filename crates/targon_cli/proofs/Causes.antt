-- The cause of each status.
use Rattle.std.proofs.Common.{◌≡◌, ℕ, ◌≤◌, ◌<◌, Bool, true, false, List, ◌⊎◌, inl, inr, length, refl, sym, ap, ◌∙◌, subst, arith, Option, Some, None, length-append}
use Rattle.std.specs.Prelude.{is_some}
use Rattle.std.specs.Io.KnownBytes.{Consumes, Appends}
use Rattle.t32_base.specs.Streams.{Rose}
use Rattle.command_words.specs.Command.{command_of}
use Rattle.command_words.specs.declared.command.Command.{Command}
use Rattle.cluster_run.specs.declared.life.Ran.{Ran}
use Rattle.targon_cli.specs.Commands.{makes_run, reads_input}
use Rattle.targon_cli.specs.Reply.{Makes, usage_line}
use Rattle.targon_cli.specs.Answer.{In, Out, Says, Wrote, WriteFault, IsAll, ReadsTooMany, Answers, Replied, TooLong, ReadFault, OutOfMemory, LeavesInput, Offers, IsReplied, Completes, IsCutOff, IsOfRun, AppendsPart, IsStatus, AnswersFound, SaysUsage, Answered}
use Rattle.targon_cli.proofs.Handing.{takes_all, takes_left}
use Rattle.targon_cli.proofs.Replies.{IsReply, lost_made, status_made, run_made, no_run_made, unread_same}

-- the status of what is said, and its cause
told : (wanted : ℕ) (text : List ℕ) (status : ℕ) (old new : Out) → Says wanted text status old new → ((status ≡ wanted) × Appends old.holds new.holds text) ⊎ ((status ≡ 5) × Rose old.faults new.faults)
told wanted text status old new (Wrote e a) = inl (e, a)
told wanted text status old new (WriteFault e r a) = inr (e, r)

-- a status that is not said
not_said : {X : Type 0} (wanted : ℕ) (text : List ℕ) (status k : ℕ) (old new : Out) → (wanted ≡ k → ⊥) → (5 ≡ k → ⊥) → Says wanted text status old new → status ≡ k → X
not_said wanted text status k old new n m (Wrote e a) f = absurd (n (sym e ∙ f))
not_said wanted text status k old new n m (WriteFault e r a) f = absurd (m (sym e ∙ f))

status_5_said : (wanted : ℕ) (text : List ℕ) (status : ℕ) (old new : Out) → (wanted ≡ 5 → ⊥) → Says wanted text status old new → status ≡ 5 → Rose old.faults new.faults
status_5_said wanted text status old new n (Wrote e a) f = absurd (n (sym e ∙ f))
status_5_said wanted text status old new n (WriteFault e r a) f = r

-- ---- what is answered, by its status

-- a status of a reply: the whole text was written under it
replied : (words : List (List ℕ)) (command : Command) (status : ℕ) (old new : In) (ended : Bool) (before after : Out) (ran : Option Ran) → command_of words ≡ Some command
    → (4 ≡ status → ⊥) → (5 ≡ status → ⊥) → (6 ≡ status → ⊥) → (8 ≡ status → ⊥)
    → Answers command status old new ended before after ran → IsReplied words status old new ended before after ran
replied words command status old new ended before after ran w n4 n5 n6 n8 (Replied bytes wanted text r m says) =
    elim (told wanted text status before after says) [
      | inl s ↦ record { command = command; words_are = w; bytes = bytes; text = text; read = r; made = subst (λ k. Makes command bytes k text ran) (sym s.0) m; written = s.1 }
      | inr f ↦ absurd (n5 (sym f.0))
    ]
replied words command status old new ended before after ran w n4 n5 n6 n8 (TooLong bytes reads r says none) = not_said 8 _ status status before after n8 n5 says refl
replied words command status old new ended before after ran w n4 n5 n6 n8 (ReadFault reads r says none) = not_said 4 _ status status before after n4 n5 says refl
replied words command status old new ended before after ran w n4 n5 n6 n8 (OutOfMemory left e keeps none) = absurd (n6 (sym e))

no_reply_by : (wanted k : ℕ) → IsReply wanted → 3 < k → (7 ≡ k → ⊥) → wanted ≡ k → ⊥
no_reply_by wanted k (inl (inl z)) above n7 e = omega (arith, z, e, above)
no_reply_by wanted k (inl (inr (inl z))) above n7 e = omega (arith, z, e, above)
no_reply_by wanted k (inl (inr (inr (inl z)))) above n7 e = omega (arith, z, e, above)
no_reply_by wanted k (inl (inr (inr (inr z)))) above n7 e = omega (arith, z, e, above)
no_reply_by wanted k (inr z) above n7 e = n7 (sym z ∙ e)

-- a status above 3 but 7 is none of a reply
no_reply : (command : Command) (bytes : List ℕ) (wanted k : ℕ) (text : List ℕ) (ran : Option Ran) → Makes command bytes wanted text ran → 3 < k → (7 ≡ k → ⊥) → wanted ≡ k → ⊥
no_reply command bytes wanted k text ran m above n7 e = no_reply_by wanted k (status_made command bytes wanted text ran m) above n7 e

status_4 : (command : Command) (status : ℕ) (old new : In) (ended : Bool) (before after : Out) (ran : Option Ran) → Answers command status old new ended before after ran → status ≡ 4 → Rose old.faults new.faults
status_4 command status old new ended before after ran (Replied bytes wanted text r m says) = not_said wanted text status 4 before after (no_reply command bytes wanted 4 text ran m (omega arith) (λ e. omega (arith, e))) (λ e. omega arith) says
status_4 command status old new ended before after ran (TooLong bytes reads r says none) = not_said 8 _ status 4 before after (λ e. omega arith) (λ e. omega arith) says
status_4 command status old new ended before after ran (ReadFault reads r says none) = λ e. r
status_4 command status old new ended before after ran (OutOfMemory left e keeps none) = λ f. absurd (omega arith)

status_5 : (command : Command) (status : ℕ) (old new : In) (ended : Bool) (before after : Out) (ran : Option Ran) → Answers command status old new ended before after ran → status ≡ 5 → Rose before.faults after.faults
status_5 command status old new ended before after ran (Replied bytes wanted text r m says) = status_5_said wanted text status before after (no_reply command bytes wanted 5 text ran m (omega arith) (λ e. omega (arith, e))) says
status_5 command status old new ended before after ran (TooLong bytes reads r says none) = status_5_said 8 _ status before after (λ e. omega arith) says
status_5 command status old new ended before after ran (ReadFault reads r says none) = status_5_said 4 _ status before after (λ e. omega arith) says
status_5 command status old new ended before after ran (OutOfMemory left e keeps none) = λ f. absurd (omega arith)

status_8 : (command : Command) (status : ℕ) (old new : In) (ended : Bool) (before after : Out) (ran : Option Ran) → Answers command status old new ended before after ran → status ≡ 8 → (bytes : List ℕ) × ReadsTooMany old new bytes
status_8 command status old new ended before after ran (Replied bytes wanted text r m says) = not_said wanted text status 8 before after (no_reply command bytes wanted 8 text ran m (omega arith) (λ e. omega (arith, e))) (λ e. omega arith) says
status_8 command status old new ended before after ran (TooLong bytes reads r says none) = λ e. (bytes, r)
status_8 command status old new ended before after ran (ReadFault reads r says none) = not_said 4 _ status 8 before after (λ e. omega arith) (λ e. omega arith) says
status_8 command status old new ended before after ran (OutOfMemory left e keeps none) = λ f. absurd (omega arith)

is_status_said : (wanted : ℕ) (text : List ℕ) (status : ℕ) (old new : Out) → IsStatus wanted → Says wanted text status old new → IsStatus status
is_status_said wanted text status old new w (Wrote e a) = subst IsStatus (sym e) w
is_status_said wanted text status old new w (WriteFault e r a) = subst IsStatus (sym e) (grind arith)

is_status_made : (wanted : ℕ) → IsReply wanted → IsStatus wanted
is_status_made wanted (inl (inl z)) = inl z
is_status_made wanted (inl (inr (inl z))) = inr (inl z)
is_status_made wanted (inl (inr (inr (inl z)))) = inr (inr (inl z))
is_status_made wanted (inl (inr (inr (inr z)))) = inr (inr (inr (inl z)))
is_status_made wanted (inr z) = inr (inr (inr (inr (inr (inr (inr (inl z)))))))

is_status : (command : Command) (status : ℕ) (old new : In) (ended : Bool) (before after : Out) (ran : Option Ran) → Answers command status old new ended before after ran → IsStatus status
is_status command status old new ended before after ran (Replied bytes wanted text r m says) = is_status_said wanted text status before after (is_status_made wanted (status_made command bytes wanted text ran m)) says
is_status command status old new ended before after ran (TooLong bytes reads r says none) = is_status_said 8 _ status before after (grind arith) says
is_status command status old new ended before after ran (ReadFault reads r says none) = is_status_said 4 _ status before after (grind arith) says
is_status command status old new ended before after ran (OutOfMemory left e keeps none) = subst IsStatus (sym e) (grind arith)

-- ---- the run that is handed out

no_run : (command : Command) (status : ℕ) (old new : In) (ended : Bool) (before after : Out) (ran : Option Ran) → Answers command status old new ended before after ran
    → (status ≡ 0 → ⊥) → (status ≡ 5 → ⊥) → (status ≡ 7 → ⊥) → ran ≡ None
no_run command status old new ended before after ran (Replied bytes wanted text r m says) n0 n5 n7 =
    elim (told wanted text status before after says) [
      | inl s ↦ no_run_made command bytes wanted text ran m (λ z. n0 (s.0 ∙ z)) (λ z. n7 (s.0 ∙ z))
      | inr f ↦ absurd (n5 f.0)
    ]
no_run command status old new ended before after ran (TooLong bytes reads r says none) n0 n5 n7 = none
no_run command status old new ended before after ran (ReadFault reads r says none) n0 n5 n7 = none
no_run command status old new ended before after ran (OutOfMemory left e keeps none) n0 n5 n7 = none

-- a front of the text was written, where the sink failed
front : (wanted : ℕ) (text : List ℕ) (status : ℕ) (old new : Out) → (wanted ≡ 5 → ⊥) → Says wanted text status old new → status ≡ 5 → AppendsPart old.holds new.holds text
front wanted text status old new n (Wrote e a) f = absurd (n (sym e ∙ f))
front wanted text status old new n (WriteFault e r a) f = a

none_there : {X : Type 0} (ran : Option Ran) → ran ≡ None → is_some ran ≡ true → X
none_there None e h = cc
none_there (Some r) e h = cc

-- a reply that has a run is a report under the status 0 or 7
run_reply : (command : Command) (bytes : List ℕ) (wanted : ℕ) (text : List ℕ) (ran : Option Ran) → Makes command bytes wanted text ran → is_some ran ≡ true → IsReply wanted → IsOfRun wanted
run_reply command bytes wanted text ran m h (inl (inl z)) = inl z
run_reply command bytes wanted text ran m h (inl (inr (inl z))) = none_there ran (no_run_made command bytes wanted text ran m (λ e. absurd (omega (arith, z, e))) (λ e. absurd (omega (arith, z, e)))) h
run_reply command bytes wanted text ran m h (inl (inr (inr (inl z)))) = none_there ran (no_run_made command bytes wanted text ran m (λ e. absurd (omega (arith, z, e))) (λ e. absurd (omega (arith, z, e)))) h
run_reply command bytes wanted text ran m h (inl (inr (inr (inr z)))) = none_there ran (no_run_made command bytes wanted text ran m (λ e. absurd (omega (arith, z, e))) (λ e. absurd (omega (arith, z, e)))) h
run_reply command bytes wanted text ran m h (inr z) = inr z

cut_off : (words : List (List ℕ)) (command : Command) (status : ℕ) (old new : In) (ended : Bool) (before after : Out) (ran : Option Ran) → command_of words ≡ Some command
    → Answers command status old new ended before after ran → status ≡ 5 → is_some ran ≡ true → IsCutOff words old new ended before after ran
cut_off words command status old new ended before after ran w (Replied bytes wanted text r m says) e h = record {
  command = command;
  words_are = w;
  bytes = bytes;
  text = text;
  read = r;
  wanted = wanted;
  of_run = run_reply command bytes wanted text ran m h (status_made command bytes wanted text ran m);
  made = m;
  written = front wanted text status before after (no_reply command bytes wanted 5 text ran m (omega arith) (λ e. omega (arith, e))) says e;
}
cut_off words command status old new ended before after ran w (TooLong bytes reads r says none) e h = none_there ran none h
cut_off words command status old new ended before after ran w (ReadFault reads r says none) e h = none_there ran none h
cut_off words command status old new ended before after ran w (OutOfMemory left z keeps none) e h = none_there ran none h

run_there : (words : List (List ℕ)) (old new : In) (ended : Bool) (before after : Out) (ran : Option Ran) → IsReplied words 0 old new ended before after ran → is_some ran ≡ makes_run (command_of words)
run_there words old new ended before after ran replied = rw replied.words_are (run_made replied.command replied.bytes replied.text ran replied.made)

lost_there : (words : List (List ℕ)) (old new : In) (ended : Bool) (before after : Out) (ran : Option Ran) → IsReplied words 7 old new ended before after ran → is_some ran ≡ true
lost_there words old new ended before after ran replied = lost_made replied.command replied.bytes replied.text ran replied.made

-- ---- where nothing fails

-- what is left of known bytes is no longer than they are
shorter : (bytes taken : List ℕ) (a b : Option (List ℕ)) → a ≡ Some bytes → Consumes a b taken → length taken ≤ length bytes
shorter bytes taken a b e c = by_rest b (rw e at c)
  where
    by_rest : (b : Option (List ℕ)) → Consumes (Some bytes) b taken → length taken ≤ length bytes
    by_rest None c = absurd c
    by_rest (Some y) c = omega (arith, ap length c, length-append taken y)

all_same : (bytes taken : List ℕ) (a : Option (List ℕ)) → a ≡ Some bytes → IsAll a taken → bytes ≡ taken
all_same bytes taken a e h = rw e at h

complete : (command : Command) (status : ℕ) (old new : In) (ended : Bool) (before after : Out) (ran : Option Ran) → Answers command status old new ended before after ran
    → (Rose old.faults new.faults → ⊥) → (Rose before.faults after.faults → ⊥) → (bytes : List ℕ) → Offers command old bytes → Completes command bytes status before after ran ⊎ (status ≡ 6)
complete command status old new ended before after ran (Replied taken wanted text r m says) in_ok out_ok bytes offers =
    elim (told wanted text status before after says) [
      | inl s ↦ inl (record { text = text; made = subst (λ k. Makes command bytes k text ran) (sym s.0) (same (reads_input (Some command)) refl); written = s.1 })
      | inr f ↦ absurd (out_ok f.1)
    ]
  where
    same : (reads : Bool) → reads_input (Some command) ≡ reads → Makes command bytes wanted text ran
    same true reads = subst (λ b. Makes command b wanted text ran) (sym (all_same bytes taken old.left (offers reads).0 (takes_all command old new ended taken r reads).all)) m
    same false unread = unread_same command taken bytes wanted text ran unread m
complete command status old new ended before after ran (TooLong taken reads r says none) in_ok out_ok bytes offers =
    absurd (omega (arith, shorter bytes taken old.left new.left (offers reads).0 r.taken, r.above, (offers reads).1))
complete command status old new ended before after ran (ReadFault reads r says none) in_ok out_ok bytes offers = absurd (in_ok r)
complete command status old new ended before after ran (OutOfMemory left z keeps none) in_ok out_ok bytes offers = inr z

-- ---- what reads no input

answers_left : (command : Command) (status : ℕ) (old new : In) (ended : Bool) (before after : Out) (ran : Option Ran) → Answers command status old new ended before after ran → LeavesInput (Some command) old new
answers_left command status old new ended before after ran (Replied bytes wanted text r m says) e = takes_left command old new ended bytes r e
answers_left command status old new ended before after ran (TooLong bytes reads r says none) e = cc
answers_left command status old new ended before after ran (ReadFault reads r says none) e = cc
answers_left command status old new ended before after ran (OutOfMemory left z keeps none) e = left e

-- ---- by the words

-- what is answered to words that are no command
not_usage : {X : Type 0} (status k : ℕ) (before after : Out) → (1 ≡ k → ⊥) → (5 ≡ k → ⊥) → (6 ≡ k → ⊥) → SaysUsage status before after → status ≡ k → X
not_usage status k before after n1 n5 n6 (inl says) e = not_said 1 usage_line status k before after n1 n5 says e
not_usage status k before after n1 n5 n6 (inr h) e = absurd (n6 (sym h.0 ∙ e))

status_5_usage : (status : ℕ) (before after : Out) → SaysUsage status before after → status ≡ 5 → Rose before.faults after.faults
status_5_usage status before after (inl says) e = status_5_said 1 usage_line status before after (λ e. omega arith) says e
status_5_usage status before after (inr h) e = absurd (omega (arith, h.0))

is_status_usage : (status : ℕ) (before after : Out) → SaysUsage status before after → IsStatus status
is_status_usage status before after (inl says) = is_status_said 1 usage_line status before after (grind arith) says
is_status_usage status before after (inr h) = subst IsStatus (sym h.0) (grind arith)

-- all of it follows from what is answered by cases
answered : (words : List (List ℕ)) (status : ℕ) (old new : In) (ended : Bool) (before after : Out) (ran : Option Ran)
    → (command_of words ≡ None → SaysUsage status before after) → (command_of words ≡ None → ran ≡ None)
    → LeavesInput (command_of words) old new
    → ((command : Command) → command_of words ≡ Some command → Answers command status old new ended before after ran) → Answered words status old new ended before after ran
answered words status old new ended before after ran usage unran left command = record {
  usage = usage;
  left = left;
  command = command;
  status_0 = λ e. by_words (λ n. no_usage_at 0 (λ e. omega arith) (λ e. omega arith) (λ e. omega arith) n e) (λ c w. at_reply e c w);
  status_1 = λ e. by_words (λ n. inl n) (λ c w. inr (at_reply_1 e c w));
  status_2 = λ e. by_words (λ n. no_usage_at 2 (λ e. omega arith) (λ e. omega arith) (λ e. omega arith) n e) (λ c w. at_reply_2 e c w);
  status_3 = λ e. by_words (λ n. no_usage_at 3 (λ e. omega arith) (λ e. omega arith) (λ e. omega arith) n e) (λ c w. at_reply_3 e c w);
  status_4 = λ e. by_words (λ n. no_usage_at 4 (λ e. omega arith) (λ e. omega arith) (λ e. omega arith) n e) (λ c w. status_4 c status old new ended before after ran (command c w) e);
  status_5 = λ e. by_words (λ n. status_5_usage status before after (usage n) e) (λ c w. status_5 c status old new ended before after ran (command c w) e);
  status_7 = λ e. by_words (λ n. no_usage_at 7 (λ e. omega arith) (λ e. omega arith) (λ e. omega arith) n e) (λ c w. at_reply_7 e c w);
  status_8 = λ e. by_words (λ n. no_usage_at 8 (λ e. omega arith) (λ e. omega arith) (λ e. omega arith) n e) (λ c w. status_8 c status old new ended before after ran (command c w) e);
  no_other = by_words (λ n. is_status_usage status before after (usage n)) (λ c w. is_status c status old new ended before after ran (command c w));
  complete = λ c w i o bytes offers. complete c status old new ended before after ran (command c w) i o bytes offers;
  ran_0 = λ e. run_at status e (λ f. by_words (λ n. no_usage_at 0 (λ e. omega arith) (λ e. omega arith) (λ e. omega arith) n f) (λ c w. at_reply f c w));
  ran_7 = λ e. lost_at status e (λ f. by_words (λ n. no_usage_at 7 (λ e. omega arith) (λ e. omega arith) (λ e. omega arith) n f) (λ c w. at_reply_7 f c w));
  ran_5 = λ e h. by_words (λ n. none_there ran (unran n) h) (λ c w. cut_off words c status old new ended before after ran w (command c w) e h);
  no_run = λ n0 n5 n7. by_words (λ n. unran n) (λ c w. no_run c status old new ended before after ran (command c w) n0 n5 n7);
}
  where
    by_option : {X : Type 0} (found : Option Command) → found ≡ command_of words → (command_of words ≡ None → X) → ((c : Command) → command_of words ≡ Some c → X) → X
    by_option None e f g = f (sym e)
    by_option (Some c) e f g = g c (sym e)

    by_words : {X : Type 0} → (command_of words ≡ None → X) → ((c : Command) → command_of words ≡ Some c → X) → X
    by_words f g = by_option (command_of words) refl f g

    no_usage_at : {X : Type 0} (k : ℕ) → (1 ≡ k → ⊥) → (5 ≡ k → ⊥) → (6 ≡ k → ⊥) → command_of words ≡ None → status ≡ k → X
    no_usage_at k n1 n5 n6 n e = not_usage status k before after n1 n5 n6 (usage n) e

    at_reply : status ≡ 0 → (c : Command) → command_of words ≡ Some c → IsReplied words status old new ended before after ran
    at_reply e c w = replied words c status old new ended before after ran w (λ f. omega arith) (λ f. omega arith) (λ f. omega arith) (λ f. omega arith) (command c w)

    at_reply_1 : status ≡ 1 → (c : Command) → command_of words ≡ Some c → IsReplied words status old new ended before after ran
    at_reply_1 e c w = replied words c status old new ended before after ran w (λ f. omega arith) (λ f. omega arith) (λ f. omega arith) (λ f. omega arith) (command c w)

    at_reply_2 : status ≡ 2 → (c : Command) → command_of words ≡ Some c → IsReplied words status old new ended before after ran
    at_reply_2 e c w = replied words c status old new ended before after ran w (λ f. omega arith) (λ f. omega arith) (λ f. omega arith) (λ f. omega arith) (command c w)

    at_reply_3 : status ≡ 3 → (c : Command) → command_of words ≡ Some c → IsReplied words status old new ended before after ran
    at_reply_3 e c w = replied words c status old new ended before after ran w (λ f. omega arith) (λ f. omega arith) (λ f. omega arith) (λ f. omega arith) (command c w)

    at_reply_7 : status ≡ 7 → (c : Command) → command_of words ≡ Some c → IsReplied words status old new ended before after ran
    at_reply_7 e c w = replied words c status old new ended before after ran w (λ f. omega arith) (λ f. omega arith) (λ f. omega arith) (λ f. omega arith) (command c w)

    lost_at : (k : ℕ) → k ≡ 7 → (k ≡ 7 → IsReplied words k old new ended before after ran) → is_some ran ≡ true
    lost_at k e at = lost_there words old new ended before after ran (subst (λ k. IsReplied words k old new ended before after ran) e (at e))

    run_at : (k : ℕ) → k ≡ 0 → (k ≡ 0 → IsReplied words k old new ended before after ran) → is_some ran ≡ makes_run (command_of words)
    run_at k e at = run_there words old new ended before after ran (subst (λ k. IsReplied words k old new ended before after ran) e (at e))

-- and from what is answered to the command that the words are, or to no command
pub answered_found : (words : List (List ℕ)) (found : Option Command) (status : ℕ) (old new : In) (ended : Bool) (before after : Out) (ran : Option Ran) → found ≡ command_of words
    → AnswersFound found status old new ended before after ran → Answered words status old new ended before after ran
answered_found words None status old new ended before after ran is found =
    answered words status old new ended before after ran (λ none. inl found.0) (λ none. found.1) (λ unread. found.2) (λ other w. cc)
answered_found words (Some command) status old new ended before after ran is answers =
    answered words status old new ended before after ran (λ none. cc) (λ none. cc)
    (λ unread. answers_left command status old new ended before after ran answers (ap reads_input is ∙ unread))
    (λ other w. let same : command ≡ other = cc in subst (λ (c : Command). Answers c status old new ended before after ran) same answers)

-- two names for one command
pub answers_same : (command other : Command) (status : ℕ) (old new : In) (ended : Bool) (before after : Out) (ran : Option Ran) → command ≡ other
    → Answers command status old new ended before after ran → Answers other status old new ended before after ran
answers_same command other status old new ended before after ran same answers = subst (λ (c : Command). Answers c status old new ended before after ran) same answers
